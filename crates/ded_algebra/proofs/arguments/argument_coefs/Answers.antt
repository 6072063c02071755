use Rattle.std.proofs.Common.{◌≤◌, sym, ap, subst, ◌∙◌}
use Rattle.std.specs.Prelude.{pos, negsuc, []}
use Rattle.ded_num.proofs.Signs.{short_in_code}
use Rattle.ded_model.specs.Sum.{SlotSum, denominator}
use Rattle.ded_model.specs.Coefs.{put, put_all}
use Rattle.ded_model.specs.Scanned.{above_coefs}
use Rattle.ded_row.proofs.Pieces.{whole_minus}
use Rattle.ded_algebra.proofs.ArgumentRows.{made_below, made_is}
use Rattle.ded_algebra.proofs.arguments.argument_coefs.Goals as goal

pub divide-requires-clause-whole : goal.divide-requires-clause-whole
divide-requires-clause-whole c = whole_minus c.in_ok-coefs.coefs

pub push-requires-clause-last : goal.push-requires-clause-last
push-requires-clause-last c =
    made_below c.args.slot.number c.sum.inside.coefs c.in_ok-coefs.coefs c.divide.new.self
    (subst (λ (t : SlotSum). above_coefs t.coefs ≤ c.args.slot.number) (sym c.sum.view_is) c.requires.above) c.in_ok-coefs.ensures c.divide.ensures

pub returns : goal.returns
returns c =
    made_is c.args.slot _ c.sum.inside.over c.sum.inside.coefs c.in_ok-coefs.coefs c.divide.new.self c.push.new.self c.list.ensures.coefs
    (subst (λ (t : SlotSum). above_coefs t.coefs ≤ c.args.slot.number) (sym c.sum.view_is) c.requires.above) c.sum.invariant.positive (short_in_code c.sum.inside.over c.sum.invariant.over) c.in_ok-coefs.ensures c.divide.ensures c.in_ok-push.ensures.ok
    ∙ ap (λ (t : SlotSum). put c.args.slot (pos (denominator t.over)) (put_all (negsuc 0) t.coefs [])) c.sum.view_is
