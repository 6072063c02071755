use Rattle.std.proofs.Common.{rules, ◌<◌, length, ap, ◌∙◌}
use Rattle.ded_model.specs.declared.name.Column.{Column}
use Rattle.ded_relation.specs.Texts.{is_text}
use Rattle.ded_relation.proofs.Coded.{put_none, put_more, put_all}
use Rattle.ded_relation.proofs.texts.put_all.Goals as goal

pub loop-i-init : goal.loop-i-init
loop-i-init c = put_none c.args.hashing c.args.columns.now (c.args.number, c.args.atoms.now) c.args.set.now

pub loop-i-preserved : goal.loop-i-preserved
loop-i-preserved c =
    let inside : c.loop-i.i < length c.args.columns.now = search rules in
    put_more c.args.hashing c.args.columns.now (c.args.number, c.args.atoms.now) c.args.set.now c.loop-i.set c.put_at.new.set c.loop-i.i c.index-columns-i.result inside c.loop-i.invariant c.put_at.ensures.grows
    (λ is. c.in_ok-put_at.ensures.there (ap (λ (x : Column). is_text x.sort) c.index-columns-i.is ∙ is))

pub returns-in_err-put_at-clause-grows : goal.returns-in_err-put_at-clause-grows
returns-in_err-put_at-clause-grows c = λ q is. c.put_at.ensures.grows q (c.loop-i.invariant.grows q is)

pub returns-clause-grows : goal.returns-clause-grows
returns-clause-grows c = c.loop-i.invariant.grows

pub returns-clause-there : goal.returns-clause-there
returns-clause-there c = put_all c.args.hashing c.args.columns.now (c.args.number, c.args.atoms.now) c.args.set.now c.loop-i.set c.loop-i.i c.loop-i-test.false c.ranges.number.fits c.loop-i.invariant
