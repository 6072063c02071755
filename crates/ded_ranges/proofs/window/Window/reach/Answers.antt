use Rattle.std.proofs.Common.{◌≡◌, true, List, sym, subst}
use Rattle.std.specs.List.{list_all}
use Rattle.std.proofs.lemmas.Result.{IfOk-weaker}
use Rattle.ded_model.proofs.Points.{and_left}
use Rattle.ded_ranges.specs.declared.limit.Limit.{Limit}
use Rattle.ded_ranges.specs.Limits.{are_met}
use Rattle.ded_ranges.specs.Windows.{column_value, is_text_met}
use Rattle.ded_ranges.proofs.window.Window.reach.Goals as goal

pub returns : goal.returns
returns c =
    IfOk-weaker c.box_of.result _ _ (λ r lies p is h.
    lies (column_value p) p.den
    (subst (λ (ls : List Limit). are_met (column_value p) p.den ls ≡ true) (sym c.deref.ensures.value) (and_left (are_met (column_value p) p.den c.args.self.now.limits.items) (list_all (is_text_met p) c.args.self.now.texts.items) h)))
    c.box_of.ensures.lies
