use Rattle.std.proofs.Common.{◌||◌, List, ◌∙◌, ap, sym}
use Rattle.std.specs.Prelude.{ℤ}
use Rattle.std.specs.List.{list_all}
use Rattle.ded_model.specs.declared.slot.Slot.{Slot}
use Rattle.ded_model.specs.Constraint.{row_coefs}
use Rattle.ded_model.specs.Point.{same_slot}
use Rattle.ded_polygon.proofs.Mentions.{mentions_by, by_mentions}
use Rattle.ded_polygon.proofs.reading.mentions_only.Goals as goal

pub returns : goal.returns
returns c =
    let x = c.args.x in
    let y = c.args.y in
    let e = c.are_of.ensures ∙ ap (λ (cs : List (Slot × ℤ)). list_all (λ d. same_slot d.0 x || same_slot d.0 y) cs) (c.list.ensures.value ∙ ap row_coefs c.row.view_is) in
    (λ h. mentions_by x y c.args.row.now (sym e ∙ h), λ m. e ∙ by_mentions x y c.args.row.now m)
