-- The four ends are in common units.
use Rattle.std.proofs.Common.{◌∙◌, ap, rules, SFits, ℕ, ◌^◌}
use Rattle.std.specs.Prelude.{pos}
use Rattle.std.specs.Int.{w128}
use Rattle.std.proofs.lemmas.Int.{to_z-of_z}
use Rattle.ded_axes.proofs.Units.{units_read, frame_is}
use Rattle.ded_axes.proofs.reading.window_from.Goals as goal

pub returns : goal.returns
returns c =
    let most = c.most_places-most.ensures.value in
    let left : SFits w128 c.in_units.result = search rules in
    let right : SFits w128 c.in_units-2.result = search rules in
    let bottom : SFits w128 c.in_units-3.result = search rules in
    let top : SFits w128 c.in_units-4.result = search rules in
    let den : SFits w128 c.power.result = search rules in
    frame_is c.new.result _ _ _ _ _ _ _ _ _ _
    (units_read c.in_units.result c.args.left.0 _ _ c.args.left.1 left c.requires.left.0 most c.in_units.ensures)
    (units_read c.in_units-2.result c.args.right.0 _ _ c.args.right.1 right c.requires.right.0 most c.in_units-2.ensures)
    (units_read c.in_units-3.result c.args.bottom.0 _ _ c.args.bottom.1 bottom c.requires.bottom.0 most c.in_units-3.ensures)
    (units_read c.in_units-4.result c.args.top.0 _ _ c.args.top.1 top c.requires.top.0 most c.in_units-4.ensures)
    (to_z-of_z w128 c.power.result den ∙ c.power.ensures.value ∙ ap (λ (k : ℕ). pos (10 ^ k)) most)
    c.new.ensures
