use Rattle.std.proofs.Common.{SFits, rules, slice_index_or, ◌∙◌, ◌<◌, length, refl, ap, to_z}
use Rattle.std.specs.Prelude.{pos, ◌*ℤ◌, ◌+ℤ◌}
use Rattle.std.specs.Int.{w128}
use Rattle.std.proofs.lemmas.Int.{to_z-of_z}
use Rattle.ded_weighing.specs.Columns.{number_in}
use Rattle.ded_weighing.proofs.Walking.{summed_more}
use Rattle.ded_weighing.proofs.weighing.column_sum.Goals as goal

pub loop-i-preserved : goal.loop-i-preserved
loop-i-preserved c =
    let m : SFits w128 (slice_index_or c.args.multipliers.now c.loop-i.i (pos 0)) = search rules in
    let n : SFits w128 c.number_in.result = search rules in
    let z : SFits w128 c.in_ok-sum.sum = search rules in
    let inside : c.loop-i.i < length c.args.rows.now = search rules in
    let e = simp to_z-of_z at c.in_ok-sum.ensures in
    rw (to_z-of_z w128 c.in_ok-sum.sum) (summed_more (number_in c.args.column) c.args.multipliers.now c.args.rows.now (to_z w128 c.loop-i.sum-bits) c.loop-i.i (slice_index_or c.args.multipliers.now c.loop-i.i (pos 0))
    c.index-rows-i.result c.in_ok-sum.sum inside c.requires refl c.index-rows-i.is (e.1 ∙ ap (λ x. slice_index_or c.args.multipliers.now c.loop-i.i (pos 0) *ℤ x +ℤ to_z w128 c.loop-i.sum-bits) c.number_in.ensures)
    c.loop-i.invariant)
