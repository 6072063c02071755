use Rattle.std.proofs.Common.{rules, ◌∙◌, SFits}
use Rattle.std.specs.Prelude.{◌+ℤ◌}
use Rattle.std.specs.Int.{w128}
use Rattle.std.proofs.lemmas.Int.{to_z-of_z}
use Rattle.ded_ranges.proofs.Numbers.{sum_short, sum_long}
use Rattle.ded_ranges.proofs.number.sum.Goals as goal

pub returns-in-Some : goal.returns-in-Some
returns-in-Some c =
    let a : SFits w128 c.args.a = c.ranges.a in
    let b : SFits w128 c.args.b = c.ranges.b in
    let s : SFits w128 c.in-Some.sum = search rules in
    rw (to_z-of_z w128 c.in-Some.sum s) (sum_short (c.args.a +ℤ c.args.b) c.in-Some.sum c.short_sum.result (simp to_z-of_z at c.short_sum.ensures) c.in-Some.is)

pub returns-in-None : goal.returns-in-None
returns-in-None c =
    let a : SFits w128 c.args.a = c.ranges.a in
    let b : SFits w128 c.args.b = c.ranges.b in
    (simp to_z-of_z at c.beyond.ensures) ∙ sum_long c.args.a c.args.b c.short_sum.result a b (simp to_z-of_z at c.short_sum.ensures) c.in-None.is
