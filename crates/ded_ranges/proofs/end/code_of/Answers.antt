use Rattle.std.proofs.Common.{rules, SFits}
use Rattle.std.specs.Prelude.{neg_ℤ, ◌+ℤ◌, ◌-ℤ◌, ◌<ℤ◌, ◌≤ℤ◌}
use Rattle.std.specs.Int.{w128}
use Rattle.std.proofs.lemmas.Int.{to_z-of_z}
use Rattle.ded_ranges.specs.Codes.{edge, shift}
use Rattle.ded_ranges.specs.Coding.{code_low, code_high, code_own}
use Rattle.ded_ranges.proofs.end.code_of.Goals as goal

pub returns-then-units : goal.returns-then-units
returns-then-units c =
    let units : SFits w128 c.args.units = c.ranges.units in
    let quotient : SFits w128 c.div_euclid.result = search rules in
    let code : SFits w128 (c.div_euclid.result -ℤ shift) = search rules in
    let low : c.args.units <ℤ neg_ℤ edge = search rules in
    rw (to_z-of_z w128 c.div_euclid.result quotient, to_z-of_z w128 (c.div_euclid.result -ℤ shift) code)
    (code_low c.args.units c.div_euclid.result (simp to_z-of_z at c.div_euclid.ensures) low)

pub returns-then-units-gt-EDGE : goal.returns-then-units-gt-EDGE
returns-then-units-gt-EDGE c =
    let units : SFits w128 c.args.units = c.ranges.units in
    let quotient : SFits w128 c.div_euclid-then-units-gt-EDGE.result = search rules in
    let code : SFits w128 (c.div_euclid-then-units-gt-EDGE.result +ℤ shift) = search rules in
    let low : neg_ℤ edge ≤ℤ c.args.units = search rules in
    let high : edge <ℤ c.args.units = search rules in
    rw (to_z-of_z w128 c.div_euclid-then-units-gt-EDGE.result quotient, to_z-of_z w128 (c.div_euclid-then-units-gt-EDGE.result +ℤ shift) code)
    (code_high c.args.units c.div_euclid-then-units-gt-EDGE.result (simp to_z-of_z at c.div_euclid-then-units-gt-EDGE.ensures) low high)

pub returns-else-units-gt-EDGE : goal.returns-else-units-gt-EDGE
returns-else-units-gt-EDGE c =
    let units : SFits w128 c.args.units = c.ranges.units in
    let low : neg_ℤ edge ≤ℤ c.args.units = search rules in
    let high : c.args.units ≤ℤ edge = search rules in
    rw (to_z-of_z w128 c.args.units units) (code_own c.args.units low high)
