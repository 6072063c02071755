use Rattle.std.proofs.Common.{rules, ◌≡◌, SFits}
use Rattle.std.specs.Prelude.{pos, neg_ℤ, ◌+ℤ◌, ◌-ℤ◌, ◌*ℤ◌, ◌<ℤ◌, ◌≤ℤ◌}
use Rattle.std.specs.Int.{w128}
use Rattle.std.proofs.lemmas.Int.{to_z-of_z}
use Rattle.ded_ranges.specs.Codes.{fine, edge, shift}
use Rattle.ded_ranges.specs.Coding.{units_low, units_high, units_own}
use Rattle.ded_ranges.proofs.end.units_of.Goals as goal

pub returns-then-code : goal.returns-then-code
returns-then-code c =
    let x = c.from-code.result in
    let is : x ≡ c.args.code = search rules in
    let own : SFits w128 x = search rules in
    let shifted : SFits w128 (x +ℤ shift) = search rules in
    let units : SFits w128 (pos fine *ℤ (x +ℤ shift)) = search rules in
    let low : x <ℤ neg_ℤ edge = search rules in
    rw (to_z-of_z w128 x own, to_z-of_z w128 (x +ℤ shift) shifted, to_z-of_z w128 (pos fine *ℤ (x +ℤ shift)) units) (units_low c.args.code x is low)

pub returns-then-code-gt-EDGE : goal.returns-then-code-gt-EDGE
returns-then-code-gt-EDGE c =
    let x = c.from-code.result in
    let is : x ≡ c.args.code = search rules in
    let own : SFits w128 x = search rules in
    let shifted : SFits w128 (x -ℤ shift) = search rules in
    let units : SFits w128 (pos fine *ℤ (x -ℤ shift)) = search rules in
    let low : neg_ℤ edge ≤ℤ x = search rules in
    let high : edge <ℤ x = search rules in
    rw (to_z-of_z w128 x own, to_z-of_z w128 (x -ℤ shift) shifted, to_z-of_z w128 (pos fine *ℤ (x -ℤ shift)) units) (units_high c.args.code x is low high)

pub returns-else-code-gt-EDGE : goal.returns-else-code-gt-EDGE
returns-else-code-gt-EDGE c =
    let x = c.from-code.result in
    let is : x ≡ c.args.code = search rules in
    let own : SFits w128 x = search rules in
    let low : neg_ℤ edge ≤ℤ x = search rules in
    let high : x ≤ℤ edge = search rules in
    rw (to_z-of_z w128 x own) (units_own c.args.code x is low high)
