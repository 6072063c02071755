use Rattle.std.proofs.Common.{rules, SFits}
use Rattle.std.specs.Prelude.{pos, ◌<ℤ◌}
use Rattle.std.specs.Int.{w128}
use Rattle.std.proofs.lemmas.Int.{to_z-of_z}
use Rattle.ded_ranges.proofs.Around.{high_around, low_around}
use Rattle.ded_ranges.proofs.Terms.{high_at, low_at}
use Rattle.ded_ranges.proofs.term.at_most.Goals as goal

pub returns-then-a-gt0-clause-values : goal.returns-then-a-gt0-clause-values
returns-then-a-gt0-clause-values c =
    let a : SFits w128 c.args.a = c.ranges.a in
    let k : SFits w128 c.args.constant = c.ranges.constant in
    let above : pos 0 <ℤ c.args.a = search rules in
    high_at c.none.result c.at_least.result c.high_units.result c.args.a c.args.constant c.none.ensures c.at_least.ensures above (simp to_z-of_z at c.high_units.ensures.above)

pub returns-then-a-lt0-clause-values : goal.returns-then-a-lt0-clause-values
returns-then-a-lt0-clause-values c =
    let a : SFits w128 c.args.a = c.ranges.a in
    let k : SFits w128 c.args.constant = c.ranges.constant in
    let below : c.args.a <ℤ pos 0 = search rules in
    low_at c.none-then-a-lt0.result c.at_most.result c.low_units.result c.args.a c.args.constant c.none-then-a-lt0.ensures c.at_most.ensures below (simp to_z-of_z at c.low_units.ensures.below)

pub returns-then-a-gt0-clause-around : goal.returns-then-a-gt0-clause-around
returns-then-a-gt0-clause-around c =
    let a : SFits w128 c.args.a = c.ranges.a in
    let k : SFits w128 c.args.constant = c.ranges.constant in
    let above : pos 0 <ℤ c.args.a = search rules in
    high_around c.none.result c.at_least.result c.high_units.result c.args.a c.args.constant c.none.ensures c.at_least.ensures above (simp to_z-of_z at c.high_units.ensures.above) (simp to_z-of_z at c.high_units.ensures.short)

pub returns-then-a-lt0-clause-around : goal.returns-then-a-lt0-clause-around
returns-then-a-lt0-clause-around c =
    let a : SFits w128 c.args.a = c.ranges.a in
    let k : SFits w128 c.args.constant = c.ranges.constant in
    let below : c.args.a <ℤ pos 0 = search rules in
    low_around c.none-then-a-lt0.result c.at_most.result c.low_units.result c.args.a c.args.constant c.none-then-a-lt0.ensures c.at_most.ensures below (simp to_z-of_z at c.low_units.ensures.below) (simp to_z-of_z at c.low_units.ensures.short)
