use Rattle.std.proofs.Common.{sym, subst, SFits}
use Rattle.std.specs.Int.{w128}
use Rattle.std.proofs.lemmas.Int.{to_z-of_z}
use Rattle.ded_ranges.specs.declared.reach.Range.{Range}
use Rattle.ded_model.specs.declared.row.RowOp.{RowOp}
use Rattle.ded_model.specs.declared.row.RowOp.TheVariants.{Zero}
use Rattle.ded_ranges.specs.Boxes.{IsRangeAround}
use Rattle.ded_ranges.specs.Tuples.{IsRangeOf}
use Rattle.ded_ranges.proofs.Around.{zero_around, at_most_around, below_around}
use Rattle.ded_ranges.proofs.Terms.{zero_range, at_most_range, below_range}
use Rattle.ded_ranges.proofs.term.range_of.Goals as goal

pub returns-in-Zero-clause-values : goal.returns-in-Zero-clause-values
returns-in-Zero-clause-values c =
    let a : SFits w128 c.args.a = c.ranges.a in
    let k : SFits w128 c.args.constant = c.ranges.constant in
    subst (λ (op : RowOp). IsRangeOf c.met.result c.args.a c.args.constant op) (sym c.in-Zero.is)
    (subst (λ (r : Range). IsRangeOf r c.args.a c.args.constant Zero) (sym c.met.ensures) (zero_range c.at_most.result c.at_least.result c.args.a c.args.constant (simp to_z-of_z at c.at_most.ensures.values) (simp to_z-of_z at c.at_least.ensures.values)))

pub returns-in-AtMost-clause-values : goal.returns-in-AtMost-clause-values
returns-in-AtMost-clause-values c =
    let a : SFits w128 c.args.a = c.ranges.a in
    let k : SFits w128 c.args.constant = c.ranges.constant in
    subst (λ (op : RowOp). IsRangeOf c.at_most-in-AtMost.result c.args.a c.args.constant op) (sym c.in-AtMost.is) (at_most_range c.at_most-in-AtMost.result c.args.a c.args.constant (simp to_z-of_z at c.at_most-in-AtMost.ensures.values))

pub returns-in-Below-clause-values : goal.returns-in-Below-clause-values
returns-in-Below-clause-values c =
    let a : SFits w128 c.args.a = c.ranges.a in
    let k : SFits w128 c.args.constant = c.ranges.constant in
    subst (λ (op : RowOp). IsRangeOf c.at_most-in-Below.result c.args.a c.args.constant op) (sym c.in-Below.is) (below_range c.at_most-in-Below.result c.args.a c.args.constant (simp to_z-of_z at c.at_most-in-Below.ensures.values))

pub returns-in-Zero-clause-around : goal.returns-in-Zero-clause-around
returns-in-Zero-clause-around c =
    let a : SFits w128 c.args.a = c.ranges.a in
    let k : SFits w128 c.args.constant = c.ranges.constant in
    subst (λ (op : RowOp). IsRangeAround c.met.result c.args.a c.args.constant op) (sym c.in-Zero.is)
    (subst (λ (r : Range). IsRangeAround r c.args.a c.args.constant Zero) (sym c.met.ensures) (zero_around c.at_most.result c.at_least.result c.args.a c.args.constant (simp to_z-of_z at c.at_most.ensures.around) (simp to_z-of_z at c.at_least.ensures.around)))

pub returns-in-AtMost-clause-around : goal.returns-in-AtMost-clause-around
returns-in-AtMost-clause-around c =
    let a : SFits w128 c.args.a = c.ranges.a in
    let k : SFits w128 c.args.constant = c.ranges.constant in
    subst (λ (op : RowOp). IsRangeAround c.at_most-in-AtMost.result c.args.a c.args.constant op) (sym c.in-AtMost.is) (at_most_around c.at_most-in-AtMost.result c.args.a c.args.constant (simp to_z-of_z at c.at_most-in-AtMost.ensures.around))

pub returns-in-Below-clause-around : goal.returns-in-Below-clause-around
returns-in-Below-clause-around c =
    let a : SFits w128 c.args.a = c.ranges.a in
    let k : SFits w128 c.args.constant = c.ranges.constant in
    subst (λ (op : RowOp). IsRangeAround c.at_most-in-Below.result c.args.a c.args.constant op) (sym c.in-Below.is) (below_around c.at_most-in-Below.result c.args.a c.args.constant (simp to_z-of_z at c.at_most-in-Below.ensures.around))
