use Rattle.std.proofs.Common.{SFits}
use Rattle.std.specs.Int.{w128}
use Rattle.std.proofs.lemmas.Int.{to_z-of_z}
use Rattle.ded_ranges.specs.Boxes.{IsRangeAround}
use Rattle.ded_ranges.specs.Tuples.{IsRangeOf}
use Rattle.ded_ranges.proofs.Around.{stays_around}
use Rattle.ded_ranges.proofs.term.narrow_to_term.Goals as goal

pub returns-clause-lies : goal.returns-clause-lies
returns-clause-lies c =
    let a : SFits w128 c.args.a = c.ranges.a in
    let k : SFits w128 c.args.constant = c.ranges.constant in
    let range : IsRangeOf c.range_of.result c.args.a c.args.constant c.args.op = simp to_z-of_z at c.range_of.ensures.values in
    λ v d l h. c.narrow.ensures.lies v d l (range (v c.args.place) d h)

pub returns-clause-around : goal.returns-clause-around
returns-clause-around c =
    let a : SFits w128 c.args.a = c.ranges.a in
    let k : SFits w128 c.args.constant = c.ranges.constant in
    let range : IsRangeAround c.range_of.result c.args.a c.args.constant c.args.op = simp to_z-of_z at c.range_of.ensures.around in
    stays_around c.args.reach.now c.narrow.new.self c.args.place c.range_of.result c.args.a c.args.constant c.args.op c.narrow.ensures.value range
