use Rattle.std.proofs.Common.{rules, ◌<◌, ◌≤◌, length, refl}
use Rattle.ded_ranges.proofs.Terms.{narrowed_in_place, narrowed_past}
use Rattle.ded_ranges.proofs.reach.narrow.Goals as goal

pub returns-then-place-ranges : goal.returns-then-place-ranges
returns-then-place-ranges c =
    let inside : c.args.place < length c.args.ranges.now = search rules in
    narrowed_in_place c.args.ranges.now c.args.ranges.now c.args.place c.args.range c.index-ranges-place.result c.met.result refl inside c.index-ranges-place.is c.met.ensures

pub returns-else-place-ranges : goal.returns-else-place-ranges
returns-else-place-ranges c =
    let past : length c.args.ranges.now ≤ c.args.place = search rules in
    narrowed_past c.args.ranges.now c.args.place c.args.range past
