use Rattle.std.proofs.Common.{rules, ◌≡◌, ◌∙◌, ◌<◌, ◌≤◌, length, get_or}
use Rattle.ded_ranges.proofs.Widened.{range_at-here, range_at-past}
use Rattle.ded_ranges.proofs.reach.range_at.Goals as goal

pub returns-then-place-ranges : goal.returns-then-place-ranges
returns-then-place-ranges c =
    let inside : c.args.place < length c.args.ranges.now = search rules in
    let is : c.index-ranges-place.result ≡ get_or c.args.ranges.now c.args.place c.index-ranges-place.result = search rules in
    is ∙ range_at-here c.args.ranges.now c.args.place c.index-ranges-place.result inside

pub returns-else-place-ranges : goal.returns-else-place-ranges
returns-else-place-ranges c =
    let past : length c.args.ranges.now ≤ c.args.place = search rules in
    c.everywhere.ensures ∙ range_at-past c.args.ranges.now c.args.place past
