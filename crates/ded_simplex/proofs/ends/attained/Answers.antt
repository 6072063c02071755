use Rattle.std.proofs.Common.{◌≡◌, true, rules}
use Rattle.std.specs.Prelude.{pos}
use Rattle.ded_box.specs.Intervals.{end_of}
use Rattle.ded_weighing.specs.Meeting.{number_from, meets}
use Rattle.ded_simplex.specs.Ends.{IsValue}
use Rattle.ded_simplex.proofs.Beyond.{included}
use Rattle.ded_simplex.proofs.ends.attained.Goals as goal

pub returns-then-branch : goal.returns-then-branch
returns-then-branch c =
    let met : meets c.args.point.now.values.items c.args.point.now.denominator c.args.rows.now ≡ true = search rules in
    let value : IsValue (number_from (pos 0) c.args.point.now.values.items c.args.aim.slot) c.args.point.now.denominator c.in-Some.value = search rules in
    included c.args.rows.now c.args.point.now.values.items c.args.point.now.denominator c.args.aim.slot (end_of c.args.aim.side) c.in-Some.value met value (c.in_ok-are_none.ensures c.if-branch.true)
