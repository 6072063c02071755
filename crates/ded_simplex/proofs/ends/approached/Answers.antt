use Rattle.std.proofs.Common.{◌≡◌, true, rules}
use Rattle.std.specs.Prelude.{pos}
use Rattle.ded_box.specs.Intervals.{end_of}
use Rattle.ded_weighing.specs.Meeting.{number_from, leans}
use Rattle.ded_simplex.specs.Ends.{IsValue}
use Rattle.ded_simplex.proofs.Beyond.{excluded}
use Rattle.ded_simplex.proofs.ends.approached.Goals as goal

pub returns-then-branch : goal.returns-then-branch
returns-then-branch c =
    let leant : leans c.args.corner.now.values.items c.args.corner.now.denominator c.args.rows.now ≡ true = search rules in
    let value : IsValue (number_from (pos 0) c.args.corner.now.values.items c.args.aim.slot) c.args.corner.now.denominator c.in-Some.value = search rules in
    excluded c.args.rows.now c.args.inside.now.values.items c.args.inside.now.denominator c.args.corner.now.values.items c.args.corner.now.denominator c.args.aim.slot (end_of c.args.aim.side) c.in-Some.value
    c.requires.inside leant value (c.in_ok-are_none.ensures c.if-branch.true)
