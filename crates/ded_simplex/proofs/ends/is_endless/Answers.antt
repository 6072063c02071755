use Rattle.std.proofs.Common.{◌≡◌, true, rules}
use Rattle.std.specs.Prelude.{pos}
use Rattle.ded_box.specs.Intervals.{end_of}
use Rattle.ded_weighing.specs.Meeting.{number_from, leans}
use Rattle.ded_simplex.specs.Ends.{goes}
use Rattle.ded_simplex.proofs.Beyond.{unbounded}
use Rattle.ded_simplex.proofs.ends.is_endless.Goals as goal

pub returns : goal.returns
returns c = λ e.
    let gone : goes (end_of c.args.aim.side) (number_from (pos 0) c.args.direction.now.values.items c.args.aim.slot) ≡ true = search rules in
    let leant : leans c.args.direction.now.values.items (pos 0) c.args.rows.now ≡ true = search rules in
    unbounded c.args.rows.now c.args.inside.now.values.items c.args.inside.now.denominator c.args.direction.now.values.items c.args.aim.slot (end_of c.args.aim.side) c.requires.inside leant gone
