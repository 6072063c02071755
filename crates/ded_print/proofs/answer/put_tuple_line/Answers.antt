-- The tuple, and a line feed.
use Rattle.std.proofs.Common.{ap}
use Rattle.ded_print.specs.Tuples.{tuple_text}
use Rattle.ded_print.proofs.Gathering.{puts_both, puts_as}
use Rattle.ded_print.proofs.answer.put_tuple_line.Goals as goal

pub returns : goal.returns
returns g c =
    puts_both _ _ _ _ _ (puts_as _ _ _ _ (ap (tuple_text (g.N.SlotNames.names c.args.names.now)) c.atoms_of.ensures) c.put_atoms.ensures) c.put.ensures
