-- The number, a blank, the tuple, and a line feed.
use Rattle.std.proofs.Common.{ap}
use Rattle.ded_print.specs.Numbers.{number_text}
use Rattle.ded_print.specs.Tuples.{tuple_text}
use Rattle.ded_print.proofs.Answers.{numbered}
use Rattle.ded_print.proofs.Gathering.{puts_both, puts_as}
use Rattle.ded_print.proofs.stored.put_stored_line.Goals as goal

pub returns : goal.returns
returns g c =
    let number = puts_as _ _ _ _ (ap number_text c.from.ensures) c.put_natural.ensures in
    let tuple = puts_as _ _ _ _ (ap (tuple_text (g.N.SlotNames.names c.args.names.now)) c.atoms_of.ensures) c.put_atoms.ensures in
    numbered _ _ _ _ (puts_both _ _ _ _ _ number (puts_both _ _ _ _ _ c.put.ensures (puts_both _ _ _ _ _ tuple c.put-2.ensures)))
