-- The braces, the first atom, and the later ones.
use Rattle.ded_print.proofs.Gathering.{puts_both}
use Rattle.ded_print.proofs.Terms.{tupled}
use Rattle.ded_print.proofs.tuple.put_atoms.Goals as goal

pub returns : goal.returns
returns g c =
    tupled _ _ (g.N.SlotNames.names c.args.names.now) c.args.atoms.now c.in-Some.first.now c.in-Some.later.now c.in-Some.ensures.cases.0
    (puts_both _ _ _ _ _ c.put-2.ensures (puts_both _ _ _ _ _ c.put_atom.ensures (puts_both _ _ _ _ _ c.put_later_atoms.ensures c.put-3.ensures)))
