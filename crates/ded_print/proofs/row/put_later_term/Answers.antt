-- The sign, and the term.
use Rattle.std.specs.Int.{w128}
use Rattle.std.proofs.lemmas.Int.{to_z-of_z}
use Rattle.ded_print.proofs.Terms.{later_term}
use Rattle.ded_print.proofs.row.put_later_term.Goals as goal

pub returns : goal.returns
returns g c =
    later_term _ _ _ (g.N.SlotNames.names c.args.names.now) c.args.slot _ c.args.a (to_z-of_z w128 c.args.a c.ranges.a) (rw c.sign_bytes.ensures at c.put.ensures) c.put_term.ensures
