use Rattle.ded_atoms.proofs.Slotless.{closed_by_length}
use Rattle.ded_atoms.proofs.closed.holds.Goals as goal

pub returns : goal.returns
returns c = closed_by_length c.args.tuple.now c.tuple.inside.atoms.items c.tuple.inside.atoms.len c.is_empty.result c.tuple.view_is c.tuple.inside.atoms.ok.0 c.is_empty.ensures c.tuple.invariant c.requires
