use Rattle.std.proofs.Common.{take}
use Rattle.ded_shared.proofs.NewNames.{AreAdded}
use Rattle.ded_shared.proofs.names.add_new.Given as goal

abbrev pub invariant-loop-name : goal.invariant-loop-name
invariant-loop-name l = AreAdded l.fn.names.items (take l.name-index l.more) l.names.items
