use Rattle.std.proofs.Common.{◌≡◌}
use Rattle.ded_catalog.proofs.CopiedEntries.{AreUnderCopy}
use Rattle.ded_catalog.proofs.entries.copy_into.Given as goal

abbrev pub invariant-loop-name : goal.invariant-loop-name
invariant-loop-name l = AreUnderCopy l.linked.entries l.name-iterator l.copies.entries × (l.copies.hashing ≡ l.initial.copies.hashing)
