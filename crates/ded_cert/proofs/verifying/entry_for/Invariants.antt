-- The first entry with the numbers is that of the rest.
use Rattle.std.proofs.Common.{◌≡◌, drop}
use Rattle.ded_cert.specs.Pairs.{entry_for}
use Rattle.ded_cert.proofs.verifying.entry_for.Given as goal

abbrev pub invariant-loop-entry : goal.invariant-loop-entry
invariant-loop-entry l = entry_for l.entries l.first l.second ≡ entry_for (drop l.entry-index l.entries) l.first l.second
