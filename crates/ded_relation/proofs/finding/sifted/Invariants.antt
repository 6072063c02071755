use Rattle.std.proofs.Common.{List, ◌+◌, ◌≤◌, ◌++◌, ℕ, length}
use Rattle.ded_model.specs.Row.{Atom}
use Rattle.ded_relation.specs.Nearby.{numbered, AreNear}
use Rattle.ded_relation.proofs.finding.sifted.Given as goal

abbrev pub invariant-loop-number : goal.invariant-loop-number
invariant-loop-number g l =
    ((rest : List (ℕ × List Atom)) → AreNear l.sieve rest l.number-iterator → AreNear l.sieve (numbered l.found.items ++ rest) l.tuples.entries)
    × (l.steps + length l.number-iterator ≤ l.initial.steps + length l.tuples.entries) × (l.initial.steps + length l.found.items ≤ l.steps)
