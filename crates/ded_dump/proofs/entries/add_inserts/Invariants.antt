-- What is put and what is left to put make the whole.
use Rattle.std.proofs.Common.{◌≡◌, ◌++◌}
use Rattle.ded_dump.specs.Entries.{insert_lines}
use Rattle.ded_dump.proofs.entries.add_inserts.Given as goal

abbrev pub invariant-loop-packed : goal.invariant-loop-packed
invariant-loop-packed l = l.lines.items ++ insert_lines l.name l.heading l.packed-iterator ≡ l.fn.lines.items ++ insert_lines l.name l.heading l.tuples.entries
