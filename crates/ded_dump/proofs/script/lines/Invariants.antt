-- The lines so far and those of the entries that are left are all.
use Rattle.std.proofs.Common.{◌≡◌, ◌++◌, drop}
use Rattle.ded_catalog.specs.State.{catalogue_of}
use Rattle.ded_dump.specs.Entries.{entries_lines, dump_lines}
use Rattle.ded_dump.proofs.script.lines.Given as goal

abbrev pub invariant-loop-name : goal.invariant-loop-name
invariant-loop-name l = l.lines.items ++ entries_lines (drop l.name-index (catalogue_of l.catalogue).entries) ≡ dump_lines (catalogue_of l.catalogue)
