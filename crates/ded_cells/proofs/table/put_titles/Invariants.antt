-- What is put and what is left to put make the whole.
use Rattle.std.proofs.Common.{◌≡◌, ◌++◌, drop}
use Rattle.ded_cells.specs.Tables.{titles_text}
use Rattle.ded_cells.proofs.table.put_titles.Given as goal

abbrev pub invariant-loop-column : goal.invariant-loop-column
invariant-loop-column l = l.text ++ titles_text l.lead (drop l.column-index l.columns) ≡ l.fn.text ++ titles_text l.fn.lead l.columns
