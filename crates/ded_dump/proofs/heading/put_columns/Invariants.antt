-- What is put and what is left to put make the whole.
use Rattle.std.proofs.Common.{◌≡◌, ◌++◌, [], drop}
use Rattle.ded_dump.specs.Headings.{columns_text}
use Rattle.ded_dump.proofs.heading.put_columns.Given as goal

abbrev pub invariant-loop-column : goal.invariant-loop-column
invariant-loop-column l = l.text ++ columns_text l.lead (drop l.column-index l.columns) ≡ l.fn.text ++ columns_text [] l.columns
