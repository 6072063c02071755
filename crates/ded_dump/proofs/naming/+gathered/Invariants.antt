-- What is put and what is left to put make the whole.
use Rattle.std.proofs.Common.{◌≡◌, ◌++◌, drop}
use Rattle.ded_model.specs.Form.{forms}
use Rattle.ded_dump.specs.Headings.{variables_of}
use Rattle.ded_dump.proofs.naming.+gathered.Given as goal

abbrev pub invariant-gather_all-loop-part : goal.invariant-gather_all-loop-part
invariant-gather_all-loop-part l = l.columns.items ++ variables_of (forms (drop l.part-index l.part-items)) ≡ l.initial.columns.items ++ variables_of (forms l.part-items)
