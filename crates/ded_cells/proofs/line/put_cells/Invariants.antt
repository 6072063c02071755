-- What is put and what is left to put make the whole.
use Rattle.std.proofs.Common.{◌≡◌, ◌++◌, drop}
use Rattle.ded_cells.specs.Lines.{cells_text}
use Rattle.ded_cells.proofs.line.put_cells.Given as goal

abbrev pub invariant-loop-column : goal.invariant-loop-column
invariant-loop-column l =
    l.text ++ cells_text l.heading l.atoms l.extent l.number l.lead (drop l.column-index l.heading)
    ≡ l.fn.text ++ cells_text l.heading l.atoms l.extent 0 l.fn.lead l.heading
