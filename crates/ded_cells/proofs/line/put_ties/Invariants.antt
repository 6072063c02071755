-- What is put and what is left to put make the whole.
use Rattle.std.proofs.Common.{◌≡◌, ◌++◌, drop}
use Rattle.ded_cells.specs.Lines.{ties_text}
use Rattle.ded_cells.proofs.line.put_ties.Given as goal

abbrev pub invariant-loop-atom : goal.invariant-loop-atom
invariant-loop-atom l = l.text ++ ties_text l.heading l.extent (drop l.atom-index l.atoms) ≡ l.fn.text ++ ties_text l.heading l.extent l.atoms
