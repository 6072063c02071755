-- What is put and what is left to put make the whole.
use Rattle.std.proofs.Common.{◌≡◌, ◌++◌, [], drop}
use Rattle.ded_cells.specs.Lines.{conditions_text}
use Rattle.ded_cells.proofs.theme.put_conditions.Given as goal

abbrev pub invariant-loop-atom : goal.invariant-loop-atom
invariant-loop-atom l = l.text ++ conditions_text l.name l.number l.lead (drop l.atom-index l.atoms) ≡ l.fn.text ++ conditions_text l.name l.number [] l.atoms
