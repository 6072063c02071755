use Rattle.std.proofs.Common.{◌≡◌, ◌++◌, drop}
use Rattle.ded_theory.specs.Both.{firsts}
use Rattle.ded_weighing.specs.Columns.{lent}
use Rattle.ded_cert.proofs.checking.add_rows.Given as goal

abbrev pub invariant-loop-atom : goal.invariant-loop-atom
invariant-loop-atom l = lent l.rows.items ++ firsts (drop l.atom-index l.atoms) ≡ lent l.initial.rows.items ++ firsts l.atoms
