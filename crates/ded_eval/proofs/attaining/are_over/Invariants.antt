use Rattle.std.proofs.Common.{drop}
use Rattle.ded_eval.specs.Finding.{AreAlike}
use Rattle.ded_eval.proofs.attaining.are_over.Given as goal

-- all atoms hold alike where those that are left do
abbrev pub invariant-loop-atom : goal.invariant-loop-atom
invariant-loop-atom g l = AreAlike g.T.Theory.holds l.slots (drop l.atom-index l.atoms) → AreAlike g.T.Theory.holds l.slots l.atoms
