use Rattle.ded_relation.proofs.Coded.{TakenUp}
use Rattle.ded_relation.proofs.texts.take_all.Given as goal

abbrev pub invariant-loop-i : goal.invariant-loop-i
invariant-loop-i l = TakenUp l.hashing l.columns (l.number, l.atoms) l.initial.set l.set l.i
