use Rattle.ded_relation.proofs.Coded.{PutUp}
use Rattle.ded_relation.proofs.texts.put_all.Given as goal

abbrev pub invariant-loop-i : goal.invariant-loop-i
invariant-loop-i l = PutUp l.hashing l.columns (l.number, l.atoms) l.initial.set l.set l.i
