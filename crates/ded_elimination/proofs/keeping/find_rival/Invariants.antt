use Rattle.ded_elimination.proofs.keeping.find_rival.Given as goal

abbrev pub invariant-loop-i : goal.invariant-loop-i
invariant-loop-i l = Unit {0}
