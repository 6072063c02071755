use Rattle.ded_complement.proofs.carving.+carve.Given as goal

abbrev pub decreases-carve : goal.decreases-carve
decreases-carve g l = l.depth
