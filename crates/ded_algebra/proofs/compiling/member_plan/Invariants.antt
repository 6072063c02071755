use Rattle.ded_algebra.proofs.Gathered.{IsGathering}
use Rattle.ded_algebra.proofs.compiling.member_plan.Given as goal

abbrev pub invariant-loop-place : goal.invariant-loop-place
invariant-loop-place l = IsGathering l.places l.place-index l.scanning
