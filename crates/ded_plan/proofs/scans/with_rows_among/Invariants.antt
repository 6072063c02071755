use Rattle.std.proofs.Common.{drop}
use Rattle.ded_plan.proofs.AtomsWithin.{WithRows}
use Rattle.ded_plan.proofs.scans.with_rows_among.Given as goal

abbrev pub invariant-loop-plan : goal.invariant-loop-plan
invariant-loop-plan l = WithRows l.tuple l.plan-items (drop l.plan-index l.plan-items) l.atoms.items
