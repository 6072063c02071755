use Rattle.ded_model.specs.Row.{tuple_holds}
use Rattle.ded_relation.specs.Ends.{Tightens}
use Rattle.ded_relation.proofs.ends.tighten_all.Given as goal

abbrev pub invariant-loop-place : goal.invariant-loop-place
invariant-loop-place l = Tightens (tuple_holds l.tuple) l.initial.reach l.reach
