use Rattle.std.proofs.Common.{◌≡◌, take, map}
use Rattle.ded_model.specs.Goal.{goal_form}
use Rattle.ded_model.proofs.goal.+copy.Given as goal

abbrev pub invariant-copy_goals-loop-part : goal.invariant-copy_goals-loop-part
invariant-copy_goals-loop-part l = map goal_form l.copies.items ≡ map goal_form (take l.part-index l.part-items)
