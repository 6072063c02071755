use Rattle.std.proofs.Common.{◌≡◌, drop, map}
use Rattle.ded_model.specs.Form.{forms}
use Rattle.ded_model.specs.Goal.{goal_form}
use Rattle.ded_resolve.proofs.Reading.{Gathering}
use Rattle.ded_resolve.proofs.slotted.+read.Given as goal

abbrev pub invariant-read_all-loop-part : goal.invariant-read_all-loop-part
invariant-read_all-loop-part l = record {
  scope : l.scope ≡ l.initial.scope;
  done : Gathering l.scope l.initial.next (forms l.part-items) l.next (forms (drop l.part-index l.part-items)) (map goal_form l.goals.items);
}
