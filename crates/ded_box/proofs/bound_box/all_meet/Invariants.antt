use Rattle.std.proofs.Common.{◌≡◌, drop}
use Rattle.ded_box.specs.Boxes.{boxes_meet}
use Rattle.ded_box.proofs.bound_box.all_meet.Given as goal

abbrev pub invariant-loop-i : goal.invariant-loop-i
invariant-loop-i l = boxes_meet (drop l.i l.a) (drop l.i l.b) ≡ boxes_meet l.a l.b
