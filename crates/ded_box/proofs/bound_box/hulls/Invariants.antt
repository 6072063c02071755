use Rattle.std.proofs.Common.{◌≡◌, take}
use Rattle.ded_box.specs.Boxes.{hulls}
use Rattle.ded_box.proofs.bound_box.hulls.Given as goal

abbrev pub invariant-loop-i : goal.invariant-loop-i
invariant-loop-i l = l.list.items ≡ hulls (take l.i l.first) l.second
