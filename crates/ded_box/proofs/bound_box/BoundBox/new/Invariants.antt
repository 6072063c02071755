use Rattle.std.proofs.Common.{◌≡◌, take}
use Rattle.ded_box.specs.Boxes.{AreIntervals}
use Rattle.ded_box.proofs.bound_box.BoundBox.new.Given as goal

abbrev pub invariant-loop-span : goal.invariant-loop-span
invariant-loop-span l = record { items : l.list.items ≡ take l.span-index l.spans; intervals : AreIntervals l.list.items }
