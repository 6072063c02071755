-- The shapes of those that are left complete the list.
use Rattle.std.proofs.Common.{◌≡◌, ◌++◌, drop}
use Rattle.ded_picture.specs.Sheets.{marks_of}
use Rattle.ded_picture.proofs.marks.marks_of.Given as goal

abbrev pub invariant-loop-shown : goal.invariant-loop-shown
invariant-loop-shown l = l.marks.items ++ marks_of l.sheet (drop l.shown-index l.list) ≡ marks_of l.sheet l.list
