use Rattle.std.proofs.Common.{◌≡◌, drop}
use Rattle.std.specs.List.{list_any}
use Rattle.ded_model.specs.LongRows.{is_long_over, differences_over}
use Rattle.ded_syntax.proofs.long.long_part.Given as goal

abbrev pub invariant-loop-part : goal.invariant-loop-part
invariant-loop-part l = list_any (is_long_over l.by) (differences_over l.over l.left l.right (drop l.part-index l.parts)) ≡ list_any (is_long_over l.by) (differences_over l.over l.left l.right l.parts)
