use Rattle.std.proofs.Common.{◌≡◌, ◌++◌, drop}
use Rattle.ded_strokes.specs.Stretches.{lines_from}
use Rattle.ded_strokes.proofs.lines.add_lines_from.Given as goal

abbrev pub invariant-loop-next : goal.invariant-loop-next
invariant-loop-next l = l.lines.items ++ lines_from l.line (drop l.next-index l.behind) ≡ l.fn.lines.items ++ lines_from l.fn.first l.behind
