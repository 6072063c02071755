-- The bytes that are left are cut behind what is done.
use Rattle.std.proofs.Common.{◌≡◌, [], drop}
use Rattle.ded_drawing.specs.Descriptions.{lines_from}
use Rattle.ded_drawing.proofs.description.add_lines.Given as goal

abbrev pub invariant-loop-byte : goal.invariant-loop-byte
invariant-loop-byte l = lines_from l.lines.items l.line (drop l.byte-index l.text) ≡ lines_from l.fn.lines.items [] l.text
