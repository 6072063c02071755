-- What is put and what is left to put make the whole.
use Rattle.std.proofs.Common.{◌≡◌, ◌++◌, drop}
use Rattle.ded_svg.specs.Markup.{markup_text}
use Rattle.ded_svg.specs.Pictures.{lines_markup}
use Rattle.ded_svg.proofs.svg.put_lines.Given as goal

abbrev pub invariant-loop-line : goal.invariant-loop-line
invariant-loop-line l = l.text ++ markup_text (lines_markup (drop l.line-index l.lines)) ≡ l.fn.text ++ markup_text (lines_markup l.lines)
