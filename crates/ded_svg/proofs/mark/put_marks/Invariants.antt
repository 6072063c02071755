-- What is put and what is left to put make the whole.
use Rattle.std.proofs.Common.{◌≡◌, ◌++◌, drop}
use Rattle.ded_svg.specs.Markup.{markup_text}
use Rattle.ded_svg.specs.Pictures.{marks_markup}
use Rattle.ded_svg.proofs.mark.put_marks.Given as goal

abbrev pub invariant-loop-mark : goal.invariant-loop-mark
invariant-loop-mark l = l.text ++ markup_text (marks_markup (drop l.mark-index l.marks)) ≡ l.fn.text ++ markup_text (marks_markup l.marks)
