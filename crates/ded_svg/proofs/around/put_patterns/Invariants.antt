-- What is put and what is left to put make the whole.
use Rattle.std.proofs.Common.{◌≡◌, ◌++◌, drop}
use Rattle.ded_svg.specs.Markup.{markup_text}
use Rattle.ded_svg.specs.Pictures.{patterns_markup}
use Rattle.ded_svg.proofs.around.put_patterns.Given as goal

abbrev pub invariant-loop-entry : goal.invariant-loop-entry
invariant-loop-entry l = l.text ++ markup_text (patterns_markup (drop l.entry-index l.legend)) ≡ l.fn.text ++ markup_text (patterns_markup l.legend)
