-- What is put and what is left to put make the whole.
use Rattle.std.proofs.Common.{◌≡◌, ◌++◌, drop}
use Rattle.ded_svg.specs.Markup.{markup_text}
use Rattle.ded_svg.specs.Pictures.{lower_ticks_markup}
use Rattle.ded_svg.proofs.around.put_lower_ticks.Given as goal

abbrev pub invariant-loop-tick : goal.invariant-loop-tick
invariant-loop-tick l = l.text ++ markup_text (lower_ticks_markup l.height (drop l.tick-index l.ticks)) ≡ l.fn.text ++ markup_text (lower_ticks_markup l.height l.ticks)
