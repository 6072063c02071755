-- What is put and what is left to put make the whole.
use Rattle.std.proofs.Common.{◌≡◌, ◌++◌, drop}
use Rattle.ded_svg.specs.Markup.{markup_text}
use Rattle.ded_svg.specs.Pictures.{left_ticks_markup}
use Rattle.ded_svg.proofs.around.put_left_ticks.Given as goal

abbrev pub invariant-loop-tick : goal.invariant-loop-tick
invariant-loop-tick l = l.text ++ markup_text (left_ticks_markup (drop l.tick-index l.ticks)) ≡ l.fn.text ++ markup_text (left_ticks_markup l.ticks)
