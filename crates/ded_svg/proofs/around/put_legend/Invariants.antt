-- What is put and what is left to put make the whole.
use Rattle.std.proofs.Common.{◌≡◌, ◌++◌, drop}
use Rattle.ded_svg.specs.Markup.{markup_text}
use Rattle.ded_svg.specs.Pictures.{legend_markup}
use Rattle.ded_svg.proofs.around.put_legend.Given as goal

abbrev pub invariant-loop-number : goal.invariant-loop-number
invariant-loop-number l = l.text ++ markup_text (legend_markup l.height l.number (drop l.number l.legend)) ≡ l.fn.text ++ markup_text (legend_markup l.height 0 l.legend)
