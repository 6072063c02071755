-- What is put and what is left to put make the whole.
use Rattle.std.proofs.Common.{◌≡◌, ◌++◌, drop}
use Rattle.ded_svg.specs.Markup.{markup_text}
use Rattle.ded_svg.specs.Pictures.{strokes_markup}
use Rattle.ded_svg.proofs.mark.put_strokes.Given as goal

abbrev pub invariant-loop-stroke : goal.invariant-loop-stroke
invariant-loop-stroke l = l.text ++ markup_text (strokes_markup (drop l.stroke-index l.strokes)) ≡ l.fn.text ++ markup_text (strokes_markup l.strokes)
