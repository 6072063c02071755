-- One entry more was put.
use Rattle.std.proofs.Common.{◌≡◌, ℕ, ◌++◌, subst}
use Rattle.ded_svg.specs.Markup.{markup_text}
use Rattle.ded_svg.specs.Pictures.{entry_markup, legend_markup}
use Rattle.ded_svg.proofs.Loops.{next_entry}
use Rattle.ded_svg.proofs.around.put_legend.Goals as goal

pub loop-number-preserved : goal.loop-number-preserved
loop-number-preserved c =
    next_entry c.args.height (c.args.text.now ++ markup_text (legend_markup c.args.height 0 c.args.legend.now)) c.loop-number.text c.put_entry.new.text c.args.legend.now c.loop-number.number c.index-legend-number.result
    c.loop-number-test.true c.index-legend-number.is c.loop-number.invariant
    (subst (λ (n : ℕ). c.put_entry.new.text ≡ c.loop-number.text ++ markup_text (entry_markup n c.index-legend-number.result)) c.entry_top.ensures c.in_ok-put_entry.ensures)
