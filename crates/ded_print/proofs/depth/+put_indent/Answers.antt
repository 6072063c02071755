-- Two blanks, and those of the levels above.
use Rattle.std.proofs.Common.{◌≡◌, rules, ◌+◌, ap, sym, ◌∙◌}
use Rattle.ded_print.specs.declared.depth.Depth.TheFolds.{fold-roll-Depth, fold_out-Depth}
use Rattle.ded_print.specs.declared.depth.Depth.TheViews.{the_lemmas}
use Rattle.ded_print.specs.Depths.{levels}
use Rattle.ded_print.specs.Plans.{indent}
use Rattle.ded_print.proofs.Gathering.{puts_both, puts_none, puts_as}
use Rattle.ded_print.proofs.Plans.{indent_more}
use Rattle.ded_print.proofs.depth.+put_indent.Goals as goal

pub returns-in-Below : goal.returns-in-Below
returns-in-Below g t c =
    let e : levels c.args.depth.now ≡ levels c.in-Below.above.now + 1 = search (rules, the_lemmas, fold-roll-Depth, fold_out-Depth) in
    puts_as _ _ _ _ (indent_more (levels c.in-Below.above.now) ∙ ap indent (sym e)) (puts_both _ _ _ _ _ c.put.ensures c.put_indent.ensures)

pub returns-in_default : goal.returns-in_default
returns-in_default g t c =
    let e : levels c.args.depth.now ≡ 0 = search (rules, the_lemmas, fold-roll-Depth, fold_out-Depth) in
    puts_as _ _ _ _ (ap indent (sym e)) (puts_none _)
