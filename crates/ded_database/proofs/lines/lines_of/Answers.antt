use Rattle.std.proofs.Common.{ap, ◌∙◌}
use Rattle.std.proofs.lemmas.List.{take_all}
use Rattle.ded_model.specs.Lines.{atoms_lines}
use Rattle.ded_database.proofs.RowLines.{own_next}
use Rattle.ded_database.proofs.lines.lines_of.Goals as goal

pub loop-atom-init : goal.loop-atom-init
loop-atom-init c = c.new-lines.ensures.items

pub loop-atom-preserved : goal.loop-atom-preserved
loop-atom-preserved c =
    own_next c.loop-atom.lines.items c.add_own_line.new.lines.items c.args.atoms.now c.loop-atom.atom-index c.atom-item.result c.loop-atom-test.true c.atom-item.is c.in_ok-add_own_line.ensures c.loop-atom.invariant

pub returns : goal.returns
returns c = c.loop-atom.invariant ∙ ap atoms_lines (take_all c.loop-atom.atom-index c.args.atoms.now c.loop-atom-test.false)
