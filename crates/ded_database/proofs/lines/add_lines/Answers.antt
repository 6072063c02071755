use Rattle.std.proofs.Common.{◌++◌, ◌∷◌, [], Vec, Global, sym, ap, ◌∙◌, append-nil}
use Rattle.std.proofs.lemmas.List.{take_all}
use Rattle.ded_model.specs.declared.row.Row.{Row}
use Rattle.ded_model.specs.Lines.{atoms_lines}
use Rattle.ded_model.specs.Renaming.{mapped_lines}
use Rattle.ded_database.proofs.RowLines.{apart_at, sorts_at, lines_next, lines_alone}
use Rattle.ded_database.proofs.lines.add_lines.Goals.{in-First+in_ok-add_line-in-First, in-Second}
use Rattle.ded_database.proofs.lines.add_lines.Goals as goal

pub loop-atom-init : goal.loop-atom-init
loop-atom-init c = sym (append-nil c.args.lines.now.items)

pub add_line-requires-clause-one : goal.add_line-requires-clause-one
add_line-requires-clause-one c = apart_at c.args.map.now c.args.atoms.now c.loop-atom.atom-index c.atom-item.result c.in-First.row c.loop-atom-test.true c.atom-item.is c.in-First.is c.requires.one

pub add_line-requires-clause-sorts : goal.add_line-requires-clause-sorts
add_line-requires-clause-sorts c = sorts_at c.args.map.now c.args.atoms.now c.loop-atom.atom-index c.atom-item.result c.in-First.row c.loop-atom-test.true c.atom-item.is c.in-First.is c.requires.sorts

pub loop-atom-preserved : goal.loop-atom-preserved
loop-atom-preserved c =
    elim c.match-atom.branch [
      | in-First+in_ok-add_line-in-First w ↦ lines_next c.args.map.now c.args.lines.now.items c.loop-atom.lines.items c.match-atom.lines.items c.args.atoms.now c.loop-atom.atom-index c.atom-item.result c.loop-atom-test.true c.atom-item.is
          (ap (λ (v : Vec Row Global). v.items) w.lines-is ∙ w.in_ok-add_line-in-First.ensures ∙ ap (λ ls. c.loop-atom.lines.items ++ mapped_lines c.args.map.now ls) (sym (lines_alone c.atom-item.result w.in-First.row w.in-First.is)))
          c.loop-atom.invariant
      | in-Second w ↦ lines_next c.args.map.now c.args.lines.now.items c.loop-atom.lines.items c.match-atom.lines.items c.args.atoms.now c.loop-atom.atom-index c.atom-item.result c.loop-atom-test.true c.atom-item.is
          (ap (λ (v : Vec Row Global). v.items) w.lines-is ∙ sym (append-nil c.loop-atom.lines.items) ∙ ap (λ a. c.loop-atom.lines.items ++ mapped_lines c.args.map.now (atoms_lines (a ∷ []))) (sym w.in-Second.is))
          c.loop-atom.invariant
    ]

pub returns : goal.returns
returns c = c.loop-atom.invariant ∙ ap (λ t. c.args.lines.now.items ++ mapped_lines c.args.map.now (atoms_lines t)) (take_all c.loop-atom.atom-index c.args.atoms.now c.loop-atom-test.false)
