use Rattle.std.proofs.Common.{◌≡◌, true, false, subst}
use Rattle.std.specs.List.{AllByRecursion}
use Rattle.ded_model.specs.declared.slot.Slot.{Slot}
use Rattle.ded_model.specs.Constraint.{LinearConstraint}
use Rattle.ded_model.specs.Lines.{IsSubset, row_lines, elim_at}
use Rattle.ded_model.specs.Point.{same_slot}
use Rattle.ded_model.specs.Row.{row_mentions}
use Rattle.ded_theory.specs.declared.answers.Eliminated.{Eliminated}
use Rattle.ded_theory.specs.Conjunctions.{conj_mentions, conj_lines}
use Rattle.ded_theory.specs.Eliminations.{eliminated_atoms}
use Rattle.ded_elimination.specs.LinearAtoms.{IsLinearAtom}
use Rattle.ded_linear.proofs.Prunes.{part_normal, part_mentions, part_lines}
use Rattle.ded_linear.proofs.theory.LinearTheory.eliminate.Goals as goal

pub returns-in_ok-pruned-in-Conj-clause-normal : goal.returns-in_ok-pruned-in-Conj-clause-normal
returns-in_ok-pruned-in-Conj-clause-normal c =
    part_normal c.in_ok-pruned-in-Conj.field-0.items c.in-Conj.rows.items c.in_ok-pruned-in-Conj.ensures.part (subst (λ (e : Eliminated LinearConstraint). AllByRecursion IsLinearAtom (eliminated_atoms e)) c.in-Conj.is c.in_ok-eliminate.ensures.normal)

pub returns-in_ok-pruned-in-Conj-clause-slots : goal.returns-in_ok-pruned-in-Conj-clause-slots
returns-in_ok-pruned-in-Conj-clause-slots c = λ s m.
    subst (λ (e : Eliminated LinearConstraint). (s : Slot) → conj_mentions row_mentions (eliminated_atoms e) s ≡ true → (same_slot s c.args.slot ≡ false) × (conj_mentions row_mentions c.args.atoms.now s ≡ true)) c.in-Conj.is c.in_ok-eliminate.ensures.slots
    s (part_mentions c.in_ok-pruned-in-Conj.field-0.items c.in-Conj.rows.items s c.in_ok-pruned-in-Conj.ensures.part m)

pub returns-in_ok-pruned-in-Conj-clause-lines : goal.returns-in_ok-pruned-in-Conj-clause-lines
returns-in_ok-pruned-in-Conj-clause-lines c = λ l i.
    subst (λ (e : Eliminated LinearConstraint). IsSubset (conj_lines row_lines (eliminated_atoms e)) (elim_at c.args.slot (conj_lines row_lines c.args.atoms.now))) c.in-Conj.is c.in_ok-eliminate.ensures.lines
    l (part_lines c.in_ok-pruned-in-Conj.field-0.items c.in-Conj.rows.items c.in_ok-pruned-in-Conj.ensures.part l i)
