use Rattle.std.proofs.Common.{◌≡◌, false, true, List, [], ◌∷◌, IfOk, sym, subst}
use Rattle.std.specs.List.{AllByRecursion}
use Rattle.ded_model.specs.Constraint.{LinearConstraint}
use Rattle.ded_model.specs.Lines.{row_lines}
use Rattle.ded_model.specs.Row.{row_mentions}
use Rattle.ded_theory.specs.Conjunctions.{conj_mentions, IsWide}
use Rattle.ded_elimination.specs.LinearAtoms.{IsLinearAtom}
use Rattle.ded_shapes.specs.Projections.{IsWithout}
use Rattle.ded_shapes.proofs.Without.{unmentioned, one_less_if, wide_at}
use Rattle.ded_shapes.proofs.projecting.without_slot.Goals as goal
use Rattle.ded_shapes.proofs.projecting.without_slot.Goals.{After-drop-rows}

pub returns-then-not-mention-clause-is : goal.returns-then-not-mention-clause-is
returns-then-not-mention-clause-is c =
    unmentioned c.args.slot c.args.rows c.requires.normal (subst (λ (rows : List LinearConstraint). conj_mentions row_mentions rows c.args.slot ≡ false) c.deref.ensures.value (sym c.if-not-mention.ensures))

-- what is eliminated from is normal and mentions the slot
normal : (c : After-drop-rows) → AllByRecursion IsLinearAtom c.deref-2.result.now
normal c = subst (AllByRecursion IsLinearAtom) (sym c.deref-2.ensures.value) c.requires.normal

mentioned : (c : After-drop-rows) → conj_mentions row_mentions c.deref-2.result.now c.args.slot ≡ true
mentioned c =
    subst (λ (rows : List LinearConstraint). conj_mentions row_mentions rows c.args.slot ≡ true) (sym c.deref-2.ensures.value)
    (subst (λ (rows : List LinearConstraint). conj_mentions row_mentions rows c.args.slot ≡ true) c.deref.ensures.value (sym c.if-not-mention.ensures))

pub returns-clause-is : goal.returns-clause-is
returns-clause-is c =
    subst (λ (rows : List LinearConstraint). IfOk c.eliminate.result (λ e. IsWithout (c.args.slot ∷ []) rows e)) c.deref-2.ensures.value
    (one_less_if c.args.slot c.deref-2.result.now (normal c) (mentioned c) c.eliminate.result c.eliminate.ensures.holds c.eliminate.ensures.normal c.eliminate.ensures.slots c.eliminate.ensures.lines)

pub returns-clause-wide : goal.returns-clause-wide
returns-clause-wide c = λ e.
    subst (IsWide row_mentions row_lines) c.deref-2.ensures.value (wide_at c.args.slot c.deref-2.result.now (normal c) (mentioned c) (c.eliminate.ensures.wide e))
