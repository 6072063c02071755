use Rattle.std.proofs.Common.{◌≡◌, true, ap, sym, subst, ◌∙◌}
use Rattle.ded_model.specs.Constraint.{LinearConstraint}
use Rattle.ded_model.specs.Negation.{EachPiece}
use Rattle.ded_row.specs.Negation.{negated_row}
use Rattle.ded_linear.proofs.Pieces.{Tells, pieces_tell, pieces_slots}
use Rattle.ded_model.specs.declared.slot.Slot.{Slot}
use Rattle.ded_model.specs.Row.{row_mentions}
use Rattle.ded_order.proofs.Atoms.{pieces_order}
use Rattle.ded_order.proofs.theory.OrderTheory.negate.Goals as goal

pub negated-requires-clause-order : goal.negated-requires-clause-order
negated-requires-clause-order c =
    pieces_order c.args.atom.now c.in_ok-negate.field-0 (c.in_ok-negate.ensures.value ∙ ap negated_row c.row.ensures.value) c.requires.normal.order

pub returns-clause-slots : goal.returns-clause-slots
returns-clause-slots c =
    subst (EachPiece (λ a. (s : Slot) → row_mentions a s ≡ true → row_mentions c.args.atom.now s ≡ true)) (sym c.negated.ensures.value)
    (pieces_slots c.args.atom.now c.in_ok-negate.field-0
    (subst (λ (r : LinearConstraint). (s : Slot) → EachPiece (λ q. row_mentions q s ≡ row_mentions r s) c.in_ok-negate.field-0) c.row.ensures.value c.in_ok-negate.ensures.mentions))

pub returns-clause-cells : goal.returns-clause-cells
returns-clause-cells c =
    subst (EachPiece (Tells c.args.atom.now)) (sym c.negated.ensures.value)
    (pieces_tell c.args.atom.now c.in_ok-negate.field-0 (c.in_ok-negate.ensures.value ∙ ap negated_row c.row.ensures.value))
