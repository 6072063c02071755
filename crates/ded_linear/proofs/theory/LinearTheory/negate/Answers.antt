use Rattle.std.proofs.Common.{◌≡◌}
use Rattle.std.proofs.lemmas.Result.{IfOk-weaker}
use Rattle.ded_model.specs.declared.slot.Slot.{Slot}
use Rattle.ded_model.specs.declared.tuple.Negated.{Negated}
use Rattle.ded_model.specs.Constraint.{LinearConstraint}
use Rattle.ded_model.specs.Row.{row_mentions}
use Rattle.ded_model.specs.Negation.{EachPiece}
use Rattle.ded_row.specs.Negation.{negated_row}
use Rattle.ded_linear.proofs.Pieces.{pieces_tell, pieces_slots}
use Rattle.ded_linear.proofs.theory.LinearTheory.negate.Goals as goal

pub returns-clause-slots : goal.returns-clause-slots
returns-clause-slots c =
    IfOk-weaker _ (λ (n : Negated LinearConstraint). (s : Slot) → EachPiece (λ r. row_mentions r s ≡ row_mentions c.args.atom.now s) n) _ (λ n h. pieces_slots c.args.atom.now n h) c.negate.ensures.mentions

pub returns-clause-cells : goal.returns-clause-cells
returns-clause-cells c = IfOk-weaker _ (λ (n : Negated LinearConstraint). n ≡ negated_row c.args.atom.now) _ (λ n e. pieces_tell c.args.atom.now n e) c.negate.ensures.value
