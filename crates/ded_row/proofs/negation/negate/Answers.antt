use Rattle.std.proofs.Common.{◌≡◌, false, not, sym, subst}
use Rattle.std.proofs.lemmas.Result.{IfOk-weaker}
use Rattle.ded_model.specs.declared.tuple.Negated.{Negated}
use Rattle.ded_model.specs.Constraint.{LinearConstraint}
use Rattle.ded_model.specs.Row.{row_holds, row_mentions}
use Rattle.ded_model.specs.Normal.{IsNormalRow}
use Rattle.ded_model.specs.Lines.{row_lines}
use Rattle.ded_model.specs.Negation.{EachPiece, some_piece_holds, both_pieces_hold}
use Rattle.ded_row.specs.Negation.{negated_row}
use Rattle.ded_row.proofs.Pieces.{pieces_hold, pieces_apart, pieces_normal, pieces_mention, pieces_lines}
use Rattle.ded_row.proofs.Forms.{begins}
use Rattle.ded_row.proofs.negation.negate.Goals as goal

pub returns-clause-exact : goal.returns-clause-exact
returns-clause-exact c =
    IfOk-weaker _ (λ (n : Negated LinearConstraint). n ≡ negated_row c.args.row.now) _ (λ n e. λ p h. subst (λ m. some_piece_holds row_holds m p ≡ not (row_holds c.args.row.now p)) (sym e) (pieces_hold c.args.row.now p h)) c.negation_of.ensures.value

pub returns-clause-disjoint : goal.returns-clause-disjoint
returns-clause-disjoint c =
    IfOk-weaker _ (λ (n : Negated LinearConstraint). n ≡ negated_row c.args.row.now) _ (λ n e. λ p. subst (λ m. both_pieces_hold row_holds m p ≡ false) (sym e) (pieces_apart c.args.row.now p)) c.negation_of.ensures.value

pub returns-clause-normal : goal.returns-clause-normal
returns-clause-normal c =
    IfOk-weaker _ (λ (n : Negated LinearConstraint). n ≡ negated_row c.args.row.now) _ (λ n e. subst (EachPiece IsNormalRow) (sym e) (pieces_normal c.args.row.now (begins c.args.row.now.coefs c.negation_of.ensures.coefs) c.requires.normal)) c.negation_of.ensures.value

pub returns-clause-mentions : goal.returns-clause-mentions
returns-clause-mentions c =
    IfOk-weaker _ (λ (n : Negated LinearConstraint). n ≡ negated_row c.args.row.now) _ (λ n e. λ s. subst (EachPiece (λ r. row_mentions r s ≡ row_mentions c.args.row.now s)) (sym e) (pieces_mention c.args.row.now s)) c.negation_of.ensures.value

pub returns-clause-lines : goal.returns-clause-lines
returns-clause-lines c =
    IfOk-weaker _ (λ (n : Negated LinearConstraint). n ≡ negated_row c.args.row.now) _ (λ n e. subst (EachPiece (λ r. row_lines r ≡ row_lines c.args.row.now)) (sym e) (pieces_lines c.args.row.now (begins c.args.row.now.coefs c.negation_of.ensures.coefs))) c.negation_of.ensures.value
