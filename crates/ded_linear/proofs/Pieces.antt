-- What the pieces of a negation are beside the row.
use Rattle.std.proofs.Common.{◌≡◌, Bool, true, not, List, [], ◌∷◌, sym, ap, subst, ◌∙◌}
use Rattle.std.specs.Prelude.{ℤ, pos, ◌+ℤ◌}
use Rattle.std.proofs.Math.IntN.{zero-*ℤ}
use lib.IntN.{neg_ℤ}
use Rattle.ded_model.specs.declared.slot.Slot.{Slot}
use Rattle.ded_model.specs.declared.row.RowOp.{RowOp}
use Rattle.ded_model.specs.declared.row.RowOp.TheVariants.{Zero, AtMost, Below}
use Rattle.ded_model.specs.declared.tuple.Negated.{Negated}
use Rattle.ded_model.specs.declared.tuple.Negated.TheVariants.{One, Two}
use Rattle.ded_model.specs.Constraint.{LinearConstraint}
use Rattle.ded_model.specs.Point.{Point}
use Rattle.ded_model.specs.Row.{row_at, sign_meets, row_mentions}
use Rattle.ded_model.specs.Cell.{sign, row_cell}
use Rattle.ded_model.specs.Negation.{EachPiece}
use Rattle.ded_model.specs.Normal.{constant_row}
use Rattle.ded_row.specs.Multiples.{turned, with_op}
use Rattle.ded_row.specs.Negation.{negated_by, negated_with, negated_row}
use Rattle.ded_row.proofs.Pieces.{row_at-turned}
use Rattle.ded_linear.specs.Laws.{sign-turned}

-- a turned row has the cells of the row, with the other sign
turned_tells : (op : RowOp) (r : LinearConstraint) (p q : Point) → row_cell r p ≡ row_cell r q → row_cell (with_op op (turned r)) p ≡ row_cell (with_op op (turned r)) q
turned_tells op r p q e = ap sign (row_at-turned r p) ∙ sign-turned (row_at r p) ∙ ap neg_ℤ e ∙ sym (sign-turned (row_at r q)) ∙ ap sign (sym (row_at-turned r q))

-- a row without coefficients has one cell
constant_cell : (b : Bool) (p : Point) → row_cell (constant_row b) p ≡ pos 0
constant_cell b p = ap (λ z. sign (pos 0 +ℤ z)) (zero-*ℤ (pos p.den))

-- the pieces of a negation tell apart no points of one cell of the row
abbrev pub Tells : LinearConstraint → LinearConstraint → Type 0
Tells r a = (p q : Point) → row_cell r p ≡ row_cell r q → row_cell a p ≡ row_cell a q

by_tells : (op : RowOp) (r : LinearConstraint) → EachPiece (Tells r) (negated_by op r)
by_tells Zero r = (λ p q e. e, turned_tells Below r)
by_tells AtMost r = turned_tells Below r
by_tells Below r = turned_tells AtMost r

with_tells : (cs : List (Slot × ℤ)) (r : LinearConstraint) → EachPiece (Tells r) (negated_with cs r)
with_tells [] r = λ p q e. constant_cell (not (sign_meets r.op r.constant)) p ∙ sym (constant_cell (not (sign_meets r.op r.constant)) q)
with_tells (c ∷ cs) r = by_tells r.op r

pub pieces_tell : (r : LinearConstraint) (n : Negated LinearConstraint) → n ≡ negated_row r → EachPiece (Tells r) n
pieces_tell r n e = subst (EachPiece (Tells r)) (sym e) (with_tells r.coefs r)

-- the pieces mention the row's slots
pub pieces_slots : (r : LinearConstraint) (n : Negated LinearConstraint) → ((s : Slot) → EachPiece (λ q. row_mentions q s ≡ row_mentions r s) n)
    → EachPiece (λ a. (s : Slot) → row_mentions a s ≡ true → row_mentions r s ≡ true) n
pieces_slots r (One a) h = λ s m. sym (h s) ∙ m
pieces_slots r (Two a b) h = (λ s m. sym (h s).0 ∙ m, λ s m. sym (h s).1 ∙ m)
