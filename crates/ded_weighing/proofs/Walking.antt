-- The walk along numbers and rows.
use Rattle.std.proofs.Common.{◌≡◌, ℕ, suc, ◌+◌, ◌<◌, true, List, ◌∷◌, drop, length, get_or, arith, sym, ap, ◌∙◌, subst}
use Rattle.std.specs.Prelude.{ℤ, pos, ◌+ℤ◌, ◌*ℤ◌}
use Rattle.std.specs.Borrow.{Bor}
use Rattle.std.proofs.Math.Seq.{drop-cons}
use Rattle.ded_model.specs.Constraint.{LinearConstraint}
use Rattle.ded_model.proofs.Rows.{or_right}
use Rattle.ded_weighing.specs.Weighing.{term_is_long, column_is_long}
use Rattle.ded_weighing.specs.Columns.{lent, sum_from}

-- a number and a row, and those behind
pub both_drop : {A : Type 0} (F : List ℤ → List LinearConstraint → A) (ms : List ℤ) (rs : List (Bor LinearConstraint)) (i : ℕ) (m : ℤ) (r : Bor LinearConstraint)
    → i < length rs → length ms ≡ length rs → m ≡ get_or ms i (pos 0) → r ≡ get_or rs i r
    → F (drop i ms) (lent (drop i rs)) ≡ F (m ∷ drop (i + 1) ms) (r.now ∷ lent (drop (i + 1) rs))
both_drop F ms rs i m r h e f g =
    let one : suc i ≡ i + 1 = omega arith in
    let at : drop i ms ≡ m ∷ drop (i + 1) ms = drop-cons ms i (pos 0) (omega (arith, h, e)) ∙ ap (λ x. x ∷ drop (suc i) ms) (sym f) ∙ ap (λ n. m ∷ drop n ms) one in
    let there : drop i rs ≡ r ∷ drop (i + 1) rs = drop-cons rs i r h ∙ ap (λ x. x ∷ drop (suc i) rs) (sym g) ∙ ap (λ n. r ∷ drop n rs) one in
    ap (λ xs. F xs (lent (drop i rs))) at ∙ ap (λ xs. F (m ∷ drop (i + 1) ms) (lent xs)) there

-- the sum of the first rows, from which the sum of all goes on
pub record IsSummed (number : LinearConstraint → ℤ) (ms : List ℤ) (rs : List LinearConstraint) (sum : ℤ) (ms' : List ℤ) (rs' : List LinearConstraint) : Type 0 where
  pub same : sum_from number sum ms' rs' ≡ sum_from number (pos 0) ms rs
  pub long : column_is_long number sum ms' rs' ≡ true → column_is_long number (pos 0) ms rs ≡ true

-- with one row more
pub summed_more : (number : LinearConstraint → ℤ) (ms : List ℤ) (rs : List (Bor LinearConstraint)) (sum : ℤ) (i : ℕ) (m : ℤ) (r : Bor LinearConstraint) (z : ℤ)
    → i < length rs → length ms ≡ length rs → m ≡ get_or ms i (pos 0) → r ≡ get_or rs i r → z ≡ m *ℤ number r.now +ℤ sum
    → IsSummed number ms (lent rs) sum (drop i ms) (lent (drop i rs)) → IsSummed number ms (lent rs) z (drop (i + 1) ms) (lent (drop (i + 1) rs))
summed_more number ms rs sum i m r z h e f g k s = subst (λ x. IsSummed number ms (lent rs) x (drop (i + 1) ms) (lent (drop (i + 1) rs))) (sym k) (record {
  same = sym (both_drop (sum_from number sum) ms rs i m r h e f g) ∙ s.same;
  long = λ l. s.long (both_drop (column_is_long number sum) ms rs i m r h e f g ∙ or_right (term_is_long m (number r.now) sum) _ l);
})
