-- The row of a comparison of two sums.
--
-- The sum of the row of `l - r` is the difference of the two values, each over the denominators of both (`difference_at`), and
-- its sign says how they compare (`sums_mean`).
use Rattle.std.proofs.Common.{◌≡◌, ◌<◌, Bool, true, false, not, [], arith, refl, sym, ap, ◌∙◌, true≢false}
use Rattle.std.specs.Prelude.{ℤ, pos, ◌+ℤ◌, ◌-ℤ◌, ◌*ℤ◌, ◌↔◌, IsTrue}
use lib.IntN.{neg_ℤ}
use Rattle.std.specs.Ordering.{int_eq}
use Rattle.ded_num.proofs.Ring.{parts, ring, diff_same}
use Rattle.ded_model.specs.declared.row.RowOp.{RowOp}
use Rattle.ded_model.specs.declared.row.RowOp.TheVariants.{Zero, AtMost, Below}
use Rattle.ded_model.specs.declared.formula.CompareOp.{CompareOp}
use Rattle.ded_model.specs.declared.formula.CompareOp.TheVariants.{Less, LessEq, Equal, NotEqual, GreaterEq, Greater}
use Rattle.ded_model.specs.Point.{Point}
use Rattle.ded_model.specs.Sum.{SlotSum, denominator}
use Rattle.ded_model.specs.Coefs.{mixed}
use Rattle.ded_model.specs.Row.{sum_at, row_at, sign_meets, row_holds}
use Rattle.ded_model.specs.Normal.{normal_row}
use Rattle.ded_model.specs.Logic.{Sat}
use Rattle.ded_model.specs.Goal.{GoalAtomHolds}
use Rattle.ded_model.specs.Value.{OperandValue, crosswise, is_same_value, values_compare, Meaning}
use Rattle.ded_model.specs.Slotted.{difference_row, sums_goal}
use Rattle.ded_model.proofs.Values.{lt_by_sign, le_by_sign, eq_by_sign}
use Rattle.ded_model.proofs.Normals.{normal_row-holds}
use Rattle.ded_model.proofs.Sums.{sum_at-mixed, sum_at-nonzero}
use Rattle.std.proofs.Math.Bool.{and-true}

-- ---- values of sums

-- the number of a sum of slots, over the point's denominator times the sum's
abbrev pub slot_sum_at : SlotSum → Point → ℤ
slot_sum_at l q = sum_at l.coefs q +ℤ l.constant *ℤ pos q.den

-- the value is the number of the sum
pub record IsSumValue (v : OperandValue) (l : SlotSum) (q : Point) : Type 0 where
  pub number : v.number ≡ slot_sum_at l q
  pub over : v.over ≡ denominator l.over
  pub text : v.text ≡ []

-- the sum of the row of a difference
difference_law : (a b x y m n d : ℤ) → (a *ℤ x +ℤ neg_ℤ b *ℤ y) +ℤ (a *ℤ m -ℤ b *ℤ n) *ℤ d ≡ (x +ℤ m *ℤ d) *ℤ a -ℤ (y +ℤ n *ℤ d) *ℤ b
difference_law a b x y m n d = rw (parts a, parts b, parts x, parts y, parts m, parts n, parts d) (simp ring (diff_same _ _ _ _ (omega arith)))

-- it is the difference of the values, each over the denominators of both
difference_at : (v w : OperandValue) (l r : SlotSum) (op : RowOp) (q : Point) → IsSumValue v l q → IsSumValue w r q → row_at (difference_row l r op) q ≡ crosswise v w -ℤ crosswise w v
difference_at v w l r op q e f =
    let a = pos (denominator r.over) in
    let b = pos (denominator l.over) in
    ap (λ s. s +ℤ (a *ℤ l.constant -ℤ b *ℤ r.constant) *ℤ pos q.den) (sum_at-nonzero (mixed a l.coefs (neg_ℤ b) r.coefs) q ∙ sum_at-mixed a l.coefs (neg_ℤ b) r.coefs q)
    ∙ difference_law a b (sum_at l.coefs q) (sum_at r.coefs q) l.constant r.constant (pos q.den)
    ∙ rw (e.number, e.over, f.number, f.over) refl

-- ---- comparisons

-- equal tests are passed alike
pub iff_true : (a b : Bool) → a ≡ b → IsTrue a ↔ IsTrue b
iff_true a b e = (λ h. sym e ∙ h, λ h. e ∙ h)

-- a test isn't passed where its opposite is
pub iff_not : (a b : Bool) → a ≡ b → (¬ IsTrue a) ↔ IsTrue (not b)
iff_not true b e = (λ h. absurd (h refl), λ h k. true≢false (sym h ∙ ap not (sym e)))
iff_not false b e = (λ h. ap not (sym e), λ h k. true≢false (sym k))

module _ (v w : OperandValue) (l r : SlotSum) (q : Point) (h : 0 < q.den) (e : IsSumValue v l q) (f : IsSumValue w r q) where
  -- the normal row holds where the difference has its sign
  row_means : (op : RowOp) → row_holds (normal_row (difference_row l r op)) q ≡ sign_meets op (crosswise v w -ℤ crosswise w v)
  unfolding row_holds
  row_means op = normal_row-holds (difference_row l r op) q h ∙ ap (sign_meets op) (difference_at v w l r op q e f)

  -- two numbers are the same value where they are equal
  same_means : is_same_value v w ≡ sign_meets Zero (crosswise v w -ℤ crosswise w v)
  same_means = rw (e.text, f.text) (and-true (int_eq (crosswise v w) (crosswise w v))) ∙ eq_by_sign (crosswise v w) (crosswise w v)

-- the goal of a comparison of sums holds where their values compare so
pub sums_mean : (I : Meaning) (v w : OperandValue) (l r : SlotSum) (op : CompareOp) (q : Point) → 0 < q.den → IsSumValue v l q → IsSumValue w r q
    → Sat (GoalAtomHolds I) (sums_goal l op r) q ↔ IsTrue (values_compare v op w)
sums_mean I v w l r Less q h e f = iff_true _ _ (row_means v w l r q h e f Below ∙ sym (lt_by_sign (crosswise v w) (crosswise w v)))
sums_mean I v w l r LessEq q h e f = iff_true _ _ (row_means v w l r q h e f AtMost ∙ sym (le_by_sign (crosswise v w) (crosswise w v)))
sums_mean I v w l r Equal q h e f = iff_true _ _ (row_means v w l r q h e f Zero ∙ sym (same_means v w l r q h e f))
sums_mean I v w l r NotEqual q h e f = iff_not _ _ (row_means v w l r q h e f Zero ∙ sym (same_means v w l r q h e f))
sums_mean I v w l r GreaterEq q h e f = iff_true _ _ (row_means w v r l q h f e AtMost ∙ sym (le_by_sign (crosswise w v) (crosswise v w)))
sums_mean I v w l r Greater q h e f = iff_true _ _ (row_means w v r l q h f e Below ∙ sym (lt_by_sign (crosswise w v) (crosswise v w)))
