-- What a combination of two rows says at a point, and which slots it mentions.
--
-- The factors cancel the slot's coefficients, so the sum of the combination is the sum of the two rows, each times its factor,
-- and a factor keeps the sign that a row asks for.
use Rattle.std.proofs.Common.{◌≡◌, ◌≢◌, ℕ, zero, suc, ◌<◌, Bool, true, false, cond, List, [], ◌∷◌, ◌⊎◌, inl, inr, arith, refl, sym, ap, ap₂, ◌∙◌, subst, true≢false}
use Rattle.std.specs.Prelude.{ℤ, pos, negsuc, ◌+ℤ◌, ◌*ℤ◌, ◌<ℤ◌, int_lt, int_le, unsigned_abs}
use lib.IntN.{neg_ℤ, +ℤ_idl, +ℤ_idr}
use Rattle.std.proofs.lemmas.Int.{ints}
use Rattle.std.proofs.lemmas.Bool.Decides.{nat_tests, Decides-int_eq}
use Rattle.std.proofs.Math.IntN.{zero-*ℤ}
use Rattle.ded_num.proofs.Ring.{parts, ring, diff-pos, diff_same}
use Rattle.ded_num.proofs.Signs.{above_test}
use Rattle.ded_model.specs.declared.slot.Slot.{Slot}
use Rattle.ded_model.specs.declared.row.RowOp.{RowOp}
use Rattle.ded_model.specs.declared.row.RowOp.TheVariants.{Zero, AtMost, Below}
use Rattle.ded_model.specs.Constraint.{LinearConstraint}
use Rattle.ded_model.specs.Point.{same_slot, Point, slot, number_at}
use Rattle.ded_model.specs.Coefs.{coef_at, put_all, mixed, cut}
use Rattle.ded_model.specs.Row.{sum_at, row_at, sign_meets, row_holds, row_mentions}
use Rattle.ded_model.proofs.Points.{same_slot_is, same_slot_refl}
use Rattle.ded_model.proofs.LineCoefs.{coef_at-mixed}
use Rattle.ded_model.proofs.LineSlots.{has_slot, put_all_slots, cut_slots, nonzero_slots}
use Rattle.ded_row.specs.Mixing.{BoundsAbove, BoundsBelow, factor, join_op, mixed_coefs, mixed_row, mix_of}
use Rattle.ded_model.proofs.Normals.{normal_row-holds}
use Rattle.ded_row.proofs.Scaling.{IsFactor, IsSignFor, magnitude, sign_times}
use Rattle.ded_row.proofs.Forms.{row_mentions-normal}
use Rattle.ded_model.proofs.Sums.{sum_at-mixed, sum_at-nonzero}
use Rattle.ded_model.proofs.Numbers.{cancel_pair}

-- ---- the factors

-- the factors are the coefficients of the other row, one of them turned
pub data IsPair (a b k m : ℤ) : Type 0 where
  turned_first : k ≡ neg_ℤ b → m ≡ a → IsPair a b k m
  turned_second : k ≡ b → m ≡ neg_ℤ a → IsPair a b k m

above : (x : ℕ) → int_lt (pos 0) (pos (suc x)) ≡ true
above x = grind (arith, nat_tests)

not_above : (x : ℕ) → int_lt (pos 0) (negsuc x) ≡ false
not_above x = grind (arith, ints)

-- a choice of signs
by_sign : (b : Bool) → ℕ → ℤ
by_sign b n = cond b (pos n) (neg_ℤ (pos n))

pub factors : (a b : ℤ) → a ≢ pos 0 → b ≢ pos 0 → IsPair a b (factor a b) (factor (neg_ℤ b) a)
unfolding by_sign
factors (pos zero) b h l = absurd (h refl)
factors (pos (suc x)) (pos zero) h l = absurd (l refl)
factors (pos (suc x)) (pos (suc y)) h l = turned_second (ap (λ t. by_sign t (suc y)) (above x)) (ap (λ t. by_sign t (suc x)) (not_above y))
factors (pos (suc x)) (negsuc y) h l = turned_first (ap (λ t. by_sign t (suc y)) (above x)) (ap (λ t. by_sign t (suc x)) (above y))
factors (negsuc x) (pos zero) h l = absurd (l refl)
factors (negsuc x) (pos (suc y)) h l = turned_first (ap (λ t. by_sign t (suc y)) (not_above x)) (ap (λ t. by_sign t (suc x)) (not_above y))
factors (negsuc x) (negsuc y) h l = turned_second (ap (λ t. by_sign t (suc y)) (not_above x)) (ap (λ t. by_sign t (suc x)) (above y))

second_law : (a b : ℤ) → b *ℤ a +ℤ neg_ℤ a *ℤ b ≡ pos 0
second_law a b = rw (parts a, parts b, diff-pos 0) (simp ring (diff_same _ _ _ _ (omega arith)))

-- they cancel the coefficients
pub cancels : (a b k m : ℤ) → IsPair a b k m → k *ℤ a +ℤ m *ℤ b ≡ pos 0
cancels a b k m (turned_first e f) = ap₂ (λ x y. x *ℤ a +ℤ y *ℤ b) e f ∙ cancel_pair a b
cancels a b k m (turned_second e f) = ap₂ (λ x y. x *ℤ a +ℤ y *ℤ b) e f ∙ second_law a b

-- a coefficient that bounds its slot isn't 0
pub bound_nonzero : (op : RowOp) (a : ℤ) → BoundsAbove op a → a ≢ pos 0
bound_nonzero Zero a h = h
bound_nonzero AtMost a h = λ e. absurd (omega (arith, ints))
bound_nonzero Below a h = λ e. absurd (omega (arith, ints))

-- 0 turned is 0
zero_turned : (b : ℤ) → neg_ℤ b ≡ pos 0 → b ≡ pos 0
zero_turned b e = omega (arith, ints)

-- a bound from below, turned, is one from above
pub turned_bound : (op : RowOp) (b : ℤ) → BoundsBelow op b → BoundsAbove op (neg_ℤ b)
turned_bound Zero b h = λ e. h (zero_turned b e)
turned_bound AtMost b h = omega (arith, ints)
turned_bound Below b h = omega (arith, ints)

pub below_nonzero : (op : RowOp) (b : ℤ) → BoundsBelow op b → b ≢ pos 0
below_nonzero Zero b h = h
below_nonzero AtMost b h = λ e. absurd (omega (arith, ints))
below_nonzero Below b h = λ e. absurd (omega (arith, ints))

-- a magnitude with a sign isn't 0
sign_nonzero : (t : Bool) (n : ℕ) → by_sign t (suc n) ≢ pos 0
unfolding by_sign
sign_nonzero true n e = absurd (omega (arith, ap unsigned_abs e))
sign_nonzero false n e = absurd (omega (arith, ap unsigned_abs e))

-- so the factor suits the row
pub factor_suits : (op : RowOp) (a b : ℤ) → BoundsAbove op a → b ≢ pos 0 → IsFactor op (factor a b)
unfolding by_sign
factor_suits op a b h n =
    let size = magnitude b n in
    record {
      nonzero = λ e. sign_nonzero (int_lt (pos 0) a) size.0 (ap (by_sign (int_lt (pos 0) a)) (sym size.1) ∙ e);
      sign = by_op op h;
    }
  where
    positive : (n m : ℕ) → n ≡ suc m → pos 0 <ℤ pos n
    positive n m e = omega (arith, ints)

    is_above : pos 0 <ℤ a → pos 0 <ℤ factor a b
    is_above h = let size = magnitude b n in subst (λ z. pos 0 <ℤ z) (sym (ap (λ t. by_sign t (unsigned_abs b)) (above_test a h))) (positive (unsigned_abs b) size.0 size.1)

    by_op : (op : RowOp) → BoundsAbove op a → IsSignFor op (factor a b)
    by_op Zero h = tt
    by_op AtMost h = is_above h
    by_op Below h = is_above h

-- ---- the sum

here_law : (x c k n y : ℤ) → x +ℤ k *ℤ n ≡ y → x +ℤ (c +ℤ k) *ℤ n ≡ c *ℤ n +ℤ y
here_law x c k n y e = law ∙ ap (λ z. c *ℤ n +ℤ z) e
  where
    law : x +ℤ (c +ℤ k) *ℤ n ≡ c *ℤ n +ℤ (x +ℤ k *ℤ n)
    law = rw (parts x, parts c, parts k, parts n) (simp ring (diff_same _ _ _ _ (omega arith)))

past_law : (w x z y : ℤ) → x +ℤ z ≡ y → (w +ℤ x) +ℤ z ≡ w +ℤ y
past_law w x z y e = law w x z ∙ ap (λ v. w +ℤ v) e
  where
    law : (w x z : ℤ) → (w +ℤ x) +ℤ z ≡ w +ℤ (x +ℤ z)
    law w x z = omega (arith, ints)

-- a slot that is cut takes its part of the sum away
pub sum_at-cut : (s : Slot) (cs : List (Slot × ℤ)) (p : Point) → sum_at (cut s cs) p +ℤ coef_at cs s *ℤ number_at p (slot s) ≡ sum_at cs p
sum_at-cut s [] p = +ℤ_idl (pos 0 *ℤ number_at p (slot s)) ∙ zero-*ℤ (number_at p (slot s))
sum_at-cut s (c ∷ cs) p = go (same_slot c.0 s) refl (sum_at-cut s cs p)
  where
    n : ℤ
    n = number_at p (slot s)

    go : (b : Bool) → same_slot c.0 s ≡ b → sum_at (cut s cs) p +ℤ coef_at cs s *ℤ number_at p (slot s) ≡ sum_at cs p
        → sum_at (cond b (cut s cs) (c ∷ cut s cs)) p +ℤ (cond b c.1 (pos 0) +ℤ coef_at cs s) *ℤ number_at p (slot s) ≡ c.1 *ℤ number_at p (slot c.0) +ℤ sum_at cs p
    go true e ih = here_law (sum_at (cut s cs) p) c.1 (coef_at cs s) (number_at p (slot s)) (sum_at cs p) ih ∙ ap (λ t. c.1 *ℤ number_at p (slot t) +ℤ sum_at cs p) (sym (same_slot_is c.0 s e))
    go false e ih =
        ap (λ z. (c.1 *ℤ number_at p (slot c.0) +ℤ sum_at (cut s cs) p) +ℤ z *ℤ number_at p (slot s)) (+ℤ_idl (coef_at cs s))
        ∙ past_law (c.1 *ℤ number_at p (slot c.0)) (sum_at (cut s cs) p) (coef_at cs s *ℤ number_at p (slot s)) (sum_at cs p) ih

-- the sum of a combination
spread_law : (k x c m y d n : ℤ) → (k *ℤ x +ℤ m *ℤ y) +ℤ (k *ℤ c +ℤ m *ℤ d) *ℤ n ≡ k *ℤ (x +ℤ c *ℤ n) +ℤ m *ℤ (y +ℤ d *ℤ n)
spread_law k x c m y d n = rw (parts k, parts x, parts c, parts m, parts y, parts d, parts n) (simp ring (diff_same _ _ _ _ (omega arith)))

-- a part that is 0
pub nothing_more : (x z n y : ℤ) → z ≡ pos 0 → x +ℤ z *ℤ n ≡ y → x ≡ y
nothing_more x z n y e f = sym (ap (λ w. x +ℤ w) (ap (λ w. w *ℤ n) e ∙ zero-*ℤ n) ∙ +ℤ_idr x) ∙ f

pub row_at-mixed : (s : Slot) (k : ℤ) (q : LinearConstraint) (m : ℤ) (r : LinearConstraint) (p : Point) → IsPair (coef_at q.coefs s) (coef_at r.coefs s) k m → row_at (mixed_row s k q m r) p ≡ k *ℤ row_at q p +ℤ m *ℤ row_at r p
row_at-mixed s k q m r p h =
    let all = mixed k q.coefs m r.coefs in
    let gone : coef_at all s ≡ pos 0 = coef_at-mixed k q.coefs m r.coefs s ∙ cancels (coef_at q.coefs s) (coef_at r.coefs s) k m h in
    ap (λ z. z +ℤ (k *ℤ q.constant +ℤ m *ℤ r.constant) *ℤ pos p.den)
    (sum_at-nonzero (cut s all) p ∙ nothing_more (sum_at (cut s all) p) (coef_at all s) (number_at p (slot s)) (sum_at all p) gone (sum_at-cut s all p) ∙ sum_at-mixed k q.coefs m r.coefs p)
    ∙ spread_law k (sum_at q.coefs p) q.constant m (sum_at r.coefs p) r.constant (pos p.den)

-- ---- where it holds

-- a sum of two numbers
meets_join : (o u : RowOp) (x y : ℤ) → sign_meets o x ≡ true → sign_meets u y ≡ true → sign_meets (join_op o u) (x +ℤ y) ≡ true
meets_join Zero u x y h l = ap (λ z. sign_meets u (z +ℤ y)) ((Decides-int_eq x (pos 0)).0 h) ∙ ap (sign_meets u) (+ℤ_idl y) ∙ l
meets_join AtMost Zero x y h l = ap (λ z. int_le (x +ℤ z) (pos 0)) ((Decides-int_eq y (pos 0)).0 l) ∙ ap (λ z. int_le z (pos 0)) (+ℤ_idr x) ∙ h
meets_join AtMost AtMost x y h l = grind (arith, ints)
meets_join AtMost Below x y h l = grind (arith, ints)
meets_join Below Zero x y h l = ap (λ z. int_lt (x +ℤ z) (pos 0)) ((Decides-int_eq y (pos 0)).0 l) ∙ ap (λ z. int_lt z (pos 0)) (+ℤ_idr x) ∙ h
meets_join Below AtMost x y h l = grind (arith, ints)
meets_join Below Below x y h l = grind (arith, ints)

-- the combination holds where both rows do
pub mix-holds : (s : Slot) (q r : LinearConstraint) (p : Point) → BoundsAbove q.op (coef_at q.coefs s) → BoundsBelow r.op (coef_at r.coefs s) → 0 < p.den → row_holds q p ≡ true → row_holds r p ≡ true → row_holds (mix_of s q r) p ≡ true
unfolding row_holds
mix-holds s q r p h l n e f =
    let a = coef_at q.coefs s in
    let b = coef_at r.coefs s in
    let k = factor a b in
    let m = factor (neg_ℤ b) a in
    normal_row-holds (mixed_row s k q m r) p n
    ∙ ap (sign_meets (join_op q.op r.op)) (row_at-mixed s k q m r p (factors a b (bound_nonzero q.op a h) (below_nonzero r.op b l)))
    ∙ meets_join q.op r.op (k *ℤ row_at q p) (m *ℤ row_at r p)
    (sign_times q.op k (row_at q p) (factor_suits q.op a b h (below_nonzero r.op b l)) ∙ e)
    (sign_times r.op m (row_at r p) (factor_suits r.op (neg_ℤ b) a (turned_bound r.op b l) (bound_nonzero q.op a h)) ∙ f)

-- ---- slots

-- the slot falls out
pub mix_without : (s : Slot) (q r : LinearConstraint) → row_mentions (mix_of s q r) s ≡ false
unfolding row_mentions
mix_without s q r =
    let k = factor (coef_at q.coefs s) (coef_at r.coefs s) in
    let m = factor (neg_ℤ (coef_at r.coefs s)) (coef_at q.coefs s) in
    row_mentions-normal (mixed_row s k q m r) s ∙ go (has_slot (mixed_coefs s k q.coefs m r.coefs) s) (λ e. (cut_slots s (mixed k q.coefs m r.coefs) s (nonzero_slots (cut s (mixed k q.coefs m r.coefs)) s e)).0)
  where
    go : (b : Bool) → (b ≡ true → same_slot s s ≡ false) → b ≡ false
    go true h = absurd (true≢false (sym (same_slot_refl s) ∙ h refl))
    go false h = refl

-- and no other comes in
pub mix_over : (s : Slot) (q r : LinearConstraint) (t : Slot) → row_mentions (mix_of s q r) t ≡ true → (row_mentions q t ≡ true) ⊎ (row_mentions r t ≡ true)
unfolding row_mentions
mix_over s q r t e =
    let k = factor (coef_at q.coefs s) (coef_at r.coefs s) in
    let m = factor (neg_ℤ (coef_at r.coefs s)) (coef_at q.coefs s) in
    let all = mixed k q.coefs m r.coefs in
    let there = cut_slots s all t (nonzero_slots (cut s all) t (sym (row_mentions-normal (mixed_row s k q m r) t) ∙ e)) in
    elim (put_all_slots k q.coefs (put_all m r.coefs []) t there.1) [
      | inl f ↦ inl f
      | inr f ↦ elim (put_all_slots m r.coefs [] t f) [ inl g ↦ inr g | inr g ↦ absurd (true≢false (sym g)) ]
    ]
