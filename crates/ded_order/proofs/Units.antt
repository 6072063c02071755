-- Two numbers of which one is 1 and the other one -1.
use Rattle.std.proofs.Common.{◌≡◌, ◌≢◌, ℕ, zero, suc, ◌*◌, Bool, true, false, cond, ◌&&◌, ◌⊎◌, inl, inr, arith, refl, sym, ap, ap₂, ◌∙◌}
use Rattle.std.specs.Prelude.{ℤ, pos, negsuc, ◌+ℤ◌, ◌*ℤ◌, int_lt, unsigned_abs}
use lib.IntN.{neg_ℤ}
use Rattle.std.specs.Ordering.{int_eq}
use Rattle.std.proofs.lemmas.Int.{ints, unsigned_abs-mul}
use Rattle.std.proofs.lemmas.Bool.Decides.{Decides-int_eq}
use Rattle.ded_num.proofs.Signs.{unsigned_abs-neg}
use Rattle.ded_model.proofs.Points.{and_left, and_right}
use Rattle.ded_model.proofs.Members.{or_split}
use Rattle.ded_row.specs.Mixing.{factor}
use Rattle.ded_row.proofs.Scaling.{cancel_factor, inner_law}
use Rattle.ded_order.specs.OrderRows.{are_opposite_units}

-- a is 1 or -1, and b is its negative
pub record AreOpposite (a b : ℤ) : Type 0 where
  pub unit : unsigned_abs a ≡ 1
  pub opposite : b ≡ neg_ℤ a

pub opposite_from : (a b : ℤ) → are_opposite_units a b ≡ true → AreOpposite a b
opposite_from a b e = elim (or_split (int_eq a (pos 1) && int_eq b (negsuc 0)) (int_eq a (negsuc 0) && int_eq b (pos 1)) e) [
  | inl h ↦
      let f = (Decides-int_eq a (pos 1)).0 (and_left _ _ h) in
      let g = (Decides-int_eq b (negsuc 0)).0 (and_right _ _ h) in
      record { unit = ap unsigned_abs f; opposite = g ∙ sym (ap neg_ℤ f) }
  | inr h ↦
      let f = (Decides-int_eq a (negsuc 0)).0 (and_left _ _ h) in
      let g = (Decides-int_eq b (pos 1)).0 (and_right _ _ h) in
      record { unit = ap unsigned_abs f; opposite = g ∙ sym (ap neg_ℤ f) }
]

unit_cases : (a : ℤ) → unsigned_abs a ≡ 1 → (a ≡ pos 1) ⊎ (a ≡ negsuc 0)
unit_cases (pos n) e = inl (ap pos e)
unit_cases (negsuc n) e = inr (ap negsuc (omega arith))

pub opposite_test : (a b : ℤ) → AreOpposite a b → are_opposite_units a b ≡ true
opposite_test a b h = elim (unit_cases a h.unit) [
  | inl e ↦ ap₂ are_opposite_units e (h.opposite ∙ ap neg_ℤ e)
  | inr e ↦ ap₂ are_opposite_units e (h.opposite ∙ ap neg_ℤ e)
]

pub neg_neg : (a : ℤ) → a ≡ neg_ℤ (neg_ℤ a)
neg_neg a = omega (arith, ints)

pub swapped : (a b : ℤ) → AreOpposite a b → AreOpposite b a
swapped a b h = record { unit = ap unsigned_abs h.opposite ∙ unsigned_abs-neg a ∙ h.unit; opposite = neg_neg a ∙ sym (ap neg_ℤ h.opposite) }

pub turned_units : (a b : ℤ) → AreOpposite a b → AreOpposite (neg_ℤ a) (neg_ℤ b)
turned_units a b h = record { unit = unsigned_abs-neg a ∙ h.unit; opposite = ap neg_ℤ h.opposite }

-- ---- divided and multiplied

one_factor : (m n : ℕ) → m * n ≡ 1 → n ≡ 1
one_factor zero n e = absurd (omega arith)
one_factor (suc m) zero e = absurd (omega arith)
one_factor (suc m) (suc zero) e = refl
one_factor (suc m) (suc (suc n)) e = absurd (omega arith)

-- quotients of opposite units are opposite units
pub units_over : (d x y a b : ℤ) → d ≢ pos 0 → d *ℤ x ≡ a → d *ℤ y ≡ b → AreOpposite a b → AreOpposite x y
units_over d x y a b n e f h = record {
  unit = one_factor (unsigned_abs d) (unsigned_abs x) (sym (unsigned_abs-mul d x) ∙ ap unsigned_abs e ∙ h.unit);
  opposite = cancel_factor d y (neg_ℤ x) n (f ∙ h.opposite ∙ ap neg_ℤ (sym e) ∙ inner_law d x);
}

factor_size : (a b : ℤ) → unsigned_abs (factor a b) ≡ unsigned_abs b
factor_size a b = go (int_lt (pos 0) a)
  where
    turned_size : (n : ℕ) → unsigned_abs (neg_ℤ (pos n)) ≡ n
    turned_size n = omega (arith, ints)

    go : (t : Bool) → unsigned_abs (cond t (pos (unsigned_abs b)) (neg_ℤ (pos (unsigned_abs b)))) ≡ unsigned_abs b
    go true = refl
    go false = turned_size (unsigned_abs b)

cross_law : (k a m b : ℤ) → k *ℤ a +ℤ m *ℤ b ≡ pos 0 → m *ℤ neg_ℤ b ≡ neg_ℤ (k *ℤ neg_ℤ a)
cross_law k a m b e = law k a m b (k *ℤ a) (m *ℤ b) (turned k a) (turned m b) e
  where
    turned : (k z : ℤ) → k *ℤ neg_ℤ z ≡ neg_ℤ (k *ℤ z)
    turned k z = sym (inner_law k z)

    law : (k a m b x y : ℤ) → k *ℤ neg_ℤ a ≡ neg_ℤ x → m *ℤ neg_ℤ b ≡ neg_ℤ y → x +ℤ y ≡ pos 0 → m *ℤ neg_ℤ b ≡ neg_ℤ (k *ℤ neg_ℤ a)
    law k a m b x y e f g = f ∙ also x y g ∙ ap neg_ℤ (sym e)
      where
        also : (x y : ℤ) → x +ℤ y ≡ pos 0 → neg_ℤ y ≡ neg_ℤ (neg_ℤ x)
        also x y g = omega (arith, ints)

-- what is left of two pairs of opposite units, multiplied so that the first ones cancel
pub units_mixed : (a a' b b' k m : ℤ) → AreOpposite a a' → AreOpposite b b' → unsigned_abs k ≡ 1 → k *ℤ a +ℤ m *ℤ b ≡ pos 0 → AreOpposite (k *ℤ a') (m *ℤ b')
units_mixed a a' b b' k m h l n e =
    let size : unsigned_abs a' ≡ 1 = (swapped a a' h).unit in
    record {
      unit = unsigned_abs-mul k a' ∙ ap₂ (λ x y. x * y) n size;
      opposite = ap (λ z. m *ℤ z) l.opposite ∙ cross_law k a m b e ∙ ap (λ z. neg_ℤ (k *ℤ z)) (sym h.opposite);
    }

pub factor_unit : (a b : ℤ) → unsigned_abs b ≡ 1 → unsigned_abs (factor a b) ≡ 1
factor_unit a b e = factor_size a b ∙ e
