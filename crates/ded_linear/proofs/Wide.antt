-- When rows are wide: where two of their lines clash at a slot that they mention, and where what is left of them is.
--
-- Lines of at most 63 digits don't clash, so with b digits and one slot more than none (b + 1) * 2 is above 128. After an
-- elimination lines have at most 2b + 1 digits and there is a slot less: (2b + 2) * 2^n is (b + 1) * 2^(n + 1).
use Rattle.std.proofs.Common.{◌≡◌, ℕ, suc, ◌+◌, ◌*◌, ◌^◌, ◌<◌, ◌≤◌, Bool, true, false, ◌||◌, cond, List, [], ◌∷◌, length, arith, refl, sym, ap, ◌∙◌, true≢false, inl, inr, ◌⊎◌}
use Rattle.std.proofs.Math.Pow.{pow_mono, pow-add}
use Rattle.std.proofs.lemmas.Nat.{mul-le}
use Rattle.ded_num.proofs.Lengths.{below_or}
use Rattle.ded_model.specs.declared.slot.Slot.{Slot}
use Rattle.ded_model.specs.declared.slot.Sort.TheVariants.{Rat}
use Rattle.ded_model.specs.Constraint.{LinearConstraint}
use Rattle.ded_model.specs.Point.{same_slot, stands_in}
use Rattle.ded_model.specs.Row.{row_mentions}
use Rattle.ded_model.specs.Lines.{IsSubset, AreWithin, row_lines, elim_at, clash_at}
use Rattle.ded_model.proofs.LineLengths.{no_clash, within_more, elim-within}
use Rattle.ded_model.proofs.Members.{or_split}
use Rattle.ded_model.proofs.Points.{same_slot_is}
use Rattle.ded_model.proofs.Rows.{or_left, or_right}
use Rattle.ded_theory.specs.Conjunctions.{conj_mentions, conj_lines, IsWide}

abbrev pub RowsWide : List LinearConstraint → Type 0
RowsWide rows = IsWide row_mentions row_lines rows

-- a list that has something has a length
some_length : (ss : List Slot) (t : Slot) → stands_in ss t ≡ true → 0 < length ss
some_length [] t h = absurd (true≢false (sym h))
some_length (s ∷ ss) t h = omega arith

many : (b n : ℕ) → 64 ≤ b → 0 < n → 128 < (b + 1) * 2 ^ n
many b n h k = let p : 2 ^ 1 ≤ 2 ^ n = pow_mono k in omega (arith, mul-le 65 2 (b + 1) (2 ^ n) (omega arith) p)

pub wide_now : (t : Slot) (rows : List LinearConstraint) → t.sort ≡ Rat → conj_mentions row_mentions rows t ≡ true → clash_at t (conj_lines row_lines rows) ≡ true → RowsWide rows
wide_now t rows e m c = record {
  above = λ b w ss has. many b (length ss) (long b w (below_or b 64)) (some_length ss t (has t m e));
}
  where
    long : (b : ℕ) → AreWithin b (conj_lines row_lines rows) → (b < 64) ⊎ (64 ≤ b) → 64 ≤ b
    long b w (inr h) = h
    long b w (inl h) = absurd (true≢false (sym c ∙ no_clash t (conj_lines row_lines rows) (λ l i. within_more b 63 l (omega arith) (w l i))))

-- the list without a slot
but : Slot → List Slot → List Slot
but t [] = []
but t (s ∷ ss) = cond (same_slot s t) (but t ss) (s ∷ but t ss)

but_length : (t : Slot) (ss : List Slot) → length (but t ss) ≤ length ss
unfolding but
but_length t [] = omega arith
but_length t (s ∷ ss) = by (same_slot s t) (but_length t ss)
  where
    by : (b : Bool) → length (but t ss) ≤ length ss → length (cond b (but t ss) (s ∷ but t ss)) ≤ suc (length ss)
    by true h = omega arith
    by false h = omega arith

but_shorter : (t : Slot) (ss : List Slot) → stands_in ss t ≡ true → length (but t ss) < length ss
unfolding but
but_shorter t [] h = absurd (true≢false (sym h))
but_shorter t (s ∷ ss) h = by (same_slot s t) h (but_length t ss) (but_shorter t ss)
  where
    by : (b : Bool) → (b || stands_in ss t) ≡ true → length (but t ss) ≤ length ss → (stands_in ss t ≡ true → length (but t ss) < length ss) → length (cond b (but t ss) (s ∷ but t ss)) < suc (length ss)
    by true h k ih = omega arith
    by false h k ih = let i = ih h in omega arith

but_stands : (t u : Slot) (ss : List Slot) → same_slot u t ≡ false → stands_in ss u ≡ true → stands_in (but t ss) u ≡ true
unfolding but
but_stands t u [] n h = absurd (true≢false (sym h))
but_stands t u (s ∷ ss) n h = by (same_slot s t) refl (or_split (same_slot s u) _ h) (but_stands t u ss n)
  where
    by : (b : Bool) → same_slot s t ≡ b → (same_slot s u ≡ true) ⊎ (stands_in ss u ≡ true) → (stands_in ss u ≡ true → stands_in (but t ss) u ≡ true) → stands_in (cond b (but t ss) (s ∷ but t ss)) u ≡ true
    by true e (inl x) ih = absurd (true≢false (sym e ∙ ap (λ v. same_slot v t) (same_slot_is s u x) ∙ n))
    by true e (inr x) ih = ih x
    by false e (inl x) ih = or_left _ _ x
    by false e (inr x) ih = or_right (same_slot s u) _ (ih x)

doubled : (b m n : ℕ) → m < n → 128 < (2 * b + 1 + 1) * 2 ^ m → 128 < (b + 1) * 2 ^ n
doubled b m n lt h =
    let p : 2 ^ (m + 1) ≤ 2 ^ n = pow_mono (omega arith) in
    let q : 2 ^ (m + 1) ≡ 2 ^ m * 2 ^ 1 = pow-add 2 m 1 in
    omega (arith, mul-le (b + 1) (2 ^ (m + 1)) (b + 1) (2 ^ n) (omega arith) p, ap (λ z. (b + 1) * z) q)

pub wide_later : (t : Slot) (rows out : List LinearConstraint) → t.sort ≡ Rat → conj_mentions row_mentions rows t ≡ true
    → ((u : Slot) → conj_mentions row_mentions out u ≡ true → (same_slot u t ≡ false) × (conj_mentions row_mentions rows u ≡ true))
    → IsSubset (conj_lines row_lines out) (elim_at t (conj_lines row_lines rows)) → RowsWide out → RowsWide rows
wide_later t rows out e m only lines h = record {
  above = λ b w ss has. doubled b (length (but t ss)) (length ss) (but_shorter t ss (has t m e))
      (h.above (2 * b + 1) (λ l i. elim-within t (conj_lines row_lines rows) b w l (lines l i)) (but t ss)
      (λ u k r. let o = only u k in but_stands t u ss o.0 (has u o.1 r)));
}
