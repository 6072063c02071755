-- Where an argument is not long, its row has numbers of at most 63 digits.
--
-- The coefficients of the row are the denominator, at a new slot, and the negatives of those of the names.
use Rattle.std.proofs.Common.{◌≡◌, ℕ, ◌*◌, ◌^◌, ◌<◌, ◌≤◌, nat_lt, Bool, true, false, cond, List, [], ◌∷◌, map, arith, refl, sym, ◌∙◌, subst, true≢false}
use Rattle.std.specs.Prelude.{ℤ, pos, ◌+ℤ◌, ◌<ℤ◌}
use lib.IntN.{neg_ℤ}
use Prim.Native.Nat.{◌∣◌}
use Rattle.std.proofs.lemmas.Int.{ints}
use Rattle.std.proofs.lemmas.Nat.Gcd.{dvd-zero}
use Rattle.ded_num.proofs.Signs.{unsigned_abs-neg}
use Rattle.ded_model.specs.declared.slot.Slot.{Slot}
use Rattle.ded_model.specs.declared.row.RowOp.TheVariants.{Zero}
use Rattle.ded_model.specs.Sum.{denominator}
use Rattle.ded_model.specs.Coefs.{AllAbove, coef_at, put, put_all, nonzero}
use Rattle.ded_model.specs.LongRows.{coefficients, is_long_row}
use Rattle.ded_model.specs.Normal.{numbers}
use Rattle.ded_model.specs.Point.{same_slot}
use Rattle.ded_model.specs.Scanned.{argument_row, above_coefs}
use Rattle.ded_model.specs.Slotted.{SlotScope, slot_of, add_parts}
use Rattle.ded_model.proofs.CoefLemmas.{lesser_slot, coef_at-here, coef_at-past, coef_at-above}
use Rattle.ded_model.proofs.Definable.{neg_times}
use Rattle.ded_model.proofs.LineCoefs.{nonzero-nonzero, coef_at-nonzero}
use Rattle.ded_model.proofs.Points.{same_slot_is, same_slot_refl}
use Rattle.ded_model.proofs.Given.{denominator_is}
use Rattle.ded_row.specs.Multiples.{coefs_times}
use Rattle.ded_resolve.specs.Scope.{AreSummable}
use Rattle.ded_resolve.proofs.Ascending.{Ascend, ascend-nonzero}
use Rattle.ded_resolve.proofs.Summing.{one_part, rest_summable, ascend-parts}
use Rattle.ded_resolve.proofs.ShortRows.{IsFit, AllShort, row_short}
use Rattle.ded_resolve.proofs.SlotNumbers.{AllHave}
use Rattle.ded_width.proofs.ArgumentSlots.{ascend}
use Rattle.ded_width.proofs.Ties.{some_denominator, above_same, put_all-times, tied_nonzero}

-- ---- what 0, negatives and the coefficients of names have

module _ (P : ℤ → Type 0) (zero_has : P (pos 0)) (turned_has : (z : ℤ) → P z → P (neg_ℤ z)) where
  either : (b : Bool) (x y : ℤ) → P x → P y → P (cond b x y)
  either true x y h k = h
  either false x y h k = k

  -- at each slot of a sum
  slots_have : (scope : SlotScope) (cs : List (List ℕ × ℤ)) → AreSummable scope cs → AllHave P (coefficients cs) → (s : Slot) → P (coef_at (add_parts scope cs) s)
  slots_have scope [] h all s = zero_has
  slots_have scope (c ∷ cs) h all s =
      subst P (sym (one_part scope c cs h s)) (either (same_slot (slot_of scope c.0) s) c.1 (coef_at (add_parts scope cs) s) all.0 (slots_have scope cs (rest_summable scope c cs h) all.1 s))

  -- of an ascending list, by its slots
  list_has : (cs : List (Slot × ℤ)) → Ascend cs → ((s : Slot) → P (coef_at cs s)) → AllHave P (map (λ c. c.1) cs)
  list_has [] h k = tt
  list_has (c ∷ cs) h k = (subst P (coef_at-here c.0 c cs (same_slot_refl c.0) h.1) (k c.0), list_has cs h.2 (λ s. go s (same_slot c.0 s) refl))
    where
      go : (s : Slot) (b : Bool) → same_slot c.0 s ≡ b → P (coef_at cs s)
      go s true e = subst P (sym (coef_at-above s cs (subst (λ t. AllAbove t.number cs) (same_slot_is c.0 s e) h.1))) zero_has
      go s false e = subst P (coef_at-past s c cs e) (k s)

  times_have : (cs : List (Slot × ℤ)) → AllHave P (map (λ c. c.1) cs) → AllHave P (map (λ c. c.1) (coefs_times (neg_ℤ (pos 1)) cs))
  times_have [] h = tt
  times_have (c ∷ cs) h = (subst P (sym (neg_times c.1)) (turned_has c.1 h.0), times_have cs h.1)

  -- with a new slot
  put_has : (u : Slot) (z : ℤ) (cs : List (Slot × ℤ)) → P z → above_coefs cs ≤ u.number → AllHave P (map (λ c. c.1) cs) → AllHave P (map (λ c. c.1) (put u z cs))
  put_has u z [] p a h = (p, tt)
  put_has u z (c ∷ cs) p a h = go (same_slot c.0 u) (lesser_slot c.0 u (omega (arith, a))) (nat_lt u.number c.0.number) (put_has u z cs p (omega (arith, a)) h.1)
    where
      go : (b : Bool) → b ≡ false → (d : Bool) → AllHave P (map (λ c. c.1) (put u z cs)) → AllHave P (map (λ c. c.1) (cond b ((c.0, z +ℤ c.1) ∷ cs) (cond d ((u, z) ∷ c ∷ cs) (c ∷ put u z cs))))
      go true e d i = absurd (true≢false e)
      go false e true i = (p, h)
      go false e false i = (h.0, i)

  -- the coefficients of the row of an argument
  row_has : (scope : SlotScope) (cs : List (List ℕ × ℤ)) (u : Slot) (d : ℤ) → AreSummable scope cs → above_coefs (nonzero (add_parts scope cs)) ≤ u.number → P d → AllHave P (coefficients cs)
      → AllHave P (map (λ c. c.1) (put u d (put_all (neg_ℤ (pos 1)) (nonzero (add_parts scope cs)) [])))
  row_has scope cs u d h l p all =
      let xs = nonzero (add_parts scope cs) in
      let up : Ascend xs = ascend-nonzero (add_parts scope cs) (ascend-parts scope cs h) in
      subst (λ ys. AllHave P (map (λ c. c.1) (put u d ys))) (sym (put_all-times (neg_ℤ (pos 1)) xs (ascend xs up)))
      (put_has u d (coefs_times (neg_ℤ (pos 1)) xs) p (subst (λ m. m ≤ u.number) (sym (above_same (neg_ℤ (pos 1)) xs)) l)
      (times_have xs (list_has xs up (λ s. subst P (sym (coef_at-nonzero (add_parts scope cs) s)) (slots_have scope cs h all s)))))

-- ---- short rows

zero_turned : (z : ℤ) → z ≡ pos 0 → neg_ℤ z ≡ pos 0
zero_turned z e = omega (arith, ints)

fit_zero : (g : ℕ) → 0 < g → IsFit g (pos 0)
fit_zero g h = record { divides = dvd-zero g; below = omega arith }

fit_turned : (g : ℕ) (z : ℤ) → IsFit g z → IsFit g (neg_ℤ z)
fit_turned g z h = record { divides = subst (λ n. g ∣ n) (sym (unsigned_abs-neg z)) h.divides; below = subst (λ n. n < 2 ^ 63 * g) (sym (unsigned_abs-neg z)) h.below }

-- a sum over m at a new slot, of which no number is long
pub record IsShortSum (scope : SlotScope) (parts : List (List ℕ × ℤ)) (constant over : ℤ) : Type 0 where
  pub summable : AreSummable scope parts
  pub positive : pos 0 <ℤ over
  pub short : is_long_row (over ∷ coefficients parts) constant ≡ false

pub argument_short : (scope : SlotScope) (parts : List (List ℕ × ℤ)) (constant over : ℤ) (u : Slot) → IsShortSum scope parts constant over → above_coefs (nonzero (add_parts scope parts)) ≤ u.number
    → AllShort (numbers (argument_row u (record { coefs = nonzero (add_parts scope parts); constant = constant; over = over })))
argument_short scope parts constant over u h l =
    let xs = nonzero (add_parts scope parts) in
    let d = pos (denominator over) in
    let is : d ≡ over = denominator_is over h.positive in
    row_short (over ∷ coefficients parts) constant Zero (neg_ℤ constant) h.short (put u d (put_all (neg_ℤ (pos 1)) xs []))
    (tied_nonzero u d xs (some_denominator over) (ascend xs (ascend-nonzero (add_parts scope parts) (ascend-parts scope parts h.summable))) (nonzero-nonzero (add_parts scope parts)) l)
    (λ all. row_has (λ z. z ≡ pos 0) refl zero_turned scope parts u d h.summable l (is ∙ all.0) all.1)
    (λ g above all. (fit_turned g constant all.0, row_has (IsFit g) (fit_zero g above) (fit_turned g) scope parts u d h.summable l (subst (IsFit g) (sym is) all.1.0) all.1.1))
