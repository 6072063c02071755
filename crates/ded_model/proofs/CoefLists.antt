-- Coefficients in ascending order of their slots.
use Rattle.std.proofs.Common.{◌≡◌, ◌≤◌, ◌<◌, nat_lt, ℕ, Bool, true, false, List, [], ◌∷◌, map, arith, refl, sym, subst, cond, zero, suc, drop, ap, ◌∙◌}
use Rattle.std.specs.Prelude.{ℤ, ◌+ℤ◌, ◌*ℤ◌}
use Rattle.std.proofs.Math.IntN.{*ℤ-zero}
use Rattle.ded_num.specs.Length.{IsWithin}
use Rattle.ded_num.proofs.Lengths.{within_from_length}
use Rattle.ded_model.specs.declared.slot.Slot.{Slot}
use Rattle.ded_model.specs.Point.{same_slot, stands_in}
use Rattle.ded_model.specs.Coefs.{AllAbove, AreCoefs, coef_at, put}
use Rattle.ded_model.specs.Width.{greatest_length, with_slots}
use Rattle.ded_model.proofs.CoefLemmas.{coef_at-here, coef_at-past}
use Rattle.ded_model.proofs.LineLengths.{zero_within}
use Rattle.ded_model.proofs.Rows.{or_right}
use Rattle.ded_model.specs.Row.{row_mentions}
use Rattle.ded_model.specs.Lines.{Line}
use Rattle.ded_model.proofs.LineSlots.{has_slot}
use Rattle.ded_model.specs.Normal.{DivideWhole, coefs_over}
use Rattle.ded_model.proofs.LineCoefs.{AllNonzero}

-- the coefficient of a slot is one of the numbers, or 0
pub coef_within : (cs : List (Slot × ℤ)) (s : Slot) (k : ℕ) → AreCoefs cs → greatest_length (map (λ c. c.1) cs) ≤ k → IsWithin k (coef_at cs s)
coef_within [] s k c h = zero_within k
coef_within (x ∷ cs) s k c h = go (same_slot x.0 s) refl (coef_within cs s k c.4 (omega (arith, h)))
  where
    go : (b : Bool) → same_slot x.0 s ≡ b → IsWithin k (coef_at cs s) → IsWithin k (coef_at (x ∷ cs) s)
    go true e ih = subst (IsWithin k) (sym (coef_at-here s x cs e c.3)) (within_from_length x.1 k (omega (arith, h)))
    go false e ih = subst (IsWithin k) (sym (coef_at-past s x cs e)) ih

-- a slot stays in the list
pub with_slots-kept : (cs : List (Slot × ℤ)) (ss : List Slot) (s : Slot) → stands_in ss s ≡ true → stands_in (with_slots cs ss) s ≡ true
with_slots-kept [] ss s h = h
with_slots-kept (c ∷ cs) ss s h = go (λ xs i. with_slots-kept cs xs s i) (stands_in ss c.0)
  where
    go : ((xs : List Slot) → stands_in xs s ≡ true → stands_in (with_slots cs xs) s ≡ true) → (b : Bool) → stands_in (with_slots cs (cond b ss (c.0 ∷ ss))) s ≡ true
    go ih true = ih ss h
    go ih false = ih (c.0 ∷ ss) (or_right (same_slot c.0 s) (stands_in ss s) h)

pub mentioned : (l : Line) (t : Slot) → has_slot l.coefs t ≡ true → row_mentions l t ≡ true
unfolding row_mentions
mentioned l t h = h

-- what is left of a list of coefficients is one
pub drop-kept : (xs : List (Slot × ℤ)) (i : ℕ) → AreCoefs xs → AreCoefs (drop i xs)
drop-kept xs zero h = h
drop-kept [] (suc i) h = tt
drop-kept (x ∷ xs) (suc i) h = drop-kept xs i h.4

pub over_nonzero : (k : ℤ) (cs : List (Slot × ℤ)) → DivideWhole k cs → AllNonzero cs → AllNonzero (coefs_over k cs)
over_nonzero k [] w h = tt
over_nonzero k (c ∷ cs) w h = (λ e. h.0 (sym w.0 ∙ ap (λ z. k *ℤ z) e ∙ *ℤ-zero k), over_nonzero k cs w.1 h.1)

-- putting keeps above a lesser number
pub AllAbove-put : (n : ℕ) (s : Slot) (z : ℤ) (cs : List (Slot × ℤ)) → n < s.number → AllAbove n cs → AllAbove n (put s z cs)
AllAbove-put n s z [] h k = (h, tt)
AllAbove-put n s z (c ∷ cs) h k = go (same_slot c.0 s) (nat_lt s.number c.0.number) (AllAbove-put n s z cs h k.1)
  where
    go : (b d : Bool) → AllAbove n (put s z cs) → AllAbove n (cond b ((c.0, z +ℤ c.1) ∷ cs) (cond d ((s, z) ∷ c ∷ cs) (c ∷ put s z cs)))
    go true d i = k
    go false true i = (h, k)
    go false false i = (k.0, i)
