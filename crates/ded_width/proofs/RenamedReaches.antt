-- Renamed lines have no more digits.
--
-- Of slots that differ, at most one is a given slot. So a coefficient of the renamed line is one of the line, or 0.
use Rattle.std.proofs.Common.{◌≡◌, ℕ, zero, suc, ◌==◌, ◌&&◌, Bool, true, false, cond, List, [], ◌∷◌, ◌⊎◌, inl, inr, refl, sym, ap, ap₂, ◌∙◌, subst, true≢false, arith}
use Rattle.std.specs.Prelude.{ℤ, pos, ◌+ℤ◌}
use Rattle.std.proofs.lemmas.Bool.{and_right, or_parts}
use Rattle.std.proofs.lemmas.Bool.Decides.{nat_tests}
use lib.IntN.{+ℤ_idl}
use Rattle.ded_num.specs.Length.{IsWithin}
use Rattle.ded_num.proofs.Tests.{not_zero}
use Rattle.ded_model.specs.declared.slot.Slot.{Slot}
use Rattle.ded_model.specs.declared.slot.Sort.{Sort}
use Rattle.ded_model.specs.declared.slot.Sort.TheVariants.{Rat, Text}
use Rattle.ded_model.specs.Point.{same_slot, same_sort, stands_in, AreDistinctSlots}
use Rattle.ded_model.specs.Coefs.{coef_at, put}
use Rattle.ded_model.specs.Lines.{Line, In, put_at, renamed_coefs, renamed_lines, AreWithin}
use Rattle.ded_model.proofs.Points.{same_slot_is, same_slot_refl}
use Rattle.ded_model.proofs.Rows.{or_left, or_right}
use Rattle.ded_model.proofs.LineCoefs.{coef_at-put}
use Rattle.ded_model.proofs.LineSlots.{has_slot, put_slots, line_slots}
use Rattle.ded_model.proofs.Growth.{renamed-In}
use Rattle.ded_width.specs.Reach.{AreRationalLines}
use Rattle.ded_width.proofs.Reaches.{IsInReach}
use Rattle.ded_model.proofs.LineLengths.{zero_within, line_with-within}
use Rattle.ded_model.proofs.CoefLists.{mentioned}

-- ---- where a slot stands

-- the i-th of the slots is this one, and rational
abbrev is_at : List Slot → ℕ → Slot → Bool
is_at [] i t = false
is_at (s ∷ ss) zero t = same_sort s.sort Rat && same_slot s t
is_at (s ∷ ss) (suc i) t = is_at ss i t

-- it is so at one place alone, or at none
abbrev HasPlace : List Slot → Slot → Type 0
HasPlace ss t = ((n : ℕ) × ((i : ℕ) → is_at ss i t ≡ (i == n))) ⊎ ((i : ℕ) → is_at ss i t ≡ false)

not_above : (n : ℕ) → (0 == suc n) ≡ false
not_above n = grind (arith, nat_tests)

one_less : (i n : ℕ) → (suc i == suc n) ≡ (i == n)
one_less i n = grind (arith, nat_tests)

-- a slot that stands nowhere
absent : (ss : List Slot) (t : Slot) → stands_in ss t ≡ false → (i : ℕ) → is_at ss i t ≡ false
absent [] t h i = refl
absent (s ∷ ss) t h zero = and_right (same_sort s.sort Rat) (same_slot s t) (or_parts (same_slot s t) _ h).0
absent (s ∷ ss) t h (suc i) = absent ss t (or_parts (same_slot s t) _ h).1 i

place : (ss : List Slot) (t : Slot) → AreDistinctSlots ss → HasPlace ss t
place [] t d = inr (λ i. refl)
place (s ∷ ss) t d = go (same_slot s t) refl (same_sort s.sort Rat) refl (place ss t d.1)
  where
    others : same_slot s t ≡ true → (i : ℕ) → is_at ss i t ≡ false
    others e = absent ss t (subst (λ u. stands_in ss u ≡ false) (same_slot_is s t e) d.0)

    go : (b : Bool) → same_slot s t ≡ b → (r : Bool) → same_sort s.sort Rat ≡ r → HasPlace ss t → HasPlace (s ∷ ss) t
    go true e true f h = inl (0, one)
      where
        one : (i : ℕ) → is_at (s ∷ ss) i t ≡ (i == 0)
        one zero = ap₂ (λ a b. a && b) f e
        one (suc i) = others e i ∙ sym (not_zero i)
    go true e false f h = inr none
      where
        none : (i : ℕ) → is_at (s ∷ ss) i t ≡ false
        none zero = ap (λ a. a && same_slot s t) f
        none (suc i) = others e i
    go false e r f (inl h) = inl (suc h.0, later)
      where
        later : (i : ℕ) → is_at (s ∷ ss) i t ≡ (i == suc h.0)
        later zero = and_right (same_sort s.sort Rat) (same_slot s t) e ∙ sym (not_above h.0)
        later (suc i) = h.1 i ∙ sym (one_less i h.0)
    go false e r f (inr h) = inr later
      where
        later : (i : ℕ) → is_at (s ∷ ss) i t ≡ false
        later zero = and_right (same_sort s.sort Rat) (same_slot s t) e
        later (suc i) = h i

-- ---- renamed coefficients

coef_at-put_at : (ss : List Slot) (i : ℕ) (a : ℤ) (cs : List (Slot × ℤ)) (t : Slot) → coef_at (put_at ss i a cs) t ≡ cond (is_at ss i t) a (pos 0) +ℤ coef_at cs t
coef_at-put_at [] i a cs t = sym (+ℤ_idl (coef_at cs t))
coef_at-put_at (s ∷ ss) zero a cs t = go (same_sort s.sort Rat)
  where
    go : (b : Bool) → coef_at (cond b (put s a cs) cs) t ≡ cond (b && same_slot s t) a (pos 0) +ℤ coef_at cs t
    go true = coef_at-put s a cs t
    go false = sym (+ℤ_idl (coef_at cs t))
coef_at-put_at (s ∷ ss) (suc i) a cs t = coef_at-put_at ss i a cs t

-- at a slot that stands nowhere there is none
coef_at-nowhere : (ss : List Slot) (cs : List (Slot × ℤ)) (t : Slot) → ((i : ℕ) → is_at ss i t ≡ false) → coef_at (renamed_coefs ss cs) t ≡ pos 0
coef_at-nowhere ss [] t h = refl
coef_at-nowhere ss (c ∷ cs) t h =
    coef_at-put_at ss c.0.number c.1 (renamed_coefs ss cs) t ∙ ap (λ b. cond b c.1 (pos 0) +ℤ coef_at (renamed_coefs ss cs) t) (h c.0.number)
    ∙ +ℤ_idl (coef_at (renamed_coefs ss cs) t) ∙ coef_at-nowhere ss cs t h

-- each slot is rational
abbrev AllRational : List (Slot × ℤ) → Type 0
AllRational [] = Unit {0}
AllRational (c ∷ cs) = (c.0.sort ≡ Rat) × AllRational cs

and_true : (b : Bool) → b ≡ (b && true)
and_true true = refl
and_true false = refl

-- the slot of a number and the sort Rat
abbrev rational_slot : ℕ → Slot
rational_slot n = record { number = n; sort = Rat }

same_number : (s : Slot) (n : ℕ) → s.sort ≡ Rat → (s.number == n) ≡ same_slot s (rational_slot n)
same_number s n e = and_true (s.number == n) ∙ ap (λ x. (s.number == n) && same_sort x Rat) (sym e)

-- at the n-th slot there is the n-th coefficient
coef_at-place : (ss : List Slot) (cs : List (Slot × ℤ)) (t : Slot) (n : ℕ) → ((i : ℕ) → is_at ss i t ≡ (i == n)) → AllRational cs
    → coef_at (renamed_coefs ss cs) t ≡ coef_at cs (rational_slot n)
coef_at-place ss [] t n h r = refl
coef_at-place ss (c ∷ cs) t n h r =
    coef_at-put_at ss c.0.number c.1 (renamed_coefs ss cs) t
    ∙ ap₂ (λ b z. cond b c.1 (pos 0) +ℤ z) (h c.0.number ∙ same_number c.0 n r.0) (coef_at-place ss cs t n h r.1)

-- ---- renamed lines

-- coefficients of which each slot is rational
all_rational : (cs : List (Slot × ℤ)) → ((t : Slot) → has_slot cs t ≡ true → t.sort ≡ Rat) → AllRational cs
all_rational [] h = tt
all_rational (c ∷ cs) h = (h c.0 (or_left _ _ (same_slot_refl c.0)), all_rational cs (λ t e. h t (or_right (same_slot c.0 t) _ e)))

pub renamed_within : (ss : List Slot) (ls : List Line) (k : ℕ) → AreDistinctSlots ss → AreRationalLines ls → AreWithin k ls → AreWithin k (renamed_lines ss ls)
renamed_within ss ls k d r h l i =
    let m = renamed-In ss ls l i in
    line_with-within (renamed_coefs ss m.0.coefs) m.0.constant k (λ t. coef m.0 m.1 t (place ss t d)) (h m.0 m.1).constant l m.2
  where
    coef : (m : Line) → In m ls → (t : Slot) → HasPlace ss t → IsWithin k (coef_at (renamed_coefs ss m.coefs) t)
    coef m j t (inl p) = subst (IsWithin k) (sym (coef_at-place ss m.coefs t p.0 p.1 (all_rational m.coefs (λ u e. r m j u (mentioned m u e))))) ((h m j).coefs (rational_slot p.0))
    coef m j t (inr p) = subst (IsWithin k) (sym (coef_at-nowhere ss m.coefs t p)) (zero_within k)

-- they are over rational slots
put_at_rational : (ss : List Slot) (i : ℕ) (a : ℤ) (cs : List (Slot × ℤ)) (t : Slot) → (has_slot cs t ≡ true → t.sort ≡ Rat) → has_slot (put_at ss i a cs) t ≡ true → t.sort ≡ Rat
put_at_rational [] i a cs t r h = r h
put_at_rational (s ∷ ss) zero a cs t r h = go s.sort refl h
  where
    go : (x : Sort) → s.sort ≡ x → has_slot (cond (same_sort x Rat) (put s a cs) cs) t ≡ true → t.sort ≡ Rat
    go Rat e h = elim (put_slots s a cs t h) [ inl x ↦ sym (ap (λ (u : Slot). u.sort) (same_slot_is s t x)) ∙ e | inr x ↦ r x ]
    go Text e h = r h
put_at_rational (s ∷ ss) (suc i) a cs t r h = put_at_rational ss i a cs t r h

renamed_coefs_rational : (ss : List Slot) (cs : List (Slot × ℤ)) (t : Slot) → has_slot (renamed_coefs ss cs) t ≡ true → t.sort ≡ Rat
renamed_coefs_rational ss [] t h = absurd (true≢false (sym h))
renamed_coefs_rational ss (c ∷ cs) t h = put_at_rational ss c.0.number c.1 (renamed_coefs ss cs) t (renamed_coefs_rational ss cs t) h

renamed_rational : (ss : List Slot) (ls : List Line) → AreRationalLines (renamed_lines ss ls)
renamed_rational ss ls l i t m = let r = renamed-In ss ls l i in renamed_coefs_rational ss r.0.coefs t (line_slots (renamed_coefs ss r.0.coefs) r.0.constant l t r.2 m)

-- so renamed lines are in the same reach
pub renamed_in_reach : (ss : List Slot) (b q : ℕ) (ls : List Line) (c : Bool) → AreDistinctSlots ss → IsInReach b q ls c → IsInReach b q (renamed_lines ss ls) c
renamed_in_reach ss b q ls c d n = record { lines = renamed_within ss ls _ d n.rational n.lines; rational = renamed_rational ss ls; tight = n.tight }
