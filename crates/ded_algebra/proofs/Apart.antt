-- Slots of which no two are the same, one more at the end.
use Rattle.std.proofs.Common.{◌≡◌, ℕ, ◌+◌, ◌≤◌, ◌<◌, Bool, true, false, ◌||◌, List, [], ◌∷◌, ◌++◌, arith, inl, inr, refl, sym, ap, subst, ◌∙◌, true≢false}
use Rattle.ded_num.proofs.Tests.{or_neither_last}
use Rattle.ded_model.specs.declared.slot.Slot.{Slot}
use Rattle.ded_model.specs.Point.{same_slot, stands_in, AreDistinctSlots}
use Rattle.ded_model.proofs.Points.{same_slot_is}
use Rattle.ded_model.proofs.Members.{or_split}
use Rattle.ded_algebra.specs.Gathering.{IsApart}
use Rattle.ded_model.proofs.Bools.{or_false_left, or_false_right}
use Rattle.ded_model.proofs.SlotLists.{same_slot-turned}

stands_more : (ss : List Slot) (u t : Slot) → stands_in (ss ++ u ∷ []) t ≡ (stands_in ss t || (same_slot u t || false))
stands_more [] u t = refl
stands_more (s ∷ ss) u t = ap (λ b. same_slot s t || b) (stands_more ss u t) ∙ sym (assoc (same_slot s t) (stands_in ss t) _)
  where
    assoc : (a b c : Bool) → ((a || b) || c) ≡ (a || (b || c))
    assoc true b c = refl
    assoc false b c = refl

distinct_more : (ss : List Slot) (u : Slot) → AreDistinctSlots ss → stands_in ss u ≡ false → AreDistinctSlots (ss ++ u ∷ [])
distinct_more [] u a h = (refl, tt)
distinct_more (s ∷ ss) u a h =
    (stands_more ss u s ∙ or_neither_last (stands_in ss s) (same_slot u s) a.0 (same_slot-turned s u (or_false_left _ _ h)), distinct_more ss u a.1 (or_false_right (same_slot s u) _ h))

below_more : (n m : ℕ) (ss : List Slot) (u : Slot) → n ≤ m → u.number < m → ((s : Slot) → stands_in ss s ≡ true → s.number < n) → (s : Slot) → stands_in (ss ++ u ∷ []) s ≡ true → s.number < m
below_more n m ss u i j h s e = elim (or_split (stands_in ss s) _ (sym (stands_more ss u s) ∙ e)) [
  | inl k ↦ (let l = h s k in omega (arith, i, l))
  | inr k ↦ elim (or_split (same_slot u s) false k) [ inl x ↦ subst (λ (t : Slot). t.number < m) (same_slot_is u s x) j | inr x ↦ absurd (true≢false (sym x)) ]
]

-- none
pub apart_none : (n : ℕ) → IsApart n []
apart_none n = record { distinct = tt; below = λ s h. absurd (true≢false (sym h)) }

-- one that doesn't stand there
pub apart_old : (n : ℕ) (ss : List Slot) (u : Slot) → IsApart n ss → u.number < n → stands_in ss u ≡ false → IsApart n (ss ++ u ∷ [])
apart_old n ss u a i h = record { distinct = distinct_more ss u a.distinct h; below = below_more n n ss u (omega arith) i a.below }

-- one of a number that is above all
pub apart_new : (n : ℕ) (ss : List Slot) (u : Slot) → IsApart n ss → u.number ≡ n → IsApart (n + 1) (ss ++ u ∷ [])
apart_new n ss u a e = record { distinct = distinct_more ss u a.distinct (absent (stands_in ss u) refl); below = below_more n (n + 1) ss u (omega arith) (omega (arith, e)) a.below }
  where
    absent : (b : Bool) → stands_in ss u ≡ b → stands_in ss u ≡ false
    absent false f = f
    absent true f = absurd (let l = a.below u f in no l)
      where
        no : u.number < n → ⊥
        no l = omega (arith, l, e)
