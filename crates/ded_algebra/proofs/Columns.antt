-- Columns read into slots: each column has its slot, of its sort, and two columns have two slots.
use Rattle.std.proofs.Common.{◌≡◌, ℕ, ◌+◌, ◌≤◌, Bool, true, false, ◌||◌, List, [], ◌∷◌, ◌⊎◌, inl, inr, arith, refl, sym, ap, ◌∙◌, subst, true≢false}
use Rattle.ded_model.specs.declared.slot.Slot.{Slot}
use Rattle.ded_model.specs.declared.name.Column.{Column}
use Rattle.ded_model.specs.Point.{same_slot, stands_in, AreDistinctSlots}
use Rattle.ded_model.specs.Known.{heading_slots}
use Rattle.ded_model.specs.Renaming.{renamed}
use Rattle.ded_model.proofs.Points.{same_slot_is, same_slot_refl}
use Rattle.ded_model.proofs.Rows.{or_left, or_right}
use Rattle.ded_algebra.specs.Evaluation.{HaveSorts}
use Rattle.ded_algebra.specs.Columns.{column_pairs}

-- s is a column's slot, the columns having the numbers from k on, and u is the slot that it is read into
abbrev pub IsRead : ℕ → List Column → List Slot → Slot → Slot → Type 0
IsRead k [] ss s u = ⊥
IsRead k (c ∷ h) [] s u = ⊥
IsRead k (c ∷ h) (v ∷ ss) s u = ((s ≡ record { number = k; sort = c.sort }) × (u ≡ v)) ⊎ IsRead (k + 1) h ss s u

-- a column's slot is read into the slot that the pairs give it
pub read : (k : ℕ) (h : List Column) (ss : List Slot) (s : Slot) → HaveSorts h ss → stands_in (heading_slots k h) s ≡ true → IsRead k h ss s (renamed (column_pairs k ss) s)
read k [] ss s j e = absurd (true≢false (sym e))
read k (c ∷ h) [] s j e = j
read k (c ∷ h) (v ∷ ss) s j e = go (same_slot (record { number = k; sort = c.sort }) s) refl e (read (k + 1) h ss s j.1)
  where
    here : (b : Bool) → same_slot (record { number = k; sort = c.sort }) s ≡ b → same_slot (record { number = k; sort = v.sort }) s ≡ b
    here b f = ap (λ t. same_slot (record { number = k; sort = t }) s) (sym j.0) ∙ f

    go : (b : Bool) → same_slot (record { number = k; sort = c.sort }) s ≡ b → (b || stands_in (heading_slots (k + 1) h) s) ≡ true → (stands_in (heading_slots (k + 1) h) s ≡ true → IsRead (k + 1) h ss s (renamed (column_pairs (k + 1) ss) s)) → IsRead k (c ∷ h) (v ∷ ss) s (renamed (column_pairs k (v ∷ ss)) s)
    go true f g ih = inl (sym (same_slot_is (record { number = k; sort = c.sort }) s f), rw (here true f) refl)
    go false f g ih = inr (subst (IsRead (k + 1) h ss s) (sym (rw (here false f) refl)) (ih g))

-- the sorts are the same
pub read_sort : (k : ℕ) (h : List Column) (ss : List Slot) (s u : Slot) → HaveSorts h ss → IsRead k h ss s u → u.sort ≡ s.sort
read_sort k [] ss s u j r = absurd r
read_sort k (c ∷ h) [] s u j r = absurd r
read_sort k (c ∷ h) (v ∷ ss) s u j (inl r) = ap (λ (x : Slot). x.sort) r.1 ∙ sym j.0 ∙ sym (ap (λ (x : Slot). x.sort) r.0)
read_sort k (c ∷ h) (v ∷ ss) s u j (inr r) = read_sort (k + 1) h ss s u j.1 r

-- it is one of the slots
pub read_into : (k : ℕ) (h : List Column) (ss : List Slot) (s u : Slot) → IsRead k h ss s u → stands_in ss u ≡ true
read_into k [] ss s u r = absurd r
read_into k (c ∷ h) [] s u r = absurd r
read_into k (c ∷ h) (v ∷ ss) s u (inl r) = or_left (same_slot v u) (stands_in ss u) (ap (same_slot v) r.1 ∙ same_slot_refl v)
read_into k (c ∷ h) (v ∷ ss) s u (inr r) = or_right (same_slot v u) (stands_in ss u) (read_into (k + 1) h ss s u r)

-- numbers go up
pub read_number : (k : ℕ) (h : List Column) (ss : List Slot) (s u : Slot) → IsRead k h ss s u → k ≤ s.number
read_number k [] ss s u r = absurd r
read_number k (c ∷ h) [] s u r = absurd r
read_number k (c ∷ h) (v ∷ ss) s u (inl r) = let e : s.number ≡ k = ap (λ (x : Slot). x.number) r.0 in omega (arith, e)
read_number k (c ∷ h) (v ∷ ss) s u (inr r) = let l = read_number (k + 1) h ss s u r in omega (arith, l)

-- two columns that are read into one slot are one
pub read_once : (k : ℕ) (h : List Column) (ss : List Slot) (s t u : Slot) → AreDistinctSlots ss → IsRead k h ss s u → IsRead k h ss t u → s ≡ t
read_once k [] ss s t u d r q = absurd r
read_once k (c ∷ h) [] s t u d r q = absurd r
read_once k (c ∷ h) (v ∷ ss) s t u d (inl r) (inl q) = r.0 ∙ sym q.0
read_once k (c ∷ h) (v ∷ ss) s t u d (inl r) (inr q) = absurd (true≢false (sym (read_into (k + 1) h ss t u q) ∙ ap (stands_in ss) r.1 ∙ d.0))
read_once k (c ∷ h) (v ∷ ss) s t u d (inr r) (inl q) = absurd (true≢false (sym (read_into (k + 1) h ss s u r) ∙ ap (stands_in ss) q.1 ∙ d.0))
read_once k (c ∷ h) (v ∷ ss) s t u d (inr r) (inr q) = read_once (k + 1) h ss s t u d.1 r q
