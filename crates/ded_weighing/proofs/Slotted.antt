-- Slots that are gathered from rows: they are all slots of the rows and no others, each once.
use Rattle.std.proofs.Common.{◌≡◌, Bool, true, false, cond, List, [], ◌∷◌, ◌++◌, ◌⊎◌, inl, inr, ⊎_elim, refl, sym, ◌∙◌, subst, true≢false}
use Rattle.std.specs.Prelude.{ℤ}
use Rattle.std.specs.List.{list_any}
use Rattle.ded_model.specs.declared.slot.Slot.{Slot}
use Rattle.ded_model.specs.Constraint.{LinearConstraint}
use Rattle.ded_model.specs.Point.{same_slot, stands_in, AreDistinctSlots}
use Rattle.ded_model.specs.Row.{row_mentions}
use Rattle.ded_model.proofs.Points.{same_slot_is, same_slot_refl}
use Rattle.ded_model.proofs.Rows.{or_left, or_right}
use Rattle.ded_model.proofs.Members.{or_split}
use Rattle.ded_model.proofs.LineSlots.{has_slot}
use Rattle.ded_weighing.specs.Columns.{HasSlots, HasAllSlots}
use Rattle.ded_weighing.specs.Gathered.{with_slot, with_slots, with_all_slots, AreOf}
use Rattle.ded_weighing.proofs.Shown.{fails}

-- ---- one slot at the end

pub stands_last : (ss : List Slot) (s t : Slot) → stands_in (ss ++ s ∷ []) t ≡ true → (stands_in ss t ≡ true) ⊎ (same_slot s t ≡ true)
stands_last [] s t h = ⊎_elim (λ (e : same_slot s t ≡ true). inr e) (λ e. absurd (true≢false (sym e))) (or_split (same_slot s t) false h)
stands_last (u ∷ ss) s t h = ⊎_elim
    (λ (e : same_slot u t ≡ true). inl (or_left (same_slot u t) _ e))
    (λ e. ⊎_elim (λ (k : stands_in ss t ≡ true). inl (or_right (same_slot u t) _ k)) (λ k. inr k) (stands_last ss s t e))
    (or_split (same_slot u t) _ h)

last_stands : (ss : List Slot) (s t : Slot) → (stands_in ss t ≡ true) ⊎ (same_slot s t ≡ true) → stands_in (ss ++ s ∷ []) t ≡ true
last_stands [] s t (inl h) = absurd (true≢false (sym h))
last_stands [] s t (inr h) = or_left (same_slot s t) false h
last_stands (u ∷ ss) s t (inl h) = ⊎_elim
    (λ (e : same_slot u t ≡ true). or_left (same_slot u t) _ e)
    (λ e. or_right (same_slot u t) _ (last_stands ss s t (inl e)))
    (or_split (same_slot u t) _ h)
last_stands (u ∷ ss) s t (inr h) = or_right (same_slot u t) _ (last_stands ss s t (inr h))

-- a slot that isn't there leaves all distinct
distinct_last : (ss : List Slot) (s : Slot) → AreDistinctSlots ss → stands_in ss s ≡ false → AreDistinctSlots (ss ++ s ∷ [])
distinct_last [] s d n = (refl, tt)
distinct_last (u ∷ ss) s d n = (
  fails (stands_in (ss ++ s ∷ []) u) (λ h. ⊎_elim
      (λ (e : stands_in ss u ≡ true). true≢false (sym e ∙ d.0))
      (λ e. true≢false (sym (or_left (same_slot u s) (stands_in ss s) (subst (λ v. same_slot u v ≡ true) (sym (same_slot_is s u e)) (same_slot_refl u))) ∙ n))
      (stands_last ss s u h)),
  distinct_last ss s d.1 (fails (stands_in ss s) (λ e. true≢false (sym (or_right (same_slot u s) _ e) ∙ n))),
)

-- ---- one slot added

slot_kept : (ss : List Slot) (s t : Slot) → stands_in ss t ≡ true → stands_in (with_slot ss s) t ≡ true
slot_kept ss s t h = go (stands_in ss s)
  where
    go : (b : Bool) → stands_in (cond b ss (ss ++ s ∷ [])) t ≡ true
    go true = h
    go false = last_stands ss s t (inl h)

slot_there : (ss : List Slot) (s t : Slot) → same_slot s t ≡ true → stands_in (with_slot ss s) t ≡ true
slot_there ss s t e = go (stands_in ss s) refl
  where
    go : (b : Bool) → stands_in ss s ≡ b → stands_in (cond b ss (ss ++ s ∷ [])) t ≡ true
    go true f = subst (λ u. stands_in ss u ≡ true) (same_slot_is s t e) f
    go false f = last_stands ss s t (inr e)

slot_only : (ss : List Slot) (s t : Slot) → stands_in (with_slot ss s) t ≡ true → (stands_in ss t ≡ true) ⊎ (same_slot s t ≡ true)
slot_only ss s t h = go (stands_in ss s) h
  where
    go : (b : Bool) → stands_in (cond b ss (ss ++ s ∷ [])) t ≡ true → (stands_in ss t ≡ true) ⊎ (same_slot s t ≡ true)
    go true k = inl k
    go false k = stands_last ss s t k

slot_distinct : (ss : List Slot) (s : Slot) → AreDistinctSlots ss → AreDistinctSlots (with_slot ss s)
slot_distinct ss s d = go (stands_in ss s) refl
  where
    go : (b : Bool) → stands_in ss s ≡ b → AreDistinctSlots (cond b ss (ss ++ s ∷ []))
    go true e = d
    go false e = distinct_last ss s d e

-- ---- those of coefficients

slots_kept : (ss : List Slot) (cs : List (Slot × ℤ)) (t : Slot) → stands_in ss t ≡ true → stands_in (with_slots ss cs) t ≡ true
slots_kept ss [] t h = h
slots_kept ss (c ∷ cs) t h = slots_kept (with_slot ss c.0) cs t (slot_kept ss c.0 t h)

slots_there : (ss : List Slot) (cs : List (Slot × ℤ)) → HasSlots (with_slots ss cs) cs
slots_there ss [] = λ s e. absurd (true≢false (sym e))
slots_there ss (c ∷ cs) = λ s e. ⊎_elim
    (λ (k : same_slot c.0 s ≡ true). slots_kept (with_slot ss c.0) cs s (slot_there ss c.0 s k))
    (λ k. slots_there (with_slot ss c.0) cs s k)
    (or_split (same_slot c.0 s) _ e)

slots_only : (ss : List Slot) (cs : List (Slot × ℤ)) (t : Slot) → stands_in (with_slots ss cs) t ≡ true → (stands_in ss t ≡ true) ⊎ (has_slot cs t ≡ true)
slots_only ss [] t h = inl h
slots_only ss (c ∷ cs) t h = ⊎_elim
    (λ (k : stands_in (with_slot ss c.0) t ≡ true). ⊎_elim (λ (e : stands_in ss t ≡ true). inl e) (λ e. inr (or_left (same_slot c.0 t) _ e)) (slot_only ss c.0 t k))
    (λ k. inr (or_right (same_slot c.0 t) _ k))
    (slots_only (with_slot ss c.0) cs t h)

slots_distinct : (ss : List Slot) (cs : List (Slot × ℤ)) → AreDistinctSlots ss → AreDistinctSlots (with_slots ss cs)
slots_distinct ss [] d = d
slots_distinct ss (c ∷ cs) d = slots_distinct (with_slot ss c.0) cs (slot_distinct ss c.0 d)

-- ---- those of rows

all_kept : (ss : List Slot) (rs : List LinearConstraint) (t : Slot) → stands_in ss t ≡ true → stands_in (with_all_slots ss rs) t ≡ true
all_kept ss [] t h = h
all_kept ss (r ∷ rs) t h = all_kept (with_slots ss r.coefs) rs t (slots_kept ss r.coefs t h)

pub gathered_all : (ss : List Slot) (rs : List LinearConstraint) → HasAllSlots (with_all_slots ss rs) rs
gathered_all ss [] = tt
gathered_all ss (r ∷ rs) = (λ s e. all_kept (with_slots ss r.coefs) rs s (slots_there ss r.coefs s e), gathered_all (with_slots ss r.coefs) rs)

all_only : (ss : List Slot) (rs : List LinearConstraint) (t : Slot) → stands_in (with_all_slots ss rs) t ≡ true → (stands_in ss t ≡ true) ⊎ (list_any (λ r. row_mentions r t) rs ≡ true)
unfolding row_mentions
all_only ss [] t h = inl h
all_only ss (r ∷ rs) t h = ⊎_elim
    (λ (k : stands_in (with_slots ss r.coefs) t ≡ true). ⊎_elim (λ (e : stands_in ss t ≡ true). inl e) (λ e. inr (or_left (has_slot r.coefs t) _ e)) (slots_only ss r.coefs t k))
    (λ k. inr (or_right (has_slot r.coefs t) _ k))
    (all_only (with_slots ss r.coefs) rs t h)

pub gathered_only : (rs : List LinearConstraint) → AreOf rs (with_all_slots [] rs)
gathered_only rs s h = ⊎_elim (λ (e : stands_in [] s ≡ true). absurd (true≢false (sym e))) (λ e. e) (all_only [] rs s h)

pub gathered_distinct : (ss : List Slot) (rs : List LinearConstraint) → AreDistinctSlots ss → AreDistinctSlots (with_all_slots ss rs)
gathered_distinct ss [] d = d
gathered_distinct ss (r ∷ rs) d = gathered_distinct (with_slots ss r.coefs) rs (slots_distinct ss r.coefs d)
