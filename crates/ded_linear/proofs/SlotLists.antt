-- The slots of rows in a list, and a slot taken from it.
use Rattle.std.proofs.Common.{◌≡◌, ℕ, ◌+◌, ◌-◌, ◌<◌, Bool, true, false, ◌||◌, cond, List, [], ◌∷◌, ◌++◌, length, get_or, sum_by, zero-add, length-take, arith, refl, sym, ap, subst, ◌∙◌, true≢false, inl, inr}
use Rattle.std.specs.Prelude.{ℤ}
use Rattle.std.specs.Bool.{Decides}
use Rattle.std.specs.List.{swap_remove}
use Rattle.std.proofs.Math.ListN.{length-set}
use Rattle.std.proofs.lemmas.List.Sums.{sum_by-swap_remove, sum_by_from}
use Rattle.std.proofs.lemmas.List.Folds.{list_any-append}
use Rattle.ded_model.specs.declared.slot.Slot.{Slot}
use Rattle.ded_model.specs.Constraint.{LinearConstraint}
use Rattle.ded_model.specs.Point.{same_slot, stands_in}
use Rattle.ded_model.specs.Row.{row_mentions}
use Rattle.ded_model.proofs.LineSlots.{has_slot}
use Rattle.ded_model.proofs.Members.{or_split}
use Rattle.ded_model.proofs.Points.{same_slot_is, same_slot_refl}
use Rattle.ded_model.proofs.Rows.{or_left, or_right}
use Rattle.ded_theory.specs.Conjunctions.{conj_mentions}
use Rattle.ded_linear.specs.SlotLists.{with_slot, with_slots, with_all_slots, AreOthers, IsTaken}
use Rattle.std.proofs.lemmas.Bool.{or_from}
use Rattle.ded_model.proofs.SlotLists.{same_slot-turned}

-- ---- a slot taken

-- how often a slot stands in the list
abbrev times : Slot → List Slot → ℕ
times u ss = sum_by (λ t. cond (same_slot t u) 1 0) ss

times_step : (u t : Slot) (ss : List Slot) → times u (t ∷ ss) ≡ cond (same_slot t u) 1 0 + times u ss
times_step u t ss = sum_by_from (λ x. cond (same_slot x u) 1 0) (0 + cond (same_slot t u) 1 0) ss ∙ ap (λ n. n + times u ss) (zero-add (cond (same_slot t u) 1 0))

stands_often : (u : Slot) (ss : List Slot) → Decides (stands_in ss u) (0 < times u ss)
stands_often u [] = (λ e. absurd (true≢false (sym e)), λ h. absurd (omega arith))
stands_often u (t ∷ ss) = subst (λ n. Decides (same_slot t u || stands_in ss u) (0 < n)) (sym (times_step u t ss)) (by (same_slot t u) (stands_often u ss))
  where
    by : (b : Bool) → Decides (stands_in ss u) (0 < times u ss) → Decides (b || stands_in ss u) (0 < cond b 1 0 + times u ss)
    by true d = (λ e. omega arith, λ h. refl)
    by false d = (λ e. let h = d.0 e in omega arith, λ h. d.1 (omega arith))

pub taken : (ss : List Slot) (i : ℕ) (t : Slot) (ts : List Slot) → i < length ss → t ≡ get_or ss i t → ts ≡ swap_remove ss i t → IsTaken ss t ts
taken ss i t ts lt is made = record {
  there = (stands_often t ss).1 (let e = count t in let one = here in omega (arith, e, one));
  left = λ u m n. (stands_often u ts).1 (let e = count u in let z = away u (same_slot-turned u t n) in let k = (stands_often u ss).0 m in omega (arith, e, z, k));
  fewer = λ u m. (stands_often u ss).1 (let e = count u in let k = (stands_often u ts).0 m in omega (arith, e, k));
  shorter = let e = ap length made in let k = size in omega arith;
}
  where
    size : length (swap_remove ss i t) ≡ length ss - 1
    size = simp (length-take, length-set) (omega arith)

    count : (u : Slot) → times u ts + cond (same_slot t u) 1 0 ≡ times u ss
    count u =
        ap (λ l. times u l + cond (same_slot t u) 1 0) made
        ∙ ap (λ x. times u (swap_remove ss i t) + cond (same_slot x u) 1 0) is
        ∙ sum_by-swap_remove (λ x. cond (same_slot x u) 1 0) ss i t lt

    here : ◌≡◌ {A = ℕ} (cond (same_slot t t) 1 0) 1
    here = ap (λ b. cond b 1 0) (same_slot_refl t)

    away : (u : Slot) → same_slot t u ≡ false → ◌≡◌ {A = ℕ} (cond (same_slot t u) 1 0) 0
    away u e = ap (λ b. cond b 1 0) e

-- ---- the slots of the rows

-- the slot s is none of the list, and the list has what it had
record IsMore (s : Slot) (ss ts : List Slot) : Type 0 where
  apart : stands_in ss s ≡ false → stands_in ts s ≡ false
  kept : (u : Slot) → stands_in ss u ≡ true → stands_in ts u ≡ true

more_refl : (s : Slot) (ss : List Slot) → IsMore s ss ss
more_refl s ss = record { apart = λ h. h; kept = λ u h. h }

more_trans : (s : Slot) (ss ts us : List Slot) → IsMore s ss ts → IsMore s ts us → IsMore s ss us
more_trans s ss ts us a b = record { apart = λ h. b.apart (a.apart h); kept = λ u h. b.kept u (a.kept u h) }

added : (s : Slot) (ss : List Slot) (t : Slot) (a b : Bool) → same_slot t s ≡ a → stands_in ss t ≡ b → IsMore s ss (cond (a || b) ss (ss ++ t ∷ []))
added s ss t true b e f = more_refl s ss
added s ss t false true e f = more_refl s ss
added s ss t false false e f = record {
  apart = λ h. list_any-append (λ u. same_slot u s) ss (t ∷ []) ∙ or_from _ _ h (or_from _ _ e refl);
  kept = λ u h. list_any-append (λ v. same_slot v u) ss (t ∷ []) ∙ or_left _ _ h;
}

there_now : (s : Slot) (ss : List Slot) (t : Slot) (a b : Bool) → same_slot t s ≡ a → stands_in ss t ≡ b → (a || stands_in (cond (a || b) ss (ss ++ t ∷ [])) t) ≡ true
there_now s ss t true b e f = refl
there_now s ss t false true e f = f
there_now s ss t false false e f = list_any-append (λ v. same_slot v t) ss (t ∷ []) ∙ or_right (stands_in ss t) _ (or_left _ _ (same_slot_refl t))

one_more : (s : Slot) (ss : List Slot) (t : Slot) → IsMore s ss (with_slot s ss t)
one_more s ss t = added s ss t (same_slot t s) (stands_in ss t) refl refl

some_more : (s : Slot) (ss : List Slot) (cs : List (Slot × ℤ)) → IsMore s ss (with_slots s ss cs)
some_more s ss [] = more_refl s ss
some_more s ss (c ∷ cs) = more_trans s ss (with_slot s ss c.0) (with_slots s ss (c ∷ cs)) (one_more s ss c.0) (some_more s (with_slot s ss c.0) cs)

all_more : (s : Slot) (ss : List Slot) (rows : List LinearConstraint) → IsMore s ss (with_all_slots s ss rows)
all_more s ss [] = more_refl s ss
all_more s ss (r ∷ rows) = more_trans s ss (with_slots s ss r.coefs) (with_all_slots s ss (r ∷ rows)) (some_more s ss r.coefs) (all_more s (with_slots s ss r.coefs) rows)

-- what stands there or is s still does
later : (s : Slot) (ss ts : List Slot) (u : Slot) → IsMore s ss ts → (same_slot u s || stands_in ss u) ≡ true → (same_slot u s || stands_in ts u) ≡ true
later s ss ts u m h = elim (or_split (same_slot u s) _ h) [ inl e ↦ or_left _ _ e | inr e ↦ or_right (same_slot u s) _ (m.kept u e) ]

coefs_cover : (s : Slot) (ss : List Slot) (cs : List (Slot × ℤ)) (u : Slot) → has_slot cs u ≡ true → (same_slot u s || stands_in (with_slots s ss cs) u) ≡ true
coefs_cover s ss [] u h = absurd (true≢false (sym h))
coefs_cover s ss (c ∷ cs) u h = elim (or_split (same_slot c.0 u) _ h) [
  | inl e ↦ later s (with_slot s ss c.0) (with_slots s ss (c ∷ cs)) u (some_more s (with_slot s ss c.0) cs)
      (subst (λ v. (same_slot v s || stands_in (with_slot s ss c.0) v) ≡ true) (same_slot_is c.0 u e) (there_now s ss c.0 (same_slot c.0 s) (stands_in ss c.0) refl refl))
  | inr e ↦ coefs_cover s (with_slot s ss c.0) cs u e
]

row_cover : (s : Slot) (ss : List Slot) (r : LinearConstraint) (u : Slot) → row_mentions r u ≡ true → (same_slot u s || stands_in (with_slots s ss r.coefs) u) ≡ true
unfolding row_mentions
row_cover s ss r u h = coefs_cover s ss r.coefs u h

rows_cover : (s : Slot) (ss : List Slot) (rows : List LinearConstraint) (u : Slot) → conj_mentions row_mentions rows u ≡ true → (same_slot u s || stands_in (with_all_slots s ss rows) u) ≡ true
rows_cover s ss [] u h = absurd (true≢false (sym h))
rows_cover s ss (r ∷ rows) u h = elim (or_split (row_mentions r u) _ h) [
  | inl e ↦ later s (with_slots s ss r.coefs) (with_all_slots s ss (r ∷ rows)) u (all_more s (with_slots s ss r.coefs) rows) (row_cover s ss r u e)
  | inr e ↦ rows_cover s (with_slots s ss r.coefs) rows u e
]

pub others : (s : Slot) (ss : List Slot) (rows : List LinearConstraint) → ss ≡ with_all_slots s [] rows → AreOthers s ss rows
others s ss rows e = subst (λ l. AreOthers s l rows) (sym e) (record { apart = (all_more s [] rows).apart refl; cover = rows_cover s [] rows })

-- ---- the others after a step

-- one of the others is another slot
pub taken_apart : (s : Slot) (ss : List Slot) (t : Slot) (ts : List Slot) (rows : List LinearConstraint) → AreOthers s ss rows → IsTaken ss t ts → same_slot s t ≡ false
taken_apart s ss t ts rows h k = same_slot-turned t s (go (same_slot t s) refl)
  where
    go : (b : Bool) → same_slot t s ≡ b → same_slot t s ≡ false
    go false e = e
    go true e = absurd (true≢false (sym k.there ∙ ap (stands_in ss) (same_slot_is t s e) ∙ h.apart))

-- rows that mention what these do, but not the slot taken
pub others_left : (s : Slot) (ss : List Slot) (t : Slot) (ts : List Slot) (rows out : List LinearConstraint) → AreOthers s ss rows → IsTaken ss t ts
    → ((u : Slot) → conj_mentions row_mentions out u ≡ true → (same_slot u t ≡ false) × (conj_mentions row_mentions rows u ≡ true)) → AreOthers s ts out
others_left s ss t ts rows out h k only = record {
  apart = go (stands_in ts s) refl;
  cover = λ u m. let r = only u m in elim (or_split (same_slot u s) _ (h.cover u r.1)) [ inl e ↦ or_left _ _ e | inr e ↦ or_right (same_slot u s) _ (k.left u e r.0) ];
}
  where
    go : (b : Bool) → stands_in ts s ≡ b → stands_in ts s ≡ false
    go false e = e
    go true e = absurd (true≢false (sym (k.fewer s e) ∙ h.apart))

-- rows that don't mention the slot taken
pub others_same : (s : Slot) (ss : List Slot) (t : Slot) (ts : List Slot) (rows : List LinearConstraint) → AreOthers s ss rows → IsTaken ss t ts → conj_mentions row_mentions rows t ≡ false → AreOthers s ts rows
others_same s ss t ts rows h k n = others_left s ss t ts rows rows h k (λ u m. (go u m (same_slot u t) refl, m))
  where
    go : (u : Slot) → conj_mentions row_mentions rows u ≡ true → (b : Bool) → same_slot u t ≡ b → same_slot u t ≡ false
    go u m false e = e
    go u m true e = absurd (true≢false (sym m ∙ ap (conj_mentions row_mentions rows) (same_slot_is u t e) ∙ n))

-- with none left the rows mention the slot alone
pub none_left : (s : Slot) (ss : List Slot) (rows : List LinearConstraint) → AreOthers s ss rows → length ss ≡ 0 → (t : Slot) → conj_mentions row_mentions rows t ≡ true → same_slot t s ≡ true
none_left s [] rows h e t m = elim (or_split (same_slot t s) false (h.cover t m)) [ inl x ↦ x | inr x ↦ absurd (true≢false (sym x)) ]
none_left s (u ∷ ss) rows h e t m = absurd (omega arith)
