-- An atom of a name holds exactly where its plan does.
--
-- The plan scans the name at the atom's own slots, and at new ones for the arguments that are no slots or stand there already.
-- An atom ties each new slot to its argument, and the new slots are projected away. Where the atom holds, the new slots may be
-- given the arguments' values, as none of them is mentioned elsewhere; so the scan and the ties hold. Where the plan holds,
-- the ties say that the new slots have these values, so the scan is of the atom's arguments.
use Rattle.std.proofs.Common.{◌≡◌, ℕ, suc, ◌<◌, ◌≤◌, Bool, true, false, cond, List, [], ◌∷◌, ◌++◌, arith, refl, sym, ap, subst, ◌∙◌, map, inl, inr}
use Rattle.std.specs.Prelude.{ℤ, IsTrue, ◌↔◌}
use Rattle.std.specs.List.{list_any}
use Rattle.ded_model.specs.declared.slot.Slot.{Slot}
use Rattle.ded_model.specs.declared.slot.Sort.{Sort}
use Rattle.ded_model.specs.declared.slot.Sort.TheVariants.{Rat, Text}
use Rattle.ded_model.specs.declared.goal.Place.{Place}
use Rattle.ded_model.specs.declared.goal.Place.TheVariants.{At, Value, Quoted}
use Rattle.ded_model.specs.Point.{slot, AllBytes, Point, IsPoint, IsSameAt, same_slot, stands_in, AreDistinctSlots, number_at, text_at}
use Rattle.ded_model.specs.Logic.{atom, logics, Sat, SatEvery}
use Rattle.ded_model.specs.Goal.{place_mentions}
use Rattle.ded_model.specs.PlanForm.{scan, PlanForm, PlanAtomHolds}
use Rattle.ded_model.specs.Row.{Atom, atom_holds, tuple_holds}
use Rattle.ded_model.specs.Scanned.{Scanned, kept, fresh, same_atom, scanned_after, scanned, scanned_slots, tied_atoms, fresh_slots, above_coefs, above_place, first_free}
use Rattle.ded_model.specs.Value.{sorted_value, slot_value, place_value, overs, Meaning, NameHolds}
use Rattle.ded_model.proofs.Points.{same_slot_is, and_left}
use Rattle.ded_model.proofs.Values.{place_value-same, slot_value-positive, place_value-positive, overs-positive}
use Rattle.ded_model.proofs.Sats.{Respects}
use Rattle.ded_model.proofs.Members.{or_split}
use Rattle.ded_model.proofs.Rows.{or_left, or_right}
use Rattle.ded_algebra.specs.Compile.{row_plan, joined, projected, member_plan}
use Rattle.ded_algebra.specs.Compiled.{place_sort, IsByteText, AreByteTexts}
use Rattle.ded_model.proofs.PointTexts.{point-bytes}
use Rattle.ded_algebra.proofs.EqualValues.{IsEqualValue, same-equal, equal_trans, equal_sym, AreEqualValues, equals_sym, NameHolds-equal}
use Rattle.ded_algebra.proofs.Ties.{tie, tie_holds}
use Rattle.ded_algebra.proofs.Projections.{IsValueFor, Values, slots_of, AreValuesFor, HaveValues, reached, witness}

-- ---- how an argument is scanned

abbrev pub IsScannedAs : Place → Scanned → Type 0
IsScannedAs t (fresh u a) = (u.sort ≡ place_sort t) × (a ≡ tie u t)
IsScannedAs (At s) (kept u) = u ≡ s
IsScannedAs (Value t) (kept u) = ⊥
IsScannedAs (Quoted x) (kept u) = ⊥

abbrev pub AreScannedAs : List Place → List Scanned → Type 0
AreScannedAs [] [] = Unit {0}
AreScannedAs [] (g ∷ gs) = ⊥
AreScannedAs (t ∷ ts) [] = ⊥
AreScannedAs (t ∷ ts) (g ∷ gs) = IsScannedAs t g × AreScannedAs ts gs

either_scanned : (b : Bool) (s : Slot) (n : ℕ) (ts : List Place) (new old : List Scanned) → AreScannedAs ts new → AreScannedAs ts old
    → AreScannedAs (At s ∷ ts) (cond b (fresh (record { number = n; sort = s.sort }) (same_atom n s.sort s) ∷ new) (kept s ∷ old))
either_scanned true s n ts new old h k = ((refl, refl), h)
either_scanned false s n ts new old h k = (refl, k)

-- the places of an atom are scanned so
pub scanned-are : (done : List Slot) (n : ℕ) (ts : List Place) → AreScannedAs ts (scanned_after done n ts)
scanned-are done n [] = tt
scanned-are done n (At s ∷ ts) =
    either_scanned (stands_in done s) s n ts _ _ (scanned-are (done ++ record { number = n; sort = s.sort } ∷ []) (suc n) ts) (scanned-are (done ++ s ∷ []) n ts)
scanned-are done n (Value t ∷ ts) = ((refl, refl), scanned-are (done ++ record { number = n; sort = Rat } ∷ []) (suc n) ts)
scanned-are done n (Quoted x ∷ ts) = ((refl, refl), scanned-are (done ++ record { number = n; sort = Text } ∷ []) (suc n) ts)

-- ---- new slots

-- the numbers ascend from n on
abbrev pub AreFrom : ℕ → List Slot → Type 0
AreFrom n [] = Unit {0}
AreFrom n (s ∷ ss) = (n ≤ s.number) × AreFrom (suc s.number) ss

from_less : (m n : ℕ) (ss : List Slot) → m ≤ n → AreFrom n ss → AreFrom m ss
from_less m n [] i h = tt
from_less m n (s ∷ ss) i h = (omega (arith, i, h.0), h.1)

either_from : (b : Bool) (s : Slot) (n : ℕ) (new old : List Scanned) → AreFrom (suc n) (fresh_slots new) → AreFrom n (fresh_slots old)
    → AreFrom n (fresh_slots (cond b (fresh (record { number = n; sort = s.sort }) (same_atom n s.sort s) ∷ new) (kept s ∷ old)))
either_from true s n new old h k = (omega arith, h)
either_from false s n new old h k = k

pub scanned-from : (done : List Slot) (n : ℕ) (ts : List Place) → AreFrom n (fresh_slots (scanned_after done n ts))
scanned-from done n [] = tt
scanned-from done n (At s ∷ ts) =
    either_from (stands_in done s) s n _ _ (scanned-from (done ++ record { number = n; sort = s.sort } ∷ []) (suc n) ts) (scanned-from (done ++ s ∷ []) n ts)
scanned-from done n (Value t ∷ ts) = (omega arith, scanned-from (done ++ record { number = n; sort = Rat } ∷ []) (suc n) ts)
scanned-from done n (Quoted x ∷ ts) = (omega arith, scanned-from (done ++ record { number = n; sort = Text } ∷ []) (suc n) ts)

pub other_number : (s t : Slot) → s.number < t.number → same_slot t s ≡ false
other_number s t h = by (same_slot t s) refl
  where
    by : (b : Bool) → same_slot t s ≡ b → same_slot t s ≡ false
    by false e = e
    by true e = absurd (apart (ap (λ (u : Slot). u.number) (same_slot_is t s e)))
      where
        apart : t.number ≡ s.number → ⊥
        apart f = omega (arith, f, h)

-- a slot of a lesser number is none of them
pub from_outside : (n : ℕ) (ss : List Slot) (t : Slot) → AreFrom n ss → t.number < n → stands_in ss t ≡ false
from_outside n [] t h i = refl
from_outside n (s ∷ ss) t h i = rw (other_number t s (omega (arith, i, h.0)), from_outside (suc s.number) ss t h.1 (omega (arith, i, h.0))) refl

-- no two of them are the same
pub from_distinct : (n : ℕ) (ss : List Slot) → AreFrom n ss → AreDistinctSlots ss
from_distinct n [] h = tt
from_distinct n (s ∷ ss) h = (from_outside (suc s.number) ss s h.1 (omega arith), from_distinct (suc s.number) ss h.1)

-- ---- old slots

coefs_below : (cs : List (Slot × ℤ)) (s : Slot) → list_any (λ c. same_slot c.0 s) cs ≡ true → s.number < above_coefs cs
coefs_below [] s h = absurd h'
  where
    h' : ⊥
    h' = cc
coefs_below (c ∷ cs) s h = elim (or_split (same_slot c.0 s) _ h) [
  | inl e ↦ (let f = ap (λ (u : Slot). u.number) (same_slot_is c.0 s e) in omega (arith, f))
  | inr e ↦ (let f = coefs_below cs s e in omega (arith, f))
]

place_below : (t : Place) (s : Slot) → place_mentions t s ≡ true → s.number < above_place t
place_below (At u) s h = let f = ap (λ (v : Slot). v.number) (same_slot_is u s h) in omega (arith, f)
place_below (Value t) s h = coefs_below t.coefs s h
place_below (Quoted x) s h = absurd h'
  where
    h' : ⊥
    h' = cc

-- the slots of the places have numbers below the first free one
pub places_below : (ts : List Place) (s : Slot) → list_any (λ t. place_mentions t s) ts ≡ true → s.number < first_free ts
places_below [] s h = absurd h'
  where
    h' : ⊥
    h' = cc
places_below (t ∷ ts) s h = elim (or_split (place_mentions t s) _ h) [
  | inl e ↦ (let f = place_below t s e in omega (arith, f))
  | inr e ↦ (let f = places_below ts s e in omega (arith, f))
]

-- ---- the values of the new slots

-- each new slot with the value of its argument at p
abbrev pub values_at : Point → List Place → List Scanned → Values
values_at p [] gs = []
values_at p (t ∷ ts) [] = []
values_at p (t ∷ ts) (kept u ∷ gs) = values_at p ts gs
values_at p (t ∷ ts) (fresh u a ∷ gs) = (u, place_value t p) ∷ values_at p ts gs

values-slots : (p : Point) (ts : List Place) (gs : List Scanned) → AreScannedAs ts gs → slots_of (values_at p ts gs) ≡ fresh_slots gs
values-slots p [] [] h = refl
values-slots p [] (g ∷ gs) h = absurd h
values-slots p (t ∷ ts) [] h = absurd h
values-slots p (t ∷ ts) (kept u ∷ gs) h = values-slots p ts gs h.1
values-slots p (t ∷ ts) (fresh u a ∷ gs) h = ap (λ ss. u ∷ ss) (values-slots p ts gs h.1)

sorted-for : (x : Sort) (n : ℤ) (t : List ℕ) → AllBytes t → IsValueFor x (sorted_value x n t)
sorted-for Rat n t h = refl
sorted-for Text n t h = (refl, h)

value-for : (p : Point) → IsPoint p → (t : Place) → IsByteText t → IsValueFor (place_sort t) (place_value t p)
value-for p i (At s) h = sorted-for s.sort (number_at p (slot s)) (text_at p (slot s)) (point-bytes p (slot s) i)
value-for p i (Value t) h = refl
value-for p i (Quoted x) h = (refl, h)

values-for : (p : Point) → IsPoint p → (ts : List Place) (gs : List Scanned) → AreByteTexts ts → AreScannedAs ts gs → AreValuesFor (values_at p ts gs)
values-for p i [] gs b h = tt
values-for p i (t ∷ ts) [] b h = tt
values-for p i (t ∷ ts) (kept u ∷ gs) b h = values-for p i ts gs b.1 h.1
values-for p i (t ∷ ts) (fresh u a ∷ gs) b h =
    (subst (λ x. IsValueFor x (place_value t p)) (sym h.0.0) (value-for p i t b.0), place_value-positive p t, values-for p i ts gs b.1 h.1)

-- the two points have the same value at each slot of the places
abbrev pub SameOnPlaces : Point → Point → List Place → Type 0
SameOnPlaces p q ts = (s : Slot) → list_any (λ t. place_mentions t s) ts ≡ true → IsSameAt p q (slot s)

same_first : (p q : Point) (t : Place) (ts : List Place) → SameOnPlaces p q (t ∷ ts) → (s : Slot) → place_mentions t s ≡ true → IsSameAt p q (slot s)
same_first p q t ts h s e = h s (or_left _ _ e)

same_rest : (p q : Point) (t : Place) (ts : List Place) → SameOnPlaces p q (t ∷ ts) → SameOnPlaces p q ts
same_rest p q t ts h s e = h s (or_right (place_mentions t s) _ e)

place-equal : (p q : Point) (t : Place) → ((s : Slot) → place_mentions t s ≡ true → IsSameAt p q (slot s)) → IsEqualValue p.den q.den (place_value t p) (place_value t q)
place-equal p q t h = same-equal p.den q.den _ _ (place_value-same t p q h)

abbrev pub AllHold : List Atom → Point → Type 0
AllHold [] q = Unit {0}
AllHold (a ∷ atoms) q = IsTrue (atom_holds a q) × AllHold atoms q

module _ (p q : Point) (i : 0 < p.den) (j : 0 < q.den) where
  -- where the new slots have their values, the atoms that tie them hold
  ties-hold : (ts : List Place) (gs : List Scanned) → AreScannedAs ts gs → SameOnPlaces p q ts → HaveValues p.den q (values_at p ts gs) → AllHold (tied_atoms gs) q
  ties-hold [] [] a s h = tt
  ties-hold [] (g ∷ gs) a s h = absurd a
  ties-hold (t ∷ ts) [] a s h = absurd a
  ties-hold (t ∷ ts) (kept u ∷ gs) a s h = ties-hold ts gs a.1 (same_rest p q t ts s) h
  ties-hold (t ∷ ts) (fresh u b ∷ gs) a s h = (
    subst (λ (c : Atom). IsTrue (atom_holds c q)) (sym a.0.1)
        ((tie_holds u t a.0.0 q j).1 (equal_trans q.den p.den q.den (place_value t q) (place_value t p) (slot_value q u) i (place_value-positive p t)
        (equal_sym p.den q.den _ _ (place-equal p q t (same_first p q t ts s))) h.0)),
    ties-hold ts gs a.1 (same_rest p q t ts s) h.1,
  )

  -- and the other way round
  tied-values : (ts : List Place) (gs : List Scanned) → AreScannedAs ts gs → SameOnPlaces p q ts → AllHold (tied_atoms gs) q → HaveValues p.den q (values_at p ts gs)
  tied-values [] [] a s h = tt
  tied-values [] (g ∷ gs) a s h = absurd a
  tied-values (t ∷ ts) [] a s h = absurd a
  tied-values (t ∷ ts) (kept u ∷ gs) a s h = tied-values ts gs a.1 (same_rest p q t ts s) h
  tied-values (t ∷ ts) (fresh u b ∷ gs) a s h = (
    equal_trans p.den q.den q.den (place_value t p) (place_value t q) (slot_value q u) j (place_value-positive q t) (place-equal p q t (same_first p q t ts s))
        ((tie_holds u t a.0.0 q j).0 (subst (λ (c : Atom). IsTrue (atom_holds c q)) a.0.1 h.0)),
    tied-values ts gs a.1 (same_rest p q t ts s) h.1,
  )

  kept-equal : (t : Place) (u : Slot) → IsScannedAs t (kept u) → ((s : Slot) → place_mentions t s ≡ true → IsSameAt p q (slot s)) → IsEqualValue p.den q.den (place_value t p) (slot_value q u)
  kept-equal (At s) u e h = subst (λ (v : Slot). IsEqualValue p.den q.den (slot_value p s) (slot_value q v)) (sym e) (place-equal p q (At s) h)
  kept-equal (Value t) u e h = absurd e
  kept-equal (Quoted x) u e h = absurd e

  -- so the scanned slots have the values of the arguments
  scanned-equal : (ts : List Place) (gs : List Scanned) → AreScannedAs ts gs → SameOnPlaces p q ts → HaveValues p.den q (values_at p ts gs)
      → AreEqualValues p.den q.den (map (λ t. place_value t p) ts) (map (slot_value q) (scanned_slots gs))
  scanned-equal [] [] a s h = tt
  scanned-equal [] (g ∷ gs) a s h = absurd a
  scanned-equal (t ∷ ts) [] a s h = absurd a
  scanned-equal (t ∷ ts) (kept u ∷ gs) a s h = (kept-equal t u a.0 (same_first p q t ts s), scanned-equal ts gs a.1 (same_rest p q t ts s) h)
  scanned-equal (t ∷ ts) (fresh u b ∷ gs) a s h = (h.0, scanned-equal ts gs a.1 (same_rest p q t ts s) h.1)

-- ---- the scan and its ties

module _ (I : Meaning) (n : List ℕ) (ss : List Slot) (q : Point) where
  row-holds : (a : Atom) → IsTrue (tuple_holds (a ∷ []) q) ↔ IsTrue (atom_holds a q)
  unfolding tuple_holds
  row-holds a = (λ h. and_left (atom_holds a q) true h, λ h. rw h refl)

  rows-hold : (atoms : List Atom) → SatEvery (PlanAtomHolds I) (logics (map row_plan atoms)) q ↔ AllHold atoms q
  rows-hold [] = (λ h. h, λ h. h)
  rows-hold (a ∷ atoms) =
      let r = row-holds a in
      let k = rows-hold atoms in
      (λ h. (r.0 h.0, k.0 h.1), λ h. (r.1 h.0, k.1 h.1))

  joined-holds : (atoms : List Atom) → Sat (PlanAtomHolds I) (joined (atom (scan n ss)) (map row_plan atoms)) q ↔ (NameHolds I n q.den (map (slot_value q) ss) × AllHold atoms q)
  joined-holds [] = (λ h. (h, tt), λ h. h.0)
  joined-holds (a ∷ atoms) =
      let k = rows-hold (a ∷ atoms) in
      (λ h. (h.0, k.0 h.1), λ h. (h.0, k.1 h.1))

-- the plan of an atom holds where the atom does
pub member_holds : (I : Meaning) → Respects I → (n : List ℕ) (ts : List Place) → AreByteTexts ts → (p : Point) → IsPoint p
    → NameHolds I n p.den (map (λ t. place_value t p) ts) ↔ Sat (PlanAtomHolds I) (member_plan n ts) p
member_holds I R n ts b p i = (to, from)
  where
    gs : List Scanned
    gs = scanned ts

    are : AreScannedAs ts gs
    are = scanned-are [] (first_free ts) ts

    ascending : AreFrom (first_free ts) (fresh_slots gs)
    ascending = scanned-from [] (first_free ts) ts

    base : PlanForm
    base = joined (atom (scan n (scanned_slots gs))) (map row_plan (tied_atoms gs))

    places_positive : (q : Point) → 0 < overs (map (λ t. place_value t q) ts)
    places_positive q = overs-positive (λ t. place_value t q) (place_value-positive q) ts

    slots_positive : (q : Point) → 0 < overs (map (slot_value q) (scanned_slots gs))
    slots_positive q = overs-positive (slot_value q) (slot_value-positive q) (scanned_slots gs)

    outside : (s : Slot) → list_any (λ t. place_mentions t s) ts ≡ true → stands_in (fresh_slots gs) s ≡ false
    outside s e = from_outside (first_free ts) (fresh_slots gs) s ascending (places_below ts s e)

    to : NameHolds I n p.den (map (λ t. place_value t p) ts) → Sat (PlanAtomHolds I) (member_plan n ts) p
    to h =
        let vs = values_at p ts gs in
        let e : slots_of vs ≡ fresh_slots gs = values-slots p ts gs are in
        let r = reached (PlanAtomHolds I) vs (subst AreDistinctSlots (sym e) (from_distinct (first_free ts) (fresh_slots gs) ascending)) (values-for p i ts gs b are) p i.positive in
        let q = r.0 in
        let same : SameOnPlaces p q ts = λ s m. r.1.same s (ap (λ ss. stands_in ss s) e ∙ outside s m) in
        let scans = NameHolds-equal I R n p.den q.den _ _ i.positive r.1.positive (places_positive p) (slots_positive q) (scanned-equal p q i.positive r.1.positive ts gs are same r.1.values) h in
        let ties = ties-hold p q i.positive r.1.positive ts gs are same r.1.values in
        subst (λ ss. Sat (PlanAtomHolds I) (projected ss base) p) e (r.1.chain base ((joined-holds I n (scanned_slots gs) q (tied_atoms gs)).1 (scans, ties)))

    from : Sat (PlanAtomHolds I) (member_plan n ts) p → NameHolds I n p.den (map (λ t. place_value t p) ts)
    from h =
        let r = witness (PlanAtomHolds I) (fresh_slots gs) base p i.positive h in
        let q = r.0 in
        let same : SameOnPlaces p q ts = λ s m. r.1.same s (outside s m) in
        let k = (joined-holds I n (scanned_slots gs) q (tied_atoms gs)).0 r.1.holds in
        let equal = scanned-equal p q i.positive r.1.positive ts gs are same (tied-values p q i.positive r.1.positive ts gs are same k.1) in
        NameHolds-equal I R n q.den p.den _ _ r.1.positive i.positive (slots_positive q) (places_positive p) (equals_sym p.den q.den _ _ equal) k.0
