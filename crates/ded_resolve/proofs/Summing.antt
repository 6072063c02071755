-- The coefficients of a sum at the slots of its names.
--
-- Names in scope that differ have slots of other numbers. So where a sum has each name once, each of its slots has one
-- coefficient, which is that of a name.
use Rattle.std.proofs.Common.{◌≡◌, ◌≢◌, ℕ, zero, suc, ◌-◌, ◌<◌, ◌≤◌, length, get_or, drop, drop-cons, ap₂, ◌==◌, ◌&&◌, Bool, true, false, cond, is_none, Some, unwrap_or, List, [], ◌∷◌, arith, refl, sym, ap, ◌∙◌, subst, true≢false, bytes_eq, to_z, of_z}
use Rattle.std.specs.Prelude.{ℤ, pos, ◌+ℤ◌}
use Rattle.std.specs.List.{list_any}
use Rattle.std.proofs.lemmas.Bool.Decides.{nat_tests}
use Rattle.std.proofs.lemmas.Slice.Eq.{bytes_eq-Decides}
use lib.IntN.{+ℤ_idl, +ℤ_idr}
use Rattle.std.specs.Int.{w128}
use Rattle.std.proofs.lemmas.Int.{to_z-of_z, fits_signed_from_abs}
use Rattle.ded_num.specs.Length.{IsWithin, IsShort}
use Rattle.ded_model.specs.declared.slot.Slot.{Slot}
use Rattle.ded_model.specs.declared.slot.Sort.TheVariants.{Rat}
use Rattle.ded_model.specs.Point.{Key, slot, name, same_key, same_sort, same_slot}
use Rattle.ded_model.specs.Sum.{ArePartsWithin}
use Rattle.ded_model.specs.Coefs.{AreCoefs, coef_at, nonzero, with_coef}
use Rattle.ded_model.specs.Slotted.{SlotScope, nearest, slot_of, add_parts}
use Rattle.ded_model.specs.Known.{is_unbound_name, sort_in, sort_with}
use Rattle.ded_model.proofs.Points.{same_slot_is}
use Rattle.ded_model.proofs.CoefLemmas.{AreCoefs-with_coef}
use Rattle.ded_model.proofs.LineCoefs.{coef_at-put}
use Rattle.ded_resolve.specs.Scope.{sorts_of, AllOther, AreApart, AreSummable, AreSmall}
use Rattle.ded_resolve.proofs.Ascending.{Ascend, ascend-put, kept_is, coef_at-with_coef}
use Rattle.ded_model.proofs.Bools.{or_false_left, or_false_right}
use Rattle.ded_model.proofs.SlotLists.{rational}

-- ---- tests

-- ---- names and their slots

-- the slot of a bound name has another number too
other_number : (n : ℕ) (scope : SlotScope) (x : List ℕ) → AllOther n scope → is_unbound_name (sorts_of scope) x ≡ false → (slot_of scope x).number ≢ n
other_number n [] x h e = absurd (true≢false e)
other_number n (v ∷ scope) x h e = go (same_key v.0 (name x)) e (other_number n scope x h.1)
  where
    go : (b : Bool) → is_none (cond b (Some v.1.sort) (nearest (sorts_of scope) (name x))) ≡ false → (is_unbound_name (sorts_of scope) x ≡ false → (slot_of scope x).number ≢ n)
        → (unwrap_or (cond b (Some v.1) (nearest scope (name x))) (record { number = 0; sort = Rat })).number ≢ n
    go true f ih = h.0
    go false f ih = ih f

-- slots of other numbers are others
apart : (s t : Slot) → s.number ≢ t.number → same_slot s t ≡ false
apart s t h = ap (λ b. b && same_sort s.sort t.sort) (unequal s.number t.number h)
  where
    unequal : (m n : ℕ) → m ≢ n → (m == n) ≡ false
    unequal m n h = grind (arith, nat_tests)

-- a key that is two names
one_name : (k : Key) (x y : List ℕ) → same_key k (name x) ≡ true → same_key k (name y) ≡ true → bytes_eq x y ≡ true
one_name (slot s) x y e f = absurd (true≢false (sym e))
one_name (name z) x y e f = (bytes_eq-Decides x y).1 (sym ((bytes_eq-Decides z x).0 e) ∙ (bytes_eq-Decides z y).0 f)

-- names that differ have different slots
pub slots_apart : (scope : SlotScope) (x y : List ℕ) → AreApart scope → is_unbound_name (sorts_of scope) x ≡ false → is_unbound_name (sorts_of scope) y ≡ false → bytes_eq x y ≡ false
    → same_slot (slot_of scope x) (slot_of scope y) ≡ false
slots_apart [] x y h e f n = absurd (true≢false e)
slots_apart (v ∷ scope) x y h e f n = go (same_key v.0 (name x)) refl (same_key v.0 (name y)) refl e f (slots_apart scope x y h.1)
  where
    no_slot : Slot
    no_slot = record { number = 0; sort = Rat }

    go : (b : Bool) → same_key v.0 (name x) ≡ b → (d : Bool) → same_key v.0 (name y) ≡ d
        → is_none (cond b (Some v.1.sort) (nearest (sorts_of scope) (name x))) ≡ false → is_none (cond d (Some v.1.sort) (nearest (sorts_of scope) (name y))) ≡ false
        → (is_unbound_name (sorts_of scope) x ≡ false → is_unbound_name (sorts_of scope) y ≡ false → bytes_eq x y ≡ false → same_slot (slot_of scope x) (slot_of scope y) ≡ false)
        → same_slot (unwrap_or (cond b (Some v.1) (nearest scope (name x))) no_slot) (unwrap_or (cond d (Some v.1) (nearest scope (name y))) no_slot) ≡ false
    go true i true j e f ih = absurd (true≢false (sym (one_name v.0 x y i j) ∙ n))
    go true i false j e f ih = apart v.1 (slot_of scope y) (λ k. other_number v.1.number scope y h.0 f (sym k))
    go false i true j e f ih = apart (slot_of scope x) v.1 (other_number v.1.number scope x h.0 e)
    go false i false j e f ih = ih e f n

-- the sort of a name is that of its slot
pub sort_in-slot : (scope : SlotScope) (x : List ℕ) → sort_in (sorts_of scope) x ≡ (slot_of scope x).sort
sort_in-slot [] x = refl
sort_in-slot (v ∷ scope) x = go (same_key v.0 (name x)) (sort_in-slot scope x)
  where
    go : (b : Bool) → sort_in (sorts_of scope) x ≡ (slot_of scope x).sort
        → sort_with (cond b (Some v.1.sort) (nearest (sorts_of scope) (name x))) ≡ (unwrap_or (cond b (Some v.1) (nearest scope (name x))) (record { number = 0; sort = Rat })).sort
    go true e = refl
    go false e = e

-- ---- sums

-- the first part has a rational slot
pub first_rational : (scope : SlotScope) (c : List ℕ × ℤ) (cs : List (List ℕ × ℤ)) → AreSummable scope (c ∷ cs) → (slot_of scope c.0).sort ≡ Rat
first_rational scope c cs h = sym (sort_in-slot scope c.0) ∙ rational (sort_in (sorts_of scope) c.0) (or_false_left _ _ h.rational)

-- so have the others
pub rest_summable : (scope : SlotScope) (c : List ℕ × ℤ) (cs : List (List ℕ × ℤ)) → AreSummable scope (c ∷ cs) → AreSummable scope cs
rest_summable scope c cs h = record {
  apart = h.apart;
  once = h.once.1;
  bound = or_false_right _ _ h.bound;
  rational = or_false_right _ _ h.rational;
}

pub ascend-parts : (scope : SlotScope) (cs : List (List ℕ × ℤ)) → AreSummable scope cs → Ascend (add_parts scope cs)
ascend-parts scope [] h = tt
ascend-parts scope (c ∷ cs) h = ascend-put (slot_of scope c.0) c.1 (add_parts scope cs) (first_rational scope c cs h) (ascend-parts scope cs (rest_summable scope c cs h))

-- a part that goes past a slot
past : (b : Bool) (z x : ℤ) → b ≡ false → cond b z (pos 0) +ℤ x ≡ x
past true z x e = absurd (true≢false e)
past false z x e = +ℤ_idl x

-- a name that isn't among the parts has no coefficient
absent : (scope : SlotScope) (x : List ℕ) (cs : List (List ℕ × ℤ)) → AreApart scope → is_unbound_name (sorts_of scope) x ≡ false → list_any (λ c. is_unbound_name (sorts_of scope) c.0) cs ≡ false
    → list_any (λ d. bytes_eq x d.0) cs ≡ false → coef_at (add_parts scope cs) (slot_of scope x) ≡ pos 0
absent scope x [] h e f n = refl
absent scope x (c ∷ cs) h e f n =
    coef_at-put (slot_of scope c.0) c.1 (add_parts scope cs) (slot_of scope x)
    ∙ past (same_slot (slot_of scope c.0) (slot_of scope x)) c.1 (coef_at (add_parts scope cs) (slot_of scope x)) (slots_apart scope c.0 x h (or_false_left _ _ f) e (turned (or_false_left (bytes_eq x c.0) _ n)))
    ∙ absent scope x cs h e (or_false_right _ _ f) (or_false_right (bytes_eq x c.0) _ n)
  where
    turned : bytes_eq x c.0 ≡ false → bytes_eq c.0 x ≡ false
    turned k = go (bytes_eq c.0 x) refl
      where
        go : (b : Bool) → bytes_eq c.0 x ≡ b → b ≡ false
        go true i = absurd (true≢false (sym ((bytes_eq-Decides x c.0).1 (sym ((bytes_eq-Decides c.0 x).0 i))) ∙ k))
        go false i = refl

-- a sum with one more part: its slot has the new coefficient, and the others are as before
pub one_part : (scope : SlotScope) (c : List ℕ × ℤ) (cs : List (List ℕ × ℤ)) → AreSummable scope (c ∷ cs) → (s : Slot)
    → coef_at (add_parts scope (c ∷ cs)) s ≡ cond (same_slot (slot_of scope c.0) s) c.1 (coef_at (add_parts scope cs) s)
one_part scope c cs h s = coef_at-put (slot_of scope c.0) c.1 (add_parts scope cs) s ∙ go (same_slot (slot_of scope c.0) s) refl
  where
    go : (b : Bool) → same_slot (slot_of scope c.0) s ≡ b → cond b c.1 (pos 0) +ℤ coef_at (add_parts scope cs) s ≡ cond b c.1 (coef_at (add_parts scope cs) s)
    go true e =
        ap (λ z. c.1 +ℤ z) (ap (coef_at (add_parts scope cs)) (sym (same_slot_is (slot_of scope c.0) s e)) ∙ absent scope c.0 cs h.apart (or_false_left _ _ h.bound) (or_false_right _ _ h.bound) h.once.0)
        ∙ +ℤ_idr c.1
    go false e = +ℤ_idl (coef_at (add_parts scope cs) s)

-- each coefficient is short
pub parts_small : (scope : SlotScope) (cs : List (List ℕ × ℤ)) → AreSummable scope cs → ArePartsWithin 112 cs → AreSmall (add_parts scope cs)
parts_small scope [] h k = λ s. omega arith
parts_small scope (c ∷ cs) h k = λ s. subst (IsWithin 112) (sym (one_part scope c cs h s)) (go s (same_slot (slot_of scope c.0) s) (parts_small scope cs (rest_summable scope c cs h) k.1))
  where
    go : (s : Slot) (b : Bool) → AreSmall (add_parts scope cs) → IsWithin 112 (cond b c.1 (coef_at (add_parts scope cs) s))
    go s true ih = k.0
    go s false ih = ih s

-- ---- the loop over the parts, from the last one on

-- the coefficients are those of the parts that are done
abbrev pub Summing : SlotScope → List (List ℕ × ℤ) → List (Slot × ℤ) → Type 0
Summing scope done out = (s : Slot) → coef_at out s ≡ coef_at (add_parts scope done) s

pub summing_more : (scope : SlotScope) (c : List ℕ × ℤ) (cs : List (List ℕ × ℤ)) (out : List (Slot × ℤ)) → AreSummable scope (c ∷ cs) → Summing scope cs out → Summing scope (c ∷ cs) (with_coef (slot_of scope c.0) c.1 out)
summing_more scope c cs out h k = λ s. coef_at-with_coef (slot_of scope c.0) c.1 out s ∙ ap (λ z. cond (same_slot (slot_of scope c.0) s) c.1 z) (k s) ∙ sym (one_part scope c cs h s)

pub summing_all : (scope : SlotScope) (cs : List (List ℕ × ℤ)) (out : List (Slot × ℤ)) → AreSummable scope cs → AreCoefs out → Summing scope cs out → out ≡ nonzero (add_parts scope cs)
summing_all scope cs out h k same = kept_is out (add_parts scope cs) k (ascend-parts scope cs h) same

-- the parts from a place on, of parts that are equal to those before the loop
module _ (scope : SlotScope) (xs ps : List (List ℕ × ℤ)) (at : ℕ) (next : List ℕ × ℤ) (here : next ≡ get_or xs (at - 1) next) (is : xs ≡ ps) (above : 0 < at) (within : at ≤ length xs) where
  -- the next part comes first
  rest_is : drop (at - 1) xs ≡ next ∷ drop at xs
  rest_is = drop-cons xs (at - 1) next (omega arith) ∙ ap₂ (λ p k. p ∷ drop k xs) (sym here) (let e : suc (at - 1) ≡ at = omega arith in e)

  drop_summable : (i : ℕ) (xs : List (List ℕ × ℤ)) → AreSummable scope xs → AreSummable scope (drop i xs)
  drop_summable zero xs h = h
  drop_summable (suc i) [] h = h
  drop_summable (suc i) (x ∷ xs) h = drop_summable i xs (rest_summable scope x xs h)

  drop_within : (i : ℕ) (xs : List (List ℕ × ℤ)) → ArePartsWithin 112 xs → ArePartsWithin 112 (drop i xs)
  drop_within zero xs h = h
  drop_within (suc i) [] h = h
  drop_within (suc i) (x ∷ xs) h = drop_within i xs h.1

  next_summable : AreSummable scope ps → AreSummable scope (next ∷ drop at xs)
  next_summable h = subst (AreSummable scope) rest_is (drop_summable (at - 1) xs (subst (AreSummable scope) (sym is) h))

  -- it has a rational slot, and a short number
  pub next_rational : (s : Slot) → s ≡ slot_of scope next.0 → AreSummable scope ps → s.sort ≡ Rat
  next_rational s e h = ap (λ (t : Slot). t.sort) e ∙ first_rational scope next (drop at xs) (next_summable h)

  pub next_within : ArePartsWithin 112 ps → IsWithin 112 next.1
  next_within h = (subst (ArePartsWithin 112) rest_is (drop_within (at - 1) xs (subst (ArePartsWithin 112) (sym is) h))).0

  -- what is kept stays so
  pub next_kept : (s : Slot) (z : ℤ) (out out' : List (Slot × ℤ)) → s ≡ slot_of scope next.0 → z ≡ next.1 → AreSummable scope ps → ArePartsWithin 112 ps → AreCoefs out → out' ≡ with_coef s z out → AreCoefs out'
  next_kept s z out out' e f h l k o =
      subst AreCoefs (sym o) (AreCoefs-with_coef s (next_rational s e h) z (subst IsShort (sym f) (short next.1 (next_within l))) out k)
    where
      short : (z : ℤ) → IsWithin 112 z → IsWithin 127 z
      short z h = omega (arith, h)

  -- the loop goes on with it
  pub next_summing : (s : Slot) (z : ℤ) (out out' : List (Slot × ℤ)) → s ≡ slot_of scope next.0 → z ≡ next.1 → AreSummable scope ps → Summing scope (drop at xs) out → out' ≡ with_coef s z out
      → Summing scope (drop (at - 1) xs) out'
  next_summing s z out out' e f h k o =
      subst (Summing scope (drop (at - 1) xs)) (sym (o ∙ ap₂ (λ t n. with_coef t n out) e f))
      (subst (λ l. Summing scope l (with_coef (slot_of scope next.0) next.1 out)) (sym rest_is) (summing_more scope next (drop at xs) out (next_summable h) k))

-- a number of at most 112 digits is one in the code
pub in_code : (z : ℤ) → IsWithin 112 z → to_z w128 (of_z w128 z) ≡ z
in_code z h = to_z-of_z w128 z (fits_signed_from_abs w128 z (short z h))
  where
    short : (z : ℤ) → IsWithin 112 z → IsWithin 127 z
    short z h = omega (arith, h)

pub short_in_code : (z : ℤ) → IsWithin 112 z → IsShort (to_z w128 (of_z w128 z))
short_in_code z h = subst IsShort (sym (in_code z h)) (short z h)
  where
    short : (z : ℤ) → IsWithin 112 z → IsWithin 127 z
    short z h = omega (arith, h)

-- what the loop leaves, where no part is left
pub summing_end : (scope : SlotScope) (xs ps : List (List ℕ × ℤ)) (at : ℕ) (out : List (Slot × ℤ)) → xs ≡ ps → at ≡ 0 → Summing scope (drop at xs) out → Summing scope ps out
summing_end scope xs ps at out e f h = subst (λ l. Summing scope l out) (ap (λ k. drop k xs) f ∙ e) h
