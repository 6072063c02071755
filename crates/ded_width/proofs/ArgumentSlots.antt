-- The slots of the arguments of an atom differ, and the rows that tie the new ones ascend.
--
-- An argument is kept at its own slot only where that stands there for the first time. The new slots have numbers above those
-- of the places, each one more than the one before.
use Rattle.std.proofs.Common.{◌≡◌, ℕ, suc, ◌<◌, ◌≤◌, Bool, true, false, ◌||◌, cond, List, [], ◌∷◌, ◌++◌, arith, inl, inr, refl, sym, ap, ap₂, subst, ◌∙◌, true≢false}
use Rattle.std.specs.Prelude.{ℤ, pos}
use lib.IntN.{neg_ℤ}
use Rattle.ded_model.specs.declared.slot.Slot.{Slot}
use Rattle.ded_model.specs.declared.slot.Sort.{Sort}
use Rattle.ded_model.specs.declared.slot.Sort.TheVariants.{Rat, Text}
use Rattle.ded_model.specs.declared.goal.Place.{Place}
use Rattle.ded_model.specs.declared.goal.Place.TheVariants.{At, Value, Quoted}
use Rattle.ded_model.specs.declared.row.RowOp.TheVariants.{Zero}
use Rattle.ded_model.specs.Constraint.{LinearConstraint}
use Rattle.ded_model.specs.Point.{same_slot, stands_in, AreDistinctSlots}
use Rattle.ded_model.specs.Coefs.{put, put_all}
use Rattle.ded_model.specs.Row.{Atom}
use Rattle.ded_model.specs.Normal.{normal_row, normal_with, coefs_over, divisor_of}
use Rattle.ded_model.specs.Sum.{SlotSum, denominator}
use Rattle.ded_model.specs.Scanned.{kept, fresh, argument_row, of_slot, same_atom, scanned_after, scanned, first_free, scanned_slots, tied_atoms}
use Rattle.ded_model.proofs.Points.{same_slot_is, same_slot_refl}
use Rattle.ded_model.proofs.Members.{or_split}
use Rattle.ded_resolve.proofs.Ascending.{Ascend, AllRational, ascend-put, ascend-mixed}
use Rattle.ded_width.specs.Reach.{AreAscending, AreAscendingRows, AreAscendingPlaces}
use Rattle.ded_model.proofs.CoefDivision.{AllAbove-coefs_over}
use Rattle.ded_model.proofs.SlotLists.{stands_more}

-- ---- slots that differ

-- the slots differ, and none of them is one of those before
record AreOther (done ss : List Slot) : Type 0 where
  distinct : AreDistinctSlots ss
  other : (t : Slot) → stands_in done t ≡ true → stands_in ss t ≡ false

-- each slot has a number below n
abbrev AreBelow : ℕ → List Slot → Type 0
AreBelow n done = (t : Slot) → stands_in done t ≡ true → t.number < n

-- those before stand there too
stands_before : (ss : List Slot) (u t : Slot) → stands_in ss t ≡ true → stands_in (ss ++ u ∷ []) t ≡ true
stands_before ss u t h = stands_more ss u t ∙ ap (λ b. b || same_slot u t) h

-- and so does the last
stands_last : (ss : List Slot) (u t : Slot) → same_slot u t ≡ true → stands_in (ss ++ u ∷ []) t ≡ true
stands_last ss u t h = stands_more ss u t ∙ ap (λ b. stands_in ss t || b) h ∙ or_true (stands_in ss t)
  where
    or_true : (b : Bool) → (b || true) ≡ true
    or_true true = refl
    or_true false = refl

-- one more slot that isn't one of those before
other_more : (done : List Slot) (u : Slot) (ss : List Slot) → stands_in done u ≡ false → AreOther (done ++ u ∷ []) ss → AreOther done (u ∷ ss)
other_more done u ss n h = record {
  distinct = (h.other u (stands_last done u u (same_slot_refl u)), h.distinct);
  other = λ t e. ap₂ (λ a b. a || b) (apart t e (same_slot u t) refl) (h.other t (stands_before done u t e));
}
  where
    apart : (t : Slot) → stands_in done t ≡ true → (b : Bool) → same_slot u t ≡ b → same_slot u t ≡ false
    apart t e true f = absurd (true≢false (sym e ∙ ap (stands_in done) (sym (same_slot_is u t f)) ∙ n))
    apart t e false f = f

below_more : (m n : ℕ) (done : List Slot) (u : Slot) → m ≤ n → u.number < n → AreBelow m done → AreBelow n (done ++ u ∷ [])
below_more m n done u i j h t e = elim (or_split (stands_in done t) (same_slot u t) (sym (stands_more done u t) ∙ e)) [
  | inl x ↦ (let l = h t x in omega (arith, i, l))
  | inr x ↦ subst (λ (s : Slot). s.number < n) (same_slot_is u t x) j
]

-- a slot of the next number is new
new_slot : (n : ℕ) (done : List Slot) (u : Slot) → u.number ≡ n → AreBelow n done → stands_in done u ≡ false
new_slot n done u e h = go (stands_in done u) refl
  where
    above : u.number < n → ⊥
    above l = omega (arith, e, l)

    go : (b : Bool) → stands_in done u ≡ b → stands_in done u ≡ false
    go true f = absurd (above (h u f))
    go false f = f

-- a new slot, then the others
fresh_other : (done : List Slot) (n : ℕ) (x : Sort) (ss : List Slot) → AreBelow n done → (AreBelow (suc n) (done ++ record { number = n; sort = x } ∷ []) → AreOther (done ++ record { number = n; sort = x } ∷ []) ss)
    → AreOther done (record { number = n; sort = x } ∷ ss)
fresh_other done n x ss b h =
    let u : Slot = record { number = n; sort = x } in
    other_more done u ss (new_slot n done u refl b) (h (below_more n (suc n) done u (omega arith) (omega arith) b))

-- the slots of the arguments
arguments_other : (done : List Slot) (n : ℕ) (ts : List Place) → first_free ts ≤ n → AreBelow n done → AreOther done (scanned_slots (scanned_after done n ts))
arguments_other done n [] f b = record { distinct = tt; other = λ t e. refl }
arguments_other done n (At s ∷ ts) f b =
    go (stands_in done s) refl
    (fresh_other done n s.sort _ b (λ c. arguments_other (done ++ record { number = n; sort = s.sort } ∷ []) (suc n) ts (omega (arith, f)) c))
    (λ c. arguments_other (done ++ s ∷ []) n ts (omega (arith, f)) c)
  where
    go : (d : Bool) → stands_in done s ≡ d
        → AreOther done (record { number = n; sort = s.sort } ∷ scanned_slots (scanned_after (done ++ record { number = n; sort = s.sort } ∷ []) (suc n) ts))
        → (AreBelow n (done ++ s ∷ []) → AreOther (done ++ s ∷ []) (scanned_slots (scanned_after (done ++ s ∷ []) n ts)))
        → AreOther done (scanned_slots (cond d (fresh (record { number = n; sort = s.sort }) (same_atom n s.sort s) ∷ scanned_after (done ++ record { number = n; sort = s.sort } ∷ []) (suc n) ts) (kept s ∷ scanned_after (done ++ s ∷ []) n ts)))
    go true e h k = h
    go false e h k = other_more done s _ e (k (below_more n n done s (omega arith) (omega (arith, f)) b))
arguments_other done n (Value t ∷ ts) f b = fresh_other done n Rat _ b (λ c. arguments_other (done ++ record { number = n; sort = Rat } ∷ []) (suc n) ts (omega (arith, f)) c)
arguments_other done n (Quoted x ∷ ts) f b = fresh_other done n Text _ b (λ c. arguments_other (done ++ record { number = n; sort = Text } ∷ []) (suc n) ts (omega (arith, f)) c)

-- no two of them are the same
pub arguments_distinct : (ts : List Place) → AreDistinctSlots (scanned_slots (scanned ts))
arguments_distinct ts = (arguments_other [] (first_free ts) ts (omega arith) (λ t e. absurd (true≢false (sym e)))).distinct

-- ---- rows that tie new slots

pub ascend : (cs : List (Slot × ℤ)) → Ascend cs → AreAscending cs
ascend [] h = tt
ascend (c ∷ cs) h = (h.0, h.1, ascend cs h.2)

pub all_rational : (cs : List (Slot × ℤ)) → AreAscending cs → AllRational cs
all_rational [] h = tt
all_rational (c ∷ cs) h = (h.0, all_rational cs h.2)

ascending_over : (k : ℤ) (cs : List (Slot × ℤ)) → AreAscending cs → AreAscending (coefs_over k cs)
ascending_over k [] h = tt
ascending_over k (c ∷ cs) h = (h.0, AllAbove-coefs_over c.0.number k cs h.1, ascending_over k cs h.2)

-- a normal row has the slots of the row
pub normal_ascending : (r : LinearConstraint) → AreAscending r.coefs → AreAscending (normal_row r).coefs
unfolding normal_row
normal_ascending r h = go r.coefs
  where
    go : (cs : List (Slot × ℤ)) → AreAscending (normal_with r cs).coefs
    go [] = tt
    go (c ∷ cs) = ascending_over (divisor_of r.op r.constant (c ∷ cs)) r.coefs h

-- the row of an argument
argument_ascending : (u : Slot) (t : SlotSum) → u.sort ≡ Rat → AreAscending t.coefs → AreAscending (argument_row u t).coefs
argument_ascending u t r h =
    let cs = put_all (neg_ℤ (pos 1)) t.coefs [] in
    let tied : LinearConstraint = record { coefs = put u (pos (denominator t.over)) cs; constant = neg_ℤ t.constant; op = Zero } in
    normal_ascending tied (ascend tied.coefs (ascend-put u (pos (denominator t.over)) cs r (ascend-mixed (neg_ℤ (pos 1)) t.coefs (pos 1) [] (all_rational t.coefs h) tt)))

-- of a slot that stands already
same_ascending : (n : ℕ) (x : Sort) (s : Slot) (atoms : List Atom) → s.sort ≡ x → AreAscendingRows atoms → AreAscendingRows (same_atom n x s ∷ atoms)
same_ascending n Rat s atoms e h = (argument_ascending (record { number = n; sort = Rat }) (of_slot s) refl (e, tt, tt), h)
same_ascending n Text s atoms e h = h

ties_ascending : (done : List Slot) (n : ℕ) (ts : List Place) → AreAscendingPlaces ts → AreAscendingRows (tied_atoms (scanned_after done n ts))
ties_ascending done n [] h = tt
ties_ascending done n (At s ∷ ts) h =
    go (stands_in done s) (ties_ascending (done ++ record { number = n; sort = s.sort } ∷ []) (suc n) ts h) (ties_ascending (done ++ s ∷ []) n ts h)
  where
    go : (b : Bool) → AreAscendingRows (tied_atoms (scanned_after (done ++ record { number = n; sort = s.sort } ∷ []) (suc n) ts)) → AreAscendingRows (tied_atoms (scanned_after (done ++ s ∷ []) n ts))
        → AreAscendingRows (tied_atoms (cond b (fresh (record { number = n; sort = s.sort }) (same_atom n s.sort s) ∷ scanned_after (done ++ record { number = n; sort = s.sort } ∷ []) (suc n) ts) (kept s ∷ scanned_after (done ++ s ∷ []) n ts)))
    go true new old = same_ascending n s.sort s _ refl new
    go false new old = old
ties_ascending done n (Value t ∷ ts) h = (argument_ascending (record { number = n; sort = Rat }) t refl h.0, ties_ascending (done ++ record { number = n; sort = Rat } ∷ []) (suc n) ts h.1)
ties_ascending done n (Quoted x ∷ ts) h = ties_ascending (done ++ record { number = n; sort = Text } ∷ []) (suc n) ts h

-- the rows of the counting arguments ascend where the places' sums do
pub arguments_ascending : (ts : List Place) → AreAscendingPlaces ts → AreAscendingRows (tied_atoms (scanned ts))
arguments_ascending ts h = ties_ascending [] (first_free ts) ts h
