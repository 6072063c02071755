-- The rows of arguments are normal, with coefficients that are not 0.
use Rattle.std.proofs.Common.{◌≡◌, ◌≢◌, ℕ, suc, ◌≤◌, nat_lt, max, Bool, true, false, cond, List, [], ◌∷◌, ◌++◌, arith, refl, sym, ap, ◌∙◌, subst, true≢false}
use Rattle.std.specs.Prelude.{ℤ, pos, ◌+ℤ◌, ◌*ℤ◌, unsigned_abs}
use lib.IntN.{neg_ℤ}
use Rattle.std.proofs.lemmas.Int.{ints}
use Rattle.ded_model.specs.declared.slot.Slot.{Slot}
use Rattle.ded_model.specs.declared.slot.Sort.{Sort}
use Rattle.ded_model.specs.declared.slot.Sort.TheVariants.{Rat, Text}
use Rattle.ded_model.specs.declared.goal.Place.{Place}
use Rattle.ded_model.specs.declared.goal.Place.TheVariants.{At, Value, Quoted}
use Rattle.ded_model.specs.declared.row.RowOp.{RowOp}
use Rattle.ded_model.specs.declared.row.RowOp.TheVariants.{Zero}
use Rattle.ded_model.specs.declared.tuple.BothAtom.TheVariants.{First, Second}
use Rattle.ded_model.specs.Constraint.{LinearConstraint}
use Rattle.ded_model.specs.Sum.{SlotSum, denominator}
use Rattle.ded_model.specs.Coefs.{AllAbove, put, put_all}
use Rattle.ded_model.specs.Normal.{divisor_of, normal_row}
use Rattle.ded_model.specs.Point.{same_slot, stands_in}
use Rattle.ded_model.specs.Row.{Atom}
use Rattle.ded_model.specs.Scanned.{kept, fresh, argument_row, of_slot, same_atom, scanned_after, scanned, above_coefs, first_free, tied_atoms}
use Rattle.ded_model.proofs.CoefLemmas.{lesser_slot, put-above}
use Rattle.ded_model.proofs.Divisors.{divisor-whole}
use Rattle.ded_model.proofs.LineCoefs.{AllNonzero}
use Rattle.ded_model.proofs.CoefLists.{over_nonzero}
use Rattle.ded_row.specs.Multiples.{coefs_times}
use Rattle.ded_row.proofs.Forms.{normal_row-normal}
use Rattle.ded_row.proofs.MixedLines.{nonzero_begins}
use Rattle.ded_row.proofs.Shared.{times_nonzero}
use Rattle.ded_width.specs.Reach.{AreAscending, AreAscendingRows, AreAscendingPlaces}
use Rattle.ded_width.proofs.ArgumentSlots.{arguments_ascending}
use Rattle.ded_width.proofs.Rows.{IsGoodRow}

-- ---- normal rows of coefficients that are not 0

with_nonzero : (op : RowOp) (m : ℤ) (cs : List (Slot × ℤ)) → AllNonzero cs → AllNonzero (normal_row (record { coefs = cs; constant = m; op = op })).coefs
unfolding normal_row
with_nonzero op m [] h = tt
with_nonzero op m (c ∷ cs) h = over_nonzero (divisor_of op m (c ∷ cs)) (c ∷ cs) (divisor-whole op m (c ∷ cs)) h

pub normal_nonzero : (r : LinearConstraint) → AllNonzero r.coefs → AllNonzero (normal_row r).coefs
normal_nonzero r h = with_nonzero r.op r.constant r.coefs h

-- ---- coefficients with a new slot

above_times : (n : ℕ) (k : ℤ) (cs : List (Slot × ℤ)) → AllAbove n cs → AllAbove n (coefs_times k cs)
above_times n k [] h = tt
above_times n k (c ∷ cs) h = (h.0, above_times n k cs h.1)

pub above_same : (k : ℤ) (cs : List (Slot × ℤ)) → above_coefs (coefs_times k cs) ≡ above_coefs cs
above_same k [] = refl
above_same k (c ∷ cs) = ap (λ n. max (suc c.0.number) n) (above_same k cs)

pub put_all-times : (k : ℤ) (cs : List (Slot × ℤ)) → AreAscending cs → put_all k cs [] ≡ coefs_times k cs
put_all-times k [] h = refl
put_all-times k (c ∷ cs) h = ap (put c.0 (k *ℤ c.1)) (put_all-times k cs h.2) ∙ put-above c.0 (k *ℤ c.1) (coefs_times k cs) (above_times c.0.number k cs h.1)

put_nonzero : (u : Slot) (z : ℤ) (cs : List (Slot × ℤ)) → z ≢ pos 0 → above_coefs cs ≤ u.number → AllNonzero cs → AllNonzero (put u z cs)
put_nonzero u z [] n a h = (n, tt)
put_nonzero u z (c ∷ cs) n a h = go (same_slot c.0 u) (lesser_slot c.0 u (omega (arith, a))) (nat_lt u.number c.0.number) (put_nonzero u z cs n (omega (arith, a)) h.1)
  where
    go : (b : Bool) → b ≡ false → (d : Bool) → AllNonzero (put u z cs) → AllNonzero (cond b ((c.0, z +ℤ c.1) ∷ cs) (cond d ((u, z) ∷ c ∷ cs) (c ∷ put u z cs)))
    go true e d i = absurd (true≢false e)
    go false e true i = (n, h)
    go false e false i = (h.0, i)

-- ---- the rows of arguments

-- a row is normal, with coefficients that are not 0
abbrev pub IsSound : LinearConstraint → Type 0
IsSound r = AllNonzero r.coefs × (normal_row r ≡ r)

abbrev pub AreSound : List Atom → Type 0
AreSound [] = Unit {0}
AreSound (First r ∷ atoms) = IsSound r × AreSound atoms
AreSound (Second a ∷ atoms) = AreSound atoms

-- no coefficient of a sum is 0
abbrev pub AreNonzeroPlaces : List Place → Type 0
AreNonzeroPlaces [] = Unit {0}
AreNonzeroPlaces (At s ∷ ts) = AreNonzeroPlaces ts
AreNonzeroPlaces (Value t ∷ ts) = AllNonzero t.coefs × AreNonzeroPlaces ts
AreNonzeroPlaces (Quoted t ∷ ts) = AreNonzeroPlaces ts

pub some_denominator : (m : ℤ) → pos (denominator m) ≢ pos 0
unfolding denominator
some_denominator m e = above (unsigned_abs m) e
  where
    above : (n : ℕ) → pos (max 1 n) ≡ pos 0 → ⊥
    above n e = absurd (omega (arith, ap unsigned_abs e))

minus_some : neg_ℤ (pos 1) ≢ pos 0
minus_some e = absurd (omega (arith, ints, e))

pub normal_sound : (r : LinearConstraint) → AllNonzero r.coefs → IsSound (normal_row r)
normal_sound r h = (normal_nonzero r h, (normal_row-normal r (nonzero_begins r.coefs h)).normal)

pub tied_nonzero : (u : Slot) (d : ℤ) (cs : List (Slot × ℤ)) → d ≢ pos 0 → AreAscending cs → AllNonzero cs → above_coefs cs ≤ u.number → AllNonzero (put u d (put_all (neg_ℤ (pos 1)) cs []))
tied_nonzero u d cs n a h l =
    subst (λ xs. AllNonzero (put u d xs)) (sym (put_all-times (neg_ℤ (pos 1)) cs a))
    (put_nonzero u d (coefs_times (neg_ℤ (pos 1)) cs) n (subst (λ m. m ≤ u.number) (sym (above_same (neg_ℤ (pos 1)) cs)) l) (times_nonzero (neg_ℤ (pos 1)) cs minus_some h))

argument_sound : (u : Slot) (t : SlotSum) → AreAscending t.coefs → AllNonzero t.coefs → above_coefs t.coefs ≤ u.number → IsSound (argument_row u t)
argument_sound u t a h l =
    normal_sound (record { coefs = put u (pos (denominator t.over)) (put_all (neg_ℤ (pos 1)) t.coefs []); constant = neg_ℤ t.constant; op = Zero })
    (tied_nonzero u (pos (denominator t.over)) t.coefs (some_denominator t.over) a h l)

one_some : pos 1 ≢ pos 0
one_some e = absurd (omega (arith, ints, e))

same_sound : (n : ℕ) (x : Sort) (s : Slot) (atoms : List Atom) → s.sort ≡ x → suc s.number ≤ n → AreSound atoms → AreSound (same_atom n x s ∷ atoms)
same_sound n Rat s atoms e l h = (argument_sound (record { number = n; sort = Rat }) (of_slot s) (e, tt, tt) (one_some, tt) (omega (arith, l)), h)
same_sound n Text s atoms e l h = h

ties_sound : (done : List Slot) (n : ℕ) (ts : List Place) → first_free ts ≤ n → AreAscendingPlaces ts → AreNonzeroPlaces ts → AreSound (tied_atoms (scanned_after done n ts))
ties_sound done n [] l a h = tt
ties_sound done n (At s ∷ ts) l a h =
    go (stands_in done s) (ties_sound (done ++ record { number = n; sort = s.sort } ∷ []) (suc n) ts (omega (arith, l)) a h) (ties_sound (done ++ s ∷ []) n ts (omega (arith, l)) a h)
  where
    go : (b : Bool) → AreSound (tied_atoms (scanned_after (done ++ record { number = n; sort = s.sort } ∷ []) (suc n) ts)) → AreSound (tied_atoms (scanned_after (done ++ s ∷ []) n ts))
        → AreSound (tied_atoms (cond b (fresh (record { number = n; sort = s.sort }) (same_atom n s.sort s) ∷ scanned_after (done ++ record { number = n; sort = s.sort } ∷ []) (suc n) ts) (kept s ∷ scanned_after (done ++ s ∷ []) n ts)))
    go true new old = same_sound n s.sort s _ refl (omega (arith, l)) new
    go false new old = old
ties_sound done n (Value t ∷ ts) l a h =
    (argument_sound (record { number = n; sort = Rat }) t a.0 h.0 (omega (arith, l)), ties_sound (done ++ record { number = n; sort = Rat } ∷ []) (suc n) ts (omega (arith, l)) a.1 h.1)
ties_sound done n (Quoted x ∷ ts) l a h = ties_sound (done ++ record { number = n; sort = Text } ∷ []) (suc n) ts (omega (arith, l)) a h

-- each row among the atoms is a good one
abbrev pub AreGoodRows : List Atom → Type 0
AreGoodRows [] = Unit {0}
AreGoodRows (First r ∷ atoms) = IsGoodRow r.op r.coefs r.constant × AreGoodRows atoms
AreGoodRows (Second a ∷ atoms) = AreGoodRows atoms

good_rows : (atoms : List Atom) → AreAscendingRows atoms → AreSound atoms → AreGoodRows atoms
good_rows [] a h = tt
good_rows (First r ∷ atoms) a h = (record { ascending = a.0; nonzero = h.0.0; normal = h.0.1 }, good_rows atoms a.1 h.1)
good_rows (Second t ∷ atoms) a h = good_rows atoms a h

pub ties_good : (ts : List Place) → AreAscendingPlaces ts → AreNonzeroPlaces ts → AreGoodRows (tied_atoms (scanned ts))
ties_good ts a h = good_rows (tied_atoms (scanned ts)) (arguments_ascending ts a) (ties_sound [] (first_free ts) ts (omega arith) a h)
