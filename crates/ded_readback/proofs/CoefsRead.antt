-- The coefficients of the terms that are read.
use Rattle.std.proofs.Common.{◌≡◌, ◌≢◌, ℕ, ◌^◌, ◌<◌, List, [], ◌∷◌, ◌++◌, map, refl, sym, ap, ◌∙◌, subst, arith, Bool, true, false, append_assoc, append-nil}
use Rattle.std.specs.Prelude.{ℤ, pos, unsigned_abs, nat_lt, Option, Some, None, ◌&&◌}
use Rattle.std.proofs.lemmas.Bool.{lt-ltb}
use Rattle.std.proofs.lemmas.Bool.Decides.{nat_tests}
use Rattle.ded_model.specs.declared.slot.Sort.TheVariants.{Rat}
use Rattle.ded_model.specs.declared.slot.Slot.{Slot}
use Rattle.ded_model.specs.Point.{same_sort}
use Rattle.ded_model.specs.Coefs.{AllAbove, AllBelow, AreCoefs, with_coef}
use Rattle.ded_model.proofs.Points.{cond_true}
use Rattle.ded_model.proofs.Atoms.{and_to}
use Rattle.ded_model.proofs.CoefLemmas.{lesser_slot, not_zero}
use Rattle.ded_model.proofs.RationalColumns.{rational_sort}
use Rattle.ded_print.specs.Tuples.{signed}
use Rattle.ded_readback.specs.Reading.{◌>>=◌, is_short, with_term, coefs_from}
use Rattle.ded_print.proofs.Signs.{turned_abs}
use Rattle.ded_readback.proofs.Signs.{number_back}
use Rattle.ded_readback.proofs.TermsRead.{summand_of}

-- ---- a coefficient behind all others

not_less : (m n : ℕ) → m < n → nat_lt n m ≡ false
not_less m n h = grind (arith, nat_tests)

pub set_last : (s : Slot) (a : ℤ) (cs : List (Slot × ℤ)) → a ≢ pos 0 → AllBelow s.number cs → AreCoefs cs → with_coef s a cs ≡ cs ++ (s, a) ∷ []
set_last s a [] n h k = rw (not_zero a n) refl
set_last s a (c ∷ cs) n h k =
    let past : with_coef s a (c ∷ cs) ≡ c ∷ with_coef s a cs = rw (lesser_slot c.0 s h.0, lesser_slot c.0 s h.0, not_less c.0.number s.number h.0, not_zero c.1 k.2) refl in
    past ∙ ap (λ (l : List (Slot × ℤ)). c ∷ l) (set_last s a cs n h.1 k.4)

-- ---- parts of coefficients

above_front : (n : ℕ) (xs : List (Slot × ℤ)) (c : Slot × ℤ) (cs : List (Slot × ℤ)) → AllAbove n (xs ++ c ∷ cs) → AllAbove n xs × (n < c.0.number)
above_front n [] c cs h = (tt, h.0)
above_front n (x ∷ xs) c cs h = let more = above_front n xs c cs h.1 in ((h.0, more.0), more.1)

front_coefs : (xs : List (Slot × ℤ)) (c : Slot × ℤ) (cs : List (Slot × ℤ)) → AreCoefs (xs ++ c ∷ cs) → AreCoefs xs × AllBelow c.0.number xs
front_coefs [] c cs h = (tt, tt)
front_coefs (x ∷ xs) c cs h =
    let more = front_coefs xs c cs h.4 in
    let above = above_front x.0.number xs c cs h.3 in
    ((h.0, h.1, h.2, above.0, more.0), (above.1, more.1))

rest_coefs : (xs cs : List (Slot × ℤ)) → AreCoefs (xs ++ cs) → AreCoefs cs
rest_coefs [] cs h = h
rest_coefs (x ∷ xs) cs h = rest_coefs xs cs h.4

-- ---- terms

pub short_is : (n : ℕ) → n < 2 ^ 127 → is_short n ≡ true
short_is n h = lt-ltb n (2 ^ 127) h

one_read : (turned : Bool) (done : List (Slot × ℤ)) (c : Slot × ℤ) (cs : List (Slot × ℤ)) → AreCoefs (done ++ c ∷ cs) → with_term turned done (summand_of turned c) ≡ Some (done ++ c ∷ [])
one_read turned done c cs k =
    let front = front_coefs done c cs k in
    let here = rest_coefs done (c ∷ cs) k in
    let z = signed turned c.1 in
    let magnitude : unsigned_abs z < 2 ^ 127 = subst (λ n. n < 2 ^ 127) (sym (turned_abs turned c.1)) here.1 in
    cond_true (same_sort c.0.sort Rat && is_short (unsigned_abs z)) _ None (and_to _ _ (rational_sort c.0.sort here.0, short_is (unsigned_abs z) magnitude))
    ∙ ap (λ (y : ℤ). Some (with_coef c.0 y done)) (number_back turned c.1)
    ∙ ap (λ (l : List (Slot × ℤ)). Some l) (set_last c.0 c.1 done here.2 front.1 front.0)

pub coefs_read : (turned : Bool) (done cs : List (Slot × ℤ)) → AreCoefs (done ++ cs) → coefs_from turned done (map (summand_of turned) cs) ≡ Some (done ++ cs)
coefs_read turned done [] k = ap (λ (l : List (Slot × ℤ)). Some l) (sym (append-nil done))
coefs_read turned done (c ∷ cs) k =
    let split = append_assoc done (c ∷ []) cs in
    ap (λ (o : Option (List (Slot × ℤ))). o >>= λ ds. coefs_from turned ds (map (summand_of turned) cs)) (one_read turned done c cs k)
    ∙ coefs_read turned (done ++ c ∷ []) cs (subst AreCoefs (sym split) k)
    ∙ ap (λ (l : List (Slot × ℤ)). Some l) split
