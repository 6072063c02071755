-- Coefficients that are divided one after another, and one that is added at the end.
use Rattle.std.proofs.Common.{◌≡◌, ◌≢◌, ℕ, zero, suc, ◌*◌, ◌^◌, ◌<◌, List, [], ◌∷◌, ◌++◌, take, drop, set, length, get_or, arith, refl, sym, ap, ◌∙◌}
use Rattle.std.specs.Prelude.{ℤ, pos, negsuc, ◌*ℤ◌, int_div, unsigned_abs}
use Rattle.std.proofs.lemmas.Int.{unsigned_abs-mul}
use Rattle.std.proofs.Math.IntN.{*ℤ-zero}
use Rattle.ded_num.specs.Length.{IsShort}
use Rattle.ded_model.specs.declared.slot.Sort.TheVariants.{Rat}
use Rattle.ded_model.specs.declared.slot.Slot.{Slot}
use Rattle.ded_model.specs.Coefs.{AllAbove, AllBelow, AreCoefs}
use Rattle.ded_model.specs.Normal.{coefs_over, DivideWhole}

-- ---- place by place

-- each coefficient is short
pub short_at : (cs : List (Slot × ℤ)) (i : ℕ) (d : Slot × ℤ) → AreCoefs cs → i < length cs → IsShort (get_or cs i d).1
short_at [] i d h k = absurd (omega arith)
short_at (c ∷ cs) zero d h k = h.1
short_at (c ∷ cs) (suc i) d h k = short_at cs i d h.4 (omega arith)

-- the next one to divide is still as it was
pub at_turn : (by : ℤ) (cs : List (Slot × ℤ)) (i : ℕ) (d : Slot × ℤ) → i < length cs → get_or (coefs_over by (take i cs) ++ drop i cs) i d ≡ get_or cs i d
at_turn by [] i d k = absurd (omega arith)
at_turn by (c ∷ cs) zero d k = refl
at_turn by (c ∷ cs) (suc i) d k = at_turn by cs i d (omega arith)

-- after it, one more is divided
pub after_turn : (by : ℤ) (cs : List (Slot × ℤ)) (i : ℕ) (d : Slot × ℤ) → i < length cs
    → set (coefs_over by (take i cs) ++ drop i cs) i ((get_or cs i d).0, int_div (get_or cs i d).1 by) ≡ coefs_over by (take (suc i) cs) ++ drop (suc i) cs
after_turn by [] i d k = absurd (omega arith)
after_turn by (c ∷ cs) zero d k = refl
after_turn by (c ∷ cs) (suc i) d k = ap (λ xs. (c.0, int_div c.1 by) ∷ xs) (after_turn by cs i d (omega arith))

-- ---- what is kept

-- the slots stay
pub AllAbove-coefs_over : (n : ℕ) (by : ℤ) (cs : List (Slot × ℤ)) → AllAbove n cs → AllAbove n (coefs_over by cs)
AllAbove-coefs_over n by [] h = tt
AllAbove-coefs_over n by (c ∷ cs) h = (h.0, AllAbove-coefs_over n by cs h.1)

-- an exact quotient is short
factor_short : (k q z : ℤ) → k *ℤ q ≡ z → k ≢ pos 0 → IsShort z → IsShort q
factor_short k q z e n h =
    let m : unsigned_abs k * unsigned_abs q ≡ unsigned_abs z = sym (unsigned_abs-mul k q) ∙ ap unsigned_abs e in
    below (unsigned_abs k) (unsigned_abs q) (unsigned_abs z) m (above k n) h
  where
    above : (k : ℤ) → k ≢ pos 0 → 0 < unsigned_abs k
    above (pos zero) n = absurd (n refl)
    above (pos (suc a)) n = omega arith
    above (negsuc a) n = omega arith

    below : (a b c : ℕ) → a * b ≡ c → 0 < a → c < 2 ^ 127 → b < 2 ^ 127
    below zero b c e h l = absurd (omega arith)
    below (suc a) b c e h l = omega arith

-- and is 0 only of 0
pub factor_nonzero : (k q z : ℤ) → k *ℤ q ≡ z → z ≢ pos 0 → q ≢ pos 0
factor_nonzero k q z e n f = n (sym e ∙ ap (λ x. k *ℤ x) f ∙ *ℤ-zero k)

-- divided coefficients keep what lists of coefficients keep
pub AreCoefs-coefs_over : (by : ℤ) (cs : List (Slot × ℤ)) → by ≢ pos 0 → DivideWhole by cs → AreCoefs cs → AreCoefs (coefs_over by cs)
AreCoefs-coefs_over by [] n w h = tt
AreCoefs-coefs_over by (c ∷ cs) n w h =
    (h.0, factor_short by (int_div c.1 by) c.1 w.0 n h.1, factor_nonzero by (int_div c.1 by) c.1 w.0 h.2, AllAbove-coefs_over c.0.number by cs h.3, AreCoefs-coefs_over by cs n w.1 h.4)

-- as many as before
pub length-coefs_over : (by : ℤ) (cs : List (Slot × ℤ)) → length (coefs_over by cs) ≡ length cs
length-coefs_over by [] = refl
length-coefs_over by (c ∷ cs) = ap suc (length-coefs_over by cs)

-- ---- one more at the end

-- all stay above a lesser number
AllAbove-push : (n : ℕ) (cs : List (Slot × ℤ)) (s : Slot) (a : ℤ) → AllAbove n cs → n < s.number → AllAbove n (cs ++ (s, a) ∷ [])
AllAbove-push n [] s a h k = (k, tt)
AllAbove-push n (c ∷ cs) s a h k = (h.0, AllAbove-push n cs s a h.1 k)

-- a list of coefficients with one more above all others is one again
pub AreCoefs-push : (cs : List (Slot × ℤ)) (s : Slot) (a : ℤ) → AreCoefs cs → AllBelow s.number cs → s.sort ≡ Rat → IsShort a → a ≢ pos 0 → AreCoefs (cs ++ (s, a) ∷ [])
AreCoefs-push [] s a h l r k n = (r, k, n, tt, tt)
AreCoefs-push (c ∷ cs) s a h l r k n = (h.0, h.1, h.2, AllAbove-push c.0.number cs s a h.3 l.0, AreCoefs-push cs s a h.4 l.1 r k n)
