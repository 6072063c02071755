-- The difference of two sums by slots.
use Rattle.std.proofs.Common.{◌≡◌, ℕ, zero, suc, ◌+◌, ◌<◌, Bool, true, false, cond, List, [], ◌∷◌, length, drop, arith, refl, sym, ap, ap₂, ◌∙◌, subst, to_z, of_z, SFits}
use Rattle.std.specs.Prelude.{ℤ, pos, ◌+ℤ◌, ◌-ℤ◌, ◌*ℤ◌}
use lib.IntN.{neg_ℤ}
use Rattle.std.specs.Int.{w128}
use Rattle.std.proofs.lemmas.Int.{ints, to_z-of_z, fits_signed_from_abs}
use Rattle.ded_num.specs.Length.{IsWithin, IsShort}
use Rattle.ded_num.proofs.Signs.{one_times}
use Rattle.ded_model.specs.declared.slot.Slot.{Slot}
use Rattle.ded_model.specs.declared.slot.Sort.TheVariants.{Rat}
use Rattle.ded_model.specs.Point.{same_slot}
use Rattle.ded_model.specs.Coefs.{AllAbove, AreCoefs, coef_at, mixed, nonzero, with_coef}
use Rattle.ded_model.proofs.Points.{same_slot_is, same_slot_refl}
use Rattle.ded_model.proofs.CoefLemmas.{AreCoefs-with_coef, coef_at-here, coef_at-past, lesser_slot}
use Rattle.ded_model.proofs.LineCoefs.{coef_at-mixed}
use Rattle.ded_row.proofs.FirstSlots.{entry, split}
use Rattle.ded_resolve.specs.Scope.{AreSmall}
use Rattle.ded_resolve.proofs.Ascending.{rational-kept, ascend-mixed, kept_is, coef_at-with_coef}
use Rattle.ded_model.proofs.Definable.{neg_times}
use Rattle.ded_model.proofs.CoefLists.{drop-kept}

-- ---- the loop over the coefficients that are taken off

-- those of xs without those of ys, but for the ones that are left
abbrev pub Differing : List (Slot × ℤ) → List (Slot × ℤ) → List (Slot × ℤ) → List (Slot × ℤ) → Type 0
Differing xs ys left out = (s : Slot) → coef_at out s ≡ (coef_at xs s -ℤ coef_at ys s) +ℤ coef_at left s

none_law : (x y : ℤ) → x ≡ (x -ℤ y) +ℤ y
none_law x y = omega (arith, ints)

pub differing_none : (xs ys : List (Slot × ℤ)) → Differing xs ys ys xs
differing_none xs ys = λ s. none_law (coef_at xs s) (coef_at ys s)

-- the coefficient at a place
pub coef_at-entry : (ys : List (Slot × ℤ)) (i : ℕ) → AreCoefs ys → i < length ys → coef_at ys (entry ys i).0 ≡ (entry ys i).1
coef_at-entry [] i k h = absurd (omega arith)
coef_at-entry (y ∷ ys) zero k h = coef_at-here y.0 y ys (same_slot_refl y.0) k.3
coef_at-entry (y ∷ ys) (suc i) k h = coef_at-past (entry ys i).0 y ys (lesser_slot y.0 (entry ys i).0 (above y.0.number ys i k.3 (omega arith))) ∙ coef_at-entry ys i k.4 (omega arith)
  where
    above : (n : ℕ) (ys : List (Slot × ℤ)) (i : ℕ) → AllAbove n ys → i < length ys → n < (entry ys i).0.number
    above n [] i k h = absurd (omega arith)
    above n (y ∷ ys) zero k h = k.0
    above n (y ∷ ys) (suc i) k h = above n ys i k.1 (omega arith)

here_law : (o x y a : ℤ) → o ≡ (x -ℤ y) +ℤ a → y ≡ a → o ≡ x
here_law o x y a e f = omega (arith, ints)

-- at the next slot nothing is taken off yet
pub differing_here : (xs ys out : List (Slot × ℤ)) (i : ℕ) → AreCoefs ys → i < length ys → Differing xs ys (drop i ys) out → coef_at out (entry ys i).0 ≡ coef_at xs (entry ys i).0
differing_here xs ys out i k h d =
    let c = entry ys i in
    let kept : AreCoefs (c ∷ drop (i + 1) ys) = subst AreCoefs (split ys i h) (drop-kept ys i k) in
    here_law (coef_at out c.0) (coef_at xs c.0) (coef_at ys c.0) c.1
    (d c.0 ∙ ap (λ l. (coef_at xs c.0 -ℤ coef_at ys c.0) +ℤ l) (ap (λ cs. coef_at cs c.0) (split ys i h) ∙ coef_at-here c.0 c (drop (i + 1) ys) (same_slot_refl c.0) kept.3))
    (coef_at-entry ys i k h)

more_law : (o d a l : ℤ) → o ≡ d +ℤ (a +ℤ l) → o -ℤ a ≡ d +ℤ l
more_law o d a l e = omega (arith, ints)

skip_law : (o d l : ℤ) → o ≡ d +ℤ (pos 0 +ℤ l) → o ≡ d +ℤ l
skip_law o d l e = omega (arith, ints)

-- one is taken off
pub differing_more : (xs ys out : List (Slot × ℤ)) (i : ℕ) → i < length ys → Differing xs ys (drop i ys) out
    → Differing xs ys (drop (i + 1) ys) (with_coef (entry ys i).0 (coef_at out (entry ys i).0 -ℤ (entry ys i).1) out)
differing_more xs ys out i h d = λ s.
    let c = entry ys i in
    coef_at-with_coef c.0 (coef_at out c.0 -ℤ c.1) out s ∙ go s (same_slot c.0 s) refl (d s ∙ ap (λ cs. (coef_at xs s -ℤ coef_at ys s) +ℤ coef_at cs s) (split ys i h))
  where
    go : (s : Slot) (b : Bool) → same_slot (entry ys i).0 s ≡ b
        → coef_at out s ≡ (coef_at xs s -ℤ coef_at ys s) +ℤ (cond b (entry ys i).1 (pos 0) +ℤ coef_at (drop (i + 1) ys) s)
        → cond b (coef_at out (entry ys i).0 -ℤ (entry ys i).1) (coef_at out s) ≡ (coef_at xs s -ℤ coef_at ys s) +ℤ coef_at (drop (i + 1) ys) s
    go s true e f =
        ap (λ t. coef_at out t -ℤ (entry ys i).1) (same_slot_is (entry ys i).0 s e)
        ∙ more_law (coef_at out s) (coef_at xs s -ℤ coef_at ys s) (entry ys i).1 (coef_at (drop (i + 1) ys) s) f
    go s false e f = skip_law (coef_at out s) (coef_at xs s -ℤ coef_at ys s) (coef_at (drop (i + 1) ys) s) f

minus_law : (x y : ℤ) → (x -ℤ y) +ℤ pos 0 ≡ x +ℤ neg_ℤ y
minus_law x y = omega (arith, ints)

all_law : (x y : ℤ) → (x -ℤ y) +ℤ pos 0 ≡ pos 1 *ℤ x +ℤ neg_ℤ (pos 1) *ℤ y
all_law x y = minus_law x y ∙ sym (ap₂ (λ a b. a +ℤ b) (one_times x) (neg_times y))

-- all are
pub differing_all : (xs ys out : List (Slot × ℤ)) → AreCoefs xs → AreCoefs ys → AreCoefs out → Differing xs ys [] out → out ≡ nonzero (mixed (pos 1) xs (neg_ℤ (pos 1)) ys)
differing_all xs ys out h k l d =
    kept_is out (mixed (pos 1) xs (neg_ℤ (pos 1)) ys) l (ascend-mixed (pos 1) xs (neg_ℤ (pos 1)) ys (rational-kept xs h) (rational-kept ys k))
    (λ s. d s ∙ all_law (coef_at xs s) (coef_at ys s) ∙ sym (coef_at-mixed (pos 1) xs (neg_ℤ (pos 1)) ys s))

-- ---- numbers

-- the difference of two numbers of at most 112 digits is short
pub difference_short : (x y : ℤ) → IsWithin 112 x → IsWithin 112 y → IsShort (x -ℤ y)
difference_short x y h k = omega (arith, ints)

-- ---- the step of the loop, as the code has it

-- the number in the code
abbrev pub code : ℤ → ℤ
code z = to_z w128 (of_z w128 z)

code_is : (z : ℤ) → IsShort z → code z ≡ z
code_is z h = to_z-of_z w128 z (fits_signed_from_abs w128 z h)

module _ (xs ys out : List (Slot × ℤ)) (i : ℕ) (o : ℤ) (ky : AreCoefs ys) (lt : i < length ys) (sx : AreSmall xs) (sy : AreSmall ys) (d : Differing xs ys (drop i ys) out)
    (short : IsShort o) (is : o ≡ coef_at out (entry ys i).0) where
  -- both numbers have at most 112 digits
  here_left : IsWithin 112 o
  here_left = subst (IsWithin 112) (sym (is ∙ differing_here xs ys out i ky lt d)) (sx (entry ys i).0)

  here_right : IsWithin 112 (entry ys i).1
  here_right = subst (IsWithin 112) (coef_at-entry ys i ky lt) (sy (entry ys i).0)

  numbers_are : code o -ℤ code (entry ys i).1 ≡ o -ℤ (entry ys i).1
  numbers_are = ap₂ (λ a b. a -ℤ b) (code_is o short) (code_is (entry ys i).1 (below (entry ys i).1 here_right))
    where
      below : (z : ℤ) → IsWithin 112 z → IsWithin 127 z
      below z h = omega (arith, h)

  -- so has their difference
  pub step_short : IsShort (code o -ℤ code (entry ys i).1)
  step_short = subst IsShort (sym numbers_are) (difference_short o (entry ys i).1 here_left here_right)

  pub step_fits : SFits w128 (code o -ℤ code (entry ys i).1)
  step_fits = fits_signed_from_abs w128 _ step_short

  pub step_rational : (entry ys i).0.sort ≡ Rat
  step_rational = (subst AreCoefs (split ys i lt) (drop-kept ys i ky)).0

  pub step_short_in_code : IsShort (code (code o -ℤ code (entry ys i).1))
  step_short_in_code = let z = code o -ℤ code (entry ys i).1 in subst IsShort (sym (code_is z step_short)) step_short

  new_is : (out' : List (Slot × ℤ)) → out' ≡ with_coef (entry ys i).0 (code (code o -ℤ code (entry ys i).1)) out → out' ≡ with_coef (entry ys i).0 (coef_at out (entry ys i).0 -ℤ (entry ys i).1) out
  new_is out' e = e ∙ ap (λ z. with_coef (entry ys i).0 z out) (code_is _ step_short ∙ numbers_are ∙ ap (λ z. z -ℤ (entry ys i).1) is)

  pub step_differing : (out' : List (Slot × ℤ)) → out' ≡ with_coef (entry ys i).0 (code (code o -ℤ code (entry ys i).1)) out → Differing xs ys (drop (i + 1) ys) out'
  step_differing out' e = subst (Differing xs ys (drop (i + 1) ys)) (sym (new_is out' e)) (differing_more xs ys out i lt d)

  pub step_kept : (out' : List (Slot × ℤ)) → AreCoefs out → out' ≡ with_coef (entry ys i).0 (code (code o -ℤ code (entry ys i).1)) out → AreCoefs out'
  step_kept out' k e = subst AreCoefs (sym e) (AreCoefs-with_coef (entry ys i).0 step_rational _ step_short_in_code out k)

-- the difference of two constants in the code
pub constant_in_code : (x y x' y' : ℤ) → x ≡ x' → y ≡ y' → IsWithin 112 x' → IsWithin 112 y' → code (code x -ℤ code y) ≡ x' -ℤ y'
constant_in_code x y x' y' e f h k =
    ap code (ap₂ (λ a b. a -ℤ b) (ap code e ∙ code_is x' (below x' h)) (ap code f ∙ code_is y' (below y' k))) ∙ code_is (x' -ℤ y') (difference_short x' y' h k)
  where
    below : (z : ℤ) → IsWithin 112 z → IsWithin 127 z
    below z h = omega (arith, h)
