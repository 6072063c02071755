-- What is answered of the parts of a conjunction, put together.
use Rattle.std.proofs.Common.{◌≡◌, ◌<◌, Bool, true, ◌&&◌, List, arith, sym, ap, ◌∙◌}
use Rattle.std.specs.Prelude.{◌↔◌, IsTrue, ℤ, pos, ◌*ℤ◌}
use Rattle.std.proofs.lemmas.Bool.Decides.{Decides-int_eq}
use Rattle.ded_model.specs.declared.slot.Slot.{Slot}
use Rattle.ded_model.specs.declared.bound.Bound.{Bound}
use Rattle.ded_model.specs.declared.bound.Bound.TheVariants.{Infinite, Excluded, Included}
use Rattle.ded_model.specs.Point.{slot, Point, IsPoint, IsSameAt, IsExtension, number_at}
use Rattle.ded_model.specs.Bound.{Fraction, End, lower, upper, is_outside, value_at, SomeOutside, NoneOutside, SomeAt}
use Rattle.ded_model.specs.Interval.{IsExactBound}
use Rattle.ded_model.specs.Lines.{Line, IsSubset}
use Rattle.ded_model.proofs.Points.{and_left, and_right}
use Rattle.ded_model.proofs.Values.{int_lt-same, int_eq-same, swap_law}
use Rattle.ded_num.proofs.Ring.{parts, ring, diff_same}
use Rattle.ded_theory.specs.Conjunctions.{conj_mentions, conj_lines, IsWide}
use Rattle.ded_theory.specs.Eliminations.{SomeExtension}
use Rattle.ded_theory.specs.Verdicts.{IsBound}
use Rattle.std.proofs.lemmas.Bool.{and_from}

-- ---- eliminations

-- a test is two, and the second one says the same of an extension: so eliminating from the first does
pub joined_exact : (s : Slot) (p : Point) (whole f g : Point → Bool) (b : Bool) → ((q : Point) → whole q ≡ (f q && g q)) → (IsTrue b ↔ SomeExtension s f p)
    → ((q : Point) → IsExtension s.sort p (slot s) q → g p ≡ g q) → IsTrue (b && g p) ↔ SomeExtension s whole p
joined_exact s p whole f g b split exact kept = (
  λ h. let w = exact.0 (and_left b (g p) h) in (w.0, w.1, split w.0 ∙ and_from (f w.0) (g w.0) w.2 (sym (kept w.0 w.1) ∙ and_right b (g p) h)),
  λ w. let h = sym (split w.0) ∙ w.2 in and_from b (g p) (exact.1 (w.0, w.1, and_left (f w.0) (g w.0) h)) (kept w.0 w.1 ∙ and_right (f w.0) (g w.0) h),
)

-- ---- wide parts

module _ {A C : Type 0} (m : A → Slot → Bool) (l : A → List Line) (m' : C → Slot → Bool) (l' : C → List Line) where
  -- more atoms are wide where some are
  pub wide_more : (xs : List A) (ys : List C) → IsSubset (conj_lines l xs) (conj_lines l' ys) → ((s : Slot) → conj_mentions m xs s ≡ true → conj_mentions m' ys s ≡ true) → IsWide m l xs → IsWide m' l' ys
  wide_more xs ys lines slots w = record { above = λ b within ss has. w.above b (λ n i. within n (lines n i)) ss (λ s e r. has s (slots s e) r) }

-- ---- bounds

-- the same value, cross-multiplied
cross_law : (n n' f d d' : ℤ) → n *ℤ d' ≡ n' *ℤ d → (n *ℤ f) *ℤ d' ≡ (n' *ℤ f) *ℤ d
cross_law n n' f d d' e = turn n f d' ∙ ap (λ z. z *ℤ f) e ∙ sym (turn n' f d)
  where
    turn : (x y z : ℤ) → (x *ℤ y) *ℤ z ≡ (x *ℤ z) *ℤ y
    turn x y z = rw (parts x, parts y, parts z) (simp ring (diff_same _ _ _ _ (omega arith)))

-- one value lies outside of the same fractions at two points
pub outside_same : (e : End) (s : Slot) (p q : Point) (f : Fraction) → 0 < p.den → 0 < q.den → IsSameAt p q (slot s) → is_outside e (value_at s p) f ≡ is_outside e (value_at s q) f
outside_same lower s p q f i j h =
    int_lt-same (number_at p (slot s) *ℤ f.den) (f.num *ℤ pos p.den) (number_at q (slot s) *ℤ f.den) (f.num *ℤ pos q.den) p.den q.den i j
    (cross_law (number_at p (slot s)) (number_at q (slot s)) f.den (pos p.den) (pos q.den) h.number) (swap_law f.num (pos p.den) (pos q.den))
outside_same upper s p q f i j h =
    int_lt-same (f.num *ℤ pos p.den) (number_at p (slot s) *ℤ f.den) (f.num *ℤ pos q.den) (number_at q (slot s) *ℤ f.den) p.den q.den i j
    (swap_law f.num (pos p.den) (pos q.den)) (cross_law (number_at p (slot s)) (number_at q (slot s)) f.den (pos p.den) (pos q.den) h.number)

-- a value that is attained
pub at_same : (s : Slot) (p q : Point) (f : Fraction) → 0 < p.den → 0 < q.den → IsSameAt p q (slot s) → number_at p (slot s) *ℤ f.den ≡ f.num *ℤ pos p.den → number_at q (slot s) *ℤ f.den ≡ f.num *ℤ pos q.den
at_same s p q f i j h e =
    (Decides-int_eq (number_at q (slot s) *ℤ f.den) (f.num *ℤ pos q.den)).0
    (sym (int_eq-same (number_at p (slot s) *ℤ f.den) (f.num *ℤ pos p.den) (number_at q (slot s) *ℤ f.den) (f.num *ℤ pos q.den) p.den q.den i j
    (cross_law (number_at p (slot s)) (number_at q (slot s)) f.den (pos p.den) (pos q.den) h.number) (swap_law f.num (pos p.den) (pos q.den)))
    ∙ (Decides-int_eq (number_at p (slot s) *ℤ f.den) (f.num *ℤ pos p.den)).1 e)

-- a test that is narrower, with a point of the same value for each point of the wider one
pub record SharesValues (s : Slot) (wide narrow : Point → Bool) : Type 0 where
  pub within : (p : Point) → IsTrue (narrow p) → IsTrue (wide p)
  pub shared : (p : Point) → IsPoint p → IsTrue (wide p) → (q : Point) × IsPoint q × IsTrue (narrow q) × IsSameAt p q (slot s)

module _ (s : Slot) (wide narrow : Point → Bool) (h : SharesValues s wide narrow) where
  some_outside : (e : End) (f : Fraction) → SomeOutside wide s e f → SomeOutside narrow s e f
  some_outside e f w = let q = h.shared w.0 w.1 w.2 in (q.0, q.1, q.2, sym (outside_same e s w.0 q.0 f w.1.positive q.1.positive q.3) ∙ w.3)

  none_outside : (e : End) (f : Fraction) → NoneOutside wide s e f → NoneOutside narrow s e f
  none_outside e f n = λ p i t. n p i (h.within p t)

  some_at : (f : Fraction) → SomeAt wide s f → SomeAt narrow s f
  some_at f w = let q = h.shared w.0 w.1 w.2 in (q.0, q.1, q.2, at_same s w.0 q.0 f w.1.positive q.1.positive q.3 w.3)

  some_at_wide : (f : Fraction) → SomeAt narrow s f → SomeAt wide s f
  some_at_wide f w = (w.0, w.1, h.within w.0 w.2, w.3)

  -- they have the same exact bounds
  pub exact_shared : (e : End) (b : Bound) → IsExactBound wide s e b → IsExactBound narrow s e b
  exact_shared e Infinite x = λ f i. some_outside e f (x f i)
  exact_shared e (Excluded f) x = record {
    positive = x.positive;
    lowest = x.lowest;
    free = λ w. x.free (some_at_wide f w);
    none = none_outside e f x.none;
    near = λ g i o. some_outside e g (x.near g i o);
  }
  exact_shared e (Included f) x = record { positive = x.positive; lowest = x.lowest; attained = some_at f x.attained; none = none_outside e f x.none }

module _ (s : Slot) (wide narrow : Point → Bool) (within : (p : Point) → IsTrue (narrow p) → IsTrue (wide p)) where
  -- a bound of the wider test is one of the narrower
  pub bound_within : (e : End) (b : Bound) → IsBound wide s e b → IsBound narrow s e b
  bound_within e Infinite x = tt
  bound_within e (Excluded f) x = (λ p i t. x.0 p i (within p t), λ w. x.1 (w.0, w.1, within w.0 w.2, w.3))
  bound_within e (Included f) x = λ p i t. x p i (within p t)

-- an exact bound is a bound
pub exact_bound : (test : Point → Bool) (s : Slot) (e : End) (b : Bound) → IsExactBound test s e b → IsBound test s e b
exact_bound test s e Infinite x = tt
exact_bound test s e (Excluded f) x = (x.none, x.free)
exact_bound test s e (Included f) x = x.none
