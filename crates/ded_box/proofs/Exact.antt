-- Exact bounds, in the words of what is inside of them: all values lie inside, and each value that lies inside has some at it
-- or outside of it. So they are read at both ends and of all kinds of bounds at once.
use Rattle.std.proofs.Common.{◌≡◌, ℕ, ◌<◌, Bool, true, false, not, ◌||◌, arith, sym, ap, ◌∙◌, ◌⊎◌, ⊎_elim}
use Rattle.std.specs.Prelude.{ℤ, pos, ◌*ℤ◌, ◌-ℤ◌, ◌<ℤ◌, neg_ℤ}
use Rattle.std.proofs.lemmas.Int.{ints, by_lt_z}
use Rattle.ded_model.specs.declared.row.RowOp.TheVariants.{AtMost, Below}
use Rattle.ded_model.specs.declared.bound.Bound.{Bound}
use Rattle.ded_model.specs.declared.bound.Bound.TheVariants.{Infinite, Excluded, Included}
use Rattle.ded_model.specs.declared.slot.Slot.{Slot}
use Rattle.ded_model.specs.Bound.{Fraction, End, lower, upper, is_outside, value_at, IsLowest, IsIncluded, IsExcluded, SomeOutside}
use Rattle.ded_model.specs.Interval.{IsExactBound}
use Rattle.ded_model.specs.Point.{Point, IsPoint}
use Rattle.ded_model.proofs.Core.{Meets, below_at_most}
use Rattle.ded_model.proofs.Rows.{or_left, or_right}
use Rattle.ded_model.proofs.Members.{or_split}
use Rattle.ded_box.specs.Intervals.{IsPositive, OnFraction, HasPositive, wider}
use Rattle.ded_box.proofs.Gaps.{gap_at, gap_self, gap_turned, outside_decides, not_outside_decides, chain_at, middle, middle-positive, middle-after, middle-before, beyond, beyond-positive, beyond-outside}
use Rattle.ded_box.proofs.Insides.{Inside, wider-one, wider-is}
use Rattle.std.proofs.lemmas.Bool.{not-true}
use Rattle.ded_num.proofs.Signs.{no_gap}

-- some value is at g, or outside of it
pub record AtOrOutside (test : Point → Bool) (s : Slot) (e : End) (g : Fraction) : Type 0 where
  pub point : Point
  pub is : IsPoint point
  pub passes : test point ≡ true
  pub reaches : Meets AtMost (gap_at e (value_at s point) g)

pub record IsTight (test : Point → Bool) (s : Slot) (e : End) (b : Bound) : Type 0 where
  pub positive : HasPositive b
  pub lowest : OnFraction IsLowest b
  pub all : (p : Point) → IsPoint p → test p ≡ true → Inside e b (value_at s p)
  pub near : (g : Fraction) → IsPositive g → Inside e b g → AtOrOutside test s e g

-- ---- values

pub value-positive : (s : Slot) (p : Point) → IsPoint p → IsPositive (value_at s p)
value-positive s p h = positive p.den h.positive
  where
    positive : (n : ℕ) → 0 < n → pos 0 <ℤ pos n
    positive n h = omega (arith, ints)

difference_zero : (x y : ℤ) → x -ℤ y ≡ pos 0 → y ≡ x
difference_zero x y h = omega (arith, ints)

-- no difference is to have the same value
same_value : (e : End) (f v : Fraction) → gap_at e f v ≡ pos 0 → v.num *ℤ f.den ≡ f.num *ℤ v.den
same_value lower f v h = difference_zero (f.num *ℤ v.den) (v.num *ℤ f.den) h
same_value upper f v h = sym (difference_zero (v.num *ℤ f.den) (f.num *ℤ v.den) h)

no_difference : (e : End) (f v : Fraction) → v.num *ℤ f.den ≡ f.num *ℤ v.den → gap_at e f v ≡ pos 0
no_difference lower f v h = no_gap (f.num *ℤ v.den) (v.num *ℤ f.den) (sym h)
no_difference upper f v h = no_gap (v.num *ℤ f.den) (f.num *ℤ v.den) h

not_true : (b : Bool) → b ≡ false → not b ≡ true
not_true b h = ap not h

strictly : (z : ℤ) → Meets AtMost z → (z ≡ pos 0 → ⊥) → Meets Below z
strictly z h n = by_lt_z z (pos 0) (λ lt. omega (arith, ints)) (λ le. absurd (n (omega (arith, ints))))

both_zero : (z w : ℤ) → Meets AtMost z → Meets AtMost w → w ≡ neg_ℤ z → z ≡ pos 0
both_zero z w h k e = omega (arith, ints)

never_below : (z : ℤ) → z ≡ pos 0 → Meets Below z → ⊥
never_below z e h = omega (arith, ints)

at_zero : (z : ℤ) → z ≡ pos 0 → Meets AtMost z
at_zero z e = omega (arith, ints)

module _ (test : Point → Bool) (s : Slot) (e : End) where
  -- ---- from exact bounds

  outside : (g : Fraction) → SomeOutside test s e g → AtOrOutside test s e g
  outside g h = record { point = h.0; is = h.1; passes = h.2; reaches = below_at_most _ ((outside_decides e (value_at s h.0) g).0 h.3) }

  within_included : (f : Fraction) → IsIncluded test s e f → (p : Point) → IsPoint p → test p ≡ true → Meets AtMost (gap_at e f (value_at s p))
  within_included f x p i h = (not_outside_decides e (value_at s p) f).0 (not_true _ (x.none p i h))

  within_excluded : (f : Fraction) → IsExcluded test s e f → (p : Point) → IsPoint p → test p ≡ true → Meets Below (gap_at e f (value_at s p))
  within_excluded f x p i h = strictly (gap_at e f (value_at s p)) ((not_outside_decides e (value_at s p) f).0 (not_true _ (x.none p i h)))
      (λ z. x.free (p, i, h, same_value e f (value_at s p) z))

  reached : (f : Fraction) → IsPositive f → IsIncluded test s e f → (g : Fraction) → IsPositive g → Meets AtMost (gap_at e f g) → AtOrOutside test s e g
  reached f pf x g pg k =
      let p = x.attained.0 in
      record {
        point = p;
        is = x.attained.1;
        passes = x.attained.2;
        reaches = chain_at e AtMost AtMost (value_at s p) f g (value-positive s p x.attained.1) pf pg
            (at_zero _ (no_difference e (value_at s p) f (sym x.attained.3))) k;
      }

  pub tight : (b : Bound) → HasPositive b → IsExactBound test s e b → IsTight test s e b
  tight Infinite pb x = record { positive = tt; lowest = tt; all = λ p i h. tt; near = λ g pg k. outside g (x g pg) }
  tight (Excluded f) pb x = record { positive = pb; lowest = x.lowest; all = within_excluded f x; near = λ g pg k. outside g (x.near g pg ((outside_decides e f g).1 k)) }
  tight (Included f) pb x = record { positive = pb; lowest = x.lowest; all = within_included f x; near = reached f pb x }

  -- ---- and back

  past : (m g : Fraction) → IsPositive m → IsPositive g → Meets Below (gap_at e m g) → AtOrOutside test s e m → SomeOutside test s e g
  past m g pm pg k a = (
    a.point,
    a.is,
    a.passes,
    (outside_decides e (value_at s a.point) g).1
        (chain_at e AtMost Below (value_at s a.point) m g (value-positive s a.point a.is) pm pg a.reaches k),
  )

  none_past : (f v : Fraction) → Meets AtMost (gap_at e f v) → is_outside e v f ≡ false
  none_past f v h = not-true _ ((not_outside_decides e v f).1 h)

  pub exact : (b : Bound) → IsTight test s e b → IsExactBound test s e b
  exact Infinite x = λ g pg. past (beyond e g) g (beyond-positive e g pg) pg (beyond-outside e g pg) (x.near (beyond e g) (beyond-positive e g pg) tt)
  exact (Excluded f) x = record {
    positive = x.positive;
    lowest = x.lowest;
    free = λ h. never_below (gap_at e f (value_at s h.0)) (no_difference e f (value_at s h.0) h.3) (x.all h.0 h.1 h.2);
    none = λ p i h. none_past f (value_at s p) (below_at_most _ (x.all p i h));
    near = λ g pg k. let b = (outside_decides e f g).0 k in
        past (middle f g) g (middle-positive f g x.positive pg) pg (middle-before e f g pg b) (x.near (middle f g) (middle-positive f g x.positive pg) (middle-after e f g x.positive b));
  }
  exact (Included f) x =
      let a = x.near f x.positive (at_zero _ (gap_self e f)) in record {
        positive = x.positive;
        lowest = x.lowest;
        attained = (
          a.point,
          a.is,
          a.passes,
          same_value e f (value_at s a.point)
              (both_zero (gap_at e f (value_at s a.point)) (gap_at e (value_at s a.point) f) (x.all a.point a.is a.passes) a.reaches (gap_turned e f (value_at s a.point))),
        );
        none = λ p i h. none_past f (value_at s p) (x.all p i h);
      }

-- ---- tests that pass alike

pub tight-same : (f g : Point → Bool) (s : Slot) (e : End) (b : Bound) → ((p : Point) → IsPoint p → f p ≡ g p) → IsTight f s e b → IsTight g s e b
tight-same f g s e b same x = record {
  positive = x.positive;
  lowest = x.lowest;
  all = λ p i h. x.all p i (same p i ∙ h);
  near = λ v pv k. let a = x.near v pv k in record { point = a.point; is = a.is; passes = sym (same a.point a.is) ∙ a.passes; reaches = a.reaches };
}

-- ---- of two tests

-- the wider of two exact bounds is that of either test
pub tight-either : (f g : Point → Bool) (s : Slot) (e : End) (b c : Bound) → IsTight f s e b → IsTight g s e c → IsTight (λ p. f p || g p) s e (wider e b c)
tight-either f g s e b c x y = record {
  positive = wider-one HasPositive e b c x.positive y.positive;
  lowest = wider-one (OnFraction IsLowest) e b c x.lowest y.lowest;
  all = λ p i h. let w = wider-is e b c (value_at s p) x.positive y.positive (value-positive s p i) in
      ⊎_elim (λ (k : f p ≡ true). w.0 (x.all p i k)) (λ k. w.1 (y.all p i k)) (or_split (f p) (g p) h);
  near = λ v pv. wider-one (λ k. Inside e k v → AtOrOutside (λ p. f p || g p) s e v) e b c
      (λ k. first (x.near v pv k)) (λ k. second (y.near v pv k));
}
  where
    first : {v : Fraction} → AtOrOutside f s e v → AtOrOutside (λ p. f p || g p) s e v
    first a = record { point = a.point; is = a.is; passes = or_left (f a.point) (g a.point) a.passes; reaches = a.reaches }

    second : {v : Fraction} → AtOrOutside g s e v → AtOrOutside (λ p. f p || g p) s e v
    second a = record { point = a.point; is = a.is; passes = or_right (f a.point) (g a.point) a.passes; reaches = a.reaches }
