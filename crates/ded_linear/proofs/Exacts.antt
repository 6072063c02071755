-- An interval's ends are the exact bounds of the values of a slot, where the test of points is to lie within it.
--
-- A value inside of the interval is the value of some point. At an end with a fraction that is not attained the middle of it
-- and any fraction within comes nearer; at an end without one a value beyond any fraction is found. Where the other end is
-- nearer than that fraction, it takes the fraction's place (`target`).
use Rattle.std.proofs.Common.{◌≡◌, Bool, arith, sym, subst, ◌∙◌, ap, [], ◌∷◌}
use Rattle.std.specs.Prelude.{ℤ, pos, ◌-ℤ◌, ◌*ℤ◌, IsTrue}
use Rattle.std.proofs.lemmas.Int.{ints, by_lt_z}
use borrow.Author.Differences.{up}
use Rattle.ded_model.specs.declared.slot.Slot.{Slot}
use Rattle.ded_model.specs.declared.row.RowOp.TheVariants.{AtMost, Below}
use Rattle.ded_model.specs.declared.bound.Bound.{Bound}
use Rattle.ded_model.specs.declared.bound.Bound.TheVariants.{Infinite, Excluded, Included}
use Rattle.ded_model.specs.Point.{slot, number, Point, IsPoint, absent, same_key, as_number, number_at}
use Rattle.ded_model.specs.Bound.{Fraction, End, lower, upper, is_outside, value_at, IsLowest, SomeOutside, NoneOutside, IsUnbounded, IsIncluded, IsExcluded}
use Rattle.ded_model.specs.Interval.{IsExactBound}
use Rattle.ded_model.proofs.Core.{Meets, below_at_most}
use Rattle.ded_model.proofs.Points.{same_key_refl, cond_true}
use Rattle.ded_model.proofs.Numbers.{positive_is}
use Rattle.ded_box.specs.Intervals.{HasPositive, IsPositive, OnFraction}
use Rattle.ded_box.proofs.Gaps.{gap_at, other, outside_decides, chain_at, gap_turned, gap_self, gap_other, middle, middle-positive, middle-after, middle-before, beyond, beyond-positive, beyond-outside}
use Rattle.ded_box.proofs.Insides.{Inside, MayMeet}
use Rattle.std.proofs.lemmas.Bool.{false_from_ne_true}
use Rattle.ded_model.proofs.Given.{fraction_with}

-- ---- a point with a value

pub point_with : Slot → Fraction → Point
point_with s v = record { den = up v.den; coords = (slot s, number v.num) ∷ [] }

pub point_with-is : (s : Slot) (v : Fraction) → IsPositive v → IsPoint (point_with s v)
unfolding point_with
point_with-is s v h = record { positive = (positive_is v.den h).0; bytes = (tt, tt) }

pub point_with-value : (s : Slot) (v : Fraction) → IsPositive v → value_at s (point_with s v) ≡ v
unfolding point_with number_at
point_with-value s v h = fraction_with _ _ v.num v.den (ap as_number (cond_true (same_key (slot s) (slot s)) (number v.num) absent (same_key_refl (slot s)))) (sym (positive_is v.den h).1)

-- ---- the ends of an interval

-- the test passes the points whose value is within the near bound, at the end e, and within the far one, at the other end
pub record IsBetween (test : Point → Bool) (s : Slot) (e : End) (near far : Bound) : Type 0 where
  pub to : (p : Point) → IsPoint p → IsTrue (test p) → Inside e near (value_at s p) × Inside (other e) far (value_at s p)
  pub from : (p : Point) → IsPoint p → Inside e near (value_at s p) → Inside (other e) far (value_at s p) → IsTrue (test p)

-- a value that lies before t lies before g, and within the bound at the other end
record Target (e : End) (far : Bound) (g : Fraction) : Type 0 where
  place : Fraction
  positive : IsPositive place
  before : (v : Fraction) → IsPositive v → Meets Below (gap_at e v place) → Meets Below (gap_at e v g)
  within : (v : Fraction) → IsPositive v → Meets Below (gap_at e v place) → Inside (other e) far v
  near : (f : Fraction) → Meets Below (gap_at e f g) → OnFraction (λ h. Meets Below (gap_at e f h)) far → Meets Below (gap_at e f place)

-- h, or g where it lies before h
of_fraction : (e : End) (far : Bound) (g h : Fraction) → IsPositive g → IsPositive h → ((v : Fraction) → Meets Below (gap_at e v h) → Inside (other e) far v)
    → ((f : Fraction) → OnFraction (λ h. Meets Below (gap_at e f h)) far → Meets Below (gap_at e f h)) → Target e far g
of_fraction e far g h pg ph to from = by_lt_z (gap_at e g h) (pos 0)
    (λ lt. record {
      place = g;
      positive = pg;
      before = λ v pv b. b;
      within = λ v pv b. to v (chain_at e Below Below v g h pv pg ph b lt);
      near = λ f b c. b;
    })
    (λ ge. record {
      place = h;
      positive = ph;
      before = λ v pv b. chain_at e Below AtMost v h g pv ph pg b (let t = gap_turned e g h in omega (arith, ints));
      within = λ v pv b. to v b;
      near = λ f b c. from f c;
    })

inside_other : (e : End) (v h : Fraction) → Meets Below (gap_at e v h) → Meets Below (gap_at (other e) h v)
inside_other e v h b = subst (Meets Below) (sym (gap_other e h v)) b

target : (e : End) (far : Bound) (g : Fraction) → IsPositive g → HasPositive far → Target e far g
target e Infinite g pg pf = record { place = g; positive = pg; before = λ v pv b. b; within = λ v pv b. tt; near = λ f b c. b }
target e (Excluded h) g pg pf = of_fraction e (Excluded h) g h pg pf (λ v b. inside_other e v h b) (λ f c. c)
target e (Included h) g pg pf = of_fraction e (Included h) g h pg pf (λ v b. below_at_most _ (inside_other e v h b)) (λ f c. c)

module _ (test : Point → Bool) (s : Slot) (e : End) (near far : Bound) (is : IsBetween test s e near far) (pn : HasPositive near) (pf : HasPositive far) where
  -- a value inside of both bounds is the value of a point that passes
  at_value : (v : Fraction) → IsPositive v → Inside e near v → Inside (other e) far v → IsTrue (test (point_with s v))
  at_value v pv h k =
      let same = point_with-value s v pv in
      is.from (point_with s v) (point_with-is s v pv) (subst (Inside e near) (sym same) h) (subst (Inside (other e) far) (sym same) k)

  -- so some point has it
  outside_at : (v g : Fraction) → IsPositive v → Inside e near v → Inside (other e) far v → Meets Below (gap_at e v g) → SomeOutside test s e g
  outside_at v g pv h k b = (
    point_with s v,
    point_with-is s v pv,
    at_value v pv h k,
    subst (λ w. IsTrue (is_outside e w g)) (sym (point_with-value s v pv)) ((outside_decides e v g).1 b),
  )

-- no end
unbounded : (test : Point → Bool) (s : Slot) (e : End) (far : Bound) → IsBetween test s e Infinite far → HasPositive far → IsUnbounded test s e
unbounded test s e far is pf g pg =
    let t = target e far g pg pf in
    let v = beyond e t.place in
    let pv = beyond-positive e t.place t.positive in
    let b = beyond-outside e t.place t.positive in
    outside_at test s e Infinite far is tt pf v g pv tt (t.within v pv b) (t.before v pv b)

none_outside : (test : Point → Bool) (s : Slot) (e : End) (f : Fraction) → ((p : Point) → IsPoint p → IsTrue (test p) → Meets AtMost (gap_at e f (value_at s p))) → NoneOutside test s e f
none_outside test s e f h p i t = false_from_ne_true _ (λ o.
    let a = h p i t in
    let b = (outside_decides e (value_at s p) f).0 o in
    let turned = gap_turned e f (value_at s p) in
    absurd (omega (arith, ints)))

-- the value f of a point leaves no difference
same_gap : (e : End) (a b c d : ℤ) → a *ℤ d ≡ c *ℤ b → gap_at e (record { num = c; den = d }) (record { num = a; den = b }) ≡ pos 0
same_gap lower a b c d h = level (a *ℤ d) (c *ℤ b) h
  where
    level : (x y : ℤ) → x ≡ y → y -ℤ x ≡ pos 0
    level x y h = omega (arith, ints)
same_gap upper a b c d h = level (a *ℤ d) (c *ℤ b) h
  where
    level : (x y : ℤ) → x ≡ y → x -ℤ y ≡ pos 0
    level x y h = omega (arith, ints)

-- an end that is not attained
excluded : (test : Point → Bool) (s : Slot) (e : End) (f : Fraction) (far : Bound) → IsBetween test s e (Excluded f) far → IsPositive f → HasPositive far → IsLowest f
    → OnFraction (λ h. Meets Below (gap_at e f h)) far → IsExcluded test s e f
excluded test s e f far is pn pf low clear = record {
  positive = pn;
  lowest = low;
  free = λ at. let h = (is.to at.0 at.1 at.2).0 in
      let z = same_gap e (number_at at.0 (slot s)) (pos at.0.den) f.num f.den at.3 in
      absurd (omega (arith, ints));
  none = none_outside test s e f (λ p i t. below_at_most _ (is.to p i t).0);
  near = λ g pg o. let b = (outside_decides e f g).0 o in
      let t = target e far g pg pf in
      let h = t.near f b clear in
      let v = middle f t.place in
      let pv = middle-positive f t.place pn t.positive in
      let after = middle-after e f t.place pn h in
      let before = middle-before e f t.place t.positive h in
      outside_at test s e (Excluded f) far is pn pf v g pv after (t.within v pv before) (t.before v pv before);
}

-- an end that is
included : (test : Point → Bool) (s : Slot) (e : End) (f : Fraction) (far : Bound) → IsBetween test s e (Included f) far → IsPositive f → HasPositive far → IsLowest f
    → Inside (other e) far f → IsIncluded test s e f
included test s e f far is pn pf low clear =
    let same = point_with-value s f pn in record {
      positive = pn;
      lowest = low;
      attained = (
        point_with s f,
        point_with-is s f pn,
        at_value test s e (Included f) far is pn pf f pn (let z = gap_self e f in omega (arith, ints)) clear,
        ap (λ (v : Fraction). v.num *ℤ f.den) same ∙ ap (λ (v : Fraction). f.num *ℤ v.den) (sym same),
      );
      none = none_outside test s e f (λ p i t. (is.to p i t).0);
    }

-- the near bound is exact, where the two may meet
pub exact_end : (test : Point → Bool) (s : Slot) (e : End) (near far : Bound) → IsBetween test s e near far → HasPositive near → HasPositive far → OnFraction IsLowest near
    → MayMeet e near far → IsExactBound test s e near
exact_end test s e Infinite far is pn pf low m = unbounded test s e far is pf
exact_end test s e (Excluded f) Infinite is pn pf low m = excluded test s e f Infinite is pn pf low tt
exact_end test s e (Excluded f) (Excluded g) is pn pf low m = excluded test s e f (Excluded g) is pn pf low m
exact_end test s e (Excluded f) (Included g) is pn pf low m = excluded test s e f (Included g) is pn pf low m
exact_end test s e (Included f) Infinite is pn pf low m = included test s e f Infinite is pn pf low tt
exact_end test s e (Included f) (Excluded g) is pn pf low m = included test s e f (Excluded g) is pn pf low (subst (Meets Below) (sym (gap_other e g f)) m)
exact_end test s e (Included f) (Included g) is pn pf low m = included test s e f (Included g) is pn pf low (subst (Meets AtMost) (sym (gap_other e g f)) m)
