-- The least box that contains two boxes.
--
-- A box with an empty interval holds nothing, and then the other box is the cover. Else the cover has at each place the least
-- interval that contains and_from: between the wider of the two lower bounds and the wider of the two upper ones. Any interval
-- that contains and_from contains this: a value within the wider lower bound is within that of one of the two; either it lies in
-- that interval, or it lies beyond a value of it, and so within whatever lower bound lets this value through.
use Rattle.std.proofs.Common.{◌≡◌, suc, true, false, List, [], ◌∷◌, length, arith, refl, sym, subst, ap, ◌∙◌, true≢false}
use Rattle.std.specs.Prelude.{pos}
use Rattle.std.proofs.lemmas.Int.{ints, by_lt_z}
use Rattle.ded_model.specs.declared.row.RowOp.TheVariants.{AtMost, Below}
use Rattle.ded_model.specs.declared.bound.Bound.{Bound}
use Rattle.ded_model.specs.Bound.{Fraction, End, lower, upper}
use Rattle.ded_model.proofs.Core.{Meets}
use Rattle.ded_model.proofs.Points.{and_left, and_right}
use Rattle.ded_box.specs.Intervals.{IsPositive, HasPositive, IsInterval, is_within, has_value}
use Rattle.ded_box.specs.Boxes.{AreValues, AreIntervals, in_box, Contains, IsCover, hull, hulls, has_values}
use Rattle.ded_box.proofs.Gaps.{gap_at, other, gap_turned, gap_other}
use Rattle.ded_box.proofs.Insides.{Inside, wider-one, wider-is, may_meet_decides, between, further}
use Rattle.ded_box.proofs.Shares.{Interval, Box, Within, within_to, within_from, meet_at}
use Rattle.std.proofs.lemmas.Bool.{and_from}

-- ---- an end of the least interval

below_at_most : (z : _) → Meets Below z → Meets AtMost z
below_at_most z h = omega (arith, ints)

-- near and far are the ends of an interval that holds w, and k lets through w and whatever lies in the interval
one_end : (e : End) (near far k : Bound) (v w : Fraction) → HasPositive far → HasPositive k → IsPositive v → IsPositive w → Inside (other e) far w → Inside e k w
    → (Inside e near v → Inside (other e) far v → Inside e k v) → Inside e near v → Inside e k v
one_end e near far k v w pf pk pv pw fw kw all i = by_lt_z (pos 0) (gap_at e w v)
    (λ lt. let t = gap_turned e w v in
    all i (further (other e) far v w pf pv pw fw (subst (Meets AtMost) (sym (gap_other e w v)) (omega (arith, ints)))))
    (λ le. further e k v w pk pv pw kw le)

abbrev ContainsInterval : Interval → Interval → Type 0
ContainsInterval k i = (v : Fraction) → IsPositive v → Within i v → Within k v

hull-least : (i j k : Interval) → IsInterval i → IsInterval j → IsInterval k → has_value i ≡ true → has_value j ≡ true → ContainsInterval k i → ContainsInterval k j → ContainsInterval k (hull i j)
hull-least i j k pi pj pk hi hj ci cj v pv h =
    let x = between i.0 i.1 pi.0 pi.1 ((may_meet_decides i.0 i.1).0 hi) in
    let y = between j.0 j.1 pj.0 pj.1 ((may_meet_decides j.0 j.1).0 hj) in
    let kx = ci x.value x.positive (x.low, x.high) in
    let ky = cj y.value y.positive (y.low, y.high) in (
      wider-one (λ b. Inside lower b v → Inside lower k.0 v) lower i.0 j.0
          (one_end lower i.0 i.1 k.0 v x.value pi.1 pk.0 pv x.positive x.high kx.0 (λ a b. (ci v pv (a, b)).0))
          (one_end lower j.0 j.1 k.0 v y.value pj.1 pk.0 pv y.positive y.high ky.0 (λ a b. (cj v pv (a, b)).0)) h.0,
      wider-one (λ b. Inside upper b v → Inside upper k.1 v) upper i.1 j.1
          (one_end upper i.1 i.0 k.1 v x.value pi.0 pk.1 pv x.positive x.low kx.1 (λ a b. (ci v pv (b, a)).1))
          (one_end upper j.1 j.0 k.1 v y.value pj.0 pk.1 pv y.positive y.low ky.1 (λ a b. (cj v pv (b, a)).1)) h.1,
    )

hull-first : (i j : Interval) → IsInterval i → IsInterval j → ContainsInterval (hull i j) i
hull-first i j pi pj v pv h = ((wider-is lower i.0 j.0 v pi.0 pj.0 pv).0 h.0, (wider-is upper i.1 j.1 v pi.1 pj.1 pv).0 h.1)

hull-second : (i j : Interval) → IsInterval i → IsInterval j → ContainsInterval (hull i j) j
hull-second i j pi pj v pv h = ((wider-is lower i.0 j.0 v pi.0 pj.0 pv).1 h.0, (wider-is upper i.1 j.1 v pi.1 pj.1 pv).1 h.1)

pub hull-interval : (i j : Interval) → IsInterval i → IsInterval j → IsInterval (hull i j)
hull-interval i j pi pj = (wider-one HasPositive lower i.0 j.0 pi.0 pj.0, wider-one HasPositive upper i.1 j.1 pi.1 pj.1)

-- ---- boxes

-- values of a box without an empty interval
record SomeValues (a : Box) : Type 0 where
  values : List Fraction
  positive : AreValues values
  inside : in_box a values ≡ true

some_values : (a : Box) → AreIntervals a → has_values a ≡ true → SomeValues a
some_values [] p h = record { values = []; positive = tt; inside = refl }
some_values (i ∷ is) p h =
    let v = between i.0 i.1 p.0.0 p.0.1 ((may_meet_decides i.0 i.1).0 (and_left (has_value i) (has_values is) h)) in
    let s = some_values is p.1 (and_right (has_value i) (has_values is) h) in
    record { values = v.value ∷ s.values; positive = (v.positive, s.positive); inside = and_from (is_within i v.value) (in_box is s.values) (within_from i v.value (v.low, v.high)) s.inside }

-- nothing lies in a box with an empty interval
none_inside : (a : Box) (vs : List Fraction) → AreIntervals a → AreValues vs → in_box a vs ≡ true → has_values a ≡ true
none_inside [] vs p q h = refl
none_inside (i ∷ is) [] p q h = absurd (true≢false (sym h))
none_inside (i ∷ is) (v ∷ vs) p q h =
    let w = within_to i v (and_left (is_within i v) (in_box is vs) h) in
    and_from (has_value i) (has_values is) (meet_at i.0 i.1 v p.0.0 p.0.1 q.0 w.0 w.1) (none_inside is vs p.1 q.1 (and_right (is_within i v) (in_box is vs) h))

-- a box that contains another without an empty interval does so at the first place, and at the others
record Splits (k i : Interval) (ks is : Box) : Type 0 where
  head : ContainsInterval k i
  tail : Contains ks is

splits : (k i : Interval) (ks is : Box) → AreIntervals (i ∷ is) → has_values (i ∷ is) ≡ true → Contains (k ∷ ks) (i ∷ is) → Splits k i ks is
splits k i ks is p h c =
    let v = between i.0 i.1 p.0.0 p.0.1 ((may_meet_decides i.0 i.1).0 (and_left (has_value i) (has_values is) h)) in
    let s = some_values is p.1 (and_right (has_value i) (has_values is) h) in record {
      head = λ w pw h. within_to k w (and_left (is_within k w) (in_box ks s.values) (c (w ∷ s.values) (pw, s.positive) (and_from (is_within i w) (in_box is s.values) (within_from i w h) s.inside)));
      tail = λ ws pw h. and_right (is_within k v.value) (in_box ks ws) (c (v.value ∷ ws) (v.positive, pw) (and_from (is_within i v.value) (in_box is ws) (within_from i v.value (v.low, v.high)) h));
    }

-- at each place, where each interval contains the other
contains_both : (k i : Interval) (ks is : Box) → ContainsInterval k i → Contains ks is → Contains (k ∷ ks) (i ∷ is)
contains_both k i ks is c d [] p h = absurd (true≢false (sym h))
contains_both k i ks is c d (v ∷ vs) p h = and_from (is_within k v) (in_box ks vs)
    (within_from k v (c v p.0 (within_to i v (and_left (is_within i v) (in_box is vs) h))))
    (d vs p.1 (and_right (is_within i v) (in_box is vs) h))

hulls-first : (a b : Box) → length a ≡ length b → AreIntervals a → AreIntervals b → Contains (hulls a b) a
hulls-first [] b l pa pb = λ vs p h. h
hulls-first (i ∷ is) [] l pa pb = absurd (omega arith)
hulls-first (i ∷ is) (j ∷ js) l pa pb = contains_both (hull i j) i (hulls is js) is (hull-first i j pa.0 pb.0) (hulls-first is js (omega arith) pa.1 pb.1)

hulls-second : (a b : Box) → length a ≡ length b → AreIntervals a → AreIntervals b → Contains (hulls a b) b
hulls-second [] [] l pa pb = λ vs p h. h
hulls-second [] (j ∷ js) l pa pb = absurd (omega arith)
hulls-second (i ∷ is) [] l pa pb = absurd (omega arith)
hulls-second (i ∷ is) (j ∷ js) l pa pb = contains_both (hull i j) j (hulls is js) js (hull-second i j pa.0 pb.0) (hulls-second is js (omega arith) pa.1 pb.1)

-- a box of another length holds none of the values
nothing_there : (i : Interval) (is : Box) → AreIntervals (i ∷ is) → has_values (i ∷ is) ≡ true → Contains [] (i ∷ is) → ⊥
nothing_there i is p h c = let s = some_values (i ∷ is) p h in empty s.values (c s.values s.positive s.inside) s.inside
  where
    empty : (vs : List Fraction) → in_box [] vs ≡ true → in_box (i ∷ is) vs ≡ true → ⊥
    empty [] h k = true≢false (sym k)
    empty (v ∷ vs) h k = true≢false (sym h)

hulls-least : (a b d : Box) → length a ≡ length b → AreIntervals a → AreIntervals b → AreIntervals d → has_values a ≡ true → has_values b ≡ true → Contains d a → Contains d b → Contains d (hulls a b)
hulls-least [] b d l pa pb pd ha hb ca cb = ca
hulls-least (i ∷ is) [] d l pa pb pd ha hb ca cb = absurd (omega arith)
hulls-least (i ∷ is) (j ∷ js) [] l pa pb pd ha hb ca cb = absurd (nothing_there i is pa ha ca)
hulls-least (i ∷ is) (j ∷ js) (k ∷ ks) l pa pb pd ha hb ca cb =
    let s = splits k i ks is pa ha ca in
    let t = splits k j ks js pb hb cb in
    contains_both k (hull i j) ks (hulls is js)
    (hull-least i j k pa.0 pb.0 pd.0 (and_left (has_value i) (has_values is) ha) (and_left (has_value j) (has_values js) hb) s.head t.head)
    (hulls-least is js ks (omega arith) pa.1 pb.1 pd.1 (and_right (has_value i) (has_values is) ha) (and_right (has_value j) (has_values js) hb) s.tail t.tail)

-- ---- the cover

pub cover_of_full : (a b : Box) → length a ≡ length b → AreIntervals a → AreIntervals b → has_values a ≡ true → has_values b ≡ true → IsCover a b (hulls a b)
cover_of_full a b l pa pb ha hb = record {
  first = hulls-first a b l pa pb;
  second = hulls-second a b l pa pb;
  least = λ d pd ca cb. hulls-least a b d l pa pb pd ha hb ca cb;
}

pub cover_of_second : (a b : Box) → AreIntervals a → has_values a ≡ false → IsCover a b b
cover_of_second a b pa ha = record {
  first = λ vs p h. absurd (true≢false (sym (none_inside a vs pa p h) ∙ ha));
  second = λ vs p h. h;
  least = λ d pd ca cb. cb;
}

pub cover_of_first : (a b : Box) → AreIntervals b → has_values b ≡ false → IsCover a b a
cover_of_first a b pb hb = record {
  first = λ vs p h. h;
  second = λ vs p h. absurd (true≢false (sym (none_inside b vs pb p h) ∙ hb));
  least = λ d pd ca cb. ca;
}

pub hulls-length : (a b : Box) → length a ≡ length b → length (hulls a b) ≡ length a
hulls-length [] b l = refl
hulls-length (i ∷ is) [] l = absurd (omega arith)
hulls-length (i ∷ is) (j ∷ js) l = ap suc (hulls-length is js (omega arith))

pub hulls-intervals : (a b : Box) → AreIntervals a → AreIntervals b → AreIntervals (hulls a b)
hulls-intervals [] b pa pb = tt
hulls-intervals (i ∷ is) [] pa pb = tt
hulls-intervals (i ∷ is) (j ∷ js) pa pb = (hull-interval i j pa.0 pb.0, hulls-intervals is js pa.1 pb.1)
