-- Boxes meet exactly where they share a list of values.
--
-- Two intervals share a value exactly where neither is empty and each begins before the other ends: the narrower of the two
-- lower bounds and the narrower of the two upper bounds are among the four, so they leave a value between them, and it is
-- inside of all four. Two boxes share values where each two intervals at one place do.
use Rattle.std.proofs.Common.{◌≡◌, true, ◌&&◌, List, [], ◌∷◌, refl, sym, true≢false}
use Rattle.std.specs.Prelude.{IsTrue, ◌↔◌}
use Rattle.ded_model.specs.declared.bound.Bound.{Bound}
use Rattle.ded_model.specs.Bound.{Fraction, lower, upper}
use Rattle.ded_model.proofs.Points.{and_left, and_right}
use Rattle.ded_box.specs.Intervals.{IsPositive, HasPositive, IsInterval, is_inside, is_within, has_value, intervals_meet, narrower, may_meet}
use Rattle.ded_box.specs.Boxes.{AreValues, AreIntervals, in_box, Shared, boxes_meet}
use Rattle.ded_box.proofs.Insides.{Inside, inside_decides, narrower-one, narrower-is, MayMeet, may_meet_decides, inside_meet, between}
use Rattle.std.proofs.lemmas.Bool.{and_from}

abbrev pub Interval : Type 0
Interval = Bound × Bound

-- ---- intervals

-- the value lies in the interval
abbrev pub Within : Interval → Fraction → Type 0
Within i v = Inside lower i.0 v × Inside upper i.1 v

pub within_to : (i : Interval) (v : Fraction) → is_within i v ≡ true → Within i v
within_to i v h = (
  (inside_decides lower i.0 v).0 (and_left (is_inside lower i.0 v) (is_inside upper i.1 v) h),
  (inside_decides upper i.1 v).0 (and_right (is_inside lower i.0 v) (is_inside upper i.1 v) h),
)

pub within_from : (i : Interval) (v : Fraction) → Within i v → is_within i v ≡ true
within_from i v h = and_from (is_inside lower i.0 v) (is_inside upper i.1 v) ((inside_decides lower i.0 v).1 h.0) ((inside_decides upper i.1 v).1 h.1)

-- what lies between a lower and an upper bound lets them meet
pub meet_at : (a b : Bound) (v : Fraction) → HasPositive a → HasPositive b → IsPositive v → Inside lower a v → Inside upper b v → may_meet a b ≡ true
meet_at a b v pa pb pv h k = (may_meet_decides a b).1 (inside_meet a b v pa pb pv h k)

-- the parts of the test
pub record Apart (i j : Interval) : Type 0 where
  pub first : may_meet i.0 i.1 ≡ true
  pub second : may_meet j.0 j.1 ≡ true
  pub forth : may_meet i.0 j.1 ≡ true
  pub back : may_meet j.0 i.1 ≡ true

pub parts_of : (i j : Interval) → intervals_meet i j ≡ true → Apart i j
parts_of i j h =
    let k = and_right (has_value i) (has_value j && (may_meet i.0 j.1 && may_meet j.0 i.1)) h in
    let l = and_right (has_value j) (may_meet i.0 j.1 && may_meet j.0 i.1) k in record {
      first = and_left (has_value i) (has_value j && (may_meet i.0 j.1 && may_meet j.0 i.1)) h;
      second = and_left (has_value j) (may_meet i.0 j.1 && may_meet j.0 i.1) k;
      forth = and_left (may_meet i.0 j.1) (may_meet j.0 i.1) l;
      back = and_right (may_meet i.0 j.1) (may_meet j.0 i.1) l;
    }

pub from_parts : (i j : Interval) → Apart i j → intervals_meet i j ≡ true
from_parts i j p = and_from (has_value i) (has_value j && (may_meet i.0 j.1 && may_meet j.0 i.1)) p.first
    (and_from (has_value j) (may_meet i.0 j.1 && may_meet j.0 i.1) p.second (and_from (may_meet i.0 j.1) (may_meet j.0 i.1) p.forth p.back))

-- a value that lies in and_from
pub intervals_meet-from : (i j : Interval) (v : Fraction) → IsInterval i → IsInterval j → IsPositive v → Within i v → Within j v → intervals_meet i j ≡ true
intervals_meet-from i j v pi pj pv h k = from_parts i j (record {
  first = meet_at i.0 i.1 v pi.0 pi.1 pv h.0 h.1;
  second = meet_at j.0 j.1 v pj.0 pj.1 pv k.0 k.1;
  forth = meet_at i.0 j.1 v pi.0 pj.1 pv h.0 k.1;
  back = meet_at j.0 i.1 v pj.0 pi.1 pv k.0 h.1;
})

pub record Common (i j : Interval) : Type 0 where
  pub value : Fraction
  pub positive : IsPositive value
  pub first : Within i value
  pub second : Within j value

pub intervals_meet-to : (i j : Interval) → IsInterval i → IsInterval j → intervals_meet i j ≡ true → Common i j
intervals_meet-to i j pi pj h =
    let p = parts_of i j h in
    let low = narrower lower i.0 j.0 in
    let high = narrower upper i.1 j.1 in
    let to_high : (a : Bound) → MayMeet lower a i.1 → MayMeet lower a j.1 → MayMeet lower a high = λ a m n. narrower-one (λ b. MayMeet lower a b) upper i.1 j.1 m n in
    let m : MayMeet lower low high = narrower-one (λ a. MayMeet lower a high) lower i.0 j.0
    (to_high i.0 ((may_meet_decides i.0 i.1).0 p.first) ((may_meet_decides i.0 j.1).0 p.forth))
    (to_high j.0 ((may_meet_decides j.0 i.1).0 p.back) ((may_meet_decides j.0 j.1).0 p.second)) in
    let v = between low high (narrower-one HasPositive lower i.0 j.0 pi.0 pj.0) (narrower-one HasPositive upper i.1 j.1 pi.1 pj.1) m in
    let l = (narrower-is lower i.0 j.0 v.value pi.0 pj.0 v.positive).0 v.low in
    let u = (narrower-is upper i.1 j.1 v.value pi.1 pj.1 v.positive).0 v.high in
    record { value = v.value; positive = v.positive; first = (l.0, u.0); second = (l.1, u.1) }

-- ---- boxes

abbrev pub Box : Type 0
Box = List Interval

pub boxes_meet-from : (a b : Box) (vs : List Fraction) → AreIntervals a → AreIntervals b → AreValues vs → in_box a vs ≡ true → in_box b vs ≡ true → boxes_meet a b ≡ true
boxes_meet-from [] [] vs pa pb pv h k = refl
boxes_meet-from [] (j ∷ js) [] pa pb pv h k = absurd (true≢false (sym k))
boxes_meet-from [] (j ∷ js) (v ∷ vs) pa pb pv h k = absurd (true≢false (sym h))
boxes_meet-from (i ∷ is) [] [] pa pb pv h k = absurd (true≢false (sym h))
boxes_meet-from (i ∷ is) [] (v ∷ vs) pa pb pv h k = absurd (true≢false (sym k))
boxes_meet-from (i ∷ is) (j ∷ js) [] pa pb pv h k = absurd (true≢false (sym h))
boxes_meet-from (i ∷ is) (j ∷ js) (v ∷ vs) pa pb pv h k = and_from (intervals_meet i j) (boxes_meet is js)
    (intervals_meet-from i j v pa.0 pb.0 pv.0 (within_to i v (and_left (is_within i v) (in_box is vs) h)) (within_to j v (and_left (is_within j v) (in_box js vs) k)))
    (boxes_meet-from is js vs pa.1 pb.1 pv.1 (and_right (is_within i v) (in_box is vs) h) (and_right (is_within j v) (in_box js vs) k))

pub boxes_meet-to : (a b : Box) → AreIntervals a → AreIntervals b → boxes_meet a b ≡ true → Shared a b
boxes_meet-to [] [] pa pb h = record { values = []; positive = tt; first = refl; second = refl }
boxes_meet-to [] (j ∷ js) pa pb h = absurd (true≢false (sym h))
boxes_meet-to (i ∷ is) [] pa pb h = absurd (true≢false (sym h))
boxes_meet-to (i ∷ is) (j ∷ js) pa pb h =
    let v = intervals_meet-to i j pa.0 pb.0 (and_left (intervals_meet i j) (boxes_meet is js) h) in
    let s = boxes_meet-to is js pa.1 pb.1 (and_right (intervals_meet i j) (boxes_meet is js) h) in record {
      values = v.value ∷ s.values;
      positive = (v.positive, s.positive);
      first = and_from (is_within i v.value) (in_box is s.values) (within_from i v.value v.first) s.first;
      second = and_from (is_within j v.value) (in_box js s.values) (within_from j v.value v.second) s.second;
    }

-- the test is exact
pub boxes_meet-is : (a b : Box) → AreIntervals a → AreIntervals b → IsTrue (boxes_meet a b) ↔ Shared a b
boxes_meet-is a b pa pb = (boxes_meet-to a b pa pb, λ s. boxes_meet-from a b s.values pa pb s.positive s.first s.second)
