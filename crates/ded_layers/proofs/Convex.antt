-- What two spots have in common with all points between them: they lie in half planes and in ranges.
use Rattle.std.proofs.Common.{◌≡◌, ℕ, zero, suc, ◌+◌, ◌<◌, true, inl, inr, List, [], ◌∷◌, ◌++◌, length, take, get_or, refl, sym, ap, ◌∙◌, subst, arith}
use Rattle.std.specs.Prelude.{ℤ, pos, ◌+ℤ◌, ◌-ℤ◌, ◌*ℤ◌, ◌<ℤ◌, ◌≤ℤ◌, unsigned_abs, Option, Some, None}
use lib.IntN.{neg_ℤ}
use Rattle.std.proofs.lemmas.Int.{ints}
use Rattle.std.proofs.lemmas.List.{take_more}
use Rattle.ded_num.proofs.Signs.{abs_above, neg_times_first, above_pos, times_swap}
use Rattle.ded_model.proofs.Core.{zero_scale}
use Rattle.ded_polygon.specs.Plane.{HalfPlane, Spot, In, level}
use Rattle.ded_polygon.specs.Lists.{spot_in, origin}
use Rattle.ded_polygon.specs.Vertices.{LiesIn}
use Rattle.ded_polygon.proofs.Polynomials.{plus, minus, times, var, identity}
use Rattle.ded_polygon.proofs.Signs.{above_above, above_most, unscale_most}
use Rattle.ded_polygon.proofs.Sameness.{most_same, same_sym}
use Rattle.ded_polygon.proofs.Places.{in_at}
use Rattle.ded_polygon.proofs.RowPlanes.{in_either}
use Rattle.ded_strokes.specs.Strokes.{between}
use Rattle.ded_strokes.specs.Cuts.{LiesBetween}
use Rattle.ded_strokes.proofs.Between.{level_is, between_positive}
use Rattle.ded_ranges.specs.declared.reach.Range.{Range}
use Rattle.ded_ranges.specs.declared.limit.Limit.{Limit as Bound}
use Rattle.ded_ranges.specs.Codes.{fine}
use Rattle.ded_ranges.specs.Reaches.{IsAbove, IsBelow, IsIn, Lies, range_at, IsWithin}
use Rattle.ded_ranges.specs.Limits.{are_met}
use Rattle.ded_ranges.proofs.Ends.{above_lower, below_higher}
use Rattle.ded_layers.specs.Indexed.{coordinates, LieIn, MeetBetween}

-- ---- half planes
pub plane_between : (s : HalfPlane) (p q m : Spot) → pos 0 <ℤ p.den → pos 0 <ℤ q.den → pos 0 <ℤ m.den → LiesBetween p q m → level s p ≤ℤ pos 0 → level s q ≤ℤ pos 0 → level s m ≤ℤ pos 0
plane_between s p q m hp hq hm l sp sq =
    let e = level_is s p q l.i l.j in
    let a = above_most (pos l.i) (level s p) (above_pos l.i l.some_i) sp in
    let b = above_most (pos l.j) (level s q) (above_pos l.j l.some_j) sq in
    most_same s (between p q l.i l.j) m (between_positive p q l.i l.j hp hq l.some_i l.some_j) hm (same_sym m (between p q l.i l.j) l.is) (omega (arith, ints))

pub planes_between : (ss : List HalfPlane) (p q m : Spot) → pos 0 <ℤ p.den → pos 0 <ℤ q.den → pos 0 <ℤ m.den → LiesBetween p q m → LiesIn ss p → LiesIn ss q → LiesIn ss m
planes_between ss p q m hp hq hm l sp sq t i = plane_between t p q m hp hq hm l (sp t i) (sq t i)

-- ---- ranges
-- a sum that is at most 0 at two fractions is so between them
sum_between : (u v i j px pd qx qd mx md : ℤ) → pos 0 <ℤ i → pos 0 <ℤ j → pos 0 <ℤ (i *ℤ pd +ℤ j *ℤ qd) → pos 0 <ℤ md → mx *ℤ (i *ℤ pd +ℤ j *ℤ qd) ≡ (i *ℤ px +ℤ j *ℤ qx) *ℤ md
    → (u *ℤ px +ℤ v *ℤ pd) ≤ℤ pos 0 → (u *ℤ qx +ℤ v *ℤ qd) ≤ℤ pos 0 → (u *ℤ mx +ℤ v *ℤ md) ≤ℤ pos 0
sum_between u v i j px pd qx qd mx md hi hj hd hm e hp hq =
    let a = above_most i (u *ℤ px +ℤ v *ℤ pd) hi hp in
    let b = above_most j (u *ℤ qx +ℤ v *ℤ qd) hj hq in
    let c = above_most md (i *ℤ (u *ℤ px +ℤ v *ℤ pd) +ℤ j *ℤ (u *ℤ qx +ℤ v *ℤ qd)) hm (omega (arith, ints)) in
    let f = law u v i j px pd qx qd mx md in
    let g = zero_scale u (mx *ℤ (i *ℤ pd +ℤ j *ℤ qd) -ℤ (i *ℤ px +ℤ j *ℤ qx) *ℤ md) (omega (arith, ints)) in
    unscale_most (i *ℤ pd +ℤ j *ℤ qd) (u *ℤ mx +ℤ v *ℤ md) hd (omega (arith, ints))
  where
    law : (u v i j px pd qx qd mx md : ℤ) → (i *ℤ pd +ℤ j *ℤ qd) *ℤ (u *ℤ mx +ℤ v *ℤ md)
        ≡ md *ℤ (i *ℤ (u *ℤ px +ℤ v *ℤ pd) +ℤ j *ℤ (u *ℤ qx +ℤ v *ℤ qd)) +ℤ u *ℤ (mx *ℤ (i *ℤ pd +ℤ j *ℤ qd) -ℤ (i *ℤ px +ℤ j *ℤ qx) *ℤ md)
    law u v i j px pd qx qd mx md =
        identity (u ∷ v ∷ i ∷ j ∷ px ∷ pd ∷ qx ∷ qd ∷ mx ∷ md ∷ [])
        (times (plus (times (var 2) (var 5)) (times (var 3) (var 7))) (plus (times (var 0) (var 8)) (times (var 1) (var 9))))
        (plus
        (times (var 9)
        (plus
        (times (var 2) (plus (times (var 0) (var 4)) (times (var 1) (var 5))))
        (times (var 3) (plus (times (var 0) (var 6)) (times (var 1) (var 7))))))
        (times (var 0)
        (minus
        (times (var 8) (plus (times (var 2) (var 5)) (times (var 3) (var 7))))
        (times (plus (times (var 2) (var 4)) (times (var 3) (var 6))) (var 9)))))
        refl

module _ (p q m : Spot) (hp : pos 0 <ℤ p.den) (hq : pos 0 <ℤ q.den) (hm : pos 0 <ℤ m.den) (l : LiesBetween p q m) where
  whole_den : pos 0 <ℤ (pos l.i *ℤ p.den +ℤ pos l.j *ℤ q.den)
  whole_den =
      let a = above_above (pos l.i) p.den (above_pos l.i l.some_i) hp in
      let b = above_above (pos l.j) q.den (above_pos l.j l.some_j) hq in
      omega (arith, ints)

  module _ (px qx mx : ℤ) (e : mx *ℤ (pos l.i *ℤ p.den +ℤ pos l.j *ℤ q.den) ≡ (pos l.i *ℤ px +ℤ pos l.j *ℤ qx) *ℤ m.den) where
    low_between : (k f : ℤ) → (k *ℤ p.den) ≤ℤ (px *ℤ f) → (k *ℤ q.den) ≤ℤ (qx *ℤ f) → (k *ℤ m.den) ≤ℤ (mx *ℤ f)
    low_between k f h g =
        let r = sum_between (neg_ℤ f) k (pos l.i) (pos l.j) px p.den qx q.den mx m.den (above_pos l.i l.some_i) (above_pos l.j l.some_j) whole_den hm e (first px p.den h) (first qx q.den g) in
        last mx m.den r
      where
        first : (x d : ℤ) → (k *ℤ d) ≤ℤ (x *ℤ f) → (neg_ℤ f *ℤ x +ℤ k *ℤ d) ≤ℤ pos 0
        first x d h = let a = neg_times_first f x in let b = times_swap f x in omega (arith, ints)

        last : (x d : ℤ) → (neg_ℤ f *ℤ x +ℤ k *ℤ d) ≤ℤ pos 0 → (k *ℤ d) ≤ℤ (x *ℤ f)
        last x d h = let a = neg_times_first f x in let b = times_swap f x in omega (arith, ints)

    high_between : (k f : ℤ) → (px *ℤ f) ≤ℤ (k *ℤ p.den) → (qx *ℤ f) ≤ℤ (k *ℤ q.den) → (mx *ℤ f) ≤ℤ (k *ℤ m.den)
    high_between k f h g =
        let r = sum_between f (neg_ℤ k) (pos l.i) (pos l.j) px p.den qx q.den mx m.den (above_pos l.i l.some_i) (above_pos l.j l.some_j) whole_den hm e (first px p.den h) (first qx q.den g) in
        last mx m.den r
      where
        first : (x d : ℤ) → (x *ℤ f) ≤ℤ (k *ℤ d) → (f *ℤ x +ℤ neg_ℤ k *ℤ d) ≤ℤ pos 0
        first x d h = let a = neg_times_first k d in let b = times_swap f x in omega (arith, ints)

        last : (x d : ℤ) → (f *ℤ x +ℤ neg_ℤ k *ℤ d) ≤ℤ pos 0 → (x *ℤ f) ≤ℤ (k *ℤ d)
        last x d h = let a = neg_times_first k d in let b = times_swap f x in omega (arith, ints)

    above_between : (o : Option ℤ) → IsAbove o px (unsigned_abs p.den) → IsAbove o qx (unsigned_abs q.den) → IsAbove o mx (unsigned_abs m.den)
    above_between None h g = tt
    above_between (Some k) h g =
        subst (λ d. (k *ℤ d) ≤ℤ (mx *ℤ pos fine)) (sym (abs_above m.den hm))
        (low_between k (pos fine) (subst (λ d. (k *ℤ d) ≤ℤ (px *ℤ pos fine)) (abs_above p.den hp) h) (subst (λ d. (k *ℤ d) ≤ℤ (qx *ℤ pos fine)) (abs_above q.den hq) g))

    below_between : (o : Option ℤ) → IsBelow o px (unsigned_abs p.den) → IsBelow o qx (unsigned_abs q.den) → IsBelow o mx (unsigned_abs m.den)
    below_between None h g = tt
    below_between (Some k) h g =
        subst (λ d. (mx *ℤ pos fine) ≤ℤ (k *ℤ d)) (sym (abs_above m.den hm))
        (high_between k (pos fine) (subst (λ d. (px *ℤ pos fine) ≤ℤ (k *ℤ d)) (abs_above p.den hp) h) (subst (λ d. (qx *ℤ pos fine) ≤ℤ (k *ℤ d)) (abs_above q.den hq) g))

    range_between : (r : Range) → IsIn r px (unsigned_abs p.den) → IsIn r qx (unsigned_abs q.den) → IsIn r mx (unsigned_abs m.den)
    range_between r h g = record { low = above_between r.low h.low g.low; high = below_between r.high h.high g.high }

  -- at each of the two places
  pub x_between : (r : Range) → IsIn r p.x (unsigned_abs p.den) → IsIn r q.x (unsigned_abs q.den) → IsIn r m.x (unsigned_abs m.den)
  unfolding between
  x_between r h g = range_between p.x q.x m.x l.is.x r h g

  pub y_between : (r : Range) → IsIn r p.y (unsigned_abs p.den) → IsIn r q.y (unsigned_abs q.den) → IsIn r m.y (unsigned_abs m.den)
  unfolding between
  y_between r h g = range_between p.y q.y m.y l.is.y r h g

-- ---- reaches
pub two_ranges : (x y : Range) (m : Spot) (d : ℕ) → IsIn x m.x d → IsIn y m.y d → Lies (x ∷ y ∷ []) (coordinates m) d
two_ranges x y m d h k zero = h
two_ranges x y m d h k (suc zero) = k
two_ranges x y m d h k (suc (suc p)) = record { low = tt; high = tt }

pub lies_wider : (rs ss : List Range) (v : ℕ → ℤ) (d : ℕ) → IsWithin rs ss → Lies rs v d → Lies ss v d
lies_wider rs ss v d w l p = record {
  low = above_lower (range_at ss p).low (range_at rs p).low (v p) d (w p).low (l p).low;
  high = below_higher (range_at ss p).high (range_at rs p).high (v p) d (w p).high (l p).high;
}

-- ---- corners one after another
pub lie_more : (old new r : List Range) (cs : List Spot) (i : ℕ) (c : Spot) → i < length cs → c ≡ get_or cs i c → IsWithin old new → IsWithin r new → pos 0 <ℤ c.den → Lies r (coordinates c) (unsigned_abs c.den)
    → LieIn old (take i cs) → LieIn new (take (i + 1) cs)
lie_more old new r cs i c h e own other positive lies all d j = elim (in_either d (take i cs) (c ∷ []) (subst (In d) (take_more cs i c h ∙ ap (λ x. take i cs ++ x ∷ []) (sym e)) j)) [
  | inl k ↦ ((all d k).0, lies_wider old new (coordinates d) (unsigned_abs d.den) own (all d k).1)
  | inr k ↦ (elim k [
    | inl f ↦ (subst (λ (a : Spot). pos 0 <ℤ a.den) (sym f) positive, subst (λ (a : Spot). Lies new (coordinates a) (unsigned_abs a.den)) (sym f) (lies_wider r new (coordinates c) (unsigned_abs c.den) other lies))
    | inr n ↦ absurd n
  ])
]

-- limits that are met in the ranges are met between the corners
pub meet_between : (cs : List Spot) (r : List Range) (ls : List Bound) → LieIn r cs → ((v : ℕ → ℤ) (d : ℕ) → IsIn (range_at r 0) (v 0) d → IsIn (range_at r 1) (v 1) d → are_met v d ls ≡ true) → MeetBetween cs ls
meet_between cs r ls all meet j k hj hk =
    let a = all (spot_in cs j) (in_at cs j origin hj) in
    let b = all (spot_in cs k) (in_at cs k origin hk) in (
      a.0,
      b.0,
      λ m hm l. meet (coordinates m) (unsigned_abs m.den) (x_between (spot_in cs j) (spot_in cs k) m a.0 b.0 hm l (range_at r 0) (a.1 0) (b.1 0)) (y_between (spot_in cs j) (spot_in cs k) m a.0 b.0 hm l (range_at r 1) (a.1 1) (b.1 1)),
    )

-- a reach of two ranges that are added one after the other
pub two_pushed : (x y : Range) (m : Spot) (d : ℕ) (old mid new : List Range) → old ≡ [] → mid ≡ old ++ x ∷ [] → new ≡ mid ++ y ∷ [] → IsIn x m.x d → IsIn y m.y d → Lies new (coordinates m) d
two_pushed x y m d old mid new eo em en h k =
    subst (λ rs. Lies rs (coordinates m) d) (sym (en ∙ ap (λ rs. rs ++ y ∷ []) (em ∙ ap (λ rs. rs ++ x ∷ []) eo))) (two_ranges x y m d h k)
