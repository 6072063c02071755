-- Edges that lead around, back to the first vertex, pass each vertex: one that they do not pass lies to the left of all of
-- them, hence in one of the triangles from the first vertex over an edge, and would be a mixture of that triangle's corners.
use Rattle.std.proofs.Common.{◌≡◌, ℕ, zero, suc, ◌<◌, ◌≤◌, List, refl, ap, ◌∙◌, sym, arith}
use Rattle.std.specs.Prelude.{pos, ◌*ℤ◌, ◌<ℤ◌, ◌≤ℤ◌}
use Rattle.std.proofs.lemmas.Int.{ints, by_lt_z}
use Rattle.ded_model.proofs.Core.{zero_scale}
use Rattle.ded_polygon.specs.Plane.{HalfPlane, Spot, IsSameSpot, level, turn}
use Rattle.ded_polygon.specs.Vertices.{LiesIn, IsVertex, IsEdge}
use Rattle.ded_polygon.proofs.Signs.{above_most, least_most, unscale_zero}
use Rattle.ded_polygon.proofs.Identities.{levels, turn_back}
use Rattle.ded_polygon.proofs.Sameness.{same_by}
use Rattle.ded_polygon.proofs.Edges.{to_the_left, ends_differ}

-- where the levels at three spots mix to 0, that which counts is 0
mixed : (t : HalfPlane) (p q w r : Spot) → level t p ≤ℤ pos 0 → level t q ≤ℤ pos 0 → level t w ≤ℤ pos 0 → level t r ≡ pos 0
    → pos 0 <ℤ turn q w r → pos 0 ≤ℤ turn w p r → pos 0 ≤ℤ turn p q r → level t p ≡ pos 0
mixed t p q w r lp lq lw on a b c =
    let e = levels t p q w r in
    let f = zero_scale (turn p q w) (level t r) on in
    let x = above_most (turn q w r) (level t p) a lp in
    let y = least_most (turn w p r) (level t q) b lq in
    let z = least_most (turn p q r) (level t w) c lw in
    unscale_zero (turn q w r) (level t p) a (omega (arith, ints))

-- a vertex in a triangle, off the side across from p, is p
in_triangle : (ss : List HalfPlane) (p q w r : Spot) → LiesIn ss p → LiesIn ss q → LiesIn ss w → IsVertex ss r
    → pos 0 <ℤ turn q w r → pos 0 ≤ℤ turn w p r → pos 0 ≤ℤ turn p q r → IsSameSpot p r
in_triangle ss p q w r ip iq iw v a b c =
    same_by v.first v.second p r v.crossed
    (mixed v.first p q w r (ip v.first v.first_in) (iq v.first v.first_in) (iw v.first v.first_in) v.on_first a b c)
    (mixed v.second p q w r (ip v.second v.second_in) (iq v.second v.second_in) (iw v.second v.second_in) v.on_second a b c)
    v.on_first v.on_second

module _ (ss : List HalfPlane) (f : ℕ → Spot) (m : ℕ) (r : Spot) (vertex : (k : ℕ) → k ≤ m → IsVertex ss (f k)) (vr : IsVertex ss r)
    (edge : (k : ℕ) → k < m → IsEdge ss (f k) (f (suc k))) (closed : IsEdge ss (f m) (f 0)) (other : (k : ℕ) → k ≤ m → IsSameSpot (f k) r → ⊥) where
  left_of : (k : ℕ) → k < m → pos 0 <ℤ turn (f k) (f (suc k)) r
  left_of k h =
      to_the_left ss (f k) (f (suc k)) r (edge k h) (vertex k (omega arith)) (vertex (suc k) (omega arith)) vr (other k (omega arith)) (other (suc k) (omega arith))

  -- seen from the first vertex each vertex that is passed has it to its left
  fan : (k : ℕ) → suc k ≤ m → pos 0 <ℤ turn (f 0) (f (suc k)) r
  fan zero h = left_of 0 (omega arith)
  fan (suc k) h =
      let before = fan k (omega arith) in
      by_lt_z (pos 0) (turn (f 0) (f (suc (suc k))) r) (λ above. above)
      (λ most.
      let e = turn_back (f 0) (f (suc (suc k))) r in
      absurd
      (other 0 (omega arith)
      (in_triangle ss (f 0) (f (suc k)) (f (suc (suc k))) r (vertex 0 (omega arith)).inside (vertex (suc k) (omega arith)).inside (vertex (suc (suc k)) (omega arith)).inside vr
      (left_of (suc k) (omega arith)) (omega (arith, ints)) (omega (arith, ints)))))

  none_left : (k : ℕ) → k ≡ m → ⊥
  none_left zero e =
      ends_differ ss (f m) (f 0) (vertex m (omega arith)).positive (vertex 0 (omega arith)).positive closed (same_at zero m e)
    where
      same_at : (j k : ℕ) → j ≡ k → IsSameSpot (f k) (f j)
      same_at j k e = record { x = ap (λ i. (f i).x *ℤ (f j).den) (sym e) ∙ ap (λ i. (f j).x *ℤ (f i).den) e; y = ap (λ i. (f i).y *ℤ (f j).den) (sym e) ∙ ap (λ i. (f j).y *ℤ (f i).den) e }
  none_left (suc k) e =
      let a = fan k (omega arith) in
      let b = to_the_left ss (f m) (f 0) r closed (vertex m (omega arith)) (vertex 0 (omega arith)) vr (other m (omega arith)) (other 0 (omega arith)) in
      let c = turn_back (f 0) (f m) r in
      let d : turn (f 0) (f (suc k)) r ≡ turn (f 0) (f m) r = ap (λ i. turn (f 0) (f i) r) e in
      absurd (omega (arith, ints))

  -- so there is none
  pub none_past : ⊥
  none_past = none_left m refl
