-- What the vertices of the half planes of rows are to the rows.
use Rattle.std.proofs.Common.{◌≡◌, ◌≢◌, ℕ, suc, ◌-◌, ◌+◌, ◌<◌, Bool, true, false, cond, List, length, ◌⊎◌, inl, inr, refl, sym, ap, ◌∙◌, subst, arith, nat_eq}
use Rattle.std.specs.Prelude.{pos, ◌<ℤ◌, ◌≤ℤ◌}
use Rattle.std.proofs.lemmas.Int.{ints}
use Rattle.std.proofs.lemmas.Bool.Decides.{nat_tests}
use Rattle.ded_model.specs.declared.slot.Slot.{Slot}
use Rattle.ded_model.specs.Constraint.{LinearConstraint}
use Rattle.ded_model.specs.Point.{Point, same_slot}
use Rattle.ded_polygon.specs.Plane.{HalfPlane, Spot, IsSameSpot, level, turn}
use Rattle.ded_polygon.specs.Vertices.{LiesIn, IsVertex, IsEdge, IsEnclosed}
use Rattle.ded_polygon.specs.Lists.{spot_in, AreAllVertices, after, AreJoined}
use Rattle.ded_polygon.specs.Closures.{MentionOnly, AreBounded, IsInClosure, spot_of, point_at}
use Rattle.ded_polygon.specs.Rows.{half_planes}
use Rattle.ded_polygon.specs.Corners.{AreCorners, ShareBorder, GoAround, IsOutline}
use Rattle.ded_polygon.proofs.Sameness.{same_sym}
use Rattle.ded_polygon.proofs.Edges.{to_the_left}
use Rattle.ded_polygon.proofs.Outline.{inside_left, left_inside, some_vertex, alone}
use Rattle.ded_polygon.proofs.Segment.{between_x, between_y}
use Rattle.ded_polygon.proofs.RowPlanes.{plane_of}
use Rattle.ded_polygon.proofs.RowVertices.{enclosed, closure_lies, lies_closure, vertex_of, corner_point_of, level_tight, spot_back}

-- the place after one of the places
after_below : (n k : ℕ) → k < n → after n k < n
after_below n k h = by_test (nat_eq (k + 1) n) refl
  where
    by_test : (b : Bool) → nat_eq (k + 1) n ≡ b → cond b 0 (k + 1) < n
    by_test true e = omega arith
    by_test false e = let g : (k + 1 ≡ n) → ⊥ = grind (arith, nat_tests) in omega (arith, g)

-- one of two orders
apart : (j k : ℕ) → j ≢ k → (j < k) ⊎ (k < j)
apart j k h = grind (arith, h)

module _ (x y : Slot) (differ : same_slot x y ≡ false) (rows : List LinearConstraint) (only : MentionOnly x y rows) (cs : List Spot)
    (are : AreAllVertices (half_planes x y rows) cs) where
  positive : (k : ℕ) → k < length cs → pos 0 <ℤ (spot_in cs k).den
  positive k h = (are.vertices.vertex k h).positive

  -- the spot of the point of a corner
  here : (k : ℕ) → k < length cs → spot_of x y (point_at x y (spot_in cs k)) ≡ spot_in cs k
  here k h = spot_back x y differ (spot_in cs k) (positive k h)

  pub are_corners : AreCorners x y rows cs
  are_corners = record {
    positive = positive;
    sound = λ k h. corner_point_of x y differ rows only (point_at x y (spot_in cs k)) (subst (IsVertex (half_planes x y rows)) (sym (here k h)) (are.vertices.vertex k h));
    complete = λ p h c. (let w = are.all (spot_of x y p) (vertex_of x y differ rows only p h c) in (w.0, w.1, record { at_x = w.2.x; at_y = w.2.y }));
    once = are.vertices.differ;
  }

  -- different places have different corners
  other : (j k : ℕ) → j < length cs → k < length cs → j ≢ k → IsSameSpot (spot_in cs j) (spot_in cs k) → ⊥
  other j k lj lk ne s =
      elim (apart j k ne) [
        | inl l ↦ are.vertices.differ j k l lk s
        | inr l ↦ are.vertices.differ k j l lj (same_sym _ _ s)
      ]

  module _ (joined : AreJoined (half_planes x y rows) cs) where
    share : 1 < length cs → (k : ℕ) → k < length cs → ShareBorder x y rows (spot_in cs k) (spot_in cs (after (length cs) k))
    share more k h =
        let e = joined more k h in
        let o = plane_of x y rows e.side e.side_in in
        record {
          row = o.row;
          row_in = o.row_in;
          at_first = level_tight x y differ rows only (point_at x y (spot_in cs k)) e.side o (ap (level e.side) (here k h) ∙ e.begins);
          at_second = level_tight x y differ rows only (point_at x y (spot_in cs (after (length cs) k))) e.side o (ap (level e.side) (here (after (length cs) k) (after_below (length cs) k h)) ∙ e.ends);
        }

    pub go_around : GoAround x y rows cs
    go_around = record {
      neighbours = share;
      left = λ k j lk lj nk na.
          (let more : 1 < length cs = (elim (apart j k nk) [ inl l ↦ omega arith | inr l ↦ omega arith ]) in
          let la = after_below (length cs) k lk in
          to_the_left (half_planes x y rows) (spot_in cs k) (spot_in cs (after (length cs) k)) (spot_in cs j) (joined more k lk)
          (are.vertices.vertex k lk) (are.vertices.vertex (after (length cs) k) la) (are.vertices.vertex j lj)
          (λ s. other j k lj lk nk (same_sym _ _ s)) (λ s. other j (after (length cs) k) lj la na (same_sym _ _ s)));
    }

    -- ---- what the corners tell of the closure
    abbrev ss : List HalfPlane
    ss = half_planes x y rows

    lies : (p : Point) → IsInClosure rows p → LiesIn ss (spot_of x y p)
    lies p h = closure_lies x y differ rows only p h

    after_is : (k n : ℕ) → k + 1 < n → after n k ≡ k + 1
    after_is k n h = by_test (nat_eq (k + 1) n) refl
      where
        by_test : (b : Bool) → nat_eq (k + 1) n ≡ b → cond b 0 (k + 1) ≡ k + 1
        by_test true e = let g : k + 1 ≡ n = grind (arith, nat_tests) in absurd (omega (arith, g, h))
        by_test false e = refl

    after_last : (k n : ℕ) → k + 1 ≡ n → after n k ≡ 0
    after_last k n h = by_test (nat_eq (k + 1) n) refl
      where
        by_test : (b : Bool) → nat_eq (k + 1) n ≡ b → cond b 0 (k + 1) ≡ 0
        by_test true e = refl
        by_test false e = let g : (k + 1 ≡ n) → ⊥ = grind (arith, nat_tests) in absurd (g h)

    -- the place after one, and the one after the last
    next_is : (k m : ℕ) → length cs ≡ suc m → k < m → after (length cs) k ≡ suc k
    next_is k m e h = after_is k (length cs) (omega (arith, e)) ∙ omega arith

    last_is : (m : ℕ) → length cs ≡ suc m → after (length cs) m ≡ 0
    last_is m e = after_last m (length cs) (omega (arith, e))

    -- three corners or more
    polygon : (j m : ℕ) → length cs ≡ suc m → m ≡ suc (suc j) → (p : Point) → 0 < p.den
        → ((k : ℕ) → k < length cs → pos 0 ≤ℤ turn (spot_in cs k) (spot_in cs (after (length cs) k)) (spot_of x y p)) → IsInClosure rows p
    polygon j m e f p h left =
        lies_closure x y differ rows only p
        (left_inside ss (spot_in cs) m (spot_of x y p)
        (λ k l. are.vertices.vertex k (omega (arith, e)))
        (λ j k l g. are.vertices.differ j k l (omega (arith, e)))
        (λ k l. subst (λ i. IsEdge ss (spot_in cs k) (spot_in cs i)) (next_is k m e l) (joined (omega (arith, e)) k (omega (arith, e))))
        (λ k l. subst (λ i. pos 0 ≤ℤ turn (spot_in cs k) (spot_in cs i) (spot_of x y p)) (next_is k m e l) (left k (omega (arith, e))))
        (subst (λ i. pos 0 ≤ℤ turn (spot_in cs m) (spot_in cs i) (spot_of x y p)) (last_is m e) (left m (omega (arith, e))))
        j f)

    pub outline : IsEnclosed ss → IsOutline x y rows cs
    outline within = record {
      none = λ e p h c.
          (let v = some_vertex ss (spot_of x y p) within (omega (arith, ints)) (lies p c) in
          let w = are.all v.0 v.1 in
          let l = w.1 in
          omega (arith, e));
      one = λ e p h c.
          (let l : 0 < length cs = omega (arith, e) in
          let s = alone ss (spot_in cs 0) (spot_of x y p) within (are.vertices.vertex 0 l) (λ v i. (let w = are.all v i in first v w.0 w.2 (let b = w.1 in omega (arith, e)))) (lies p c) in
          record { at_x = sym s.x; at_y = sym s.y });
      inside = λ more p h c k l.
          inside_left ss (spot_in cs k) (spot_in cs (after (length cs) k)) (spot_of x y p) (joined more k l) (positive (after (length cs) k) (after_below (length cs) k l)) (lies p c);
      between = λ e p h c.
          (let first : 0 < length cs = omega (arith, e) in
          let second : 1 < length cs = omega (arith, e) in
          let there : IsEdge ss (spot_in cs 0) (spot_in cs 1) = subst (λ i. IsEdge ss (spot_in cs 0) (spot_in cs i)) (next_is 0 1 e (omega arith)) (joined (omega (arith, e)) 0 first) in
          let back : IsEdge ss (spot_in cs 1) (spot_in cs 0) = subst (λ i. IsEdge ss (spot_in cs 1) (spot_in cs i)) (last_is 1 e) (joined (omega (arith, e)) 1 second) in
          record {
            at_x = between_x ss (spot_in cs 0) (spot_in cs 1) (spot_of x y p) there back (positive 0 first) (positive 1 second) (omega (arith, ints)) (lies p c);
            at_y = between_y ss (spot_in cs 0) (spot_in cs 1) (spot_of x y p) there back (positive 0 first) (positive 1 second) (omega (arith, ints)) (lies p c);
          });
      outside = λ more p h left. polygon (length cs - 3) (length cs - 1) (omega arith) (omega arith) p h left;
    }
      where
        first : (v : Spot) (k : ℕ) → IsSameSpot v (spot_in cs k) → k ≡ 0 → IsSameSpot v (spot_in cs 0)
        first v k s e = subst (λ i. IsSameSpot v (spot_in cs i)) e s

-- where the rows are bounded
pub bounded_around : (x y : Slot) → same_slot x y ≡ false → (rows : List LinearConstraint) → MentionOnly x y rows → (cs : List Spot) → AreAllVertices (half_planes x y rows) cs
    → (IsEnclosed (half_planes x y rows) → AreJoined (half_planes x y rows) cs) → AreBounded x y rows → GoAround x y rows cs
bounded_around x y differ rows only cs are joined bounded = go_around x y differ rows only cs are (joined (enclosed x y rows bounded))

pub bounded_outline : (x y : Slot) → same_slot x y ≡ false → (rows : List LinearConstraint) → MentionOnly x y rows → (cs : List Spot) → AreAllVertices (half_planes x y rows) cs
    → (IsEnclosed (half_planes x y rows) → AreJoined (half_planes x y rows) cs) → AreBounded x y rows → IsOutline x y rows cs
bounded_outline x y differ rows only cs are joined bounded =
    let within = enclosed x y rows bounded in
    outline x y differ rows only cs are (joined within) within
