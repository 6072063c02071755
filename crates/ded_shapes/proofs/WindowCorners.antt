-- Rows whose closure has a point in a window have a corner there.
use Rattle.std.proofs.Common.{◌≡◌, ◌<◌, ℕ, Bool, true, false, List, [], ◌∷◌, ◌++◌, length, inl, inr, sym, subst, arith}
use Rattle.std.specs.Prelude.{pos, ◌<ℤ◌, IsTrue, unsigned_abs}
use Rattle.std.proofs.lemmas.Int.{ints}
use Rattle.ded_model.specs.declared.slot.Slot.{Slot}
use Rattle.ded_model.specs.declared.row.RowOp.{RowOp}
use Rattle.ded_model.specs.declared.row.RowOp.TheVariants.{Zero, AtMost, Below}
use Rattle.ded_model.specs.Constraint.{LinearConstraint}
use Rattle.ded_model.specs.Point.{Point, IsPoint, same_slot}
use Rattle.ded_model.specs.Row.{row_at, sign_meets, row_holds}
use Rattle.ded_model.specs.Cell.{conj_holds}
use Rattle.ded_model.proofs.Eliminating.{meets-decides}
use Rattle.ded_model.proofs.Points.{and_left, and_right}
use Rattle.ded_model.proofs.Given.{same_self}
use Rattle.ded_polygon.specs.Plane.{Spot}
use Rattle.ded_polygon.specs.Vertices.{LiesIn, IsVertex}
use Rattle.ded_polygon.specs.Closures.{IsInClosure, weakened, holds_weakly, MentionOnly, point_at, spot_of}
use Rattle.ded_polygon.specs.Corners.{AreCorners}
use Rattle.ded_polygon.specs.Lists.{spot_in}
use Rattle.ded_polygon.specs.Rows.{half_planes}
use Rattle.ded_polygon.specs.Windows.{Frame, IsFrame, window_rows, window_planes}
use Rattle.ded_polygon.proofs.Framing.{cut_mentions, cut_bounded, planes_of_window, window_mentions}
use Rattle.ded_polygon.proofs.RowPlanes.{in_right, in_either}
use Rattle.ded_polygon.proofs.RowVertices.{enclosed, closure_lies, corner_point_of, spot_back}
use Rattle.ded_shapes.specs.Projections.{AreProjected}
use Rattle.ded_shapes.proofs.Cornered.{some_vertex}

-- ---- closures
weaker : (op : RowOp) (r : LinearConstraint) (p : Point) → sign_meets op (row_at r p) ≡ true → sign_meets (weakened op) (row_at r p) ≡ true
weaker Zero r p h = h
weaker AtMost r p h = h
weaker Below r p h = let m = (meets-decides Below (row_at r p)).0 h in (meets-decides AtMost (row_at r p)).1 (omega (arith, ints, m))

holds_too : (r : LinearConstraint) (p : Point) → row_holds r p ≡ true → holds_weakly r p ≡ true
unfolding row_holds
holds_too r p h = weaker r.op r p h

-- rows that hold hold in the closure
pub closed : (rows : List LinearConstraint) (p : Point) → IsTrue (conj_holds row_holds rows p) → IsInClosure rows p
closed [] p h r i = absurd i
closed (q ∷ rows) p h r (inl e) = holds_too r p (subst (λ z. row_holds z p ≡ true) (sym e) (and_left (row_holds q p) (conj_holds row_holds rows p) h))
closed (q ∷ rows) p h r (inr i) = closed rows p (and_right (row_holds q p) (conj_holds row_holds rows p) h) r i

both_closed : (rows more : List LinearConstraint) (p : Point) → IsInClosure rows p → IsInClosure more p → IsInClosure (rows ++ more) p
both_closed rows more p h k r i = elim (in_either r rows more i) [ inl j ↦ h r j | inr j ↦ k r j ]

-- ---- corners
size : (c : Spot) → pos 0 <ℤ c.den → 0 < unsigned_abs c.den
size c h = omega (arith, ints, h)

module _ (x y : Slot) (differ : same_slot x y ≡ false) where
  pub has_corner : (rows : List LinearConstraint) → MentionOnly x y rows → (w : Frame) → IsFrame w → (cs : List Spot) → AreCorners x y (rows ++ window_rows x y w) cs
      → (p : Point) → IsPoint p → IsInClosure (rows ++ window_rows x y w) p → 0 < length cs
  has_corner rows only w frame cs are p i inside =
      let all = rows ++ window_rows x y w in
      let mentions = cut_mentions x y rows w only in
      let lies = closure_lies x y differ all mentions p inside in
      let positive = i.positive in
      let v = some_vertex (half_planes x y all) (enclosed x y all (cut_bounded x y differ rows w frame.positive)) (spot_of x y p) (omega (arith, ints)) lies in
      let back = spot_back x y differ v.0 v.1.positive in
      let k = are.complete (point_at x y v.0) (size v.0 v.1.positive) (corner_point_of x y differ all mentions (point_at x y v.0) (subst (IsVertex (half_planes x y all)) (sym back) v.1)) in
      some k.0 (length cs) k.1
    where
      some : (k n : ℕ) → k < n → 0 < n
      some k n h = omega (arith, h)

  -- a tuple that holds somewhere within the window has a corner
  pub is_drawn : (test : Point → Bool) (rows : List LinearConstraint) → AreProjected x y test rows → (w : Frame) → IsFrame w → (cs : List Spot) → AreCorners x y (rows ++ window_rows x y w) cs
      → (p : Point) → IsPoint p → IsTrue (test p) → IsInClosure (window_rows x y w) p → 0 < length cs
  is_drawn test rows projected w frame cs are p i holds inside =
      has_corner rows projected.only w frame cs are p i
      (both_closed rows (window_rows x y w) p (closed rows p ((projected.holds p i).1 (p, i, same_self p _, same_self p _, holds))) inside)

-- a corner is a point of the closure
pub corner_inside : (x y : Slot) (rows : List LinearConstraint) (cs : List Spot) → AreCorners x y rows cs → 0 < length cs → (p : Point) × IsPoint p × IsInClosure rows p
corner_inside x y rows cs are h =
    (point_at x y (spot_in cs 0), record { positive = size (spot_in cs 0) (are.positive 0 h); bytes = (tt, (tt, tt)) }, (are.sound 0 h).closure)

-- corners of rows within a window lie in its half planes
pub corner_within : (x y : Slot) → same_slot x y ≡ false → (rows : List LinearConstraint) (w : Frame) (cs : List Spot) → AreCorners x y (rows ++ window_rows x y w) cs
    → (k : ℕ) → k < length cs → LiesIn (window_planes w) (spot_in cs k)
corner_within x y differ rows w cs are k h =
    let c = spot_in cs k in
    let inside : IsInClosure (window_rows x y w) (point_at x y c) = λ r i. (are.sound k h).closure r (in_right r rows (window_rows x y w) i) in
    subst (λ ss. LiesIn ss c) (planes_of_window x y differ w)
    (subst (LiesIn (half_planes x y (window_rows x y w))) (spot_back x y differ c (are.positive k h))
    (closure_lies x y differ (window_rows x y w) (window_mentions x y w) (point_at x y c) inside))
