-- Corners of rows over two slots are the vertices of their half planes, and where the rows are bounded, the half planes
-- enclose what lies in them.
use Rattle.std.proofs.Common.{◌≡◌, ◌<◌, Bool, true, false, true≢false, cond, List, ◌⊎◌, inl, inr, refl, sym, ap, ap₂, ◌∙◌, subst, arith}
use Rattle.std.specs.Prelude.{ℤ, pos, ◌+ℤ◌, ◌-ℤ◌, ◌*ℤ◌, ◌<ℤ◌, ◌≤ℤ◌, unsigned_abs}
use lib.IntN.{neg_ℤ}
use Rattle.std.proofs.lemmas.Int.{ints, by_lt_z}
use Rattle.ded_num.proofs.Ring.{parts, ring, diff_same}
use Rattle.ded_num.proofs.Signs.{abs_above}
use Rattle.ded_model.specs.declared.slot.Slot.{Slot}
use Rattle.ded_model.specs.declared.row.RowOp.{RowOp}
use Rattle.ded_model.specs.declared.row.RowOp.TheVariants.{Zero, AtMost, Below}
use Rattle.ded_model.specs.Constraint.{LinearConstraint}
use Rattle.ded_model.specs.Coefs.{coef_at}
use Rattle.ded_model.specs.Point.{Point, number, absent, as_number, number_at, same_slot}
use Rattle.ded_model.specs.Row.{row_at, row_holds}
use Rattle.ded_model.proofs.Core.{Meets}
use Rattle.ded_model.proofs.Eliminating.{meets-decides}
use Rattle.ded_model.proofs.Points.{same_slot_refl}
use Rattle.ded_polygon.specs.Plane.{HalfPlane, Spot, In, level, bend}
use Rattle.ded_polygon.specs.Vertices.{LiesIn, IsVertex, IsEnclosed}
use Rattle.ded_polygon.specs.Closures.{weakened, holds_weakly, MentionOnly, AreParallel, IsTight, IsCornerPoint, growth, IsLeft, AreBounded, spot_of, point_at}
use Rattle.ded_polygon.specs.Rows.{half_plane, opposite, by_op, half_planes}
use Rattle.ded_polygon.proofs.Identities.{bend_swap}
use Rattle.ded_polygon.proofs.RowLevels.{row_level}
use Rattle.ded_polygon.proofs.RowPlanes.{level_opposite, bend_opposite_left, bend_opposite_right, in_planes, plane_in, IsOf, plane_of, same_border}

-- ---- one row
-- a level that meets the op, with `<` read as `<=`, lies in the half planes by the op
lies_by : (op : RowOp) (h : HalfPlane) (q : Spot) → Meets (weakened op) (level h q) → (s : HalfPlane) → In s (by_op op h) → level s q ≤ℤ pos 0
lies_by Zero h q m s (inl e) = let f : level s q ≡ level h q = ap (λ t. level t q) e in omega (arith, ints, f, m)
lies_by Zero h q m s (inr (inl e)) = let f : level s q ≡ neg_ℤ (level h q) = ap (λ t. level t q) e ∙ level_opposite h q in omega (arith, ints, f, m)
lies_by Zero h q m s (inr (inr i)) = absurd i
lies_by AtMost h q m s (inl e) = let f : level s q ≡ level h q = ap (λ t. level t q) e in omega (arith, ints, f, m)
lies_by AtMost h q m s (inr i) = absurd i
lies_by Below h q m s (inl e) = let f : level s q ≡ level h q = ap (λ t. level t q) e in omega (arith, ints, f, m)
lies_by Below h q m s (inr i) = absurd i

meets_by : (op : RowOp) (h : HalfPlane) (q : Spot) → ((s : HalfPlane) → In s (by_op op h) → level s q ≤ℤ pos 0) → Meets (weakened op) (level h q)
meets_by Zero h q l = let a = l h (inl refl) in let b = l (opposite h) (inr (inl refl)) in let e = level_opposite h q in omega (arith, ints)
meets_by AtMost h q l = l h (inl refl)
meets_by Below h q l = l h (inl refl)

-- a row that is left at last
left_by : (op : RowOp) (s h : HalfPlane) → IsLeft op (bend s h) → (t : HalfPlane) × In t (by_op op h) × (pos 0 <ℤ bend s t)
left_by Zero s h n =
    by_lt_z (pos 0) (bend s h)
    (λ above. (h, inl refl, above))
    (λ most. (
      opposite h,
      inr (inl refl),
      (let e = bend_opposite_right s h in
          by_lt_z (bend s h) (pos 0) (λ below. omega (arith, ints)) (λ least. absurd (n (omega (arith, ints))))),
    ))
left_by AtMost s h n = (h, inl refl, n)
left_by Below s h n = (h, inl refl, n)

growth_is : (a b c d : ℤ) → a *ℤ neg_ℤ d +ℤ b *ℤ c ≡ c *ℤ b -ℤ d *ℤ a
growth_is a b c d = rw (parts a, parts b, parts c, parts d) (simp ring (diff_same _ _ _ _ (omega arith)))

growth_bend : (x y : Slot) (r : LinearConstraint) (s : HalfPlane) → growth x y r (neg_ℤ s.b) s.a ≡ bend s (half_plane x y r)
unfolding bend
growth_bend x y r s = growth_is (coef_at r.coefs x) (coef_at r.coefs y) s.a s.b

-- rows that are bounded enclose
pub enclosed : (x y : Slot) (rows : List LinearConstraint) → AreBounded x y rows → IsEnclosed (half_planes x y rows)
enclosed x y rows bounded s proper =
    let w = bounded (neg_ℤ s.b) s.a (λ eb ea. proper ea (omega (arith, ints))) in
    let t = left_by w.0.op s (half_plane x y w.0) (subst (IsLeft w.0.op) (growth_bend x y w.0 s) w.2) in
    (t.0, in_planes x y rows w.0 t.0 w.1 t.1, t.2)

-- ---- rows at a point
module _ (x y : Slot) (differ : same_slot x y ≡ false) (rows : List LinearConstraint) (only : MentionOnly x y rows) (p : Point) where
  weak_meets : (r : LinearConstraint) → In r rows → holds_weakly r p ≡ true → Meets (weakened r.op) (level (half_plane x y r) (spot_of x y p))
  unfolding row_holds
  weak_meets r i h = subst (Meets (weakened r.op)) (row_level x y p differ r (only r i)) ((meets-decides (weakened r.op) (row_at r p)).0 h)

  meets_weakly : (r : LinearConstraint) → In r rows → Meets (weakened r.op) (level (half_plane x y r) (spot_of x y p)) → holds_weakly r p ≡ true
  unfolding row_holds
  meets_weakly r i m = (meets-decides (weakened r.op) (row_at r p)).1 (subst (Meets (weakened r.op)) (sym (row_level x y p differ r (only r i))) m)

  pub closure_lies : ((r : LinearConstraint) → In r rows → holds_weakly r p ≡ true) → LiesIn (half_planes x y rows) (spot_of x y p)
  closure_lies h s i =
      let w = plane_of x y rows s i in
      lies_by w.row.op (half_plane x y w.row) (spot_of x y p) (weak_meets w.row w.row_in (h w.row w.row_in)) s w.is

  pub lies_closure : LiesIn (half_planes x y rows) (spot_of x y p) → (r : LinearConstraint) → In r rows → holds_weakly r p ≡ true
  lies_closure l r i = meets_weakly r i (meets_by r.op (half_plane x y r) (spot_of x y p) (λ s j. l s (in_planes x y rows r s i j)))

  -- a row that is an equality is on the border
  tight_level : (r : LinearConstraint) → In r rows → IsTight r p → level (half_plane x y r) (spot_of x y p) ≡ pos 0
  tight_level r i t = sym (row_level x y p differ r (only r i)) ∙ t

  pub level_tight : (w : HalfPlane) (o : IsOf x y rows w) → level w (spot_of x y p) ≡ pos 0 → IsTight o.row p
  level_tight w o h = row_level x y p differ o.row (only o.row o.row_in) ∙ by_side (same_border o.row.op (half_plane x y o.row) w o.is)
    where
      by_side : (w ≡ half_plane x y o.row) ⊎ (w ≡ opposite (half_plane x y o.row)) → level (half_plane x y o.row) (spot_of x y p) ≡ pos 0
      by_side (inl e) = ap (λ t. level t (spot_of x y p)) (sym e) ∙ h
      by_side (inr e) =
          let f : neg_ℤ (level (half_plane x y o.row) (spot_of x y p)) ≡ pos 0 = sym (level_opposite (half_plane x y o.row) (spot_of x y p)) ∙ ap (λ t. level t (spot_of x y p)) (sym e) ∙ h in
          omega (arith, ints)

  -- parallel rows have half planes whose borders do not cross
  parallel_bend : (r q : LinearConstraint) → AreParallel x y r q → bend (half_plane x y r) (half_plane x y q) ≡ pos 0
  unfolding bend
  parallel_bend r q e = omega (arith, ints, e)

  bend_parallel : (r q : LinearConstraint) → bend (half_plane x y r) (half_plane x y q) ≡ pos 0 → AreParallel x y r q
  unfolding bend
  bend_parallel r q e = omega (arith, ints, e)

  -- borders that cross are those of rows that are not parallel
  crossed_apart : (s t : HalfPlane) (v : IsOf x y rows s) (w : IsOf x y rows t) → pos 0 <ℤ bend s t → AreParallel x y v.row w.row → ⊥
  crossed_apart s t v w above e =
      let z = parallel_bend v.row w.row e in
      by_sides (same_border v.row.op (half_plane x y v.row) s v.is) (same_border w.row.op (half_plane x y w.row) t w.is) z
    where
      h : HalfPlane
      h = half_plane x y v.row

      k : HalfPlane
      k = half_plane x y w.row

      by_sides : (s ≡ h) ⊎ (s ≡ opposite h) → (t ≡ k) ⊎ (t ≡ opposite k) → bend h k ≡ pos 0 → ⊥
      by_sides (inl e) (inl f) z = let g : bend s t ≡ bend h k = ap₂ bend e f in absurd (omega (arith, ints, g, z, above))
      by_sides (inl e) (inr f) z = let g : bend s t ≡ neg_ℤ (bend h k) = ap₂ bend e f ∙ bend_opposite_right h k in absurd (omega (arith, ints, g, z, above))
      by_sides (inr e) (inl f) z = let g : bend s t ≡ neg_ℤ (bend h k) = ap₂ bend e f ∙ bend_opposite_left h k in absurd (omega (arith, ints, g, z, above))
      by_sides (inr e) (inr f) z =
          let g : bend s t ≡ neg_ℤ (neg_ℤ (bend h k)) = ap₂ bend e f ∙ bend_opposite_left h (opposite k) ∙ ap neg_ℤ (bend_opposite_right h k) in
          absurd (omega (arith, ints, g, z, above))

  -- ---- corners and vertices
  pub vertex_of : 0 < p.den → IsCornerPoint x y rows p → IsVertex (half_planes x y rows) (spot_of x y p)
  vertex_of positive c =
      by_lt_z (pos 0) (bend (half_plane x y c.first) (half_plane x y c.second))
      (λ above. made c.first c.second c.first_in c.second_in c.at_first c.at_second above)
      (λ most. by_lt_z (bend (half_plane x y c.first) (half_plane x y c.second)) (pos 0)
      (λ below.
      let e = bend_swap (half_plane x y c.first) (half_plane x y c.second) in
      made c.second c.first c.second_in c.first_in c.at_second c.at_first (omega (arith, ints)))
      (λ least. absurd (c.apart (bend_parallel c.first c.second (omega (arith, ints))))))
    where
      made : (r q : LinearConstraint) → In r rows → In q rows → IsTight r p → IsTight q p → pos 0 <ℤ bend (half_plane x y r) (half_plane x y q) → IsVertex (half_planes x y rows) (spot_of x y p)
      made r q i j t u above = record {
        positive = omega (arith, ints);
        inside = closure_lies c.closure;
        first = half_plane x y r;
        first_in = plane_in x y rows r i;
        on_first = tight_level r i t;
        second = half_plane x y q;
        second_in = plane_in x y rows q j;
        on_second = tight_level q j u;
        crossed = above;
      }

  pub corner_point_of : IsVertex (half_planes x y rows) (spot_of x y p) → IsCornerPoint x y rows p
  corner_point_of v =
      let a = plane_of x y rows v.first v.first_in in
      let b = plane_of x y rows v.second v.second_in in
      record {
        closure = lies_closure v.inside;
        first = a.row;
        first_in = a.row_in;
        at_first = level_tight v.first a v.on_first;
        second = b.row;
        second_in = b.row_in;
        at_second = level_tight v.second b v.on_second;
        apart = crossed_apart v.first v.second a b v.crossed;
      }

-- ---- the point of a spot
spot_with : (x x' y y' d d' : ℤ) → x ≡ x' → y ≡ y' → d ≡ d' → ◌≡◌ {A = Spot} (record { x = x; y = y; den = d }) (record { x = x'; y = y'; den = d' })
spot_with x x' y y' d d' ex ey ed = rw (ex, ey, ed) refl

pub spot_back : (x y : Slot) → same_slot x y ≡ false → (c : Spot) → pos 0 <ℤ c.den → spot_of x y (point_at x y c) ≡ c
unfolding number_at
spot_back x y differ c h = by_tests (same_slot x y) (same_slot x x) (same_slot y y) differ (same_slot_refl x) (same_slot_refl y)
  where
    by_tests : (b d e : Bool) → b ≡ false → d ≡ true → e ≡ true → ◌≡◌ {A = Spot} (record {
      x = as_number (cond b (number c.y) (cond d (number c.x) absent));
      y = as_number (cond e (number c.y) (cond (same_slot y x) (number c.x) absent));
      den = pos (unsigned_abs c.den);
    }) c
    by_tests false true true b' d' e' = spot_with c.x c.x c.y c.y _ c.den refl refl (abs_above c.den h)
    by_tests true d e b' d' e' = absurd (true≢false b')
    by_tests false false e b' d' e' = absurd (true≢false (sym d'))
    by_tests false true false b' d' e' = absurd (true≢false (sym e'))
