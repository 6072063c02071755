-- The half planes of rows: which they are, and what lies in all of them.
use Rattle.std.proofs.Common.{◌≡◌, List, [], ◌∷◌, ◌++◌, ◌⊎◌, inl, inr, refl, subst, arith}
use Rattle.std.specs.Prelude.{ℤ, ◌+ℤ◌, ◌-ℤ◌, ◌*ℤ◌}
use lib.IntN.{neg_ℤ}
use Rattle.ded_model.specs.declared.slot.Slot.{Slot}
use Rattle.ded_model.specs.declared.row.RowOp.{RowOp}
use Rattle.ded_model.specs.declared.row.RowOp.TheVariants.{Zero, AtMost, Below}
use Rattle.ded_model.specs.Constraint.{LinearConstraint}
use Rattle.ded_polygon.specs.Plane.{HalfPlane, Spot, In, level, bend}
use Rattle.ded_polygon.specs.Rows.{half_plane, opposite, by_op, half_planes}
use Rattle.ded_num.proofs.Ring.{parts, ring, diff_same}

-- ---- opposites
negative : (x y z u v w : ℤ) → neg_ℤ x *ℤ u +ℤ neg_ℤ y *ℤ v +ℤ neg_ℤ z *ℤ w ≡ neg_ℤ (x *ℤ u +ℤ y *ℤ v +ℤ z *ℤ w)
negative x y z u v w = rw (parts x, parts y, parts z, parts u, parts v, parts w) (simp ring (diff_same _ _ _ _ (omega arith)))

pub level_opposite : (s : HalfPlane) (p : Spot) → level (opposite s) p ≡ neg_ℤ (level s p)
unfolding level
level_opposite s p = negative s.a s.b s.c p.x p.y p.den

cross_right : (a b c d : ℤ) → a *ℤ neg_ℤ b -ℤ c *ℤ neg_ℤ d ≡ neg_ℤ (a *ℤ b -ℤ c *ℤ d)
cross_right a b c d = rw (parts a, parts b, parts c, parts d) (simp ring (diff_same _ _ _ _ (omega arith)))

cross_left : (a b c d : ℤ) → neg_ℤ a *ℤ b -ℤ neg_ℤ c *ℤ d ≡ neg_ℤ (a *ℤ b -ℤ c *ℤ d)
cross_left a b c d = rw (parts a, parts b, parts c, parts d) (simp ring (diff_same _ _ _ _ (omega arith)))

pub bend_opposite_right : (s t : HalfPlane) → bend s (opposite t) ≡ neg_ℤ (bend s t)
unfolding bend
bend_opposite_right s t = cross_right s.a t.b s.b t.a

pub bend_opposite_left : (s t : HalfPlane) → bend (opposite s) t ≡ neg_ℤ (bend s t)
unfolding bend
bend_opposite_left s t = cross_left s.a t.b s.b t.a

-- ---- membership
pub in_left : {A : Type 0} (x : A) (xs ys : List A) → In x xs → In x (xs ++ ys)
in_left x [] ys i = absurd i
in_left x (z ∷ xs) ys (inl e) = inl e
in_left x (z ∷ xs) ys (inr i) = inr (in_left x xs ys i)

pub in_right : {A : Type 0} (x : A) (xs ys : List A) → In x ys → In x (xs ++ ys)
in_right x [] ys i = i
in_right x (z ∷ xs) ys i = inr (in_right x xs ys i)

pub in_either : {A : Type 0} (x : A) (xs ys : List A) → In x (xs ++ ys) → In x xs ⊎ In x ys
in_either x [] ys i = inr i
in_either x (z ∷ xs) ys (inl e) = inl (inl e)
in_either x (z ∷ xs) ys (inr i) = elim (in_either x xs ys i) [ inl j ↦ inl (inr j) | inr j ↦ inr j ]

-- the half plane of a row is one of them
own : (op : RowOp) (s : HalfPlane) → In s (by_op op s)
own Zero s = inl refl
own AtMost s = inl refl
own Below s = inl refl

pub in_planes : (x y : Slot) (rows : List LinearConstraint) (r : LinearConstraint) (s : HalfPlane) → In r rows → In s (by_op r.op (half_plane x y r)) → In s (half_planes x y rows)
in_planes x y [] r s i j = absurd i
in_planes x y (q ∷ rows) r s (inl e) j =
    in_left s (by_op q.op (half_plane x y q)) (half_planes x y rows) (subst (λ (w : LinearConstraint). In s (by_op w.op (half_plane x y w))) e j)
in_planes x y (q ∷ rows) r s (inr i) j = in_right s (by_op q.op (half_plane x y q)) (half_planes x y rows) (in_planes x y rows r s i j)

pub plane_in : (x y : Slot) (rows : List LinearConstraint) (r : LinearConstraint) → In r rows → In (half_plane x y r) (half_planes x y rows)
plane_in x y rows r i = in_planes x y rows r (half_plane x y r) i (own r.op (half_plane x y r))

-- and each of them is that of a row, or the opposite one of an equality
pub record IsOf (x y : Slot) (rows : List LinearConstraint) (s : HalfPlane) : Type 0 where
  pub row : LinearConstraint
  pub row_in : In row rows
  pub is : In s (by_op row.op (half_plane x y row))

pub plane_of : (x y : Slot) (rows : List LinearConstraint) (s : HalfPlane) → In s (half_planes x y rows) → IsOf x y rows s
plane_of x y [] s i = absurd i
plane_of x y (q ∷ rows) s i =
    elim (in_either s (by_op q.op (half_plane x y q)) (half_planes x y rows) i) [
      | inl j ↦ record { row = q; row_in = inl refl; is = j }
      | inr j ↦ (let w = plane_of x y rows s j in record { row = w.row; row_in = inr w.row_in; is = w.is })
    ]

-- the half plane itself, or its opposite
pub same_border : (op : RowOp) (h s : HalfPlane) → In s (by_op op h) → (s ≡ h) ⊎ (s ≡ opposite h)
same_border Zero h s (inl e) = inl e
same_border Zero h s (inr (inl e)) = inr e
same_border Zero h s (inr (inr i)) = absurd i
same_border AtMost h s (inl e) = inl e
same_border AtMost h s (inr i) = absurd i
same_border Below h s (inl e) = inl e
same_border Below h s (inr i) = absurd i
