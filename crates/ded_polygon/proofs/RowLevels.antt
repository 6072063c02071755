-- A row over two slots at a point: its sum is the level of its half plane there.
use Rattle.std.proofs.Common.{◌≡◌, Bool, true, false, cond, List, [], ◌∷◌, ◌⊎◌, inl, inr, refl, sym, ap, ◌∙◌, true≢false, arith}
use Rattle.std.specs.Prelude.{ℤ, pos, ◌+ℤ◌, ◌*ℤ◌}
use Rattle.std.specs.List.{list_any}
use Rattle.ded_num.proofs.Ring.{parts, ring_pos, diff_same}
use Rattle.ded_num.proofs.Signs.{nothing}
use Rattle.ded_model.specs.declared.slot.Slot.{Slot}
use Rattle.ded_model.specs.Constraint.{LinearConstraint}
use Rattle.ded_model.specs.Coefs.{coef_at}
use Rattle.ded_model.specs.Point.{Point, slot, number_at, same_slot}
use Rattle.ded_model.specs.Row.{sum_at, row_at, row_mentions}
use Rattle.ded_model.proofs.Points.{same_slot_is, same_slot_refl}
use Rattle.ded_model.proofs.Rows.{or_right, or_left}
use Rattle.ded_polygon.specs.Plane.{level}
use Rattle.ded_polygon.specs.Closures.{MentionsOnly, spot_of}
use Rattle.ded_polygon.specs.Rows.{half_plane}

-- one term more
at_x : (c z s cx cy x y : ℤ) → z ≡ x → s ≡ cx *ℤ x +ℤ cy *ℤ y → c *ℤ z +ℤ s ≡ (c +ℤ cx) *ℤ x +ℤ (pos 0 +ℤ cy) *ℤ y
at_x c z s cx cy x y e f =
    ap (λ w. c *ℤ w +ℤ s) e ∙ ap (λ w. c *ℤ x +ℤ w) f ∙ law c cx cy x y
  where
    law : (c cx cy x y : ℤ) → c *ℤ x +ℤ (cx *ℤ x +ℤ cy *ℤ y) ≡ (c +ℤ cx) *ℤ x +ℤ (pos 0 +ℤ cy) *ℤ y
    law c cx cy x y = rw (parts c, parts cx, parts cy, parts x, parts y) (simp ring_pos (diff_same _ _ _ _ (omega arith)))

at_y : (c z s cx cy x y : ℤ) → z ≡ y → s ≡ cx *ℤ x +ℤ cy *ℤ y → c *ℤ z +ℤ s ≡ (pos 0 +ℤ cx) *ℤ x +ℤ (c +ℤ cy) *ℤ y
at_y c z s cx cy x y e f =
    ap (λ w. c *ℤ w +ℤ s) e ∙ ap (λ w. c *ℤ y +ℤ w) f ∙ law c cx cy x y
  where
    law : (c cx cy x y : ℤ) → c *ℤ y +ℤ (cx *ℤ x +ℤ cy *ℤ y) ≡ (pos 0 +ℤ cx) *ℤ x +ℤ (c +ℤ cy) *ℤ y
    law c cx cy x y = rw (parts c, parts cx, parts cy, parts x, parts y) (simp ring_pos (diff_same _ _ _ _ (omega arith)))

module _ (x y : Slot) (p : Point) (differ : same_slot x y ≡ false) where
  -- a sum over the two slots
  sum_is : (cs : List (Slot × ℤ)) → ((s : Slot) → list_any (λ c. same_slot c.0 s) cs ≡ true → (same_slot s x ≡ true) ⊎ (same_slot s y ≡ true))
      → sum_at cs p ≡ coef_at cs x *ℤ number_at p (slot x) +ℤ coef_at cs y *ℤ number_at p (slot y)
  sum_is [] only = nothing (number_at p (slot x)) (number_at p (slot y))
  sum_is (c ∷ cs) only =
      by_slot (same_slot c.0 x) (same_slot c.0 y) refl refl (only c.0 (or_left (same_slot c.0 c.0) (list_any (λ d. same_slot d.0 c.0) cs) (same_slot_refl c.0)))
      (sum_is cs (λ s h. only s (or_right (same_slot c.0 s) (list_any (λ d. same_slot d.0 s) cs) h)))
    where
      number_same : (t : Slot) → same_slot c.0 t ≡ true → number_at p (slot c.0) ≡ number_at p (slot t)
      number_same t h = ap (λ s. number_at p (slot s)) (same_slot_is c.0 t h)

      by_slot : (b d : Bool) → same_slot c.0 x ≡ b → same_slot c.0 y ≡ d → (same_slot c.0 x ≡ true) ⊎ (same_slot c.0 y ≡ true)
          → sum_at cs p ≡ coef_at cs x *ℤ number_at p (slot x) +ℤ coef_at cs y *ℤ number_at p (slot y)
          → c.1 *ℤ number_at p (slot c.0) +ℤ sum_at cs p ≡ (cond b c.1 (pos 0) +ℤ coef_at cs x) *ℤ number_at p (slot x) +ℤ (cond d c.1 (pos 0) +ℤ coef_at cs y) *ℤ number_at p (slot y)
      by_slot true true e f o ih = absurd (true≢false (sym (same_slot_refl y) ∙ ap (λ s. same_slot s y) (sym (same_slot_is c.0 y f) ∙ same_slot_is c.0 x e) ∙ differ))
      by_slot true false e f o ih = at_x c.1 _ _ (coef_at cs x) (coef_at cs y) _ _ (number_same x e) ih
      by_slot false true e f o ih = at_y c.1 _ _ (coef_at cs x) (coef_at cs y) _ _ (number_same y f) ih
      by_slot false false e f (inl h) ih = absurd (true≢false (sym h ∙ e))
      by_slot false false e f (inr h) ih = absurd (true≢false (sym h ∙ f))

  -- the row's sum is the level of its half plane
  pub row_level : (r : LinearConstraint) → MentionsOnly x y r → row_at r p ≡ level (half_plane x y r) (spot_of x y p)
  unfolding level row_mentions
  row_level r only = ap (λ s. s +ℤ r.constant *ℤ pos p.den) (sum_is r.coefs only)
