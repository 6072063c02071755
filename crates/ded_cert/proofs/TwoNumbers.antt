-- Points at which two slots have numbers, and all others are 0.
use Rattle.std.proofs.Common.{◌≡◌, ℕ, ◌<◌, Bool, true, false, cond, List, [], ◌∷◌, arith, refl, sym, ap₂, ◌∙◌, subst, true≢false}
use Rattle.std.specs.Prelude.{ℤ, pos, ◌+ℤ◌, ◌*ℤ◌}
use Rattle.ded_num.proofs.Ring.{parts, ring_pos, diff_same}
use Rattle.ded_num.proofs.Signs.{nothing}
use Rattle.ded_model.specs.declared.slot.Slot.{Slot}
use Rattle.ded_model.specs.Point.{slot, number, absent, as_number, same_slot, Point, IsPoint, number_at}
use Rattle.ded_model.specs.Coefs.{coef_at}
use Rattle.ded_model.specs.Row.{sum_at}
use Rattle.ded_model.proofs.Points.{same_slot_is}

abbrev pub two_numbers : ℕ → Slot → ℤ → Slot → ℤ → Point
two_numbers d s v t w = record { den = d; coords = (slot s, number v) ∷ (slot t, number w) ∷ [] }

pub two_numbers-is : (d : ℕ) (s : Slot) (v : ℤ) (t : Slot) (w : ℤ) → 0 < d → IsPoint (two_numbers d s v t w)
two_numbers-is d s v t w h = record { positive = h; bytes = (tt, (tt, tt)) }

-- the number at a slot
pub two_numbers-at : (d : ℕ) (s : Slot) (v : ℤ) (t : Slot) (w : ℤ) (u : Slot) → number_at (two_numbers d s v t w) (slot u) ≡ cond (same_slot u t) w (cond (same_slot u s) v (pos 0))
unfolding number_at
two_numbers-at d s v t w u = go (same_slot u t) (same_slot u s)
  where
    go : (a b : Bool) → as_number (cond a (number w) (cond b (number v) absent)) ≡ cond a w (cond b v (pos 0))
    go true b = refl
    go false true = refl
    go false false = refl

at_first : (c v w x y : ℤ) → c *ℤ v +ℤ (x *ℤ v +ℤ y *ℤ w) ≡ (c +ℤ x) *ℤ v +ℤ (pos 0 +ℤ y) *ℤ w
at_first c v w x y = rw (parts c, parts v, parts w, parts x, parts y) (simp ring_pos (diff_same _ _ _ _ (omega arith)))

at_second : (c v w x y : ℤ) → c *ℤ w +ℤ (x *ℤ v +ℤ y *ℤ w) ≡ (pos 0 +ℤ x) *ℤ v +ℤ (c +ℤ y) *ℤ w
at_second c v w x y = rw (parts c, parts v, parts w, parts x, parts y) (simp ring_pos (diff_same _ _ _ _ (omega arith)))

at_none : (c v w x y : ℤ) → c *ℤ pos 0 +ℤ (x *ℤ v +ℤ y *ℤ w) ≡ (pos 0 +ℤ x) *ℤ v +ℤ (pos 0 +ℤ y) *ℤ w
at_none c v w x y = rw (parts c, parts v, parts w, parts x, parts y) (simp ring_pos (diff_same _ _ _ _ (omega arith)))

-- the sum of coefficients there
pub two_numbers-sum : (cs : List (Slot × ℤ)) (d : ℕ) (s : Slot) (v : ℤ) (t : Slot) (w : ℤ) → same_slot s t ≡ false → sum_at cs (two_numbers d s v t w) ≡ coef_at cs s *ℤ v +ℤ coef_at cs t *ℤ w
two_numbers-sum [] d s v t w n = nothing v w
two_numbers-sum (c ∷ cs) d s v t w n =
    ap₂ (λ x y. c.1 *ℤ x +ℤ y) (two_numbers-at d s v t w c.0) (two_numbers-sum cs d s v t w n)
    ∙ go (same_slot c.0 t) (same_slot c.0 s) refl refl
  where
    go : (a b : Bool) → same_slot c.0 t ≡ a → same_slot c.0 s ≡ b
        → c.1 *ℤ cond a w (cond b v (pos 0)) +ℤ (coef_at cs s *ℤ v +ℤ coef_at cs t *ℤ w) ≡ (cond b c.1 (pos 0) +ℤ coef_at cs s) *ℤ v +ℤ (cond a c.1 (pos 0) +ℤ coef_at cs t) *ℤ w
    go true true e f = absurd (true≢false (sym (subst (λ u. same_slot u t ≡ true) (same_slot_is c.0 s f) e) ∙ n))
    go true false e f = at_second c.1 v w (coef_at cs s) (coef_at cs t)
    go false true e f = at_first c.1 v w (coef_at cs s) (coef_at cs t)
    go false false e f = at_none c.1 v w (coef_at cs s) (coef_at cs t)
