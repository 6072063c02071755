-- Sums of slots at a point.
--
-- Putting a number at a slot adds it times the slot's number to the sum, and leaving zeros out changes no sum.
use Rattle.std.proofs.Common.{◌≡◌, nat_lt, Bool, true, false, cond, List, [], ◌∷◌, arith, refl, sym, ap, ◌∙◌}
use Rattle.std.specs.Prelude.{ℤ, pos, ◌+ℤ◌, ◌*ℤ◌}
use lib.IntN.{+ℤ_idr}
use Rattle.std.specs.Ordering.{int_eq}
use Rattle.std.proofs.lemmas.Bool.Decides.{Decides-int_eq}
use Rattle.ded_num.proofs.Ring.{parts, ring, diff-pos, diff_same}
use Rattle.ded_num.proofs.Signs.{more_law, none_law}
use Rattle.ded_model.specs.declared.slot.Slot.{Slot}
use Rattle.ded_model.specs.Point.{slot, Point, number_at, same_slot}
use Rattle.ded_model.specs.Coefs.{put, put_all, mixed, nonzero}
use Rattle.ded_model.specs.Row.{sum_at}
use Rattle.ded_model.proofs.Points.{same_slot_is}
use Rattle.ded_model.proofs.LineCoefs.{plus_past}

-- ---- sums of lists

-- one place of the list
put_step : (s : Slot) (z : ℤ) (c : Slot × ℤ) (cs : List (Slot × ℤ)) (p : Point) (b b' : Bool) → same_slot c.0 s ≡ b
    → sum_at (put s z cs) p ≡ z *ℤ number_at p (slot s) +ℤ sum_at cs p
    → sum_at (cond b ((c.0, z +ℤ c.1) ∷ cs) (cond b' ((s, z) ∷ c ∷ cs) (c ∷ put s z cs))) p ≡ z *ℤ number_at p (slot s) +ℤ (c.1 *ℤ number_at p (slot c.0) +ℤ sum_at cs p)
put_step s z c cs p true b' e ih =
    more_law z c.1 (number_at p (slot c.0)) (sum_at cs p) ∙ ap (λ t. z *ℤ number_at p (slot t) +ℤ (c.1 *ℤ number_at p (slot c.0) +ℤ sum_at cs p)) (same_slot_is c.0 s e)
put_step s z c cs p false true e ih = refl
put_step s z c cs p false false e ih = ap (λ w. c.1 *ℤ number_at p (slot c.0) +ℤ w) ih ∙ plus_past (z *ℤ number_at p (slot s)) (c.1 *ℤ number_at p (slot c.0)) (sum_at cs p)

-- a number more at a slot
pub sum_at-put : (s : Slot) (z : ℤ) (cs : List (Slot × ℤ)) (p : Point) → sum_at (put s z cs) p ≡ z *ℤ number_at p (slot s) +ℤ sum_at cs p
sum_at-put s z [] p = refl
sum_at-put s z (c ∷ cs) p = put_step s z c cs p (same_slot c.0 s) (nat_lt s.number c.0.number) refl (sum_at-put s z cs p)

-- a multiple of a product and of the rest
times_law : (k c x s y : ℤ) → (k *ℤ c) *ℤ x +ℤ (k *ℤ s +ℤ y) ≡ k *ℤ (c *ℤ x +ℤ s) +ℤ y
times_law k c x s y = rw (parts k, parts c, parts x, parts s, parts y) (simp ring (diff_same _ _ _ _ (omega arith)))

-- the multiples of a list more
pub sum_at-put_all : (k : ℤ) (cs ys : List (Slot × ℤ)) (p : Point) → sum_at (put_all k cs ys) p ≡ k *ℤ sum_at cs p +ℤ sum_at ys p
sum_at-put_all k [] ys p = none_law k (sum_at ys p)
sum_at-put_all k (c ∷ cs) ys p =
    sum_at-put c.0 (k *ℤ c.1) (put_all k cs ys) p ∙ ap (λ w. (k *ℤ c.1) *ℤ number_at p (slot c.0) +ℤ w) (sum_at-put_all k cs ys p)
    ∙ times_law k c.1 (number_at p (slot c.0)) (sum_at cs p) (sum_at ys p)

-- two lists
pub sum_at-mixed : (k : ℤ) (xs : List (Slot × ℤ)) (m : ℤ) (ys : List (Slot × ℤ)) (p : Point) → sum_at (mixed k xs m ys) p ≡ k *ℤ sum_at xs p +ℤ m *ℤ sum_at ys p
sum_at-mixed k xs m ys p = sum_at-put_all k xs (put_all m ys []) p ∙ ap (λ w. k *ℤ sum_at xs p +ℤ w) (sum_at-put_all m ys [] p ∙ +ℤ_idr (m *ℤ sum_at ys p))

-- a product with 0
skip_law : (x r : ℤ) → r ≡ pos 0 *ℤ x +ℤ r
skip_law x r = rw (parts x, parts r, diff-pos 0) (simp ring (diff_same _ _ _ _ (omega arith)))

-- one place of the list
nonzero_step : (c : Slot × ℤ) (cs : List (Slot × ℤ)) (p : Point) (b : Bool) → int_eq c.1 (pos 0) ≡ b → sum_at (nonzero cs) p ≡ sum_at cs p
    → sum_at (cond b (nonzero cs) (c ∷ nonzero cs)) p ≡ c.1 *ℤ number_at p (slot c.0) +ℤ sum_at cs p
nonzero_step c cs p true e ih = ih ∙ skip_law (number_at p (slot c.0)) (sum_at cs p) ∙ ap (λ z. z *ℤ number_at p (slot c.0) +ℤ sum_at cs p) (sym ((Decides-int_eq c.1 (pos 0)).0 e))
nonzero_step c cs p false e ih = ap (λ w. c.1 *ℤ number_at p (slot c.0) +ℤ w) ih

-- leaving zeros out
pub sum_at-nonzero : (cs : List (Slot × ℤ)) (p : Point) → sum_at (nonzero cs) p ≡ sum_at cs p
sum_at-nonzero [] p = refl
sum_at-nonzero (c ∷ cs) p = nonzero_step c cs p (int_eq c.1 (pos 0)) refl (sum_at-nonzero cs p)
