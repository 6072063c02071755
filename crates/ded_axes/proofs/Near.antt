-- The hundredths of a place are near to it.
use Rattle.std.proofs.Common.{◌≡◌, ◌<◌, ◌≤◌, ℕ, ◌*◌, Bool, true, false, inl, inr, refl, sym, subst, arith, leb-true}
use Rattle.std.specs.Prelude.{nat_le, ℤ, pos, negsuc, ◌*ℤ◌, ◌-ℤ◌, ◌<ℤ◌, ◌≤ℤ◌, unsigned_abs, if◌then◌else◌}
use lib.IntN.{neg_ℤ}
use Rattle.std.proofs.lemmas.Int.{ints}
use Rattle.ded_num.proofs.Ring.{parts, diff_same, ring_pos}
use Rattle.ded_polygon.specs.Plane.{Spot, level}
use Rattle.ded_polygon.specs.Vertices.{LiesIn}
use Rattle.ded_polygon.specs.Windows.{Frame, IsFrame, window_planes}
use Rattle.ded_print.proofs.Signs.{plus}
use Rattle.ded_svg.specs.Coordinates.{nearest}
use Rattle.ded_axes.specs.Places.{rise, clamped, portion, place, offset_x, offset_y, extent_x, extent_y, IsNearPortion}
use Rattle.ded_axes.proofs.Sizes.{above}
use Rattle.ded_svg.proofs.Coordinates.{nearest_rounds, apart}

-- a number from 0 to m is left as it is
not_clamped : (n m : ℕ) → n ≤ m → clamped (pos n) m ≡ n
not_clamped n m h = rw (plus n) (by (nat_le m n) refl)
  where
    by : (b : Bool) → nat_le m n ≡ b → (if b then m else n) ≡ n
    by true e = let k = leb-true m n e in omega (arith, h, k)
    by false e = refl

-- a part of an extent
pub near_portion : (offset extent : ℤ) (units : ℕ) → pos 0 ≤ℤ offset → offset ≤ℤ extent → pos 0 <ℤ extent → IsNearPortion offset extent units (portion offset extent units)
near_portion (pos n) (pos m) units h k some =
    let r = nearest_rounds (n * (100 * units)) m (omega (arith, ints, some)) in
    let e = not_clamped n m (omega (arith, ints, k)) in
    subst (λ (j : ℕ). 2 * unsigned_abs (pos (nearest (j * (100 * units)) m * m) -ℤ pos (n * (100 * units))) ≤ m) (sym e)
    (apart (nearest (n * (100 * units)) m * m) (n * (100 * units)) m r.above r.below)
near_portion (negsuc n) extent units h k some = absurd (omega (arith, ints, h))
near_portion (pos n) (negsuc m) units h k some = absurd (omega (arith, ints, some))

-- ---- what a spot in the window's half planes has
pub at_left : (d l x y e : ℤ) → level (record { a = neg_ℤ d; b = pos 0; c = l }) (record { x = x; y = y; den = e }) ≡ neg_ℤ (rise x e l d)
unfolding level
at_left d l x y e = rw (parts d, parts l, parts x, parts y, parts e) (simp ring_pos (diff_same _ _ _ _ (omega arith)))

pub at_right : (d l r x y e : ℤ) → level (record { a = d; b = pos 0; c = neg_ℤ r }) (record { x = x; y = y; den = e }) ≡ rise x e l d -ℤ (r -ℤ l) *ℤ e
unfolding level
at_right d l r x y e = rw (parts d, parts l, parts r, parts x, parts y, parts e) (simp ring_pos (diff_same _ _ _ _ (omega arith)))

pub at_bottom : (d b t x y e : ℤ) → level (record { a = pos 0; b = neg_ℤ d; c = b }) (record { x = x; y = y; den = e }) ≡ rise t d y e -ℤ (t -ℤ b) *ℤ e
unfolding level
at_bottom d b t x y e = rw (parts d, parts b, parts t, parts x, parts y, parts e) (simp ring_pos (diff_same _ _ _ _ (omega arith)))

pub at_top : (d t x y e : ℤ) → level (record { a = pos 0; b = d; c = neg_ℤ t }) (record { x = x; y = y; den = e }) ≡ neg_ℤ (rise t d y e)
unfolding level
at_top d t x y e = rw (parts d, parts t, parts x, parts y, parts e) (simp ring_pos (diff_same _ _ _ _ (omega arith)))

from_below : (z : ℤ) → neg_ℤ z ≤ℤ pos 0 → pos 0 ≤ℤ z
from_below z h = omega (arith, ints, h)

up_to : (a b : ℤ) → (a -ℤ b) ≤ℤ pos 0 → a ≤ℤ b
up_to a b h = omega (arith, ints, h)

pub across : (w : Frame) (width height : ℕ) (c : Spot) → IsFrame w → pos 0 <ℤ c.den → LiesIn (window_planes w) c → IsNearPortion (offset_x w c) (extent_x w c) width (place w width height c).x.hundredths
across w width height c frame some inside =
    near_portion (offset_x w c) (extent_x w c) width
    (from_below _ (subst (λ z. z ≤ℤ pos 0) (at_left w.den w.left c.x c.y c.den) (inside _ (inl refl))))
    (up_to _ _ (subst (λ z. z ≤ℤ pos 0) (at_right w.den w.left w.right c.x c.y c.den) (inside _ (inr (inl refl)))))
    (above w.left w.right c.den frame.wide some)

pub down : (w : Frame) (width height : ℕ) (c : Spot) → IsFrame w → pos 0 <ℤ c.den → LiesIn (window_planes w) c → IsNearPortion (offset_y w c) (extent_y w c) height (place w width height c).y.hundredths
down w width height c frame some inside =
    near_portion (offset_y w c) (extent_y w c) height
    (from_below _ (subst (λ z. z ≤ℤ pos 0) (at_top w.den w.top c.x c.y c.den) (inside _ (inr (inr (inr (inl refl)))))))
    (up_to _ _ (subst (λ z. z ≤ℤ pos 0) (at_bottom w.den w.bottom w.top c.x c.y c.den) (inside _ (inr (inr (inl refl))))))
    (above w.bottom w.top c.den frame.high some)
