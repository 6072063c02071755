-- How long rises and extents of windows are, and what the program reads of them.
use Rattle.std.proofs.Common.{◌≡◌, ◌^◌, sym, ap₂, ◌∙◌, subst, arith, to_z, of_z}
use Rattle.std.specs.Prelude.{ℤ, pos, negsuc, ◌-ℤ◌, ◌*ℤ◌, ◌<ℤ◌}
use Rattle.std.specs.Int.{w128}
use Rattle.std.proofs.lemmas.Int.{ints}
use Rattle.std.proofs.lemmas.Nat.{mul-le}
use Rattle.ded_num.specs.Length.{IsShort, IsWithin}
use Rattle.ded_num.proofs.Signs.{short_in_code}
use Rattle.ded_polygon.proofs.Short.{product_below, difference_below}

-- products of a corner's number by a window's denominator, and the other way round
pub of_corner : (z d : ℤ) → IsWithin 94 z → IsWithin 31 d → IsWithin 125 (z *ℤ d)
of_corner z d h k = product_below z d (2 ^ 94) (2 ^ 31) h k

pub of_window : (z d : ℤ) → IsWithin 62 z → IsWithin 63 d → IsWithin 125 (z *ℤ d)
of_window z d h k = product_below z d (2 ^ 62) (2 ^ 63) h k

-- the extent of a window times a corner's denominator
pub of_extent : (low high d : ℤ) → IsWithin 62 low → IsWithin 62 high → IsWithin 63 d → IsWithin 126 ((high -ℤ low) *ℤ d)
of_extent low high d h k l = product_below (high -ℤ low) d (2 ^ 63) (2 ^ 63) (let s = difference_below high low (2 ^ 62) (2 ^ 62) k h in omega (arith, s)) l

-- is above 0
pub above : (low high d : ℤ) → low <ℤ high → pos 0 <ℤ d → pos 0 <ℤ ((high -ℤ low) *ℤ d)
above low high d h k = positive (high -ℤ low) d (omega (arith, ints, h)) k
  where
    positive : (a b : ℤ) → pos 0 <ℤ a → pos 0 <ℤ b → pos 0 <ℤ (a *ℤ b)
    positive (pos m) (pos n) h k = let p = mul-le 1 1 m n (omega (arith, ints, h)) (omega (arith, ints, k)) in omega (arith, ints, p)
    positive (negsuc m) b h k = absurd (omega (arith, ints, h))
    positive (pos m) (negsuc n) h k = absurd (omega (arith, ints, k))

-- ---- as they are read

module _ (low high d : ℤ) (hl : IsWithin 62 low) (hh : IsWithin 62 high) (hd : IsWithin 63 d) where
  is_extent : (to_z w128 (of_z w128 high) -ℤ to_z w128 (of_z w128 low)) *ℤ to_z w128 (of_z w128 d) ≡ (high -ℤ low) *ℤ d
  is_extent = ap₂ (λ (x y : ℤ). x *ℤ y) (ap₂ (λ (x y : ℤ). x -ℤ y) (short_in_code high (omega arith)) (short_in_code low (omega arith))) (short_in_code d (omega arith))

  pub extent_read : IsWithin 126 ((to_z w128 (of_z w128 high) -ℤ to_z w128 (of_z w128 low)) *ℤ to_z w128 (of_z w128 d))
  extent_read = subst (IsWithin 126) (sym is_extent) (of_extent low high d hl hh hd)

  module _ (r : ℤ) (is : r ≡ (to_z w128 (of_z w128 high) -ℤ to_z w128 (of_z w128 low)) *ℤ to_z w128 (of_z w128 d)) where
    is_r : r ≡ (high -ℤ low) *ℤ d
    is_r = is ∙ is_extent

    within_r : IsWithin 126 r
    within_r = subst (IsWithin 126) (sym is_r) (of_extent low high d hl hh hd)

    read_r : r ≡ to_z w128 (of_z w128 r)
    read_r = sym (short_in_code r (let h = within_r in omega arith))

    pub result_within : IsWithin 126 (to_z w128 (of_z w128 r))
    result_within = subst (IsWithin 126) read_r within_r

    pub result_above : low <ℤ high → pos 0 <ℤ d → pos 0 <ℤ to_z w128 (of_z w128 r)
    result_above wide positive = subst (λ z. pos 0 <ℤ z) (sym is_r ∙ read_r) (above low high d wide positive)

-- products as they are read
pub corner_read : (z d : ℤ) → IsWithin 94 z → IsWithin 31 d → IsWithin 125 (to_z w128 (of_z w128 z) *ℤ to_z w128 (of_z w128 d))
corner_read z d h k = subst (IsWithin 125) (sym (ap₂ (λ (x y : ℤ). x *ℤ y) (short_in_code z (omega arith)) (short_in_code d (omega arith)))) (of_corner z d h k)

pub window_read : (z d : ℤ) → IsWithin 62 z → IsWithin 63 d → IsWithin 125 (to_z w128 (of_z w128 z) *ℤ to_z w128 (of_z w128 d))
window_read z d h k = subst (IsWithin 125) (sym (ap₂ (λ (x y : ℤ). x *ℤ y) (short_in_code z (omega arith)) (short_in_code d (omega arith)))) (of_window z d h k)

-- and their differences
pub differ : (a b : ℤ) → IsWithin 125 a → IsWithin 125 b → IsShort (a -ℤ b)
differ a b h k = let s = difference_below a b (2 ^ 125) (2 ^ 125) h k in omega (arith, s)

pub short : (z : ℤ) → IsWithin 125 z → IsShort z
short z h = omega (arith, h)

pub short_corner : (z d : ℤ) → IsWithin 94 z → IsWithin 31 d → IsShort (to_z w128 (of_z w128 z) *ℤ to_z w128 (of_z w128 d))
short_corner z d h k = short (to_z w128 (of_z w128 z) *ℤ to_z w128 (of_z w128 d)) (corner_read z d h k)

pub short_window : (z d : ℤ) → IsWithin 62 z → IsWithin 63 d → IsShort (to_z w128 (of_z w128 z) *ℤ to_z w128 (of_z w128 d))
short_window z d h k = short (to_z w128 (of_z w128 z) *ℤ to_z w128 (of_z w128 d)) (window_read z d h k)

module _ (x d z e : ℤ) (hx : IsWithin 94 x) (hd : IsWithin 31 d) (hz : IsWithin 62 z) (he : IsWithin 63 e) where
  -- a corner's number above a window's, and the other way round
  pub corner_above : IsShort (to_z w128 (of_z w128 x) *ℤ to_z w128 (of_z w128 d) -ℤ to_z w128 (of_z w128 z) *ℤ to_z w128 (of_z w128 e))
  corner_above = differ (to_z w128 (of_z w128 x) *ℤ to_z w128 (of_z w128 d)) (to_z w128 (of_z w128 z) *ℤ to_z w128 (of_z w128 e)) (corner_read x d hx hd) (window_read z e hz he)

  pub window_above : IsShort (to_z w128 (of_z w128 z) *ℤ to_z w128 (of_z w128 e) -ℤ to_z w128 (of_z w128 x) *ℤ to_z w128 (of_z w128 d))
  window_above = differ (to_z w128 (of_z w128 z) *ℤ to_z w128 (of_z w128 e)) (to_z w128 (of_z w128 x) *ℤ to_z w128 (of_z w128 d)) (window_read z e hz he) (corner_read x d hx hd)
