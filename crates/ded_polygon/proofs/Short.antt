-- How long levels, bends and crossings of short half planes are, and what the program reads of them.
use Rattle.std.proofs.Common.{◌≡◌, false, true≢false, ℕ, zero, suc, ◌+◌, ◌*◌, ◌<◌, ◌≤◌, ◌^◌, refl, sym, ap, ap₂, ◌∙◌, SFits, arith, to_z, of_z}
use Rattle.std.specs.Prelude.{ℤ, pos, negsuc, ◌+ℤ◌, ◌-ℤ◌, ◌*ℤ◌, ◌<ℤ◌, unsigned_abs, int_le}
use Rattle.std.specs.Int.{w128}
use Rattle.std.proofs.lemmas.Int.{ints, unsigned_abs-mul}
use Rattle.std.proofs.lemmas.Nat.{mul-lt}
use Rattle.ded_num.specs.Length.{IsShort, IsWithin}
use Rattle.ded_num.proofs.Signs.{short_in_code}
use Rattle.ded_polygon.specs.Plane.{HalfPlane, Spot, level, bend, crossing}
use Rattle.ded_polygon.proofs.Identities.{crossing_den}
use Rattle.ded_polygon.specs.Ranges.{IsShortSide, IsShortSpot}

-- what is short fits
pub fits : (z : ℤ) → IsShort z → SFits w128 z
fits (pos n) h = record { sfits = h }
fits (negsuc n) h = record { sfits = omega (arith, h) }

-- sizes of products, sums and differences
pub product_below : (a b : ℤ) (m n : ℕ) → unsigned_abs a < m → unsigned_abs b < n → unsigned_abs (a *ℤ b) < m * n
product_below a b m n h k = rw (unsigned_abs-mul a b) (mul-lt (unsigned_abs a) (unsigned_abs b) m n h k)

pub sum_below : (a b : ℤ) (m n : ℕ) → unsigned_abs a < m → unsigned_abs b < n → unsigned_abs (a +ℤ b) < m + n
sum_below a b m n h k = omega (arith, ints)

pub difference_below : (a b : ℤ) (m n : ℕ) → unsigned_abs a < m → unsigned_abs b < n → unsigned_abs (a -ℤ b) < m + n
difference_below a b m n h k = omega (arith, ints)

-- what is not at most 0 is above it
pub not_most : (z : ℤ) → int_le z (pos 0) ≡ false → pos 0 <ℤ z
not_most (pos zero) h = absurd (true≢false h)
not_most (pos (suc n)) h = omega (arith, ints)
not_most (negsuc n) h = absurd (true≢false h)

-- ---- levels
module _ (s : HalfPlane) (p : Spot) (hs : IsShortSide s) (hp : IsShortSpot p) where
  short_a : IsShort s.a
  short_a = let h = hs.a in omega arith

  short_b : IsShort s.b
  short_b = let h = hs.b in omega arith

  short_c : IsShort s.c
  short_c = let h = hs.c in omega arith

  short_x : IsShort p.x
  short_x = let h = hp.x in omega arith

  short_y : IsShort p.y
  short_y = let h = hp.y in omega arith

  short_den : IsShort p.den
  short_den = let h = hp.den in omega arith

  -- the three products
  at_x : IsWithin 125 (s.a *ℤ p.x)
  at_x = product_below s.a p.x (2 ^ 31) (2 ^ 94) hs.a hp.x

  at_y : IsWithin 125 (s.b *ℤ p.y)
  at_y = product_below s.b p.y (2 ^ 31) (2 ^ 94) hs.b hp.y

  at_den : IsWithin 125 (s.c *ℤ p.den)
  at_den = product_below s.c p.den (2 ^ 62) (2 ^ 63) hs.c hp.den

  -- as they are short_in_code
  pub third_product : IsShort (to_z w128 (of_z w128 s.c) *ℤ to_z w128 (of_z w128 p.den))
  third_product = rw (short_in_code s.c short_c, short_in_code p.den short_den) (let h = at_den in omega arith)

  module _ (u v : ℤ) (hu : u ≡ to_z w128 (of_z w128 s.a) *ℤ to_z w128 (of_z w128 p.x)) (hv : v ≡ to_z w128 (of_z w128 s.b) *ℤ to_z w128 (of_z w128 p.y)) where
    is_u : u ≡ s.a *ℤ p.x
    is_u = hu ∙ ap₂ (λ k z. k *ℤ z) (short_in_code s.a short_a) (short_in_code p.x short_x)

    is_v : v ≡ s.b *ℤ p.y
    is_v = hv ∙ ap₂ (λ k z. k *ℤ z) (short_in_code s.b short_b) (short_in_code p.y short_y)

    within_u : IsWithin 125 u
    within_u = rw is_u at_x

    within_v : IsWithin 125 v
    within_v = rw is_v at_y

    pub first_sum : IsShort (to_z w128 (of_z w128 u) +ℤ to_z w128 (of_z w128 v))
    first_sum =
        rw (short_in_code u (let h = within_u in omega arith), short_in_code v (let h = within_v in omega arith))
        (let h = sum_below u v (2 ^ 125) (2 ^ 125) within_u within_v in omega arith)

    module _ (k w : ℤ) (hk : k ≡ to_z w128 (of_z w128 u) +ℤ to_z w128 (of_z w128 v)) (hw : w ≡ to_z w128 (of_z w128 s.c) *ℤ to_z w128 (of_z w128 p.den)) where
      is_k : k ≡ u +ℤ v
      is_k = hk ∙ ap₂ (λ k z. k +ℤ z) (short_in_code u (let h = within_u in omega arith)) (short_in_code v (let h = within_v in omega arith))

      is_w : w ≡ s.c *ℤ p.den
      is_w = hw ∙ ap₂ (λ k z. k *ℤ z) (short_in_code s.c short_c) (short_in_code p.den short_den)

      within_k : IsWithin 126 k
      within_k = rw is_k (let h = sum_below u v (2 ^ 125) (2 ^ 125) within_u within_v in omega arith)

      within_w : IsWithin 125 w
      within_w = rw is_w at_den

      short_total : IsShort (k +ℤ w)
      short_total = let h = sum_below k w (2 ^ 126) (2 ^ 125) within_k within_w in omega arith

      pub second_sum : IsShort (to_z w128 (of_z w128 k) +ℤ to_z w128 (of_z w128 w))
      second_sum = rw (short_in_code k (let h = within_k in omega arith), short_in_code w (let h = within_w in omega arith)) short_total

      pub level_is : (z : ℤ) → z ≡ to_z w128 (of_z w128 k) +ℤ to_z w128 (of_z w128 w) → to_z w128 (of_z w128 z) ≡ level s p
      unfolding level
      level_is z hz =
          let e : z ≡ k +ℤ w = hz ∙ ap₂ (λ k z. k +ℤ z) (short_in_code k (let h = within_k in omega arith)) (short_in_code w (let h = within_w in omega arith)) in
          short_in_code z (rw e short_total) ∙ e ∙ ap₂ (λ k z. k +ℤ z) (is_k ∙ ap₂ (λ k z. k +ℤ z) is_u is_v) is_w

-- ---- differences of two products
module _ (a b c d : ℤ) (m n : ℕ) (ha : unsigned_abs a < m) (hb : unsigned_abs b < n) (hc : unsigned_abs c < n) (hd : unsigned_abs d < m) (few : m * n + m * n ≤ 2 ^ 127)
    (sa : IsShort a) (sb : IsShort b) (sc : IsShort c) (sd : IsShort d) where
  left_below : unsigned_abs (a *ℤ b) < m * n
  left_below = product_below a b m n ha hb

  right_below : unsigned_abs (c *ℤ d) < m * n
  right_below = rw (unsigned_abs-mul c d) (let h = mul-lt (unsigned_abs c) (unsigned_abs d) n m hc hd in omega (arith, h))

  pub cross_below : unsigned_abs (a *ℤ b -ℤ c *ℤ d) < m * n + m * n
  cross_below = difference_below (a *ℤ b) (c *ℤ d) (m * n) (m * n) left_below right_below

  pub cross_left : IsShort (to_z w128 (of_z w128 a) *ℤ to_z w128 (of_z w128 b))
  cross_left = rw (short_in_code a sa, short_in_code b sb) (let h = left_below in omega arith)

  pub cross_right : IsShort (to_z w128 (of_z w128 c) *ℤ to_z w128 (of_z w128 d))
  cross_right = rw (short_in_code c sc, short_in_code d sd) (let h = right_below in omega arith)

  pub cross_whole : IsShort (to_z w128 (of_z w128 a) *ℤ to_z w128 (of_z w128 b) -ℤ to_z w128 (of_z w128 c) *ℤ to_z w128 (of_z w128 d))
  cross_whole = rw (short_in_code a sa, short_in_code b sb, short_in_code c sc, short_in_code d sd) (let h = cross_below in omega arith)

  pub cross_is : (z : ℤ) → z ≡ to_z w128 (of_z w128 a) *ℤ to_z w128 (of_z w128 b) -ℤ to_z w128 (of_z w128 c) *ℤ to_z w128 (of_z w128 d) → z ≡ a *ℤ b -ℤ c *ℤ d
  cross_is z h = h ∙ ap₂ (λ k w. k -ℤ w) (ap₂ (λ k w. k *ℤ w) (short_in_code a sa) (short_in_code b sb)) (ap₂ (λ k w. k *ℤ w) (short_in_code c sc) (short_in_code d sd))

-- ---- bends and crossings
module _ (s t : HalfPlane) (hs : IsShortSide s) (ht : IsShortSide t) where
  a_short : (z : ℤ) → IsWithin 31 z → IsShort z
  a_short z h = omega arith

  c_short : (z : ℤ) → IsWithin 62 z → IsShort z
  c_short z h = omega arith

  pub short_bend : IsShort (to_z w128 (of_z w128 s.a) *ℤ to_z w128 (of_z w128 t.b) -ℤ to_z w128 (of_z w128 s.b) *ℤ to_z w128 (of_z w128 t.a))
  short_bend = cross_whole s.a t.b s.b t.a (2 ^ 31) (2 ^ 31) hs.a ht.b hs.b ht.a (omega arith) (a_short s.a hs.a) (a_short t.b ht.b) (a_short s.b hs.b) (a_short t.a ht.a)

  pub bend_within : IsWithin 63 (bend s t)
  unfolding bend
  bend_within = cross_below s.a t.b s.b t.a (2 ^ 31) (2 ^ 31) hs.a ht.b hs.b ht.a (omega arith) (a_short s.a hs.a) (a_short t.b ht.b) (a_short s.b hs.b) (a_short t.a ht.a)

  pub bend_is : (z : ℤ) → z ≡ to_z w128 (of_z w128 s.a) *ℤ to_z w128 (of_z w128 t.b) -ℤ to_z w128 (of_z w128 s.b) *ℤ to_z w128 (of_z w128 t.a) → to_z w128 (of_z w128 z) ≡ bend s t
  unfolding bend
  bend_is z h =
      let e = cross_is s.a t.b s.b t.a (2 ^ 31) (2 ^ 31) hs.a ht.b hs.b ht.a (omega arith) (a_short s.a hs.a) (a_short t.b ht.b) (a_short s.b hs.b) (a_short t.a ht.a) z h in
      short_in_code z (rw e (let h = bend_within in omega arith)) ∙ e

  -- the numerators of a crossing
  pub numerator_x : IsShort (to_z w128 (of_z w128 s.b) *ℤ to_z w128 (of_z w128 t.c) -ℤ to_z w128 (of_z w128 s.c) *ℤ to_z w128 (of_z w128 t.b))
  numerator_x = cross_whole s.b t.c s.c t.b (2 ^ 31) (2 ^ 62) hs.b ht.c hs.c ht.b (omega arith) (a_short s.b hs.b) (c_short t.c ht.c) (c_short s.c hs.c) (a_short t.b ht.b)

  x_within : IsWithin 94 (crossing s t).x
  unfolding crossing
  x_within = cross_below s.b t.c s.c t.b (2 ^ 31) (2 ^ 62) hs.b ht.c hs.c ht.b (omega arith) (a_short s.b hs.b) (c_short t.c ht.c) (c_short s.c hs.c) (a_short t.b ht.b)

  pub x_is : (z : ℤ) → z ≡ to_z w128 (of_z w128 s.b) *ℤ to_z w128 (of_z w128 t.c) -ℤ to_z w128 (of_z w128 s.c) *ℤ to_z w128 (of_z w128 t.b) → to_z w128 (of_z w128 z) ≡ (crossing s t).x
  unfolding crossing
  x_is z h =
      let e = cross_is s.b t.c s.c t.b (2 ^ 31) (2 ^ 62) hs.b ht.c hs.c ht.b (omega arith) (a_short s.b hs.b) (c_short t.c ht.c) (c_short s.c hs.c) (a_short t.b ht.b) z h in
      short_in_code z (rw e (let h = x_within in omega arith)) ∙ e

  pub first_y : IsShort (to_z w128 (of_z w128 s.c) *ℤ to_z w128 (of_z w128 t.a))
  first_y = cross_left s.c t.a s.a t.c (2 ^ 62) (2 ^ 31) hs.c ht.a hs.a ht.c (omega arith) (c_short s.c hs.c) (a_short t.a ht.a) (a_short s.a hs.a) (c_short t.c ht.c)

  pub second_y : IsShort (to_z w128 (of_z w128 s.a) *ℤ to_z w128 (of_z w128 t.c))
  second_y = cross_right s.c t.a s.a t.c (2 ^ 62) (2 ^ 31) hs.c ht.a hs.a ht.c (omega arith) (c_short s.c hs.c) (a_short t.a ht.a) (a_short s.a hs.a) (c_short t.c ht.c)

  pub numerator_y : IsShort (to_z w128 (of_z w128 s.c) *ℤ to_z w128 (of_z w128 t.a) -ℤ to_z w128 (of_z w128 s.a) *ℤ to_z w128 (of_z w128 t.c))
  numerator_y = cross_whole s.c t.a s.a t.c (2 ^ 62) (2 ^ 31) hs.c ht.a hs.a ht.c (omega arith) (c_short s.c hs.c) (a_short t.a ht.a) (a_short s.a hs.a) (c_short t.c ht.c)

  y_within : IsWithin 94 (crossing s t).y
  unfolding crossing
  y_within = cross_below s.c t.a s.a t.c (2 ^ 62) (2 ^ 31) hs.c ht.a hs.a ht.c (omega arith) (c_short s.c hs.c) (a_short t.a ht.a) (a_short s.a hs.a) (c_short t.c ht.c)

  pub y_is : (z : ℤ) → z ≡ to_z w128 (of_z w128 s.c) *ℤ to_z w128 (of_z w128 t.a) -ℤ to_z w128 (of_z w128 s.a) *ℤ to_z w128 (of_z w128 t.c) → to_z w128 (of_z w128 z) ≡ (crossing s t).y
  unfolding crossing
  y_is z h =
      let e = cross_is s.c t.a s.a t.c (2 ^ 62) (2 ^ 31) hs.c ht.a hs.a ht.c (omega arith) (c_short s.c hs.c) (a_short t.a ht.a) (a_short s.a hs.a) (c_short t.c ht.c) z h in
      short_in_code z (rw e (let h = y_within in omega arith)) ∙ e

  pub den_is : (d : ℤ) → d ≡ bend s t → to_z w128 (of_z w128 d) ≡ (crossing s t).den
  den_is d h = short_in_code d (rw h (let h = bend_within in omega arith)) ∙ h ∙ sym (crossing_den s t)

  -- the crossing as it is short_in_code
  pub short_crossing : (x y d : ℤ) → x ≡ (crossing s t).x → y ≡ (crossing s t).y → d ≡ (crossing s t).den → pos 0 <ℤ bend s t → IsShortSpot (record { x = x; y = y; den = d })
  short_crossing x y d ex ey ed h = record {
    x = rw ex x_within;
    y = rw ey y_within;
    den = rw (ed, crossing_den s t) bend_within;
    positive = rw (ed, crossing_den s t) h;
  }

  pub crossing_is : (x y d : ℤ) → x ≡ (crossing s t).x → y ≡ (crossing s t).y → d ≡ (crossing s t).den → ◌≡◌ {A = Spot} (record { x = x; y = y; den = d }) (crossing s t)
  crossing_is x y d ex ey ed = rw (ex, ey, ed) refl

  pub above_bend : (d : ℤ) → d ≡ bend s t → int_le (to_z w128 (of_z w128 d)) (pos 0) ≡ false → pos 0 <ℤ bend s t
  above_bend d e h = not_most (bend s t) (ap (λ z. int_le z (pos 0)) (sym (short_in_code d (rw e (let h = bend_within in omega arith)) ∙ e)) ∙ h)
