-- How long the growth of a short half plane in a short direction is, and what the program reads of it.
use Rattle.std.proofs.Common.{◌≡◌, ◌^◌, ap₂, ◌∙◌, arith, to_z, of_z}
use Rattle.std.specs.Prelude.{ℤ, ◌+ℤ◌, ◌*ℤ◌}
use Rattle.std.specs.Int.{w128}
use Rattle.ded_num.specs.Length.{IsShort, IsWithin}
use Rattle.ded_num.proofs.Signs.{short_in_code}
use Rattle.ded_polygon.specs.Plane.{HalfPlane}
use Rattle.ded_polygon.specs.Ranges.{IsShortSide}
use Rattle.ded_polygon.proofs.Short.{product_below, sum_below}
use Rattle.ded_strokes.specs.Near.{Direction, IsShortDirection, growth}

short : (z : ℤ) → IsWithin 31 z → IsShort z
short z h = omega arith

middle : (z : ℤ) → IsWithin 62 z → IsShort z
middle z h = omega arith

module _ (s : HalfPlane) (w : Direction) (hs : IsShortSide s) (hw : IsShortDirection w) where
  at_u : IsWithin 62 (s.a *ℤ w.u)
  at_u = product_below s.a w.u (2 ^ 31) (2 ^ 31) hs.a hw.u

  at_v : IsWithin 62 (s.b *ℤ w.v)
  at_v = product_below s.b w.v (2 ^ 31) (2 ^ 31) hs.b hw.v

  -- the products as they are short_in_code
  pub first_product : IsShort (to_z w128 (of_z w128 s.a) *ℤ to_z w128 (of_z w128 w.u))
  first_product = rw (short_in_code s.a (short s.a hs.a), short_in_code w.u (short w.u hw.u)) (middle (s.a *ℤ w.u) at_u)

  pub second_product : IsShort (to_z w128 (of_z w128 s.b) *ℤ to_z w128 (of_z w128 w.v))
  second_product = rw (short_in_code s.b (short s.b hs.b), short_in_code w.v (short w.v hw.v)) (middle (s.b *ℤ w.v) at_v)

  module _ (k z : ℤ) (hk : k ≡ to_z w128 (of_z w128 s.a) *ℤ to_z w128 (of_z w128 w.u)) (hz : z ≡ to_z w128 (of_z w128 s.b) *ℤ to_z w128 (of_z w128 w.v)) where
    is_k : k ≡ s.a *ℤ w.u
    is_k = hk ∙ ap₂ (λ m n. m *ℤ n) (short_in_code s.a (short s.a hs.a)) (short_in_code w.u (short w.u hw.u))

    is_z : z ≡ s.b *ℤ w.v
    is_z = hz ∙ ap₂ (λ m n. m *ℤ n) (short_in_code s.b (short s.b hs.b)) (short_in_code w.v (short w.v hw.v))

    within_k : IsWithin 62 k
    within_k = rw is_k at_u

    within_z : IsWithin 62 z
    within_z = rw is_z at_v

    short_total : IsShort (k +ℤ z)
    short_total = let h = sum_below k z (2 ^ 62) (2 ^ 62) within_k within_z in omega arith

    pub whole_sum : IsShort (to_z w128 (of_z w128 k) +ℤ to_z w128 (of_z w128 z))
    whole_sum = rw (short_in_code k (middle k within_k), short_in_code z (middle z within_z)) short_total

    pub growth_is : (t : ℤ) → t ≡ to_z w128 (of_z w128 k) +ℤ to_z w128 (of_z w128 z) → to_z w128 (of_z w128 t) ≡ growth s w
    unfolding growth
    growth_is t ht =
        let e : t ≡ k +ℤ z = ht ∙ ap₂ (λ m n. m +ℤ n) (short_in_code k (middle k within_k)) (short_in_code z (middle z within_z)) in
        short_in_code t (rw e short_total) ∙ e ∙ ap₂ (λ m n. m +ℤ n) is_k is_z
