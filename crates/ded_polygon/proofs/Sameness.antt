-- Spots that are the same point: on the same borders, and with levels of the same sign.
use Rattle.std.proofs.Common.{◌≡◌, [], ◌∷◌, refl, ap, ◌∙◌, sym, arith}
use Rattle.std.specs.Prelude.{ℤ, pos, ◌+ℤ◌, ◌*ℤ◌, ◌<ℤ◌, ◌≤ℤ◌}
use Rattle.std.proofs.lemmas.Int.{ints}
use Rattle.ded_num.proofs.Signs.{times_swap, zero_times}
use Rattle.ded_model.proofs.Core.{zero_scale}
use Rattle.ded_polygon.specs.Plane.{HalfPlane, Spot, IsSameSpot, level, bend, crossing}
use Rattle.ded_polygon.proofs.Polynomials.{var, times, identity}
use Rattle.ded_polygon.proofs.Signs.{above_below, above_most, unscale_zero, unscale_most, unscale_below, cancel}
use Rattle.ded_polygon.proofs.Identities.{crossing_at_x, crossing_at_y, level_spread}

-- equal fractions of one number
crossed : (k m x d x' d' u v u' v' : ℤ) → pos 0 <ℤ k → u ≡ pos 0 → v ≡ pos 0 → u' ≡ pos 0 → v' ≡ pos 0
    → x *ℤ k +ℤ u ≡ d *ℤ m +ℤ v → x' *ℤ k +ℤ u' ≡ d' *ℤ m +ℤ v' → x *ℤ d' ≡ x' *ℤ d
crossed k m x d x' d' u v u' v' positive hu hv hu' hv' e e' =
    let f : x *ℤ k ≡ d *ℤ m = omega (arith, ints) in
    let f' : x' *ℤ k ≡ d' *ℤ m = omega (arith, ints) in
    cancel k (x *ℤ d') (x' *ℤ d) positive (shift k x d' ∙ ap (λ z. z *ℤ d') f ∙ turned d m d' ∙ ap (λ z. z *ℤ d) (sym f') ∙ sym (shift k x' d))
  where
    shift : (k x d : ℤ) → k *ℤ (x *ℤ d) ≡ (x *ℤ k) *ℤ d
    shift k x d = identity (k ∷ x ∷ d ∷ []) (times (var 0) (times (var 1) (var 2))) (times (times (var 1) (var 0)) (var 2)) refl

    turned : (d m e : ℤ) → (d *ℤ m) *ℤ e ≡ (e *ℤ m) *ℤ d
    turned d m e = identity (d ∷ m ∷ e ∷ []) (times (times (var 0) (var 1)) (var 2)) (times (times (var 2) (var 1)) (var 0)) refl

-- two spots on the same two borders that cross
pub same_by : (s t : HalfPlane) (p q : Spot) → pos 0 <ℤ bend s t → level s p ≡ pos 0 → level t p ≡ pos 0 → level s q ≡ pos 0 → level t q ≡ pos 0 → IsSameSpot p q
same_by s t p q h sp tp sq tq = record {
  x = crossed (bend s t) (crossing s t).x p.x p.den q.x q.den _ _ _ _ h (zero_scale s.b (level t p) tp) (zero_scale t.b (level s p) sp) (zero_scale s.b (level t q) tq) (zero_scale t.b (level s q) sq)
      (crossing_at_x s t p) (crossing_at_x s t q);
  y = crossed (bend s t) (crossing s t).y p.y p.den q.y q.den _ _ _ _ h (zero_scale t.a (level s p) sp) (zero_scale s.a (level t p) tp) (zero_scale t.a (level s q) sq) (zero_scale s.a (level t q) tq)
      (crossing_at_y s t p) (crossing_at_y s t q);
}

-- the levels of one point
level_same : (s : HalfPlane) (p q : Spot) → IsSameSpot p q → level s p *ℤ q.den ≡ level s q *ℤ p.den
level_same s p q e =
    level_spread s p q.den
    ∙ ap (λ x. s.a *ℤ x +ℤ s.b *ℤ (p.y *ℤ q.den) +ℤ s.c *ℤ (p.den *ℤ q.den)) e.x
    ∙ ap (λ y. s.a *ℤ (q.x *ℤ p.den) +ℤ s.b *ℤ y +ℤ s.c *ℤ (p.den *ℤ q.den)) e.y
    ∙ ap (λ d. s.a *ℤ (q.x *ℤ p.den) +ℤ s.b *ℤ (q.y *ℤ p.den) +ℤ s.c *ℤ d) (times_swap p.den q.den)
    ∙ sym (level_spread s q p.den)

pub zero_same : (s : HalfPlane) (p q : Spot) → pos 0 <ℤ p.den → IsSameSpot p q → level s p ≡ pos 0 → level s q ≡ pos 0
zero_same s p q positive e h =
    unscale_zero p.den (level s q) positive (times_swap p.den (level s q) ∙ sym (level_same s p q e) ∙ zero_times (level s p) q.den h)

pub below_same : (s : HalfPlane) (p q : Spot) → pos 0 <ℤ p.den → pos 0 <ℤ q.den → IsSameSpot p q → level s p <ℤ pos 0 → level s q <ℤ pos 0
below_same s p q positive positive' e h =
    let a = above_below q.den (level s p) positive' h in
    let b = times_swap q.den (level s p) ∙ level_same s p q e ∙ times_swap (level s q) p.den in
    unscale_below p.den (level s q) positive (omega (arith, ints))

pub most_same : (s : HalfPlane) (p q : Spot) → pos 0 <ℤ p.den → pos 0 <ℤ q.den → IsSameSpot p q → level s p ≤ℤ pos 0 → level s q ≤ℤ pos 0
most_same s p q positive positive' e h =
    let a = above_most q.den (level s p) positive' h in
    let b = times_swap q.den (level s p) ∙ level_same s p q e ∙ times_swap (level s q) p.den in
    unscale_most p.den (level s q) positive (omega (arith, ints))

-- the same the other way round
pub same_sym : (p q : Spot) → IsSameSpot p q → IsSameSpot q p
same_sym p q e = record { x = sym e.x; y = sym e.y }
