-- Identities of levels, bends, crossings and turns.
use Rattle.std.proofs.Common.{◌≡◌, ℕ, ◌+◌, [], ◌∷◌, refl, ap, ◌∙◌, arith}
use Rattle.std.specs.Prelude.{ℤ, pos, ◌+ℤ◌, ◌-ℤ◌, ◌*ℤ◌}
use Rattle.std.proofs.lemmas.Int.{ints}
use Rattle.ded_num.proofs.Signs.{zero_times}
use Rattle.ded_polygon.specs.Plane.{HalfPlane, Spot, level, bend, crossing, turn}
use Rattle.ded_polygon.proofs.Polynomials.{Expression, nought, var, plus, minus, times, identity}

-- the words of Plane as expressions, by where the variables of a half plane or a spot begin
abbrev product : ℕ → ℕ → Expression
product i j = times (var i) (var j)

abbrev level_of : ℕ → ℕ → Expression
level_of s p = plus (plus (product s p) (product (s + 1) (p + 1))) (product (s + 2) (p + 2))

abbrev bend_of : ℕ → ℕ → Expression
bend_of s t = minus (product s (t + 1)) (product (s + 1) t)

abbrev crossing_x : ℕ → ℕ → Expression
crossing_x s t = minus (product (s + 1) (t + 2)) (product (s + 2) (t + 1))

abbrev crossing_y : ℕ → ℕ → Expression
crossing_y s t = minus (product (s + 2) t) (product s (t + 2))

abbrev at_crossing : ℕ → ℕ → ℕ → Expression
at_crossing r s t = plus (plus (times (var r) (crossing_x s t)) (times (var (r + 1)) (crossing_y s t))) (times (var (r + 2)) (bend_of s t))

abbrev turn_of : ℕ → ℕ → ℕ → Expression
turn_of p q r =
    plus
    (plus
    (times (var p) (minus (product (q + 1) (r + 2)) (product (q + 2) (r + 1))))
    (times (var (p + 1)) (minus (product (q + 2) r) (product q (r + 2)))))
    (times (var (p + 2)) (minus (product q (r + 1)) (product (q + 1) r)))

-- Cramer: the level of r where s and t cross, by the levels of the three at any spot
pub cramer : (r s t : HalfPlane) (p : Spot)
    → level r (crossing s t) *ℤ p.den ≡ level r p *ℤ bend s t +ℤ level s p *ℤ bend t r +ℤ level t p *ℤ bend r s
unfolding level bend crossing
cramer r s t p =
    identity (r.a ∷ r.b ∷ r.c ∷ s.a ∷ s.b ∷ s.c ∷ t.a ∷ t.b ∷ t.c ∷ p.x ∷ p.y ∷ p.den ∷ [])
    (times (at_crossing 0 3 6) (var 11))
    (plus (plus (times (level_of 0 9) (bend_of 3 6)) (times (level_of 3 9) (bend_of 6 0))) (times (level_of 6 9) (bend_of 0 3)))
    refl

-- the denominator of a crossing is the bend
pub crossing_den : (s t : HalfPlane) → (crossing s t).den ≡ bend s t
unfolding crossing bend
crossing_den s t = refl

-- the spot that is on the borders of s and t is where they cross
pub crossing_at_x : (s t : HalfPlane) (p : Spot) → p.x *ℤ bend s t +ℤ s.b *ℤ level t p ≡ p.den *ℤ (crossing s t).x +ℤ t.b *ℤ level s p
unfolding level bend crossing
crossing_at_x s t p =
    identity (s.a ∷ s.b ∷ s.c ∷ t.a ∷ t.b ∷ t.c ∷ p.x ∷ p.y ∷ p.den ∷ [])
    (plus (times (var 6) (bend_of 0 3)) (times (var 1) (level_of 3 6)))
    (plus (times (var 8) (crossing_x 0 3)) (times (var 4) (level_of 0 6)))
    refl

pub crossing_at_y : (s t : HalfPlane) (p : Spot) → p.y *ℤ bend s t +ℤ t.a *ℤ level s p ≡ p.den *ℤ (crossing s t).y +ℤ s.a *ℤ level t p
unfolding level bend crossing
crossing_at_y s t p =
    identity (s.a ∷ s.b ∷ s.c ∷ t.a ∷ t.b ∷ t.c ∷ p.x ∷ p.y ∷ p.den ∷ [])
    (plus (times (var 7) (bend_of 0 3)) (times (var 3) (level_of 0 6)))
    (plus (times (var 8) (crossing_y 0 3)) (times (var 0) (level_of 3 6)))
    refl

-- the crossing is on both borders
pub crossing_on_first : (s t : HalfPlane) → level s (crossing s t) ≡ pos 0
unfolding level crossing
crossing_on_first s t = identity (s.a ∷ s.b ∷ s.c ∷ t.a ∷ t.b ∷ t.c ∷ []) (at_crossing 0 0 3) nought refl

pub crossing_on_second : (s t : HalfPlane) → level t (crossing s t) ≡ pos 0
unfolding level crossing
crossing_on_second s t = identity (s.a ∷ s.b ∷ s.c ∷ t.a ∷ t.b ∷ t.c ∷ []) (at_crossing 3 0 3) nought refl

-- the bend the other way round, and of a half plane with itself
pub bend_swap : (s t : HalfPlane) → bend s t +ℤ bend t s ≡ pos 0
unfolding bend
bend_swap s t = identity (s.a ∷ s.b ∷ t.a ∷ t.b ∷ []) (plus (bend_of 0 2) (bend_of 2 0)) nought refl

pub bend_self : (s : HalfPlane) → bend s s ≡ pos 0
unfolding bend
bend_self s = identity (s.a ∷ s.b ∷ []) (bend_of 0 0) nought refl

-- Plücker: the bends of four half planes
pub bends : (s t u v : HalfPlane) → bend s t *ℤ bend u v ≡ bend s u *ℤ bend t v -ℤ bend s v *ℤ bend t u
unfolding bend
bends s t u v =
    identity (s.a ∷ s.b ∷ t.a ∷ t.b ∷ u.a ∷ u.b ∷ v.a ∷ v.b ∷ [])
    (times (bend_of 0 2) (bend_of 4 6))
    (minus (times (bend_of 0 4) (bend_of 2 6)) (times (bend_of 0 6) (bend_of 2 4)))
    refl

-- the turn round a spot q, by levels
turn_by_levels : (s t : HalfPlane) (p q r : Spot)
    → turn p q r *ℤ bend s t
    ≡ q.den *ℤ (level s r *ℤ level t p -ℤ level s p *ℤ level t r)
    +ℤ level s q *ℤ (t.b *ℤ (r.y *ℤ p.den -ℤ r.den *ℤ p.y) -ℤ t.a *ℤ (r.den *ℤ p.x -ℤ r.x *ℤ p.den))
    +ℤ level t q *ℤ (s.a *ℤ (r.den *ℤ p.x -ℤ r.x *ℤ p.den) -ℤ s.b *ℤ (r.y *ℤ p.den -ℤ r.den *ℤ p.y))
unfolding level bend turn
turn_by_levels s t p q r =
    identity (s.a ∷ s.b ∷ s.c ∷ t.a ∷ t.b ∷ t.c ∷ p.x ∷ p.y ∷ p.den ∷ q.x ∷ q.y ∷ q.den ∷ r.x ∷ r.y ∷ r.den ∷ [])
    (times (turn_of 6 9 12) (bend_of 0 3))
    (plus
    (plus
    (times (var 11) (minus (times (level_of 0 12) (level_of 3 6)) (times (level_of 0 6) (level_of 3 12))))
    (times (level_of 0 9) (minus (times (var 4) (minus (product 13 8) (product 14 7))) (times (var 3) (minus (product 14 6) (product 12 8))))))
    (times (level_of 3 9) (minus (times (var 0) (minus (product 14 6) (product 12 8))) (times (var 1) (minus (product 13 8) (product 14 7))))))
    refl

-- the same where p and q are on the border of s, and q on that of t
pub turn_on_border : (s t : HalfPlane) (p q r : Spot) → level s p ≡ pos 0 → level s q ≡ pos 0 → level t q ≡ pos 0
    → turn p q r *ℤ bend s t ≡ q.den *ℤ (level s r *ℤ level t p)
turn_on_border s t p q r sp sq tq =
    turn_by_levels s t p q r ∙ left_over _ _ _ _ _ _ _ (zero_times (level s p) (level t r) sp) sq tq
  where
    left_over : (d m n u v x y : ℤ) → n ≡ pos 0 → u ≡ pos 0 → v ≡ pos 0 → d *ℤ (m -ℤ n) +ℤ u *ℤ x +ℤ v *ℤ y ≡ d *ℤ m
    left_over d m n u v x y hn hu hv =
        let e = zero_times u x hu in
        let f = zero_times v y hv in
        let g : m -ℤ n ≡ m = omega (arith, ints) in
        let h = ap (λ z. d *ℤ z) g in
        omega (arith, ints)

-- the turn from the other one of two spots
pub turn_swap : (p q r : Spot) → turn r q p +ℤ turn p q r ≡ pos 0
unfolding turn
turn_swap p q r =
    identity (p.x ∷ p.y ∷ p.den ∷ q.x ∷ q.y ∷ q.den ∷ r.x ∷ r.y ∷ r.den ∷ []) (plus (turn_of 6 3 0) (turn_of 0 3 6)) nought refl

-- the turn with the first two spots swapped
pub turn_back : (p q r : Spot) → turn q p r +ℤ turn p q r ≡ pos 0
unfolding turn
turn_back p q r =
    identity (p.x ∷ p.y ∷ p.den ∷ q.x ∷ q.y ∷ q.den ∷ r.x ∷ r.y ∷ r.den ∷ []) (plus (turn_of 3 0 6) (turn_of 0 3 6)) nought refl

-- the turn begun at the second spot
pub turn_round : (p q r : Spot) → turn q r p ≡ turn p q r
unfolding turn
turn_round p q r =
    identity (p.x ∷ p.y ∷ p.den ∷ q.x ∷ q.y ∷ q.den ∷ r.x ∷ r.y ∷ r.den ∷ []) (turn_of 3 6 0) (turn_of 0 3 6) refl

-- the level of r by those of three spots
pub levels : (t : HalfPlane) (p q w r : Spot)
    → turn q w r *ℤ level t p +ℤ turn w p r *ℤ level t q +ℤ turn p q r *ℤ level t w ≡ turn p q w *ℤ level t r
unfolding level turn
levels t p q w r =
    identity (t.a ∷ t.b ∷ t.c ∷ p.x ∷ p.y ∷ p.den ∷ q.x ∷ q.y ∷ q.den ∷ w.x ∷ w.y ∷ w.den ∷ r.x ∷ r.y ∷ r.den ∷ [])
    (plus (plus (times (turn_of 6 9 12) (level_of 0 3)) (times (turn_of 9 3 12) (level_of 0 6))) (times (turn_of 3 6 12) (level_of 0 9)))
    (times (turn_of 3 6 9) (level_of 0 12))
    refl

-- a level over another denominator
pub level_spread : (s : HalfPlane) (p : Spot) (k : ℤ) → level s p *ℤ k ≡ s.a *ℤ (p.x *ℤ k) +ℤ s.b *ℤ (p.y *ℤ k) +ℤ s.c *ℤ (p.den *ℤ k)
unfolding level
level_spread s p k =
    identity (s.a ∷ s.b ∷ s.c ∷ p.x ∷ p.y ∷ p.den ∷ k ∷ [])
    (times (level_of 0 3) (var 6))
    (plus (plus (times (var 0) (product 3 6)) (times (var 1) (product 4 6))) (times (var 2) (product 5 6)))
    refl
