-- Half planes and spots of the plane in whole numbers, and the whole numbers that tell how they lie to each other.
use Rattle.std.specs.Prelude.{◌≡◌, ◌⊎◌, ℤ, ◌+ℤ◌, ◌-ℤ◌, ◌*ℤ◌, List, [], ◌∷◌}

-- a * x + b * y + c is at most 0
pub record HalfPlane : Type 0 where
  pub a : ℤ
  pub b : ℤ
  pub c : ℤ

-- the point (x / den, y / den)
pub record Spot : Type 0 where
  pub x : ℤ
  pub y : ℤ
  pub den : ℤ

-- the element is one of the list
abbrev pub In : {A : Type 0} → A → List A → Type 0
In x [] = ⊥
In x (y ∷ ys) = (x ≡ y) ⊎ In x ys

-- the left side of the half plane at the spot, over its denominator: at most 0 inside, and 0 on the border
unfoldable pub level : HalfPlane → Spot → ℤ
level s p = s.a *ℤ p.x +ℤ s.b *ℤ p.y +ℤ s.c *ℤ p.den

-- above 0 where the way along the border of s, with s to its left, leads out of t; 0 where the borders are parallel
unfoldable pub bend : HalfPlane → HalfPlane → ℤ
bend s t = s.a *ℤ t.b -ℤ s.b *ℤ t.a

-- where the borders of two half planes cross; its denominator is their bend
unfoldable pub crossing : HalfPlane → HalfPlane → Spot
crossing s t = record { x = s.b *ℤ t.c -ℤ s.c *ℤ t.b; y = s.c *ℤ t.a -ℤ s.a *ℤ t.c; den = s.a *ℤ t.b -ℤ s.b *ℤ t.a }

-- above 0 where r lies to the left of the way from p to q, 0 where the three lie on one line
unfoldable pub turn : Spot → Spot → Spot → ℤ
turn p q r = p.x *ℤ (q.y *ℤ r.den -ℤ q.den *ℤ r.y) +ℤ p.y *ℤ (q.den *ℤ r.x -ℤ q.x *ℤ r.den) +ℤ p.den *ℤ (q.x *ℤ r.y -ℤ q.y *ℤ r.x)

-- both are the same point
pub record IsSameSpot (p q : Spot) : Type 0 where
  pub x : p.x *ℤ q.den ≡ q.x *ℤ p.den
  pub y : p.y *ℤ q.den ≡ q.y *ℤ p.den
