-- Corners that are utmost: two borders through them enclose the way out.
use Rattle.std.proofs.Common.{◌≡◌, List, [], ◌∷◌, refl, arith}
use Rattle.std.specs.Prelude.{ℤ, pos, ◌+ℤ◌, ◌-ℤ◌, ◌*ℤ◌, ◌<ℤ◌, ◌≤ℤ◌, unsigned_abs}
use Rattle.std.proofs.lemmas.Int.{ints, by_lt_z}
use Rattle.ded_num.proofs.Signs.{abs_above, times_swap, zero_times}
use Rattle.ded_polygon.specs.Plane.{HalfPlane, Spot, In, level, bend}
use Rattle.ded_polygon.proofs.Polynomials.{plus, minus, times, var, identity}
use Rattle.ded_polygon.proofs.Signs.{below_below, above_most, least_most, unscale_most}
use Rattle.ded_strokes.specs.Bounds.{PlaneLimit}
use Rattle.ded_layers.specs.Indexed.{LiesInAll, IsUtmost, Spans}

-- how far the one spot is out of e before the other one, by how far it is out of s and t
by_two : (s t e : HalfPlane) (c m : Spot) → bend s t *ℤ (level e m *ℤ c.den -ℤ level e c *ℤ m.den)
    ≡ bend e t *ℤ (level s m *ℤ c.den -ℤ level s c *ℤ m.den) +ℤ bend s e *ℤ (level t m *ℤ c.den -ℤ level t c *ℤ m.den)
unfolding level bend
by_two s t e c m =
    identity (s.a ∷ s.b ∷ s.c ∷ t.a ∷ t.b ∷ t.c ∷ e.a ∷ e.b ∷ e.c ∷ c.x ∷ c.y ∷ c.den ∷ m.x ∷ m.y ∷ m.den ∷ [])
    (times
    (minus (times (var 0) (var 4)) (times (var 1) (var 3)))
    (minus
    (times (plus (plus (times (var 6) (var 12)) (times (var 7) (var 13))) (times (var 8) (var 14))) (var 11))
    (times (plus (plus (times (var 6) (var 9)) (times (var 7) (var 10))) (times (var 8) (var 11))) (var 14))))
    (plus
    (times
    (minus (times (var 6) (var 4)) (times (var 7) (var 3)))
    (minus
    (times (plus (plus (times (var 0) (var 12)) (times (var 1) (var 13))) (times (var 2) (var 14))) (var 11))
    (times (plus (plus (times (var 0) (var 9)) (times (var 1) (var 10))) (times (var 2) (var 11))) (var 14))))
    (times
    (minus (times (var 0) (var 7)) (times (var 1) (var 6)))
    (minus
    (times (plus (plus (times (var 3) (var 12)) (times (var 4) (var 13))) (times (var 5) (var 14))) (var 11))
    (times (plus (plus (times (var 3) (var 9)) (times (var 4) (var 10))) (times (var 5) (var 11))) (var 14)))))
    refl

-- at most 0 where a border through c has m inside
inside : (s : HalfPlane) (c m : Spot) → pos 0 <ℤ c.den → level s c ≡ pos 0 → level s m ≤ℤ pos 0 → (level s m *ℤ c.den -ℤ level s c *ℤ m.den) ≤ℤ pos 0
inside s c m hc on most =
    let a = above_most c.den (level s m) hc most in
    let b = times_swap c.den (level s m) in
    let d = zero_times (level s c) m.den on in
    omega (arith, ints)

pub utmost_by : (planes : List PlaneLimit) (s t : PlaneLimit) (e : HalfPlane) (c : Spot) → In s planes → In t planes → pos 0 <ℤ c.den → level s.plane c ≡ pos 0 → pos 0 ≤ℤ bend s.plane e
    → Spans s.plane t.plane c e → IsUtmost planes e c
utmost_by planes s t e c hs ht hc on right span = record {
  positive = hc;
  utmost = λ m hm lies.
      (let a = least_most (bend e t.plane) (level s.plane m *ℤ c.den -ℤ level s.plane c *ℤ m.den) span.left (inside s.plane c m hc on (lies s hs)) in
      let b = least_most (bend s.plane e) (level t.plane m *ℤ c.den -ℤ level t.plane c *ℤ m.den) right (inside t.plane c m hc span.through (lies t ht)) in
      let d = by_two s.plane t.plane e c m in
      let f = unscale_most (bend s.plane t.plane) (level e m *ℤ c.den -ℤ level e c *ℤ m.den) span.apart (omega (arith, ints)) in
      omega (arith, ints));
}

-- ---- coordinates
apart : (e : HalfPlane) (c m : Spot) → level e m *ℤ c.den -ℤ level e c *ℤ m.den ≡ e.a *ℤ (m.x *ℤ c.den -ℤ c.x *ℤ m.den) +ℤ e.b *ℤ (m.y *ℤ c.den -ℤ c.y *ℤ m.den)
unfolding level
apart e c m =
    identity (e.a ∷ e.b ∷ e.c ∷ c.x ∷ c.y ∷ c.den ∷ m.x ∷ m.y ∷ m.den ∷ [])
    (minus
    (times (plus (plus (times (var 0) (var 6)) (times (var 1) (var 7))) (times (var 2) (var 8))) (var 5))
    (times (plus (plus (times (var 0) (var 3)) (times (var 1) (var 4))) (times (var 2) (var 5))) (var 8)))
    (plus
    (times (var 0) (minus (times (var 6) (var 5)) (times (var 3) (var 8))))
    (times (var 1) (minus (times (var 7) (var 5)) (times (var 4) (var 8)))))
    refl

not_below : (a k : ℤ) → a <ℤ pos 0 → (a *ℤ k) ≤ℤ pos 0 → pos 0 ≤ℤ k
not_below a k h m = by_lt_z k (pos 0) (λ b. (let n = below_below a k h b in absurd (omega (arith, ints)))) (λ b. omega (arith, ints))

module _ (planes : List PlaneLimit) (e : HalfPlane) (c : Spot) (u : IsUtmost planes e c) (m : Spot) (hm : pos 0 <ℤ m.den) (lies : LiesInAll planes m) where
  along_x : e.b ≡ pos 0 → (e.a *ℤ (m.x *ℤ c.den -ℤ c.x *ℤ m.den)) ≤ℤ pos 0
  along_x h =
      let a = u.utmost m hm lies in
      let b = apart e c m in
      let d = zero_times e.b (m.y *ℤ c.den -ℤ c.y *ℤ m.den) h in
      omega (arith, ints)

  along_y : e.a ≡ pos 0 → (e.b *ℤ (m.y *ℤ c.den -ℤ c.y *ℤ m.den)) ≤ℤ pos 0
  along_y h =
      let a = u.utmost m hm lies in
      let b = apart e c m in
      let d = zero_times e.a (m.x *ℤ c.den -ℤ c.x *ℤ m.den) h in
      omega (arith, ints)

  pub least_x : e.a <ℤ pos 0 → e.b ≡ pos 0 → (c.x *ℤ pos (unsigned_abs m.den)) ≤ℤ (m.x *ℤ c.den)
  least_x h k = rw (abs_above m.den hm) (let a = not_below e.a (m.x *ℤ c.den -ℤ c.x *ℤ m.den) h (along_x k) in omega (arith, ints))

  pub greatest_x : pos 0 <ℤ e.a → e.b ≡ pos 0 → (m.x *ℤ c.den) ≤ℤ (c.x *ℤ pos (unsigned_abs m.den))
  greatest_x h k = rw (abs_above m.den hm) (let a = unscale_most e.a (m.x *ℤ c.den -ℤ c.x *ℤ m.den) h (along_x k) in omega (arith, ints))

  pub least_y : e.b <ℤ pos 0 → e.a ≡ pos 0 → (c.y *ℤ pos (unsigned_abs m.den)) ≤ℤ (m.y *ℤ c.den)
  least_y h k = rw (abs_above m.den hm) (let a = not_below e.b (m.y *ℤ c.den -ℤ c.y *ℤ m.den) h (along_y k) in omega (arith, ints))

  pub greatest_y : pos 0 <ℤ e.b → e.a ≡ pos 0 → (m.y *ℤ c.den) ≤ℤ (c.y *ℤ pos (unsigned_abs m.den))
  greatest_y h k = rw (abs_above m.den hm) (let a = unscale_most e.b (m.y *ℤ c.den -ℤ c.y *ℤ m.den) h (along_y k) in omega (arith, ints))
