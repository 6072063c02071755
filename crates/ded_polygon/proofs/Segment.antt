-- Where edges lead from p to q and back, what lies in all half planes lies between the two.
use Rattle.std.proofs.Common.{◌≡◌, List, [], ◌∷◌, refl, ap, ◌∙◌, sym, arith}
use Rattle.std.specs.Prelude.{ℤ, pos, ◌+ℤ◌, ◌-ℤ◌, ◌*ℤ◌, ◌<ℤ◌, ◌≤ℤ◌}
use Rattle.std.proofs.lemmas.Int.{ints, by_lt_z}
use Rattle.ded_num.proofs.Signs.{times_swap, zero_times}
use Rattle.ded_polygon.specs.Plane.{HalfPlane, Spot, level, bend, turn}
use Rattle.ded_polygon.specs.Vertices.{LiesIn, IsEdge}
use Rattle.ded_polygon.specs.Corners.{IsBetween}
use Rattle.ded_polygon.proofs.Polynomials.{nought, var, plus, minus, times, identity}
use Rattle.ded_polygon.proofs.Signs.{above_above, above_below, below_below, above_most, least_most, unscale_zero, unscale_most, unscale_below}
use Rattle.ded_polygon.proofs.Identities.{turn_back, turn_on_border}
use Rattle.ded_polygon.proofs.Edges.{along}
use Rattle.ded_polygon.proofs.Outline.{inside_left}

-- the borders through a spot that run upwards, and to the right
upright : Spot → HalfPlane
upright r = record { a = r.den; b = pos 0; c = pos 0 -ℤ r.x }

flat : Spot → HalfPlane
flat r = record { a = pos 0; b = r.den; c = pos 0 -ℤ r.y }

on_upright : (r : Spot) → level (upright r) r ≡ pos 0
unfolding level upright
on_upright r = identity (r.x ∷ r.y ∷ r.den ∷ []) (plus (plus (times (var 2) (var 0)) (times nought (var 1))) (times (minus nought (var 0)) (var 2))) nought refl

on_flat : (r : Spot) → level (flat r) r ≡ pos 0
unfolding level flat
on_flat r = identity (r.x ∷ r.y ∷ r.den ∷ []) (plus (plus (times nought (var 0)) (times (var 2) (var 1))) (times (minus nought (var 1)) (var 2))) nought refl

-- what they tell of the coordinates of two other spots
by_upright : (p q r : Spot) → (r.x *ℤ p.den -ℤ p.x *ℤ r.den) *ℤ (q.x *ℤ r.den -ℤ r.x *ℤ q.den) +ℤ level (upright r) p *ℤ level (upright r) q ≡ pos 0
unfolding level upright
by_upright p q r =
    identity (p.x ∷ p.y ∷ p.den ∷ q.x ∷ q.y ∷ q.den ∷ r.x ∷ r.y ∷ r.den ∷ [])
    (plus
    (times (minus (times (var 6) (var 2)) (times (var 0) (var 8))) (minus (times (var 3) (var 8)) (times (var 6) (var 5))))
    (times
    (plus (plus (times (var 8) (var 0)) (times nought (var 1))) (times (minus nought (var 6)) (var 2)))
    (plus (plus (times (var 8) (var 3)) (times nought (var 4))) (times (minus nought (var 6)) (var 5)))))
    nought
    refl

by_flat : (p q r : Spot) → (r.y *ℤ p.den -ℤ p.y *ℤ r.den) *ℤ (q.y *ℤ r.den -ℤ r.y *ℤ q.den) +ℤ level (flat r) p *ℤ level (flat r) q ≡ pos 0
unfolding level flat
by_flat p q r =
    identity (p.x ∷ p.y ∷ p.den ∷ q.x ∷ q.y ∷ q.den ∷ r.x ∷ r.y ∷ r.den ∷ [])
    (plus
    (times (minus (times (var 7) (var 2)) (times (var 1) (var 8))) (minus (times (var 4) (var 8)) (times (var 7) (var 5))))
    (times
    (plus (plus (times nought (var 0)) (times (var 8) (var 1))) (times (minus nought (var 7)) (var 2)))
    (plus (plus (times nought (var 3)) (times (var 8) (var 4))) (times (minus nought (var 7)) (var 5)))))
    nought
    refl

module _ (ss : List HalfPlane) (p q r : Spot) (e : IsEdge ss p q) (back : IsEdge ss q p) (pp : pos 0 <ℤ p.den) (pq : pos 0 <ℤ q.den) (pr : pos 0 <ℤ r.den) (lies : LiesIn ss r) where
  -- it is on the border that the edge leads along
  on_border : level e.side r ≡ pos 0
  on_border =
      let a = inside_left ss p q r e pq lies in
      let b = inside_left ss q p r back pp lies in
      let c = turn_back p q r in
      let z : turn p q r ≡ pos 0 = omega (arith, ints) in
      let f = turn_on_border e.side e.stop p q r e.begins e.ends e.reached in
      let g : q.den *ℤ (level e.side r *ℤ level e.stop p) ≡ pos 0 = sym f ∙ zero_times (turn p q r) (bend e.side e.stop) z in
      let h : level e.side r *ℤ level e.stop p ≡ pos 0 = unscale_zero q.den _ pq g in
      let most = lies e.side e.side_in in
      by_lt_z (level e.side r) (pos 0)
      (λ below. let k = below_below (level e.side r) (level e.stop p) below e.before in absurd (omega (arith, ints)))
      (λ least. omega (arith, ints))

  factor : (u : Spot) → pos 0 <ℤ u.den → pos 0 <ℤ (bend e.side e.stop *ℤ u.den)
  factor u h = above_above (bend e.side e.stop) u.den e.leaves h

  -- what stops the way back is left the other way round
  stops_back : bend e.side back.stop <ℤ pos 0
  stops_back =
      let a = along e.side e.stop back.stop q p e.ends e.begins back.reached in
      let b = above_below (bend e.side e.stop *ℤ p.den) (level back.stop q) (factor p pp) back.before in
      let c = times_swap (bend e.side e.stop *ℤ p.den) (level back.stop q) in
      let d = zero_times (level e.stop q) p.den e.reached in
      let f = above_below q.den (level e.stop p) pq e.before in
      let g = times_swap q.den (level e.stop p) in
      let h = times_swap (bend e.side back.stop) (level e.stop q *ℤ p.den -ℤ level e.stop p *ℤ q.den) in
      unscale_below (level e.stop q *ℤ p.den -ℤ level e.stop p *ℤ q.den) (bend e.side back.stop) (omega (arith, ints)) (omega (arith, ints))

  -- so the spot is not before p
  not_before : (level e.stop p *ℤ r.den -ℤ level e.stop r *ℤ p.den) ≤ℤ pos 0
  not_before =
      let a = along e.side e.stop back.stop r p on_border e.begins back.reached in
      let b = above_most (bend e.side e.stop *ℤ p.den) (level back.stop r) (factor p pp) (lies back.stop back.stop_in) in
      let c = times_swap (bend e.side e.stop *ℤ p.den) (level back.stop r) in
      by_lt_z (pos 0) (level e.stop p *ℤ r.den -ℤ level e.stop r *ℤ p.den)
      (λ above.
      let f = below_below (bend e.side back.stop) (level e.stop r *ℤ p.den -ℤ level e.stop p *ℤ r.den) stops_back (omega (arith, ints)) in
      absurd (omega (arith, ints)))
      (λ most. most)

  -- nor behind q
  not_behind : (level e.stop r *ℤ q.den) ≤ℤ pos 0
  not_behind =
      let a = above_most q.den (level e.stop r) pq (lies e.stop e.stop_in) in
      let b = times_swap q.den (level e.stop r) in
      omega (arith, ints)

  -- a border through the spot has p and q on either side of it, or on it
  either_side : (w : HalfPlane) → level w r ≡ pos 0 → (level w p *ℤ level w q) ≤ℤ pos 0
  either_side w on =
      let k = bend e.side e.stop *ℤ r.den in
      let u = level e.stop p *ℤ r.den -ℤ level e.stop r *ℤ p.den in
      let v = level e.stop q *ℤ r.den -ℤ level e.stop r *ℤ q.den in
      let a = along e.side e.stop w p r e.begins on_border on in
      let b = along e.side e.stop w q r e.ends on_border on in
      let c = zero_times (level e.stop q) r.den e.reached in
      let h = not_behind in
      let least : pos 0 ≤ℤ v = omega (arith, ints) in
      let f = squares (level w p) (level w q) k (bend e.side w) u v a b in
      let g : (u *ℤ v) ≤ℤ pos 0 = (let m = least_most v u least not_before in let n = times_swap v u in omega (arith, ints)) in
      let m = least_most (bend e.side w *ℤ bend e.side w) (u *ℤ v) (square (bend e.side w)) g in
      let n = above_above k k (factor r pr) (factor r pr) in
      unscale_most (k *ℤ k) (level w p *ℤ level w q) n (omega (arith, ints))
    where
      square : (z : ℤ) → pos 0 ≤ℤ (z *ℤ z)
      square z =
          by_lt_z z (pos 0) (λ below. let s = below_below z z below below in omega (arith, ints))
          (λ least. by_lt_z (pos 0) z (λ above. let s = above_above z z above above in omega (arith, ints))
          (λ most. let n : z ≡ pos 0 = omega (arith, ints) in let s = zero_times z z n in omega (arith, ints)))

      grouped : (x k : ℤ) (y : ℤ) → (k *ℤ k) *ℤ (x *ℤ y) ≡ (x *ℤ k) *ℤ (y *ℤ k)
      grouped x k y = identity (x ∷ k ∷ y ∷ []) (times (times (var 1) (var 1)) (times (var 0) (var 2))) (times (times (var 0) (var 1)) (times (var 2) (var 1))) refl

      squares : (x y k b u v : ℤ) → x *ℤ k ≡ b *ℤ u → y *ℤ k ≡ b *ℤ v → (k *ℤ k) *ℤ (x *ℤ y) ≡ (b *ℤ b) *ℤ (u *ℤ v)
      squares x y k b u v h i = grouped x k y ∙ ap (λ z. z *ℤ (y *ℤ k)) h ∙ ap (λ z. (b *ℤ u) *ℤ z) i ∙ paired b u v
        where
          paired : (b u v : ℤ) → (b *ℤ u) *ℤ (b *ℤ v) ≡ (b *ℤ b) *ℤ (u *ℤ v)
          paired b u v = identity (b ∷ u ∷ v ∷ []) (times (times (var 0) (var 1)) (times (var 0) (var 2))) (times (times (var 0) (var 0)) (times (var 1) (var 2))) refl

  -- so its coordinates lie between theirs
  pub between_x : IsBetween p.x p.den r.x r.den q.x q.den
  between_x = let a = either_side (upright r) (on_upright r) in let b = by_upright p q r in omega (arith, ints)

  pub between_y : IsBetween p.y p.den r.y r.den q.y q.den
  between_y = let a = either_side (flat r) (on_flat r) in let b = by_flat p q r in omega (arith, ints)
