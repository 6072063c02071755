-- What lies to the left of an edge: each vertex but its ends, since no three vertices are on one border. So no two edges
-- end at one vertex.
use Rattle.std.proofs.Common.{◌≡◌, List, [], ◌∷◌, ◌⊎◌, inl, inr, refl, ap, ◌∙◌, sym, arith}
use Rattle.std.specs.Prelude.{ℤ, pos, ◌+ℤ◌, ◌-ℤ◌, ◌*ℤ◌, ◌<ℤ◌, ◌≤ℤ◌}
use Rattle.std.proofs.lemmas.Int.{ints, by_lt_z}
use Rattle.ded_num.proofs.Signs.{times_swap, zero_times}
use Rattle.ded_polygon.specs.Plane.{HalfPlane, Spot, In, IsSameSpot, level, bend, crossing, turn}
use Rattle.ded_polygon.specs.Vertices.{IsVertex, IsEdge}
use Rattle.ded_polygon.proofs.Polynomials.{nought, var, minus, times, identity}
use Rattle.ded_polygon.proofs.Signs.{above_above, above_below, below_below, above_most, most_most, unscale_zero, unscale_most, unscale_above}
use Rattle.ded_polygon.proofs.Identities.{cramer, bends, bend_swap, turn_on_border, turn_swap}
use Rattle.ded_polygon.proofs.Sameness.{same_by, same_sym, zero_same, below_same}

-- a border through the spot that crosses that of s
record Across (ss : List HalfPlane) (s : HalfPlane) (r : Spot) : Type 0 where
  other : HalfPlane
  other_in : In other ss
  on : level other r ≡ pos 0
  across : (pos 0 <ℤ bend s other) ⊎ (bend s other <ℤ pos 0)

across : (ss : List HalfPlane) (s t : HalfPlane) (r : Spot) → pos 0 <ℤ bend s t → IsVertex ss r → Across ss s r
across ss s t r h v =
    by_sign v.first v.first_in v.on_first
    (λ z. by_sign v.second v.second_in v.on_second
    (λ z'.
    let e = bends s t v.first v.second in
    let f = above_above (bend s t) (bend v.first v.second) h v.crossed in
    let a = zero_times (bend s v.first) (bend t v.second) z in
    let b = zero_times (bend s v.second) (bend t v.first) z' in
    absurd (omega (arith, ints))))
  where
    by_sign : (w : HalfPlane) → In w ss → level w r ≡ pos 0 → (bend s w ≡ pos 0 → Across ss s r) → Across ss s r
    by_sign w i on f =
        by_lt_z (pos 0) (bend s w)
        (λ above. record { other = w; other_in = i; on = on; across = inl above })
        (λ most. by_lt_z (bend s w) (pos 0)
        (λ below. record { other = w; other_in = i; on = on; across = inr below })
        (λ least. f (omega (arith, ints))))

-- the level of w at u, both u and r on the border of s and r on that of w, by the levels of t
solved : (a ud x d tu b rd tr c : ℤ) → a *ℤ ud ≡ x *ℤ d +ℤ tu *ℤ b → a *ℤ rd ≡ tr *ℤ b → c +ℤ b ≡ pos 0 → x *ℤ (d *ℤ rd) ≡ c *ℤ (tu *ℤ rd -ℤ tr *ℤ ud)
solved a ud x d tu b rd tr c h1 h2 h3 =
    let e : x *ℤ d ≡ a *ℤ ud -ℤ tu *ℤ b = omega (arith, ints) in
    let c_is : c ≡ pos 0 -ℤ b = omega (arith, ints) in
    assoc x d rd ∙ ap (λ z. z *ℤ rd) e ∙ moved a ud tu b rd ∙ ap (λ z. z *ℤ ud -ℤ (tu *ℤ b) *ℤ rd) h2 ∙ shared tr b ud tu rd ∙ ap (λ z. z *ℤ (tu *ℤ rd -ℤ tr *ℤ ud)) (sym c_is)
  where
    assoc : (x d r : ℤ) → x *ℤ (d *ℤ r) ≡ (x *ℤ d) *ℤ r
    assoc x d r = identity (x ∷ d ∷ r ∷ []) (times (var 0) (times (var 1) (var 2))) (times (times (var 0) (var 1)) (var 2)) refl

    moved : (a u t b r : ℤ) → (a *ℤ u -ℤ t *ℤ b) *ℤ r ≡ (a *ℤ r) *ℤ u -ℤ (t *ℤ b) *ℤ r
    moved a u t b r =
        identity (a ∷ u ∷ t ∷ b ∷ r ∷ [])
        (times (minus (times (var 0) (var 1)) (times (var 2) (var 3))) (var 4))
        (minus (times (times (var 0) (var 4)) (var 1)) (times (times (var 2) (var 3)) (var 4)))
        refl

    shared : (tr b ud tu rd : ℤ) → (tr *ℤ b) *ℤ ud -ℤ (tu *ℤ b) *ℤ rd ≡ (pos 0 -ℤ b) *ℤ (tu *ℤ rd -ℤ tr *ℤ ud)
    shared tr b ud tu rd =
        identity (tr ∷ b ∷ ud ∷ tu ∷ rd ∷ [])
        (minus (times (times (var 0) (var 1)) (var 2)) (times (times (var 3) (var 1)) (var 4)))
        (times (minus nought (var 1)) (minus (times (var 3) (var 4)) (times (var 0) (var 2))))
        refl

pub along : (s t w : HalfPlane) (u r : Spot) → level s u ≡ pos 0 → level s r ≡ pos 0 → level w r ≡ pos 0
    → level w u *ℤ (bend s t *ℤ r.den) ≡ bend s w *ℤ (level t u *ℤ r.den -ℤ level t r *ℤ u.den)
along s t w u r su sr wr =
    let e = cramer w s t u in
    let f = cramer w s t r in
    let a = zero_times (level s u) (bend t w) su in
    let b = zero_times (level s r) (bend t w) sr in
    let c = zero_times (level w r) (bend s t) wr in
    solved (level w (crossing s t)) u.den (level w u) (bend s t) (level t u) (bend w s) r.den (level t r) (bend s w) (omega (arith, ints)) (omega (arith, ints)) (bend_swap s w)

module _ (ss : List HalfPlane) (p q r : Spot) (e : IsEdge ss p q) (vp : IsVertex ss p) (vq : IsVertex ss q) (vr : IsVertex ss r) where
  -- the factor of a level along the border is above 0
  factor : (u : Spot) → pos 0 <ℤ u.den → pos 0 <ℤ (bend e.side e.stop *ℤ u.den)
  factor u h = above_above (bend e.side e.stop) u.den e.leaves h

  -- a level inside, along the border
  inside_along : (w : HalfPlane) (u v : Spot) → pos 0 <ℤ v.den → level w u ≤ℤ pos 0 → (level w u *ℤ (bend e.side e.stop *ℤ v.den)) ≤ℤ pos 0
  inside_along w u v h most =
      let a = above_most (bend e.side e.stop *ℤ v.den) (level w u) (factor v h) most in
      let b = times_swap (bend e.side e.stop *ℤ v.den) (level w u) in
      omega (arith, ints)

  -- a border that stops the way at r, which is then the end
  at_end : level e.side r ≡ pos 0 → (w : HalfPlane) → In w ss → level w r ≡ pos 0 → pos 0 <ℤ bend e.side w → IsSameSpot q r
  at_end on w i wr above =
      let a = along e.side e.stop w q r e.ends on wr in
      let b = inside_along w q r vr.positive (vq.inside w i) in
      let c : (level e.stop q *ℤ r.den -ℤ level e.stop r *ℤ q.den) ≤ℤ pos 0 = unscale_most (bend e.side w) _ above (omega (arith, ints)) in
      let d = zero_times (level e.stop q) r.den e.reached in
      let most = vr.inside e.stop e.stop_in in
      let z : level e.stop r ≡ pos 0 =
      by_lt_z (level e.stop r) (pos 0)
      (λ below. let f = above_below q.den (level e.stop r) vq.positive below in let g = times_swap q.den (level e.stop r) in absurd (omega (arith, ints)))
      (λ least. omega (arith, ints)) in
      same_by e.side e.stop q r e.leaves e.ends e.reached on z

  -- the begin stops the way back
  back : (w : HalfPlane) → In w ss → level w p ≡ pos 0 → pos 0 <ℤ bend e.side w → ⊥
  back w i wp above =
      let a = along e.side e.stop w q p e.ends e.begins wp in
      let b = inside_along w q p vp.positive (vq.inside w i) in
      let c : (level e.stop q *ℤ p.den -ℤ level e.stop p *ℤ q.den) ≤ℤ pos 0 = unscale_most (bend e.side w) _ above (omega (arith, ints)) in
      let d = zero_times (level e.stop q) p.den e.reached in
      let f = above_below q.den (level e.stop p) vq.positive e.before in
      let g = times_swap q.den (level e.stop p) in
      absurd (omega (arith, ints))

  -- a border that stops the way back at r, which is then the begin
  at_begin : level e.side r ≡ pos 0 → (w : HalfPlane) → In w ss → level w r ≡ pos 0 → bend e.side w <ℤ pos 0
      → (k : HalfPlane) → In k ss → level k p ≡ pos 0 → bend e.side k <ℤ pos 0 → IsSameSpot p r
  at_begin on w i wr below k j kp below' =
      let a = along e.side e.stop w p r e.begins on wr in
      let b = inside_along w p r vr.positive (vp.inside w i) in
      let c : (level e.stop r *ℤ p.den -ℤ level e.stop p *ℤ r.den) ≤ℤ pos 0 =
      by_lt_z (pos 0) (level e.stop r *ℤ p.den -ℤ level e.stop p *ℤ r.den)
      (λ above.
      let f = below_below (bend e.side w) (level e.stop p *ℤ r.den -ℤ level e.stop r *ℤ p.den) below (omega (arith, ints)) in
      absurd (omega (arith, ints)))
      (λ most. most) in
      let f = along e.side e.stop k r p on e.begins kp in
      let g = most_most (bend e.side k) (level e.stop r *ℤ p.den -ℤ level e.stop p *ℤ r.den) (omega (arith, ints)) c in
      let h = inside_along k r p vp.positive (vr.inside k j) in
      let z : level k r ≡ pos 0 =
      unscale_zero (bend e.side e.stop *ℤ p.den) (level k r) (factor p vp.positive)
      (let l = times_swap (bend e.side e.stop *ℤ p.den) (level k r) in omega (arith, ints)) in
      let l = bend_swap e.side k in
      same_by k e.side p r (omega (arith, ints)) kp e.begins z on

  -- a vertex on the border of an edge is one of its ends
  on_border : level e.side r ≡ pos 0 → IsSameSpot p r ⊎ IsSameSpot q r
  on_border on =
      let x = across ss e.side e.stop r e.leaves vr in
      let y = across ss e.side e.stop p e.leaves vp in
      elim x.across [
        | inl above ↦ inr (at_end on x.other x.other_in x.on above)
        | inr below ↦ elim y.across [
          | inl above' ↦ absurd (back y.other y.other_in y.on above')
          | inr below' ↦ inl (at_begin on x.other x.other_in x.on below y.other y.other_in y.on below')
        ]
      ]

  -- each vertex that is none of the ends is inside of the border, and so to the left of the edge
  pub to_the_left : (IsSameSpot p r → ⊥) → (IsSameSpot q r → ⊥) → pos 0 <ℤ turn p q r
  to_the_left np nq =
      let below : level e.side r <ℤ pos 0 =
      by_lt_z (level e.side r) (pos 0) (λ b. b)
      (λ least.
      let most = vr.inside e.side e.side_in in
      elim (on_border (omega (arith, ints))) [ inl s ↦ absurd (np s) | inr s ↦ absurd (nq s) ]) in
      let a = turn_on_border e.side e.stop p q r e.begins e.ends e.reached in
      let b = above_above q.den _ vq.positive (below_below (level e.side r) (level e.stop p) below e.before) in
      let c = times_swap (bend e.side e.stop) (turn p q r) in
      unscale_above (bend e.side e.stop) (turn p q r) e.leaves (omega (arith, ints))

-- an edge has two ends
pub ends_differ : (ss : List HalfPlane) (p q : Spot) → pos 0 <ℤ p.den → pos 0 <ℤ q.den → IsEdge ss p q → IsSameSpot p q → ⊥
ends_differ ss p q positive positive' e s =
    let b = below_same e.stop p q positive positive' s e.before in
    let r = e.reached in
    absurd (omega (arith, ints))

-- no two edges end at one vertex
pub one_before : (ss : List HalfPlane) (p q r : Spot) → IsVertex ss p → IsVertex ss q → IsVertex ss r → IsEdge ss p q → IsEdge ss r q → (IsSameSpot p r → ⊥) → ⊥
one_before ss p q r vp vq vr e f differ =
    let a = to_the_left ss p q r e vp vq vr differ (λ s. ends_differ ss r q vr.positive vq.positive f (same_sym q r s)) in
    let b = to_the_left ss r q p f vr vq vp (λ s. differ (same_sym r p s)) (λ s. ends_differ ss p q vp.positive vq.positive e (same_sym q p s)) in
    let c = turn_swap p q r in
    absurd (omega (arith, ints))

-- an edge to the same point
pub edge_same : (ss : List HalfPlane) (p q r : Spot) → pos 0 <ℤ q.den → IsSameSpot q r → IsEdge ss p q → IsEdge ss p r
edge_same ss p q r positive s e = record {
  side = e.side;
  side_in = e.side_in;
  begins = e.begins;
  ends = zero_same e.side q r positive s e.ends;
  stop = e.stop;
  stop_in = e.stop_in;
  before = e.before;
  reached = zero_same e.stop q r positive s e.reached;
  leaves = e.leaves;
}
