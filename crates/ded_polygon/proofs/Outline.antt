-- What lies in all half planes is what the edges around it have to their left: a spot to the left of all edges, or on them, is in
-- one of the triangles from the first vertex over an edge, and a mixture of that triangle's corners. Where something lies in
-- all half planes, and each direction leads out of one, there is a vertex, and where there is one alone, nothing else.
use Rattle.std.proofs.Common.{◌≡◌, ℕ, zero, suc, ◌<◌, ◌≤◌, List, [], ◌∷◌, ◌⊎◌, inl, inr, refl, ap, sym, arith}
use Rattle.std.specs.Prelude.{ℤ, pos, ◌+ℤ◌, ◌-ℤ◌, ◌*ℤ◌, ◌<ℤ◌, ◌≤ℤ◌}
use Rattle.std.proofs.lemmas.Int.{ints, by_lt_z}
use Rattle.ded_num.proofs.Signs.{times_swap}
use Rattle.ded_polygon.specs.Plane.{HalfPlane, Spot, In, IsSameSpot, level, bend, crossing, turn}
use Rattle.ded_polygon.specs.Vertices.{LiesIn, IsVertex, IsEdge, IsEnclosed}
use Rattle.ded_polygon.proofs.Polynomials.{nought, var, plus, minus, times, identity}
use Rattle.ded_polygon.proofs.Signs.{most_most, least_most, unscale_most, unscale_least}
use Rattle.ded_polygon.proofs.Identities.{levels, turn_back, turn_round, turn_on_border, crossing_den, crossing_on_second}
use Rattle.ded_polygon.proofs.Utmost.{proper_second}
use Rattle.ded_polygon.proofs.Nearest.{nearest_of}
use Rattle.ded_polygon.proofs.Leaving.{leaves, crossing_inside}
use Rattle.ded_polygon.proofs.Finding.{crossing_vertex}
use Rattle.ded_polygon.proofs.Edges.{to_the_left, ends_differ, edge_same}

-- ---- to the left of an edge
pub inside_left : (ss : List HalfPlane) (p q r : Spot) → IsEdge ss p q → pos 0 <ℤ q.den → LiesIn ss r → pos 0 ≤ℤ turn p q r
inside_left ss p q r e positive lies =
    let a = turn_on_border e.side e.stop p q r e.begins e.ends e.reached in
    let b = most_most (level e.side r) (level e.stop p) (lies e.side e.side_in) (let l = e.before in omega (arith, ints)) in
    let c = least_most q.den (pos 0 -ℤ level e.side r *ℤ level e.stop p) (omega (arith, ints)) (omega (arith, ints)) in
    let d = negative q.den (level e.side r *ℤ level e.stop p) in
    let f = times_swap (bend e.side e.stop) (turn p q r) in
    unscale_least (bend e.side e.stop) (turn p q r) e.leaves (omega (arith, ints))
  where
    negative : (x y : ℤ) → x *ℤ (pos 0 -ℤ y) +ℤ x *ℤ y ≡ pos 0
    negative x y = identity (x ∷ y ∷ []) (plus (times (var 0) (minus nought (var 1))) (times (var 0) (var 1))) nought refl

-- a spot in a triangle lies where its corners lie
in_triangle : (ss : List HalfPlane) (p q w r : Spot) → LiesIn ss p → LiesIn ss q → LiesIn ss w
    → pos 0 ≤ℤ turn q w r → pos 0 ≤ℤ turn w p r → pos 0 ≤ℤ turn p q r → pos 0 <ℤ turn p q w → LiesIn ss r
in_triangle ss p q w r ip iq iw a b c d t i =
    let e = levels t p q w r in
    let x = least_most (turn q w r) (level t p) a (ip t i) in
    let y = least_most (turn w p r) (level t q) b (iq t i) in
    let z = least_most (turn p q r) (level t w) c (iw t i) in
    unscale_most (turn p q w) (level t r) d (omega (arith, ints))

module _ (ss : List HalfPlane) (f : ℕ → Spot) (m : ℕ) (r : Spot) (vertex : (k : ℕ) → k ≤ m → IsVertex ss (f k))
    (differ : (j k : ℕ) → j < k → k ≤ m → IsSameSpot (f j) (f k) → ⊥) (edge : (k : ℕ) → k < m → IsEdge ss (f k) (f (suc k)))
    (left : (k : ℕ) → k < m → pos 0 ≤ℤ turn (f k) (f (suc k)) r) (closed : pos 0 ≤ℤ turn (f m) (f 0) r) where
  -- the triangle from the first vertex over an edge
  over : (k : ℕ) → suc (suc k) ≤ m → pos 0 ≤ℤ turn (f 0) (f (suc k)) r → turn (f 0) (f (suc (suc k))) r ≤ℤ pos 0 → LiesIn ss r
  over k h before most =
      let a = to_the_left ss (f (suc k)) (f (suc (suc k))) (f 0) (edge (suc k) (omega arith)) (vertex (suc k) (omega arith)) (vertex (suc (suc k)) h) (vertex 0 (omega arith))
      (λ s. differ 0 (suc k) (omega arith) (omega arith) (record { x = sym s.x; y = sym s.y })) (λ s. differ 0 (suc (suc k)) (omega arith) h (record { x = sym s.x; y = sym s.y })) in
      let b = turn_round (f 0) (f (suc k)) (f (suc (suc k))) in
      let c = turn_back (f 0) (f (suc (suc k))) r in
      in_triangle ss (f 0) (f (suc k)) (f (suc (suc k))) r (vertex 0 (omega arith)).inside (vertex (suc k) (omega arith)).inside (vertex (suc (suc k)) h).inside
      (left (suc k) (omega arith)) (omega (arith, ints)) before (omega (arith, ints))

  -- seen from the first vertex, a vertex has the spot to its left, or the spot lies in a triangle before it
  fan : (k : ℕ) → suc (suc k) ≤ m → LiesIn ss r ⊎ (pos 0 <ℤ turn (f 0) (f (suc (suc k))) r)
  fan zero h =
      by_lt_z (pos 0) (turn (f 0) (f 2) r) (λ above. inr above) (λ most. inl (over 0 h (left 0 (omega arith)) most))
  fan (suc k) h =
      elim (fan k (omega arith)) [
        | inl l ↦ inl l
        | inr before ↦ by_lt_z (pos 0) (turn (f 0) (f (suc (suc (suc k)))) r) (λ above. inr above) (λ most. inl (over (suc k) h (omega (arith, ints)) most))
      ]

  -- a spot to the left of all edges, of which there are three or more
  pub left_inside : (k : ℕ) → m ≡ suc (suc k) → LiesIn ss r
  left_inside k e =
      elim (fan k (omega arith)) [
        | inl l ↦ l
        | inr above ↦ (let a = turn_back (f 0) (f m) r in let b : turn (f 0) (f m) r ≡ turn (f 0) (f (suc (suc k))) r = ap (λ i. turn (f 0) (f i) r) e in absurd (omega (arith, ints)))
      ]

-- ---- where something lies in all half planes, there is a vertex
-- a half plane with the spot on its border
through : Spot → HalfPlane
through r = record { a = r.den; b = pos 0; c = pos 0 -ℤ r.x }

on_through : (r : Spot) → level (through r) r ≡ pos 0
unfolding level through
on_through r = identity (r.x ∷ r.y ∷ r.den ∷ []) (plus (plus (times (var 2) (var 0)) (times nought (var 1))) (times (minus nought (var 0)) (var 2))) nought refl

proper_through : (r : Spot) → pos 0 <ℤ r.den → (through r).a ≡ pos 0 → (through r).b ≡ pos 0 → ⊥
unfolding through
proper_through r h e f = omega (arith, ints)

pub some_vertex : (ss : List HalfPlane) (r : Spot) → IsEnclosed ss → pos 0 <ℤ r.den → LiesIn ss r → (v : Spot) × IsVertex ss v
some_vertex ss r enclosed positive lies = from (enclosed (through r) (proper_through r positive))
  where
    -- along the border of t, as far as it goes
    along : (t : HalfPlane) (p : Spot) → In t ss → (t.a ≡ pos 0 → t.b ≡ pos 0 → ⊥) → pos 0 <ℤ p.den → level t p ≡ pos 0 → LiesIn ss p → (v : Spot) × IsVertex ss v
    along t p i proper above on inside =
        let o = enclosed t proper in
        let n = nearest_of ss p t o.0 o.1 o.2 in (
          crossing t n.stop,
          crossing_vertex ss t n.stop i n.stop_in n.leaves
              (λ w j. crossing_inside t n.stop w p above on n.leaves (inside n.stop n.stop_in) (inside w j) (n.nearest w j)),
        )

    -- first through the spot
    from : (t : HalfPlane) × In t ss × (pos 0 <ℤ bend (through r) t) → (v : Spot) × IsVertex ss v
    from o =
        let s = through r in
        let n = nearest_of ss r s o.0 o.1 o.2 in
        along n.stop (crossing s n.stop) n.stop_in (proper_second s n.stop n.leaves) (let e = crossing_den s n.stop in let l = n.leaves in omega (arith, ints)) (crossing_on_second s n.stop)
        (λ w j. crossing_inside s n.stop w r positive (on_through r) n.leaves (lies n.stop n.stop_in) (lies w j) (n.nearest w j))

-- equal numbers, or not
equal_or : (a b : ℤ) → (a ≡ b) ⊎ (a ≡ b → ⊥)
equal_or a b =
    by_lt_z a b (λ l. inr (λ e. omega (arith, ints)))
    (λ m. by_lt_z b a (λ l. inr (λ e. omega (arith, ints))) (λ n. inl (omega (arith, ints))))

-- the same point, or not
same_or : (p q : Spot) → IsSameSpot p q ⊎ (IsSameSpot p q → ⊥)
same_or p q =
    elim (equal_or (p.x *ℤ q.den) (q.x *ℤ p.den)) [
      | inl ex ↦ elim (equal_or (p.y *ℤ q.den) (q.y *ℤ p.den)) [
        | inl ey ↦ inl (record { x = ex; y = ey })
        | inr ny ↦ inr (λ s. ny s.y)
      ]
      | inr nx ↦ inr (λ s. nx s.x)
    ]

-- where one vertex is alone, nothing else lies in all half planes
pub alone : (ss : List HalfPlane) (p r : Spot) → IsEnclosed ss → IsVertex ss p → ((v : Spot) → IsVertex ss v → IsSameSpot v p) → LiesIn ss r → IsSameSpot p r
alone ss p r enclosed v all lies =
    elim (same_or p r) [
      | inl s ↦ s
      | inr n ↦ (let l = leaves ss p r enclosed v lies n in let s = all l.to l.vertex in
          absurd (ends_differ ss p p v.positive v.positive (edge_same ss p l.to p l.vertex.positive s l.edge) (record { x = refl; y = refl })))
    ]
