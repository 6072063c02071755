-- Half planes that enclose a spot have a vertex: a level way through the spot leads to a border, and the way along that to a vertex.
use Rattle.std.proofs.Common.{◌≡◌, List, arith}
use Rattle.std.specs.Prelude.{ℤ, pos, ◌+ℤ◌, ◌*ℤ◌, ◌<ℤ◌}
use lib.IntN.{neg_ℤ}
use Rattle.std.proofs.lemmas.Int.{ints}
use Rattle.ded_num.proofs.Ring.{parts, ring_pos, diff_same}
use Rattle.ded_polygon.specs.Plane.{HalfPlane, Spot, In, level, bend, crossing}
use Rattle.ded_polygon.specs.Vertices.{LiesIn, IsVertex, IsEnclosed}
use Rattle.ded_polygon.proofs.Finding.{crossing_vertex}
use Rattle.ded_polygon.proofs.Identities.{crossing_den, crossing_on_second}
use Rattle.ded_polygon.proofs.Leaving.{crossing_inside}
use Rattle.ded_polygon.proofs.Nearest.{nearest_of}
use Rattle.ded_polygon.proofs.Utmost.{proper_second}

-- the first half plane that the way along a border leads out of
record Reached (ss : List HalfPlane) (s : HalfPlane) : Type 0 where
  stop : HalfPlane
  stop_in : In stop ss
  leaves : pos 0 <ℤ bend s stop
  inside : LiesIn ss (crossing s stop)

-- the border of this half plane is level, and the spot is on it
abbrev below : Spot → HalfPlane
below p = record { a = pos 0; b = p.den; c = neg_ℤ p.y }

level_below : (p : Spot) → level (below p) p ≡ pos 0
unfolding level
level_below p = law p.x p.y p.den
  where
    law : (x y d : ℤ) → pos 0 *ℤ x +ℤ d *ℤ y +ℤ neg_ℤ y *ℤ d ≡ pos 0
    law x y d = rw (parts x, parts y, parts d) (simp ring_pos (diff_same _ _ _ _ (omega arith)))

module _ (ss : List HalfPlane) (enclosed : IsEnclosed ss) where
  move : (s : HalfPlane) → (s.a ≡ pos 0 → s.b ≡ pos 0 → ⊥) → (p : Spot) → pos 0 <ℤ p.den → LiesIn ss p → level s p ≡ pos 0 → Reached ss s
  move s proper p positive lies on =
      let out = enclosed s proper in
      let n = nearest_of ss p s out.0 out.1 out.2 in
      record {
        stop = n.stop;
        stop_in = n.stop_in;
        leaves = n.leaves;
        inside = λ w i. crossing_inside s n.stop w p positive on n.leaves (lies n.stop n.stop_in) (lies w i) (n.nearest w i);
      }

  pub some_vertex : (p : Spot) → pos 0 <ℤ p.den → LiesIn ss p → (v : Spot) × IsVertex ss v
  some_vertex p positive lies =
      let m = move (below p) (λ ea eb. absurd (omega (arith, ints))) p positive lies (level_below p) in
      let above = m.leaves in
      let e = crossing_den (below p) m.stop in
      let k = move m.stop (proper_second (below p) m.stop m.leaves) (crossing (below p) m.stop) (omega (arith, ints)) m.inside (crossing_on_second (below p) m.stop) in
      (crossing m.stop k.stop, crossing_vertex ss m.stop k.stop m.stop_in k.stop_in k.leaves k.inside)
