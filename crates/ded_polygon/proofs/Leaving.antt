-- From each vertex an edge leads to a vertex, where there is another spot and each direction leads out of some half plane:
-- along the utmost border through the vertex, as far as to the nearest half plane that this leads out of.
use Rattle.std.proofs.Common.{◌≡◌, List, [], ◌∷◌, refl, ap, ◌∙◌, arith}
use Rattle.std.specs.Prelude.{ℤ, pos, ◌+ℤ◌, ◌-ℤ◌, ◌*ℤ◌, ◌<ℤ◌, ◌≤ℤ◌}
use Rattle.std.proofs.lemmas.Int.{ints, by_lt_z}
use Rattle.ded_num.proofs.Signs.{times_swap, zero_times}
use Rattle.ded_polygon.specs.Plane.{HalfPlane, Spot, IsSameSpot, level, bend, crossing}
use Rattle.ded_polygon.specs.Vertices.{LiesIn, IsVertex, IsEdge, IsEnclosed}
use Rattle.ded_polygon.proofs.Polynomials.{nought, var, minus, times, identity}
use Rattle.ded_polygon.proofs.Signs.{most_most, above_most, unscale_most}
use Rattle.ded_polygon.proofs.Identities.{cramer, crossing_den, crossing_on_first, crossing_on_second, bend_swap}
use Rattle.ded_polygon.proofs.Utmost.{Utmost, utmost_of}
use Rattle.ded_polygon.proofs.Nearest.{Nearest, nearest_of}

pub record Leaves (ss : List HalfPlane) (p : Spot) : Type 0 where
  pub to : Spot
  pub vertex : IsVertex ss to
  pub edge : IsEdge ss p to

-- the crossing with the nearest half plane lies in all of them
pub crossing_inside : (s t w : HalfPlane) (p : Spot) → pos 0 <ℤ p.den → level s p ≡ pos 0 → pos 0 <ℤ bend s t → level t p ≤ℤ pos 0 → level w p ≤ℤ pos 0
    → (pos 0 <ℤ bend s w → (level w p *ℤ bend s t -ℤ bend s w *ℤ level t p) ≤ℤ pos 0) → level w (crossing s t) ≤ℤ pos 0
crossing_inside s t w p positive on above lt lw h =
    let gap : (level w p *ℤ bend s t -ℤ bend s w *ℤ level t p) ≤ℤ pos 0 =
    by_lt_z (pos 0) (bend s w) h
    (λ most.
    let a = above_most (bend s t) (level w p) above lw in
    let b = times_swap (bend s t) (level w p) in
    let c = most_most (bend s w) (level t p) most lt in
    omega (arith, ints)) in
    let e = cramer w s t p in
    let f = zero_times (level s p) (bend t w) on in
    let g = swapped (level t p) (bend w s) (bend s w) (bend_swap w s) in
    let k = times_swap p.den (level w (crossing s t)) in
    unscale_most p.den _ positive (omega (arith, ints))
  where
    swapped : (l d e : ℤ) → d +ℤ e ≡ pos 0 → l *ℤ d ≡ pos 0 -ℤ e *ℤ l
    swapped l d e h = let k : d ≡ pos 0 -ℤ e = omega (arith, ints) in ap (λ z. l *ℤ z) k ∙ turned l e
      where
        turned : (l e : ℤ) → l *ℤ (pos 0 -ℤ e) ≡ pos 0 -ℤ e *ℤ l
        turned l e = identity (l ∷ e ∷ []) (times (var 0) (minus nought (var 1))) (minus nought (times (var 1) (var 0))) refl

module _ (ss : List HalfPlane) (p r : Spot) where
  to_crossing : IsVertex ss p → (u : Utmost ss p r ss) → Nearest ss p u.side ss → Leaves ss p
  to_crossing v u n =
      let most = v.inside n.stop n.stop_in in
      record {
        to = crossing u.side n.stop;
        vertex = record {
          positive = (let e = crossing_den u.side n.stop in let l = n.leaves in omega (arith, ints));
          inside = λ w i. crossing_inside u.side n.stop w p v.positive u.on n.leaves (v.inside n.stop n.stop_in) (v.inside w i) (n.nearest w i);
          first = u.side;
          first_in = u.side_in;
          on_first = crossing_on_first u.side n.stop;
          second = n.stop;
          second_in = n.stop_in;
          on_second = crossing_on_second u.side n.stop;
          crossed = n.leaves;
        };
        edge = record {
          side = u.side;
          side_in = u.side_in;
          begins = u.on;
          ends = crossing_on_first u.side n.stop;
          stop = n.stop;
          stop_in = n.stop_in;
          before = by_lt_z (level n.stop p) (pos 0) (λ b. b)
              (λ least. let z = u.utmost n.stop n.stop_in (omega (arith, ints)) in let l = n.leaves in absurd (omega (arith, ints)));
          reached = crossing_on_second u.side n.stop;
          leaves = n.leaves;
        };
      }

  pub leaves : IsEnclosed ss → IsVertex ss p → LiesIn ss r → (IsSameSpot p r → ⊥) → Leaves ss p
  leaves enclosed v there other =
      let u = utmost_of ss p r v.positive v.inside there v other in
      let out = enclosed u.side u.proper in
      to_crossing v u (nearest_of ss p u.side out.0 out.1 out.2)
