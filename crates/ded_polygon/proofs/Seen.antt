-- What a look through the half planes tells of all of them.
use Rattle.std.proofs.Common.{◌≡◌, ℕ, ◌<◌, ◌≤◌, List, length, subst, sym, arith}
use Rattle.std.specs.Prelude.{pos, ◌<ℤ◌, ◌≤ℤ◌}
use Rattle.ded_polygon.specs.Plane.{HalfPlane, Spot, In, level, bend}
use Rattle.ded_polygon.specs.Vertices.{LiesIn, IsStop, IsEdge}
use Rattle.ded_polygon.specs.Lists.{side_in, whole_plane}
use Rattle.ded_polygon.proofs.Places.{place_in}

module _ (ss : List HalfPlane) (n : ℕ) (all : length ss ≤ n) where
  -- a spot that none excludes
  pub none_excludes : (p : Spot) → ((k : ℕ) → k < n → level (side_in ss k) p ≤ℤ pos 0) → LiesIn ss p
  none_excludes p h t i = let a = place_in ss t whole_plane i in subst (λ s. level s p ≤ℤ pos 0) a.2 (h a.0 (let l = a.1 in omega arith))

  -- none that stops the way
  pub none_stops : (side : HalfPlane) (p q : Spot) → ((k : ℕ) → k < n → level (side_in ss k) p <ℤ pos 0 → level (side_in ss k) q ≡ pos 0 → pos 0 <ℤ bend side (side_in ss k) → ⊥)
      → IsStop ss side p q → ⊥
  none_stops side p q h s =
      let a = place_in ss s.stop whole_plane s.stop_in in
      h a.0 (let l = a.1 in omega arith)
      (subst (λ t. level t p <ℤ pos 0) (sym a.2) s.before)
      (subst (λ t. level t q ≡ pos 0) (sym a.2) s.reached)
      (subst (λ t. pos 0 <ℤ bend side t) (sym a.2) s.leaves)

  -- none along which an edge leads
  pub none_leads : (p q : Spot) → ((k : ℕ) → k < n → level (side_in ss k) p ≡ pos 0 → level (side_in ss k) q ≡ pos 0 → IsStop ss (side_in ss k) p q → ⊥) → IsEdge ss p q → ⊥
  none_leads p q h e =
      let a = place_in ss e.side whole_plane e.side_in in
      h a.0 (let l = a.1 in omega arith)
      (subst (λ t. level t p ≡ pos 0) (sym a.2) e.begins)
      (subst (λ t. level t q ≡ pos 0) (sym a.2) e.ends)
      (subst (λ t. IsStop ss t p q) (sym a.2) (record { stop = e.stop; stop_in = e.stop_in; before = e.before; reached = e.reached; leaves = e.leaves }))

-- an edge, by where it leads along and what stops it
pub edge_along : (ss : List HalfPlane) (s : HalfPlane) (p q : Spot) → In s ss → level s p ≡ pos 0 → level s q ≡ pos 0 → IsStop ss s p q → IsEdge ss p q
edge_along ss s p q i begins ends h = record {
  side = s;
  side_in = i;
  begins = begins;
  ends = ends;
  stop = h.stop;
  stop_in = h.stop_in;
  before = h.before;
  reached = h.reached;
  leaves = h.leaves;
}
