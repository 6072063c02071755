-- Vertices that are arranged: as far as each leads to the next by an edge, some vertex behind is the one to go on with, and
-- where all are arranged, the last leads to the first.
use Rattle.std.proofs.Common.{◌≡◌, ℕ, zero, suc, ◌<◌, ◌≤◌, List, ◌⊎◌, inl, inr, refl, sym, subst, arith}
use Rattle.ded_num.proofs.Lengths.{below_or}
use Rattle.ded_polygon.specs.Plane.{HalfPlane, Spot, IsSameSpot}
use Rattle.ded_polygon.specs.Vertices.{IsVertex, IsEdge, IsEnclosed}
use Rattle.ded_polygon.proofs.Leaving.{leaves}
use Rattle.ded_polygon.proofs.Edges.{one_before, edge_same}
use Rattle.ded_polygon.proofs.Around.{none_past}

-- n different vertices, and all of them
pub record AreAll (ss : List HalfPlane) (f : ℕ → Spot) (n : ℕ) : Type 0 where
  pub vertex : (k : ℕ) → k < n → IsVertex ss (f k)
  pub differ : (j k : ℕ) → j < k → k < n → IsSameSpot (f j) (f k) → ⊥
  pub all : (p : Spot) → IsVertex ss p → (k : ℕ) × (k < n) × IsSameSpot p (f k)

-- a number is 0 or follows one
from : (k : ℕ) → (k ≡ 0) ⊎ ((j : ℕ) × (k ≡ suc j))
from zero = inl refl
from (suc j) = inr (j, refl)

module _ (ss : List HalfPlane) (f : ℕ → Spot) (n m : ℕ) (enclosed : IsEnclosed ss) (are : AreAll ss f n) (small : m < n) (more : 1 < n)
    (edge : (k : ℕ) → k < m → IsEdge ss (f k) (f (suc k))) where
  -- another vertex than the one at m
  away : (i : ℕ) → i < n → (i < m) ⊎ (m < i) → (IsSameSpot (f m) (f i) → ⊥)
  away i h (inl l) s = are.differ i m l small (record { x = sym s.x; y = sym s.y })
  away i h (inr l) s = are.differ m i l h s

  other : (m ≡ 0) ⊎ ((j : ℕ) × (m ≡ suc j)) → (i : ℕ) × (i < n) × ((i < m) ⊎ (m < i))
  other (inl e) = (1, more, inr (omega arith))
  other (inr (j, e)) = (0, omega arith, inl (omega arith))

  -- some vertex is the next
  pub next_of : (k : ℕ) × (k < n) × IsEdge ss (f m) (f k)
  next_of =
      let o = other (from m) in
      let l = leaves ss (f m) (f o.0) enclosed (are.vertex m small) (are.vertex o.0 o.1).inside (away o.0 o.1 o.2) in
      let a = are.all l.to l.vertex in
      (a.0, a.1, edge_same ss (f m) l.to (f a.0) l.vertex.positive a.2 l.edge)

  -- which is none of those that follow another one
  pub not_inside : (k : ℕ) → suc k ≤ m → IsEdge ss (f m) (f (suc k)) → ⊥
  not_inside k h e =
      one_before ss (f k) (f (suc k)) (f m) (are.vertex k (omega arith)) (are.vertex (suc k) (omega arith)) (are.vertex m small) (edge k (omega arith)) e
      (λ s. are.differ k m (omega arith) small s)

  -- nor the first, where one is left
  pub not_first : suc m < n → IsEdge ss (f m) (f 0) → ⊥
  not_first h e =
      none_past ss f m (f (suc m)) (λ k l. are.vertex k (omega arith)) (are.vertex (suc m) h) edge e (λ k l s. are.differ k (suc m) (omega arith) h s)

  -- so where one is left, the next one is among those that are left
  pub goes_on : suc m < n → ((k : ℕ) → suc m ≤ k → k < n → IsEdge ss (f m) (f k) → ⊥) → ⊥
  goes_on h none = by_place next_of.0 next_of.1 next_of.2 (from next_of.0) (below_or m next_of.0)
    where
      by_place : (k : ℕ) → k < n → IsEdge ss (f m) (f k) → (k ≡ 0) ⊎ ((j : ℕ) × (k ≡ suc j)) → (m < k) ⊎ (k ≤ m) → ⊥
      by_place k l g c (inl above) = none k (omega arith) l g
      by_place k l g (inl z) (inr most) = not_first h (subst (λ i. IsEdge ss (f m) (f i)) z g)
      by_place k l g (inr (j, z)) (inr most) = not_inside j (omega arith) (subst (λ i. IsEdge ss (f m) (f i)) z g)

  -- and where none is left, the first
  pub comes_back : n ≡ suc m → IsEdge ss (f m) (f 0)
  comes_back e = by_place next_of.0 next_of.1 next_of.2 (from next_of.0)
    where
      by_place : (k : ℕ) → k < n → IsEdge ss (f m) (f k) → (k ≡ 0) ⊎ ((j : ℕ) × (k ≡ suc j)) → IsEdge ss (f m) (f 0)
      by_place k l g (inl z) = subst (λ i. IsEdge ss (f m) (f i)) z g
      by_place k l g (inr (j, z)) = absurd (not_inside j (omega arith) (subst (λ i. IsEdge ss (f m) (f i)) z g))
