-- The steps of arranging a list of vertices.
use Rattle.std.proofs.Common.{◌≡◌, ℕ, suc, ◌+◌, ◌-◌, ◌<◌, ◌≤◌, Bool, true, false, cond, List, length, ◌⊎◌, inl, inr, refl, ap, ◌∙◌, sym, subst, arith, nat_eq}
use Rattle.std.specs.Prelude.{swap}
use Rattle.std.proofs.lemmas.Bool.Decides.{nat_tests}
use Rattle.std.proofs.lemmas.List.Edits.{Swapped, swapped_from_swap, length-swap}
use Rattle.ded_polygon.specs.Plane.{HalfPlane, Spot}
use Rattle.ded_polygon.specs.Vertices.{IsEdge, IsEnclosed}
use Rattle.ded_polygon.specs.Lists.{origin, spot_in, AreAllVertices, AreJoined}
use Rattle.ded_polygon.proofs.Arranged.{AreAll, goes_on, comes_back}
use Rattle.ded_polygon.proofs.Swapping.{all_swapped, edge_stays, edge_comes}

-- as far as the place, edges lead from each spot to the next
abbrev pub LeadTo : List HalfPlane → List Spot → ℕ → Type 0
LeadTo ss ps place = (k : ℕ) → k + 1 < place → IsEdge ss (spot_in ps k) (spot_in ps (k + 1))

-- by places, and back
by_place : (ss : List HalfPlane) (ps : List Spot) → AreAllVertices ss ps → AreAll ss (spot_in ps) (length ps)
by_place ss ps are = record { vertex = are.vertices.vertex; differ = are.vertices.differ; all = are.all }

from_place : (ss : List HalfPlane) (ps : List Spot) → AreAll ss (spot_in ps) (length ps) → AreAllVertices ss ps
from_place ss ps are = record { vertices = record { vertex = are.vertex; differ = are.differ }; all = are.all }

-- a step as the lemmas on places write it
by_suc : (ss : List HalfPlane) (ps : List Spot) (place : ℕ) → LeadTo ss ps place → (k : ℕ) → k < place - 1 → IsEdge ss (spot_in ps k) (spot_in ps (suc k))
by_suc ss ps place lead k h = let e : k + 1 ≡ suc k = omega arith in subst (λ i. IsEdge ss (spot_in ps k) (spot_in ps i)) e (lead k (omega arith))

-- some spot from the place on is next, where each direction leads out of some half plane
pub some_next : (ss : List HalfPlane) (ps : List Spot) (place : ℕ) → IsEnclosed ss → AreAllVertices ss ps → 0 < place → place < length ps → LeadTo ss ps place
    → ((k : ℕ) → place ≤ k → k < length ps → IsEdge ss (spot_in ps (place - 1)) (spot_in ps k) → ⊥) → ⊥
some_next ss ps place enclosed are some small lead none =
    goes_on ss (spot_in ps) (length ps) (place - 1) enclosed (by_place ss ps are) (omega arith) (omega arith) (by_suc ss ps place lead) (omega arith)
    (λ k l h e. none k (omega arith) h e)

-- the one that is next comes to the place
pub all_after_swap : (ss : List HalfPlane) (ps qs : List Spot) (a b : ℕ) → a < length ps → b < length ps → qs ≡ swap ps a b → AreAllVertices ss ps → AreAllVertices ss qs
all_after_swap ss ps qs a b la lb e are =
    let n : length qs ≡ length ps = ap length e ∙ length-swap ps a b in
    from_place ss qs
    (subst (AreAll ss (spot_in qs)) (sym n) (all_swapped ss (spot_in ps) (spot_in qs) (length ps) a b la lb (swapped_from_swap ps qs a b origin la lb e) (by_place ss ps are)))

pub lead_after_swap : (ss : List HalfPlane) (ps qs : List Spot) (a b : ℕ) → 0 < a → a ≤ b → b < length ps → qs ≡ swap ps a b → LeadTo ss ps a
    → IsEdge ss (spot_in ps (a - 1)) (spot_in ps b) → LeadTo ss qs (a + 1)
lead_after_swap ss ps qs a b some le lb e lead edge k h = by_order (order (k + 1) a)
  where
    la : a < length ps
    la = omega arith

    swapped : Swapped (spot_in ps) (spot_in qs) a b
    swapped = swapped_from_swap ps qs a b origin la lb e

    order : (j k : ℕ) → (j < k) ⊎ (k ≤ j)
    order j k = grind arith

    by_order : (k + 1 < a) ⊎ (a ≤ k + 1) → IsEdge ss (spot_in qs k) (spot_in qs (k + 1))
    by_order (inl l) = edge_stays ss (spot_in ps) (spot_in qs) (length ps) a b la lb swapped k (k + 1) (omega arith) l le (lead k l)
    by_order (inr l) =
        let i : a - 1 ≡ k = omega arith in
        let j : a ≡ k + 1 = omega arith in
        subst (λ p. IsEdge ss (spot_in qs k) (spot_in qs p)) j
        (edge_comes ss (spot_in ps) (spot_in qs) (length ps) a b la lb swapped k (omega arith) le (subst (λ p. IsEdge ss (spot_in ps p) (spot_in ps b)) i edge))

-- where all are arranged, each leads to the next, and the last to the first
pub all_joined : (ss : List HalfPlane) (ps : List Spot) (place : ℕ) → IsEnclosed ss → AreAllVertices ss ps → length ps ≤ place → LeadTo ss ps place → AreJoined ss ps
all_joined ss ps place enclosed are past lead more k small = by_test (nat_eq (k + 1) (length ps)) refl
  where
    by_test : (b : Bool) → nat_eq (k + 1) (length ps) ≡ b → IsEdge ss (spot_in ps k) (spot_in ps (cond b 0 (k + 1)))
    by_test true e =
        let last : k + 1 ≡ length ps = grind (arith, nat_tests) in
        comes_back ss (spot_in ps) (length ps) k enclosed (by_place ss ps are) small more
        (λ j h. let i : j + 1 ≡ suc j = omega arith in subst (λ i. IsEdge ss (spot_in ps j) (spot_in ps i)) i (lead j (omega arith)))
        (omega arith)
    by_test false e = let h : (k + 1 ≡ length ps) → ⊥ = grind (arith, nat_tests) in lead k (omega (arith, h))
