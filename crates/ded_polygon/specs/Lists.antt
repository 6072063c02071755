-- Lists of spots that are found one after another and then arranged.
use Rattle.std.specs.Prelude.{ℕ, ◌+◌, ◌<◌, pos, ◌<ℤ◌, List, length, get_or, nat_eq, if◌then◌else◌}
use Rattle.ded_polygon.specs.Plane.{HalfPlane, Spot, IsSameSpot, bend, crossing}
use Rattle.ded_polygon.specs.Vertices.{LiesIn, IsVertex, IsEdge}

-- what a place behind the end of a list of spots is read as
abbrev pub origin : Spot
origin = record { x = pos 0; y = pos 0; den = pos 1 }

-- and behind that of a list of half planes
abbrev pub whole_plane : HalfPlane
whole_plane = record { a = pos 0; b = pos 0; c = pos 0 }

-- the spot at a place of the list
abbrev pub spot_in : List Spot → ℕ → Spot
spot_in ps k = get_or ps k origin

-- the half plane at a place of the list
abbrev pub side_in : List HalfPlane → ℕ → HalfPlane
side_in ss k = get_or ss k whole_plane

-- no two are the same point
abbrev pub AreDifferent : List Spot → Type 0
AreDifferent ps = (j k : ℕ) → j < k → k < length ps → IsSameSpot (spot_in ps j) (spot_in ps k) → ⊥

-- different vertices
pub record AreVertices (ss : List HalfPlane) (ps : List Spot) : Type 0 where
  pub vertex : (k : ℕ) → k < length ps → IsVertex ss (spot_in ps k)
  pub differ : AreDifferent ps

-- the list has the spot
abbrev pub Has : List Spot → Spot → Type 0
Has ps p = (k : ℕ) × (k < length ps) × IsSameSpot p (spot_in ps k)

-- the new list has different vertices, and what the old one has
pub record Grows (ss : List HalfPlane) (old new : List Spot) : Type 0 where
  pub vertices : AreVertices ss new
  pub keeps : (p : Spot) → Has old p → Has new p

-- the list has where two borders cross, if that lies in all half planes
abbrev pub HasCrossing : List HalfPlane → List Spot → HalfPlane → HalfPlane → Type 0
HasCrossing ss ps s t = pos 0 <ℤ bend s t → LiesIn ss (crossing s t) → Has ps (crossing s t)

-- each vertex once
pub record AreAllVertices (ss : List HalfPlane) (ps : List Spot) : Type 0 where
  pub vertices : AreVertices ss ps
  pub all : (p : Spot) → IsVertex ss p → Has ps p

-- the place after the place k of n, the first one after the last
abbrev pub after : ℕ → ℕ → ℕ
after n k = if nat_eq (k + 1) n then 0 else k + 1

-- each of two spots or more leads to the next by an edge, and the last to the first
abbrev pub AreJoined : List HalfPlane → List Spot → Type 0
AreJoined ss ps = 1 < length ps → (k : ℕ) → k < length ps → IsEdge ss (spot_in ps k) (spot_in ps (after (length ps) k))
