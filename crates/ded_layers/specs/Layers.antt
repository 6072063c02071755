-- Layers: parts of one colour, and the lines of their sides.
use Rattle.std.specs.Prelude.{◌≡◌, ◌⊎◌, ℕ, zero, suc, ◌<◌, ◌≤◌, pos, List, [], ◌∷◌, ◌++◌, length, map}
use Rattle.ded_polygon.specs.Plane.{Spot, In, level}
use Rattle.ded_polygon.specs.Lists.{spot_in, after}
use Rattle.ded_polygon.specs.Vertices.{LiesIn}
use Rattle.ded_polygon.specs.Windows.{Frame, window_planes}
use Rattle.ded_strokes.specs.Bounds.{PlaneLimit}
use Rattle.ded_strokes.specs.Near.{outward}
use Rattle.ded_strokes.specs.Stretches.{IsProper, AreCut, AreEnough, lines_of}
use Rattle.ded_strokes.specs.declared.parting.Stretch.{Stretch}
use Rattle.ded_layers.specs.declared.part.Part.{Part}

-- ---- parts

-- the pieces of parts
abbrev pub pieces_of : List Part → List (List PlaneLimit)
pieces_of parts = map (λ (t : Part). t.piece) parts

-- each corner lies in the half planes of the window
abbrev pub AreCornersWithin : Frame → List Spot → Type 0
AreCornersWithin w cs = (k : ℕ) → k < length cs → LiesIn (window_planes w) (spot_in cs k)

-- so do those of each part
abbrev pub ArePartsWithin : Frame → List Part → Type 0
ArePartsWithin w parts = (t : Part) → In t parts → AreCornersWithin w t.corners.items

-- ---- sides

-- the border of the limit is a line through both spots
pub record RunsThrough (p q : Spot) (b : PlaneLimit) : Type 0 where
  pub proper : IsProper b.plane
  pub begins : level b.plane p ≡ pos 0
  pub ends : level b.plane q ≡ pos 0

-- the limit is one of the piece, and its border is a line through both spots
pub record IsBorder (own : List PlaneLimit) (p q : Spot) (b : PlaneLimit) : Type 0 where
  pub among : In b own
  pub runs : RunsThrough p q b

-- no border of the own piece runs along the side, which is one of the window alone, and it has no lines
pub record IsBare (own : List PlaneLimit) (p q : Spot) (ls : List Stretch) : Type 0 where
  pub bare : (b : PlaneLimit) → IsBorder own p q b → ⊥
  pub none : ls ≡ []

-- a border of the own piece runs along the side, which is cut into stretches that are drawn alike among all pieces: its lines are theirs
pub record IsDrawn (pieces : List (List PlaneLimit)) (own : List PlaneLimit) (p q : Spot) (ls : List Stretch) : Type 0 where
  pub side : PlaneLimit
  pub border : IsBorder own p q side
  pub stretches : List Stretch
  pub cut : AreCut pieces (outward side.plane) p q stretches
  pub lines : ls ≡ lines_of stretches

-- the lines of a side
abbrev pub AreSideLines : List (List PlaneLimit) → List PlaneLimit → Spot → Spot → List Stretch → Type 0
AreSideLines pieces own p q ls = IsBare own p q ls ⊎ IsDrawn pieces own p q ls

-- the lines of so many first sides, each from a corner to the next one
abbrev pub AreFirstLines : List (List PlaneLimit) → List PlaneLimit → List Spot → ℕ → List Stretch → Type 0
AreFirstLines pieces own cs zero ls = ls ≡ []
AreFirstLines pieces own cs (suc k) ls =
    (front : List Stretch) × (last : List Stretch) × (ls ≡ front ++ last) × AreFirstLines pieces own cs k front
    × AreSideLines pieces own (spot_in cs k) (spot_in cs (after (length cs) k)) last

-- ---- layers

-- the lines of a part: those of all its sides where it has three corners or more, else none
pub record ArePartLines (pieces : List (List PlaneLimit)) (t : Part) (ls : List Stretch) : Type 0 where
  pub sides : 2 < length t.corners.items → AreFirstLines pieces t.piece t.corners.items (length t.corners.items) ls
  pub none : length t.corners.items ≤ 2 → ls ≡ []

-- the lines of parts in order, among these pieces
abbrev pub AreLines : List (List PlaneLimit) → List Part → List Stretch → Type 0
AreLines pieces [] ls = ls ≡ []
AreLines pieces (t ∷ ts) ls = (front : List Stretch) × (back : List Stretch) × (ls ≡ front ++ back) × ArePartLines pieces t front × AreLines pieces ts back

-- ---- how they are told

-- the new list has such lines more than the old one
abbrev pub Adds : (List Stretch → Type 0) → List Stretch → List Stretch → Type 0
Adds P old new = (ls : List Stretch) × (new ≡ old ++ ls) × P ls

-- between each two of the spots all pieces but the near ones are idle
abbrev pub AreAllEnough : List Spot → List (List PlaneLimit) → List (List PlaneLimit) → Type 0
AreAllEnough cs near pieces = (j k : ℕ) → j < length cs → k < length cs → AreEnough (spot_in cs j) (spot_in cs k) near pieces
