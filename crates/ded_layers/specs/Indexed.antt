-- Ranges in which pieces have their points, and the index of them.
use Rattle.std.specs.Prelude.{◌≡◌, ℕ, zero, suc, ◌<◌, ◌^◌, ℤ, pos, ◌*ℤ◌, ◌<ℤ◌, ◌≤ℤ◌, unsigned_abs, true, false, List, [], ◌∷◌, ◌++◌, length, get_or, nat_lt, if◌then◌else◌}
use Rattle.ded_model.specs.declared.row.RowOp.{RowOp}
use Rattle.ded_model.specs.declared.row.RowOp.TheVariants.{Zero, AtMost, Below}
use Rattle.ded_model.proofs.Lists.{Some}
use Rattle.ded_polygon.specs.Plane.{HalfPlane, Spot, In, level, bend}
use Rattle.ded_polygon.specs.Rows.{opposite}
use Rattle.ded_polygon.specs.Lists.{spot_in}
use Rattle.ded_polygon.specs.Vertices.{LiesIn}
use Rattle.ded_polygon.specs.Windows.{Frame, window_planes}
use Rattle.ded_strokes.specs.Bounds.{PlaneLimit}
use Rattle.ded_strokes.specs.Cuts.{LiesBetween}
use Rattle.ded_strokes.specs.Stretches.{is_idle}
use Rattle.ded_ranges.specs.declared.reach.Range.{Range}
use Rattle.ded_ranges.specs.declared.limit.Limit.{Limit as Bound}
use Rattle.ded_hull.specs.declared.entry.ReachEntry.{ReachEntry}
use Rattle.ded_ranges.specs.Reaches.{Lies}
use Rattle.ded_ranges.specs.Limits.{are_met}
use Rattle.ded_layers.specs.declared.part.Part.{Part}
use Rattle.ded_layers.specs.Layers.{pieces_of}

-- ---- half planes with their borders

-- those of a limit by the op
abbrev pub closed : RowOp → HalfPlane → List PlaneLimit
closed Zero s = record { plane = s; op = AtMost } ∷ record { plane = opposite s; op = AtMost } ∷ []
closed AtMost s = record { plane = s; op = AtMost } ∷ []
closed Below s = record { plane = s; op = AtMost } ∷ []

-- those of a piece
abbrev pub closed_of : List PlaneLimit → List PlaneLimit
closed_of [] = []
closed_of (b ∷ bs) = closed b.op b.plane ++ closed_of bs

-- the spot lies in all of them
abbrev pub LiesInAll : List PlaneLimit → Spot → Type 0
LiesInAll planes m = (b : PlaneLimit) → In b planes → level b.plane m ≤ℤ pos 0

-- no spot in all of the half planes is farther out of another one
pub record IsUtmost (planes : List PlaneLimit) (out : HalfPlane) (c : Spot) : Type 0 where
  pub positive : pos 0 <ℤ c.den
  pub utmost : (m : Spot) → pos 0 <ℤ m.den → LiesInAll planes m → (level out m *ℤ c.den) ≤ℤ (level out c *ℤ m.den)

-- the second border goes through the spot, and the way out of another half plane is no farther left than that out of the second one
pub record Spans (first second : HalfPlane) (c : Spot) (out : HalfPlane) : Type 0 where
  pub left : pos 0 ≤ℤ bend out second
  pub apart : pos 0 <ℤ bend first second
  pub through : level second c ≡ pos 0

-- ---- ranges

-- the numerators of a spot at two places
abbrev pub coordinates : Spot → ℕ → ℤ
coordinates m zero = m.x
coordinates m (suc zero) = m.y
coordinates m (suc (suc p)) = pos 0

-- each spot in the window at which the piece is not idle lies in the ranges
abbrev pub IsReachOf : Frame → List PlaneLimit → List Range → Type 0
IsReachOf w bs r = (m : Spot) → pos 0 <ℤ m.den → LiesIn (window_planes w) m → is_idle bs m ≡ false → Lies r (coordinates m) (unsigned_abs m.den)

-- all spots of the list lie in the ranges
abbrev pub LieIn : List Range → List Spot → Type 0
LieIn r cs = (c : Spot) → In c cs → (pos 0 <ℤ c.den) × Lies r (coordinates c) (unsigned_abs c.den)

-- each spot between two of the corners meets the limits
abbrev pub MeetBetween : List Spot → List Bound → Type 0
MeetBetween cs ls = (j k : ℕ) → j < length cs → k < length cs → (pos 0 <ℤ (spot_in cs j).den) × (pos 0 <ℤ (spot_in cs k).den)
    × ((m : Spot) → pos 0 <ℤ m.den → LiesBetween (spot_in cs j) (spot_in cs k) m → are_met (coordinates m) (unsigned_abs m.den) ls ≡ true)

-- ---- the index

-- the entry is that of the piece at a place
abbrev pub IsEntryOf : Frame → List (List PlaneLimit) → ℕ → ReachEntry → Type 0
IsEntryOf w pieces k e = (e.id ≡ k) × IsReachOf w (get_or pieces k []) e.reach

-- each piece whose place is a number of 32 bits has an entry
abbrev pub IsIndex : Frame → List Part → List ReachEntry → Type 0
IsIndex w parts es = (k : ℕ) → k < length parts → k < 2 ^ 32 → Some (IsEntryOf w (pieces_of parts) k) es

-- the piece at a place, if there is one
abbrev pub piece_at : List (List PlaneLimit) → ℕ → List (List PlaneLimit)
piece_at pieces k = if nat_lt k (length pieces) then get_or pieces k [] ∷ [] else []

-- the pieces at places
abbrev pub pieces_at : List (List PlaneLimit) → List ℕ → List (List PlaneLimit)
pieces_at pieces [] = []
pieces_at pieces (k ∷ ks) = piece_at pieces k ++ pieces_at pieces ks
