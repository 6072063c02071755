-- Sides that are cut into stretches, and the lines that these are drawn by.
use Rattle.std.specs.Prelude.{◌≡◌, ◌⊎◌, pos, ◌<ℤ◌, int_lt, ◌&&◌, ℤ, Bool, true, false, not, List, [], ◌∷◌, ◌++◌, if◌then◌else◌}
use Rattle.std.specs.List.{list_any}
use Rattle.std.specs.Ordering.{int_eq}
use Rattle.ded_model.specs.declared.row.RowOp.{RowOp}
use Rattle.ded_model.specs.declared.row.RowOp.TheVariants.{Zero, AtMost, Below}
use Rattle.ded_polygon.specs.Plane.{HalfPlane, Spot, In, level}
use Rattle.ded_strokes.specs.Bounds.{PlaneLimit}
use Rattle.ded_strokes.specs.Near.{Direction}
use Rattle.ded_strokes.specs.Strokes.{HaveStroke, parts_levels, first_level}
use Rattle.ded_strokes.specs.Cuts.{LiesBetween}
use Rattle.ded_strokes.specs.declared.stretch.Stroke.{Stroke}
use Rattle.ded_strokes.specs.declared.stretch.Stroke.TheVariants.{Seam, Solid, Dashed}
use Rattle.ded_strokes.specs.declared.parting.Stretch.{Stretch}

-- ---- stretches

-- how a way is cut: not at all, or at a spot, with the ways up to it and from it on cut in turn
pub data Cutting : Type 0 where
  whole : Cutting
  at : Cutting → Spot → Cutting → Cutting

-- the stretch leads from the one spot to the other, and tells how each point between them is drawn
pub record IsStretch (pieces : List (List PlaneLimit)) (w : Direction) (p q : Spot) (s : Stretch) : Type 0 where
  pub begins : s.from ≡ p
  pub ends : s.to ≡ q
  pub drawn : HaveStroke pieces w p q s.stroke

-- the way between the two spots is cut like this, and these are the stretches of its parts, in order
abbrev pub AreStretches : List (List PlaneLimit) → Direction → Cutting → Spot → Spot → List Stretch → Type 0
AreStretches pieces w whole p q ss = (s : Stretch) × (ss ≡ s ∷ []) × IsStretch pieces w p q s
AreStretches pieces w (at l c r) p q ss =
    (pos 0 <ℤ c.den) × LiesBetween p q c × (front : List Stretch) × (back : List Stretch) × (ss ≡ front ++ back) × AreStretches pieces w l p c front × AreStretches pieces w r c q back

-- the way between the two spots is cut in some way, and these are the stretches of its parts
pub record AreCut (pieces : List (List PlaneLimit)) (w : Direction) (p q : Spot) (ss : List Stretch) : Type 0 where
  pub cutting : Cutting
  pub stretches : AreStretches pieces w cutting p q ss

-- the new list has such stretches more than the old one
pub record AddsCut (pieces : List (List PlaneLimit)) (w : Direction) (p q : Spot) (old new : List Stretch) : Type 0 where
  pub added : List Stretch
  pub cut : AreCut pieces w p q added
  pub is : new ≡ old ++ added

-- a coefficient is not 0
abbrev pub IsProper : HalfPlane → Type 0
IsProper s = s.a ≡ pos 0 → s.b ≡ pos 0 → ⊥

-- ---- lines

-- whether the two strokes are the same
abbrev pub same_stroke : Stroke → Stroke → Bool
same_stroke Seam Seam = true
same_stroke Solid Solid = true
same_stroke Dashed Dashed = true
same_stroke Seam Solid = false
same_stroke Seam Dashed = false
same_stroke Solid Seam = false
same_stroke Solid Dashed = false
same_stroke Dashed Seam = false
same_stroke Dashed Solid = false

-- the line of a stretch: a seam is none
abbrev pub line_of : Stretch → List Stretch
line_of s = if same_stroke s.stroke Seam then [] else s ∷ []

-- the first stretch up to the end of the second one
abbrev pub joined : Stretch → Stretch → Stretch
joined s t = record { from = s.from; to = t.to; stroke = s.stroke }

-- the lines of a stretch and of those that follow: neighbours that are drawn alike are one line
abbrev pub lines_from : Stretch → List Stretch → List Stretch
lines_from s [] = line_of s
lines_from s (t ∷ ss) = if same_stroke s.stroke t.stroke then lines_from (joined s t) ss else line_of s ++ lines_from t ss

-- the lines of stretches that follow each other, in order; none of the empty list
abbrev pub lines_of : List Stretch → List Stretch
lines_of [] = []
lines_of (s ∷ ss) = lines_from s ss

-- ---- pieces out of the way

-- a level with this sign is out of reach of the op, even on the border
abbrev pub is_off : RowOp → ℤ → Bool
is_off Zero z = not (int_eq z (pos 0))
is_off AtMost z = int_lt (pos 0) z
is_off Below z = int_lt (pos 0) z

-- some limit of the piece is off at the spot, so that neither the spot nor what is near it is in the piece
abbrev pub is_idle : List PlaneLimit → Spot → Bool
is_idle bs m = list_any (λ b. is_off b.op (level b.plane m)) bs

-- it is so at each point between the two spots
abbrev pub IsIdle : Spot → Spot → List PlaneLimit → Type 0
IsIdle p q bs = (m : Spot) → pos 0 <ℤ m.den → LiesBetween p q m → is_idle bs m ≡ true

-- the few are some of the pieces, and all others are idle between the two spots
pub record AreEnough (p q : Spot) (few pieces : List (List PlaneLimit)) : Type 0 where
  pub some : (bs : List PlaneLimit) → In bs few → In bs pieces
  pub others : (bs : List PlaneLimit) → In bs pieces → IsIdle p q bs ⊎ In bs few

-- ---- how it is told

-- one limit is off at all points between the two spots
abbrev pub keeps_off : RowOp → ℤ → ℤ → Bool
keeps_off op z y = not (parts_levels z y) && is_off op (first_level z y)

-- some limit of the piece is off at all points between the two spots, so that the piece is idle there
abbrev pub misses : Spot → Spot → List PlaneLimit → Bool
misses p q bs = list_any (λ b. keeps_off b.op (level b.plane p) (level b.plane q)) bs

-- the limits whose borders are crossed between the two spots
abbrev pub crossed : Spot → Spot → List PlaneLimit → List PlaneLimit
crossed p q [] = []
crossed p q (b ∷ bs) = if parts_levels (level b.plane p) (level b.plane q) then b ∷ crossed p q bs else crossed p q bs

-- the limits of all pieces whose borders are crossed between the two spots, piece after piece
abbrev pub all_crossed : Spot → Spot → List (List PlaneLimit) → List PlaneLimit
all_crossed p q [] = []
all_crossed p q (bs ∷ pieces) = crossed p q bs ++ all_crossed p q pieces

-- the pieces that do not miss the way between the two spots
abbrev pub near_pieces : Spot → Spot → List (List PlaneLimit) → List (List PlaneLimit)
near_pieces p q [] = []
near_pieces p q (bs ∷ pieces) = if misses p q bs then near_pieces p q pieces else bs ∷ near_pieces p q pieces

-- each of the borders is crossed between the two spots, and each border of the pieces that is crossed there is one of them
pub record AreBorders (pieces : List (List PlaneLimit)) (p q : Spot) (borders : List PlaneLimit) : Type 0 where
  pub crossed : (b : PlaneLimit) → In b borders → parts_levels (level b.plane p) (level b.plane q) ≡ true
  pub all : (bs : List PlaneLimit) → In bs pieces → (b : PlaneLimit) → In b bs → parts_levels (level b.plane p) (level b.plane q) ≡ true → In b borders
