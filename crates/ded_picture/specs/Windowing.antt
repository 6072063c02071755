-- What is seen of the plane.
use Rattle.std.specs.Prelude.{◌≡◌, ◌⊎◌, List, [], ◌∷◌, ◌++◌, Option, None, Some}
use Rattle.ded_axes.specs.Around.{frame_around}
use Rattle.ded_polygon.specs.Corners.{AreCorners}
use Rattle.ded_polygon.specs.Plane.{Spot}
use Rattle.ded_polygon.specs.Windows.{Frame}
use Rattle.ded_figures.specs.Figure.{Figure}
use Rattle.ded_figures.specs.declared.sight.Sight.{Sight}
use Rattle.ded_figures.specs.declared.sight.Sight.TheVariants.{Nowhere, Wide, Seen}
use Rattle.ded_picture.specs.Parts.{IsTooLong}

-- the corners of a figure, or none of one that is too long
abbrev pub AreCornersOf : Figure → List Spot → Type 0
AreCornersOf f cs = AreCorners f.axes.x f.axes.y f.rows cs ⊎ (IsTooLong f × (cs ≡ []))

-- those of each figure, in order
abbrev pub AreCornersIn : List Sight → List Spot → Type 0
AreCornersIn [] cs = cs ≡ []
AreCornersIn (Nowhere ∷ ss) cs = AreCornersIn ss cs
AreCornersIn (Wide ∷ ss) cs = AreCornersIn ss cs
AreCornersIn (Seen f ∷ ss) cs = (front : List Spot) × (back : List Spot) × (cs ≡ front ++ back) × AreCornersOf f front × AreCornersIn ss back

-- those of one more stand behind the old ones
pub record AddsCorners (f : Figure) (old new : List Spot) : Type 0 where
  pub added : List Spot
  pub corners : AreCornersOf f added
  pub is : new ≡ old ++ added

-- those of a figure, where there is one
abbrev pub AddsFor : Sight → List Spot → List Spot → Type 0
AddsFor Nowhere old new = new ≡ old
AddsFor Wide old new = new ≡ old
AddsFor (Seen f) old new = AddsCorners f old new

-- the window around all corners
pub record IsAround (ss : List Sight) (w : Frame) : Type 0 where
  pub found : List Spot
  pub corners : AreCornersIn ss found
  pub around : w ≡ frame_around found

-- the window that is asked for, or the one around all corners where none is
abbrev pub IsWindow : Option Frame → List Sight → Frame → Type 0
IsWindow None ss w = IsAround ss w
IsWindow (Some asked) ss w = w ≡ asked
