-- What is shown of figures within a window.
use Rattle.std.specs.Prelude.{◌≡◌, ◌⊎◌, ℕ, ◌+◌, List, [], ◌∷◌, ◌++◌, Option, None, Some, slice_get}
use Rattle.ded_polygon.specs.Closures.{AreInRange}
use Rattle.ded_polygon.specs.Corners.{AreCorners, GoAround}
use Rattle.ded_polygon.specs.Plane.{In}
use Rattle.ded_polygon.specs.Windows.{Frame, window_rows}
use Rattle.ded_strokes.specs.Bounds.{limits_of}
use Rattle.ded_layers.specs.Layers.{AreCornersWithin}
use Rattle.ded_layers.specs.declared.part.Part.{Part}
use Rattle.ded_figures.specs.Figure.{Figure}
use Rattle.ded_figures.specs.declared.sight.Sight.{Sight}
use Rattle.ded_figures.specs.declared.sight.Sight.TheVariants.{Nowhere, Wide, Seen}
use Rattle.ded_picture.specs.declared.parts.Shown.{Shown}

-- a number of a row is beyond the exact range of corners
abbrev pub IsTooLong : Figure → Type 0
IsTooLong f = AreInRange f.axes.x f.axes.y f.rows → ⊥

-- The part has the limits of the figure's rows, and exactly their corners together with those of the window, around counterclockwise.
pub record IsPartOf (w : Frame) (f : Figure) (part : Part) : Type 0 where
  pub piece : part.piece ≡ limits_of f.axes.x f.axes.y f.rows
  pub corners : AreCorners f.axes.x f.axes.y (f.rows ++ window_rows f.axes.x f.axes.y w) part.corners.items
  pub around : GoAround f.axes.x f.axes.y (f.rows ++ window_rows f.axes.x f.axes.y w) part.corners.items
  pub within : AreCornersWithin w part.corners.items

-- This is shown of the figure: such a part, in the colour whose number is the place of its first text, with its title.
pub record IsShown (w : Frame) (labels : List (List ℕ)) (f : Figure) (shown : Shown) : Type 0 where
  pub part : IsPartOf w f shown.part
  pub colour : slice_get labels shown.colour ≡ Some f.label
  pub title : shown.title ≡ f.title

-- it is shown, or it is too long
abbrev pub MayShow : Frame → List (List ℕ) → Figure → Option Shown → Type 0
MayShow w labels f None = IsTooLong f
MayShow w labels f (Some shown) = IsShown w labels f shown

-- what is shown of each that there is to be drawn, in order, and how many are too long
abbrev pub AreShown : Frame → List (List ℕ) → List Sight → List Shown → ℕ → Type 0
AreShown w labels [] list wide = (list ≡ []) × (wide ≡ 0)
AreShown w labels (Nowhere ∷ ss) list wide = AreShown w labels ss list wide
AreShown w labels (Wide ∷ ss) list wide = (n : ℕ) × (wide ≡ n + 1) × AreShown w labels ss list n
AreShown w labels (Seen f ∷ ss) list wide =
    ((shown : Shown) × (more : List Shown) × (list ≡ shown ∷ more) × IsShown w labels f shown × AreShown w labels ss more wide)
    ⊎ (IsTooLong f × (n : ℕ) × (wide ≡ n + 1) × AreShown w labels ss list n)

-- what is shown of one of them, or that it is too long, stands behind the old ones
pub record AddsShown (w : Frame) (labels : List (List ℕ)) (s : Sight) (old : List Shown) (before : ℕ) (new : List Shown) (wide : ℕ) : Type 0 where
  pub added : List Shown
  pub more : ℕ
  pub shown : AreShown w labels (s ∷ []) added more
  pub list : new ≡ old ++ added
  pub count : wide ≡ before + more

-- the corners of all that is shown lie in the window
abbrev pub AreAllWithin : Frame → List Shown → Type 0
AreAllWithin w list = (shown : Shown) → In shown list → AreCornersWithin w shown.part.corners.items
