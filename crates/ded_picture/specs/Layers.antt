-- The parts of each colour, and the lines of their sides.
use Rattle.std.specs.Prelude.{◌≡◌, ℕ, ◌+◌, zero, suc, List, [], ◌∷◌, ◌++◌, replicate}
use Rattle.ded_layers.specs.declared.part.Part.{Part}
use Rattle.ded_polygon.specs.Plane.{In}
use Rattle.ded_polygon.specs.Windows.{Frame}
use Rattle.ded_layers.specs.Layers.{AreLines, ArePartsWithin, pieces_of}
use Rattle.ded_strokes.specs.declared.parting.Stretch.{Stretch}
use Rattle.ded_svg.specs.declared.picture.ColouredLine.{ColouredLine}
use Rattle.ded_picture.specs.declared.parts.Shown.{Shown}
use Rattle.ded_picture.specs.declared.sheet.Sheet.{Sheet}
use Rattle.ded_picture.specs.Sheets.{strokes_of}

-- with a part at the end of the layer of this colour, if there is one
abbrev pub put_in : List (List Part) → ℕ → Part → List (List Part)
put_in [] n part = []
put_in (layer ∷ layers) zero part = (layer ++ part ∷ []) ∷ layers
put_in (layer ∷ layers) (suc n) part = layer ∷ put_in layers n part

-- with each part in the layer of its colour, in order
abbrev pub put_all : List (List Part) → List Shown → List (List Part)
put_all layers [] = layers
put_all layers (s ∷ ss) = put_all (put_in layers s.colour s.part) ss

-- the parts of each of so many colours, in order
abbrev pub layers_of : ℕ → List Shown → List (List Part)
layers_of n ss = put_all (replicate n []) ss

-- the lines of the sides of each layer, drawn in its colour, where the first layer has this colour
abbrev pub AreStrokes : Sheet → ℕ → List (List Part) → List ColouredLine → Type 0
AreStrokes sheet colour [] strokes = strokes ≡ []
AreStrokes sheet colour (layer ∷ layers) strokes =
    (lines : List Stretch) × (more : List ColouredLine) × AreLines (pieces_of layer) layer lines × (strokes ≡ strokes_of sheet colour lines ++ more) × AreStrokes sheet (colour + 1) layers more

-- the corners of all parts of layers lie in the window
abbrev pub AreLayersWithin : Frame → List (List Part) → Type 0
AreLayersWithin w layers = (layer : List Part) → In layer layers → ArePartsWithin w layer

-- the strokes of layers stand behind the old ones
pub record AddStrokes (sheet : Sheet) (colour : ℕ) (layers : List (List Part)) (old new : List ColouredLine) : Type 0 where
  pub added : List ColouredLine
  pub strokes : AreStrokes sheet colour layers added
  pub is : new ≡ old ++ added
