-- The sheet that a picture is drawn on, and what is drawn on it.
use Rattle.std.specs.Prelude.{ℕ, List, [], ◌∷◌, ◌++◌, map, Option, None, Some}
use Rattle.ded_axes.specs.Places.{place}
use Rattle.ded_polygon.specs.Plane.{Spot}
use Rattle.ded_strokes.specs.declared.parting.Stretch.{Stretch}
use Rattle.ded_strokes.specs.declared.stretch.Stroke as drawn
use Rattle.ded_strokes.specs.declared.stretch.Stroke.TheVariants as stroke
use Rattle.ded_svg.specs.declared.picture.Line.{Line}
use Rattle.ded_svg.specs.declared.picture.Line.TheVariants.{Solid, Dashed}
use Rattle.ded_svg.specs.declared.picture.ColouredShape.{ColouredShape}
use Rattle.ded_svg.specs.declared.picture.Point.{Point}
use Rattle.ded_svg.specs.declared.picture.Shape.{Shape}
use Rattle.ded_svg.specs.declared.picture.Shape.TheVariants.{Polygon, Segment, Disc}
use Rattle.ded_svg.specs.declared.picture.ColouredLine.{ColouredLine}
use Rattle.ded_picture.specs.declared.parts.Shown.{Shown}
use Rattle.ded_picture.specs.declared.sheet.Sheet.{Sheet}

-- where a corner stands on the sheet
abbrev pub point_on : Sheet → Spot → Point
point_on sheet c = place sheet.window sheet.width sheet.height c

-- what there is, as a list
abbrev pub listed : Option Shape → List Shape
listed None = []
listed (Some s) = s ∷ []

-- the shape with these corners: nothing, a disc, a line or a polygon
abbrev pub shape_of : Sheet → List Spot → List Shape
shape_of sheet [] = []
shape_of sheet (c ∷ []) = Disc (point_on sheet c) ∷ []
shape_of sheet (c ∷ d ∷ []) = Segment (point_on sheet c) (point_on sheet d) ∷ []
shape_of sheet (c ∷ d ∷ e ∷ cs) = Polygon (map (point_on sheet) (c ∷ d ∷ e ∷ cs)) ∷ []

-- these shapes, in a colour and with a title
abbrev pub marks_with : ℕ → List ℕ → List Shape → List ColouredShape
marks_with colour title [] = []
marks_with colour title (s ∷ ss) = record { shape = s; colour = colour; title = title } ∷ marks_with colour title ss

-- the shape of a tuple, in its colour and with its title; none where it has no corners
abbrev pub mark_of : Sheet → Shown → List ColouredShape
mark_of sheet shown = marks_with shown.colour shown.title (shape_of sheet shown.part.corners.items)

-- those of all, in order
abbrev pub marks_of : Sheet → List Shown → List ColouredShape
marks_of sheet [] = []
marks_of sheet (s ∷ ss) = mark_of sheet s ++ marks_of sheet ss

-- how a stretch is drawn: what is no seam and not dashed is solid
abbrev pub line_of : drawn.Stroke → Line
line_of stroke.Seam = Solid
line_of stroke.Solid = Solid
line_of stroke.Dashed = Dashed

-- a line in a colour
abbrev pub stroke_of : Sheet → ℕ → Stretch → ColouredLine
stroke_of sheet colour s = record { start = point_on sheet s.from; end = point_on sheet s.to; line = line_of s.stroke; colour = colour }

-- those of all stretches, in order
abbrev pub strokes_of : Sheet → ℕ → List Stretch → List ColouredLine
strokes_of sheet colour ss = map (stroke_of sheet colour) ss
