-- The markup of a picture.
use Rattle.std.specs.Prelude.{ℕ, ◌+◌, ◌*◌, List, [], ◌∷◌, ◌++◌, length, codes}
use Rattle.ded_print.specs.Numbers.{number_text}
use Rattle.ded_svg.specs.Coordinates.{coordinate_text}
use Rattle.ded_svg.specs.Markup.{Markup, empty, character_data, line_end, element, sequence, markup_text}
use Rattle.ded_svg.specs.Palette.{hatch, ink, pattern_name, pattern_reference, tint}
use Rattle.ded_svg.specs.declared.coordinate.Coordinate.{Coordinate}
use Rattle.ded_svg.specs.declared.picture.LegendEntry.{LegendEntry}
use Rattle.ded_svg.specs.declared.picture.Line.{Line}
use Rattle.ded_svg.specs.declared.picture.Line.TheVariants.{Solid, Dashed}
use Rattle.ded_svg.specs.declared.picture.ColouredShape.{ColouredShape}
use Rattle.ded_svg.specs.declared.picture.Picture.{Picture}
use Rattle.ded_svg.specs.declared.picture.Point.{Point}
use Rattle.ded_svg.specs.declared.picture.Shape.{Shape}
use Rattle.ded_svg.specs.declared.picture.Shape.TheVariants.{Polygon, Segment, Disc}
use Rattle.ded_svg.specs.declared.picture.ColouredLine.{ColouredLine}
use Rattle.ded_svg.specs.declared.picture.Tick.{Tick}

-- ---- elements

-- an element of a text alone
abbrev pub words_markup : List ℕ → List ℕ → Markup
words_markup name words = element name [] (character_data words)

-- a path that is painted in one colour, with a title
abbrev pub painted_markup : List ℕ → List ℕ → List ℕ → List ℕ → Markup
painted_markup kind paint data_ title =
    element (codes "path") ((codes "class", kind) ∷ (codes "fill", paint) ∷ (codes "stroke", paint) ∷ (codes "d", data_) ∷ []) (words_markup (codes "title") title)

-- a path without a colour of its own
abbrev pub path_markup : List ℕ → List ℕ → Markup
path_markup kind data_ = element (codes "path") ((codes "class", kind) ∷ (codes "d", data_) ∷ []) empty

-- a text at a place
abbrev pub label_markup : List ℕ → List ℕ → List ℕ → List ℕ → Markup
label_markup kind x y words = element (codes "text") ((codes "class", kind) ∷ (codes "x", x) ∷ (codes "y", y) ∷ []) (character_data words)

-- ---- shapes

-- both coordinates of a point, with a comma between them
abbrev pub point_text : Point → List ℕ
point_text p = coordinate_text p.x.hundredths ++ (codes "," ++ coordinate_text p.y.hundredths)

-- the corners in order, the first one after `lead`, each later one after `L`
abbrev pub corners_text : List ℕ → List Point → List ℕ
corners_text lead [] = []
corners_text lead (p ∷ ps) = lead ++ (point_text p ++ corners_text (codes "L") ps)

-- the path from one point straight to another
abbrev pub segment_data : Point → Point → List ℕ
segment_data p q = codes "M" ++ (point_text p ++ (codes "L" ++ point_text q))

-- the path of a shape; a disc is two half circles around its point
abbrev pub shape_data : Shape → List ℕ
shape_data (Polygon corners) = corners_text (codes "M") corners ++ codes "Z"
shape_data (Segment p q) = segment_data p q
shape_data (Disc p) = codes "M" ++ (point_text p ++ codes "m-3,0a3,3 0 1,0 6,0a3,3 0 1,0 -6,0z")

-- the class of a shape
abbrev pub shape_kind : Shape → List ℕ
shape_kind (Polygon corners) = codes "area"
shape_kind (Segment p q) = codes "segment"
shape_kind (Disc p) = codes "point"

-- what a shape is filled and drawn with: areas with the pattern of their colour, so that no hairline is seen where two meet
abbrev pub shape_paint : Shape → ℕ → List ℕ
shape_paint (Polygon corners) colour = pattern_reference colour
shape_paint (Segment p q) colour = ink colour
shape_paint (Disc p) colour = ink colour

-- a shape in its colour, with its title
abbrev pub mark_markup : ColouredShape → Markup
mark_markup m = painted_markup (shape_kind m.shape) (shape_paint m.shape m.colour) (shape_data m.shape) m.title

-- those of all, in order
abbrev pub marks_markup : List ColouredShape → Markup
marks_markup [] = empty
marks_markup (m ∷ ms) = sequence (mark_markup m) (marks_markup ms)

-- ---- strokes

-- the dashes of a line, in units: `none` of a solid one
abbrev pub dashes_text : Line → List ℕ
dashes_text Solid = codes "none"
dashes_text Dashed = codes "5 4"

-- a stroke: a line in the ink of its colour, solid or dashed
abbrev pub stroke_markup : ColouredLine → Markup
stroke_markup s =
    element (codes "path") ((codes "class", codes "stroke") ∷ (codes "stroke", ink s.colour) ∷ (codes "stroke-dasharray", dashes_text s.line) ∷ (codes "d", segment_data s.start s.end) ∷ []) empty

-- those of all, in order
abbrev pub strokes_markup : List ColouredLine → Markup
strokes_markup [] = empty
strokes_markup (s ∷ ss) = sequence (stroke_markup s) (strokes_markup ss)

-- ---- axes

-- the left and the lower border
abbrev pub frame_data : ℕ → ℕ → List ℕ
frame_data width height = codes "M0,0V" ++ (number_text height ++ (codes "H" ++ number_text width))

-- the path of a tick on the lower border
abbrev pub lower_tick_data : ℕ → Coordinate → List ℕ
lower_tick_data height at = codes "M" ++ (coordinate_text at.hundredths ++ (codes "," ++ (number_text height ++ codes "v6")))

-- a tick on the lower border, and its label below
abbrev pub lower_tick_markup : ℕ → Tick → Markup
lower_tick_markup height t = sequence (path_markup (codes "axis") (lower_tick_data height t.place)) (label_markup (codes "below") (coordinate_text t.place.hundredths) (number_text (height + 20)) t.label)

-- those of all, in order
abbrev pub lower_ticks_markup : ℕ → List Tick → Markup
lower_ticks_markup height [] = empty
lower_ticks_markup height (t ∷ ts) = sequence (lower_tick_markup height t) (lower_ticks_markup height ts)

-- the path of a tick on the left border
abbrev pub left_tick_data : Coordinate → List ℕ
left_tick_data at = codes "M0," ++ (coordinate_text at.hundredths ++ codes "h-6")

-- a tick on the left border, and its label to the left
abbrev pub left_tick_markup : Tick → Markup
left_tick_markup t = sequence (path_markup (codes "axis") (left_tick_data t.place)) (label_markup (codes "left") (codes "-10") (coordinate_text t.place.hundredths) t.label)

-- those of all, in order
abbrev pub left_ticks_markup : List Tick → Markup
left_ticks_markup [] = empty
left_ticks_markup (t ∷ ts) = sequence (left_tick_markup t) (left_ticks_markup ts)

-- ---- legend

-- a path that is filled and not drawn
abbrev pub filled_markup : List ℕ → List ℕ → Markup
filled_markup paint data_ = element (codes "path") ((codes "fill", paint) ∷ (codes "d", data_) ∷ []) empty

-- the tint of a colour and its hatch
abbrev pub tile_content : ℕ → Markup
tile_content colour = sequence (filled_markup (tint colour) (codes "M0,0H8V8H0Z")) (path_markup (codes "hatch") (hatch colour))

-- a pattern of this name, which repeats the tint and the hatch of a colour in squares of 8 units
abbrev pub tile_markup : List ℕ → ℕ → Markup
tile_markup name colour =
    element (codes "pattern") ((codes "id", name) ∷ (codes "width", codes "8") ∷ (codes "height", codes "8") ∷ (codes "patternUnits", codes "userSpaceOnUse") ∷ []) (tile_content colour)

-- the pattern of areas of a colour
abbrev pub pattern_markup : ℕ → Markup
pattern_markup colour = tile_markup (pattern_name colour) colour

-- one for each colour of the legend
abbrev pub patterns_markup : List LegendEntry → Markup
patterns_markup [] = empty
patterns_markup (e ∷ es) = sequence (pattern_markup e.colour) (patterns_markup es)

-- where the entry of this number begins, below a picture of this height
abbrev pub entry_top : ℕ → ℕ → ℕ
entry_top height number = height + (40 + 24 * number)

-- the path of a square of 16 units at the left border, from this height down
abbrev pub swatch_data : ℕ → List ℕ
swatch_data top = codes "M0," ++ (number_text top ++ codes "h16v16h-16z")

-- a square with the pattern of the entry, and its words as the title
abbrev pub swatch_markup : ℕ → LegendEntry → Markup
swatch_markup top e = painted_markup (codes "area") (pattern_reference e.colour) (swatch_data top) e.words

-- the words of the entry, beside the square
abbrev pub entry_words_markup : ℕ → LegendEntry → Markup
entry_words_markup top e = label_markup (codes "entry") (codes "24") (number_text (top + 13)) e.words

-- an entry from this height down: the square, and the words beside it
abbrev pub entry_markup : ℕ → LegendEntry → Markup
entry_markup top e = sequence (swatch_markup top e) (entry_words_markup top e)

-- the entries from this number on
abbrev pub legend_markup : ℕ → ℕ → List LegendEntry → Markup
legend_markup height number [] = empty
legend_markup height number (e ∷ es) = sequence (entry_markup (entry_top height number) e) (legend_markup height (number + 1) es)

-- ---- the whole

-- texts, each with the end of its line; nothing where there are none
abbrev pub lines_markup : List (List ℕ) → Markup
lines_markup [] = empty
lines_markup (l ∷ ls) = sequence (character_data l) (sequence line_end (lines_markup ls))

-- how classes of elements are drawn
unfoldable pub style_text : List ℕ
style_text = codes ".area{stroke-width:.6;stroke-linejoin:round}.segment{fill:none;stroke-width:2}.stroke{fill:none;stroke-width:1.5}.axis{fill:none;stroke:#000;stroke-width:1}.hatch{fill:none;stroke:#000;stroke-width:.5;stroke-opacity:.5}text{font:12px sans-serif}.below{text-anchor:middle}.left{text-anchor:end;dominant-baseline:middle}"

-- 64 units are left for labels to the left, 16 above and to the right, and 64 below before the legend
abbrev pub box_text : Picture → List ℕ
box_text p = codes "-64 -16 " ++ (number_text (p.width + 80) ++ (codes " " ++ number_text (p.height + (80 + 24 * length p.legend.items))))

-- the axes, the ticks with their labels, and the legend
abbrev pub around_markup : Picture → Markup
around_markup p =
    sequence (path_markup (codes "axis") (frame_data p.width p.height)) (sequence (lower_ticks_markup p.height p.lower_ticks.items) (sequence (left_ticks_markup p.left_ticks.items) (legend_markup p.height 0 p.legend.items)))

-- shapes, strokes over them, axes and the legend
abbrev pub drawn_markup : Picture → Markup
drawn_markup p = sequence (marks_markup p.marks.items) (sequence (strokes_markup p.strokes.items) (around_markup p))

-- the lines of the description, in an element of their own
abbrev pub description_markup : List (List ℕ) → Markup
description_markup lines = element (codes "desc") [] (lines_markup lines)

-- the patterns of the legend's colours, as definitions
abbrev pub definitions_markup : List LegendEntry → Markup
definitions_markup legend = element (codes "defs") [] (patterns_markup legend)

-- title, description, style and patterns, and then what is drawn
abbrev pub content_markup : Picture → Markup
content_markup p =
    sequence (words_markup (codes "title") p.title) (sequence (description_markup p.description.items) (sequence (words_markup (codes "style") style_text) (sequence (definitions_markup p.legend.items) (drawn_markup p))))

-- all of it in a box
abbrev pub boxed_markup : List ℕ → Picture → Markup
boxed_markup box p = element (codes "svg") ((codes "xmlns", codes "http://www.w3.org/2000/svg") ∷ (codes "role", codes "img") ∷ (codes "viewBox", box) ∷ []) (content_markup p)

-- all of a picture, in the box that it takes with its labels and its legend
abbrev pub picture_markup : Picture → Markup
picture_markup p = boxed_markup (box_text p) p

-- The text of a picture.
abbrev pub svg_text : Picture → List ℕ
svg_text p = markup_text (picture_markup p)
