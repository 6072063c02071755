-- The drawing of what replies tell.
use Rattle.std.specs.Prelude.{◌≡◌, ℕ, nat_lt, Bool, List, length, codes, if◌then◌else◌}
use Rattle.ded_axes.specs.Heights.{height_of}
use Rattle.ded_ticks.specs.Ticks.{lower_ticks_of, left_ticks_of, clock_ticks_of}
use Rattle.ded_polygon.specs.Windows.{Frame}
use Rattle.ded_session.specs.Replies.{ReplyForm}
use Rattle.ded_figures.specs.declared.sight.Sight.{Sight}
use Rattle.ded_svg.specs.declared.picture.Tick.{Tick}
use Rattle.ded_drawing.specs.declared.drawing.Drawing.{Drawing}
use Rattle.ded_picture.specs.declared.parts.Shown.{Shown}
use Rattle.ded_picture.specs.declared.sheet.Sheet.{Sheet}
use Rattle.ded_drawing.specs.declared.style.Style.{Style}
use Rattle.ded_picture.specs.Colours.{entries_of, labels_in}
use Rattle.ded_drawing.specs.Descriptions.{description}
use Rattle.ded_picture.specs.Layers.{AreStrokes, layers_of}
use Rattle.ded_picture.specs.Parts.{AreShown}
use Rattle.ded_picture.specs.Sheets.{marks_of}
use Rattle.ded_drawing.specs.Sightings.{AreAllSights}
use Rattle.ded_picture.specs.Windowing.{IsWindow}

-- the sheet of a window
abbrev pub sheet_of : Frame → ℕ → Sheet
sheet_of w width = record { window = w; width = width; height = height_of w width }

-- the ticks of the lower border, of times or of numbers
abbrev pub border_ticks : Sheet → Bool → List Tick
border_ticks s has_clock = if has_clock then clock_ticks_of s.window s.width else lower_ticks_of s.window s.width

-- The drawing shows the tuples of all answers and listings among the replies: each with its exact corners in the window, in the colour of its
-- first text, its sides drawn as they are among all tuples of that colour.
pub record IsDrawing (style : Style) (replies : List ReplyForm) (d : Drawing) : Type 0 where
  pub sights : List Sight
  pub are_sights : AreAllSights style.look replies sights
  pub window : Frame
  pub is_window : IsWindow style.window sights window
  pub shown : List Shown
  pub wide : ℕ
  pub are_shown : AreShown window (labels_in sights) sights shown wide
  pub marks : d.picture.marks.items ≡ marks_of (sheet_of window style.width) shown
  pub strokes : AreStrokes (sheet_of window style.width) 0 (layers_of (length (labels_in sights)) shown) d.picture.strokes.items
  pub lower_ticks : d.picture.lower_ticks.items ≡ border_ticks (sheet_of window style.width) style.has_clock
  pub left_ticks : d.picture.left_ticks.items ≡ left_ticks_of window (height_of window style.width)
  pub legend : d.picture.legend.items ≡ entries_of 0 (labels_in sights)
  pub title : d.picture.title ≡ codes "Answers"
  pub description : d.picture.description.items ≡ description style.look (length shown) wide replies
  pub width : d.picture.width ≡ style.width
  pub height : d.picture.height ≡ height_of window style.width
  pub incomplete : d.wide ≡ nat_lt 0 wide
