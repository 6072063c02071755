-- How high pictures are.
use Rattle.std.specs.Prelude.{ℕ, ◌+◌, ◌*◌, ◌/◌, nat_le, ◌-ℤ◌, unsigned_abs, if◌then◌else◌}
use Rattle.ded_polygon.specs.Windows.{Frame}
use Rattle.ded_svg.specs.Coordinates.{nearest}

-- a height of more than an eighth of the width, and of at most four times the width
abbrev pub within_height : ℕ → ℕ → ℕ
within_height width height = if nat_le height (width / 8 + 1) then (width / 8 + 1) else (if nat_le (4 * width) height then (4 * width) else height)

-- the height at which both axes have the same scale, as far as a picture may have it
abbrev pub height_of : Frame → ℕ → ℕ
height_of w width = within_height width (nearest (width * unsigned_abs (w.top -ℤ w.bottom)) (unsigned_abs (w.right -ℤ w.left)))
