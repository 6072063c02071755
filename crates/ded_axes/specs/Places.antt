-- Where points of a window stand in a picture, in hundredths of a unit.
use Rattle.std.specs.Prelude.{ℕ, ◌*◌, ◌≤◌, nat_le, ℤ, pos, ◌*ℤ◌, ◌-ℤ◌, int_lt, unsigned_abs, if◌then◌else◌}
use Rattle.ded_polygon.specs.Plane.{Spot}
use Rattle.ded_polygon.specs.Windows.{Frame}
use Rattle.ded_svg.specs.Coordinates.{nearest}
use Rattle.ded_svg.specs.declared.coordinate.Coordinate.{Coordinate}
use Rattle.ded_svg.specs.declared.picture.Point.{Point}

-- how far z1 / d1 is above z2 / d2, in units of 1 / (d1 * d2)
abbrev pub rise : ℤ → ℤ → ℤ → ℤ → ℤ
rise z1 d1 z2 d2 = z1 *ℤ d2 -ℤ z2 *ℤ d1

-- the number nearest to z that is neither below 0 nor above m
abbrev pub clamped : ℤ → ℕ → ℕ
clamped z m = if int_lt z (pos 0) then 0 else (if nat_le m (unsigned_abs z) then m else unsigned_abs z)

-- the part offset / extent of a length in units, in hundredths
abbrev pub portion : ℤ → ℤ → ℕ → ℤ
portion offset extent units = pos (nearest (clamped offset (unsigned_abs extent) * (100 * units)) (unsigned_abs extent))

-- how far the spot is to the right of the window's left border, over both denominators
abbrev pub offset_x : Frame → Spot → ℤ
offset_x w c = rise c.x c.den w.left w.den

-- how far it is below the window's top, over both denominators
abbrev pub offset_y : Frame → Spot → ℤ
offset_y w c = rise w.top w.den c.y c.den

-- the width of the window over the same
abbrev pub extent_x : Frame → Spot → ℤ
extent_x w c = (w.right -ℤ w.left) *ℤ c.den

-- its height over the same
abbrev pub extent_y : Frame → Spot → ℤ
extent_y w c = (w.top -ℤ w.bottom) *ℤ c.den

-- how far to the right a spot stands in a picture of this width; one beside the window stands on the nearest border
abbrev pub place_x : Frame → ℕ → Spot → Coordinate
place_x w width c = record { hundredths = portion (offset_x w c) (extent_x w c) width }

-- how far down a spot stands in a picture of this height; one above or below the window stands on the nearest border
abbrev pub place_y : Frame → ℕ → Spot → Coordinate
place_y w height c = record { hundredths = portion (offset_y w c) (extent_y w c) height }

-- where a spot of the window stands in a picture of this width and height; a spot outside stands on the border nearest to it
abbrev pub place : Frame → ℕ → ℕ → Spot → Point
place w width height c = record { x = place_x w width c; y = place_y w height c }

-- So many hundredths are within one half of a hundredth of the part offset / extent of a length in units.
abbrev pub IsNearPortion : ℤ → ℤ → ℕ → ℤ → Type 0
IsNearPortion offset extent units h = 2 * unsigned_abs (h *ℤ extent -ℤ offset *ℤ pos (100 * units)) ≤ unsigned_abs extent
