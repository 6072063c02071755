-- Scales along the borders of a picture: from where to where, in which steps, and where and how a value is written.
use Rattle.std.specs.Prelude.{ℕ, ℤ, ◌-ℤ◌, unsigned_abs, List}
use Rattle.ded_polygon.specs.Windows.{Frame}
use Rattle.ded_svg.specs.declared.coordinate.Coordinate.{Coordinate}
use Rattle.ded_axes.specs.Places.{portion}
use Rattle.ded_cells.specs.Decimals.{value_text}
use Rattle.ded_ticks.specs.declared.scale.Axis.{Axis}
use Rattle.ded_ticks.specs.declared.scale.Axis.TheVariants.{Lower, Left, Clock}
use Rattle.ded_ticks.specs.declared.scale.Scale.{Scale}
use Rattle.ded_ticks.specs.Labels.{time_text}
use Rattle.ded_ticks.specs.Steps.{clock_step, round_step}

-- the least value, in units of one over the window's denominator
abbrev pub low_of : Axis → Frame → ℤ
low_of Lower w = w.left
low_of Left w = w.bottom
low_of Clock w = w.left

-- the greatest value
abbrev pub high_of : Axis → Frame → ℤ
high_of Lower w = w.right
high_of Left w = w.top
high_of Clock w = w.right

-- how far the least value is below the greatest one
abbrev pub extent_of : Axis → Frame → ℤ
extent_of Lower w = w.right -ℤ w.left
extent_of Left w = w.top -ℤ w.bottom
extent_of Clock w = w.right -ℤ w.left

-- the step over this denominator and extent
abbrev pub magnitude_of : Axis → ℤ → ℤ → ℕ
magnitude_of Lower den extent = round_step (unsigned_abs extent)
magnitude_of Left den extent = round_step (unsigned_abs extent)
magnitude_of Clock den extent = clock_step (unsigned_abs den) (unsigned_abs extent)

-- how far ticks are from each other
abbrev pub step_of : Axis → Frame → ℕ
step_of axis w = magnitude_of axis w.den (extent_of axis w)

-- how far a value is from the start of its border: from the left to the right, and from the top downwards
abbrev pub offset_of : Axis → Frame → ℤ → ℤ
offset_of Lower w value = value -ℤ w.left
offset_of Left w value = w.top -ℤ value
offset_of Clock w value = value -ℤ w.left

-- where it is on its border
abbrev pub place_of : Scale → ℤ → Coordinate
place_of s value = record { hundredths = portion (offset_of s.axis s.window value) (extent_of s.axis s.window) s.units }

-- its label: a number, or a time
abbrev pub label_of : Axis → Frame → ℤ → List ℕ
label_of Lower w value = value_text (record { num = value; den = w.den })
label_of Left w value = value_text (record { num = value; den = w.den })
label_of Clock w value = time_text value w.den
