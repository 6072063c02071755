-- The ticks of a border: the multiples of a round step within a window, in ascending order.
use Rattle.std.specs.Prelude.{ℕ, zero, suc, ℤ, pos, ◌+ℤ◌, int_lt, List, [], ◌∷◌, if◌then◌else◌}
use Rattle.ded_polygon.specs.Windows.{Frame}
use Rattle.ded_svg.specs.declared.picture.Tick.{Tick}
use Rattle.ded_ticks.specs.declared.scale.Axis.TheVariants.{Lower, Left, Clock}
use Rattle.ded_ticks.specs.declared.scale.Scale.{Scale}
use Rattle.ded_ticks.specs.Scales.{high_of, label_of, low_of, place_of, step_of}
use Rattle.ded_ticks.specs.Steps.{first_multiple}

-- the tick at a value
abbrev pub tick_at : Scale → ℤ → Tick
tick_at s value = record { place = place_of s value; label = label_of s.axis s.window value }

-- from a value on up to the end of the scale, at most so many
unfoldable pub ticks_from : ℕ → Scale → ℤ → ℤ → List Tick
ticks_from zero s step value = []
ticks_from (suc fuel) s step value = if int_lt (high_of s.axis s.window) value then [] else (tick_at s value ∷ ticks_from fuel s step (value +ℤ step))

-- from the first multiple of the step on; as eight steps reach over the scale, there are at most nine
unfoldable pub ticks_of : Scale → List Tick
ticks_of s = ticks_from 9 s (pos (step_of s.axis s.window)) (first_multiple (low_of s.axis s.window) (pos (step_of s.axis s.window)))

-- numbers along the lower border of a picture of this width
abbrev pub lower_ticks_of : Frame → ℕ → List Tick
lower_ticks_of w width = ticks_of (record { axis = Lower; window = w; units = width })

-- numbers along the left border of a picture of this height
abbrev pub left_ticks_of : Frame → ℕ → List Tick
left_ticks_of w height = ticks_of (record { axis = Left; window = w; units = height })

-- times along the lower border of a picture of this width, of a window whose numbers are minutes
abbrev pub clock_ticks_of : Frame → ℕ → List Tick
clock_ticks_of w width = ticks_of (record { axis = Clock; window = w; units = width })
