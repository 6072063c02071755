-- The numbers are short enough.
use Rattle.ded_axes.proofs.Sizes.{short_corner, short_window, window_above, extent_read, result_within, result_above}
use Rattle.ded_axes.proofs.placing.place_y.Goals as goal

pub rise-offset-requires-clause-first : goal.rise-offset-requires-clause-first
rise-offset-requires-clause-first c = short_window c.window.inside.top c.corner.inside.den c.window.invariant.top c.corner.invariant.den

pub rise-offset-requires-clause-second : goal.rise-offset-requires-clause-second
rise-offset-requires-clause-second c = short_corner c.corner.inside.y c.window.inside.den c.corner.invariant.y c.window.invariant.den

pub rise-offset-requires-clause-whole : goal.rise-offset-requires-clause-whole
rise-offset-requires-clause-whole c = window_above c.corner.inside.y c.window.inside.den c.window.inside.top c.corner.inside.den c.corner.invariant.y c.window.invariant.den c.window.invariant.top c.corner.invariant.den

pub extent-requires-clause-whole : goal.extent-requires-clause-whole
extent-requires-clause-whole c = extent_read c.window.inside.bottom c.window.inside.top c.corner.inside.den c.window.invariant.bottom c.window.invariant.top c.corner.invariant.den

pub portion-requires-clause-positive : goal.portion-requires-clause-positive
portion-requires-clause-positive c =
    result_above c.window.inside.bottom c.window.inside.top c.corner.inside.den c.window.invariant.bottom c.window.invariant.top c.corner.invariant.den c.extent.result c.extent.ensures c.window.invariant.high c.corner.invariant.positive

pub portion-requires-clause-short : goal.portion-requires-clause-short
portion-requires-clause-short c = result_within c.window.inside.bottom c.window.inside.top c.corner.inside.den c.window.invariant.bottom c.window.invariant.top c.corner.invariant.den c.extent.result c.extent.ensures
