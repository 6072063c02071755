-- The numbers are short enough.
use Rattle.ded_axes.proofs.Sizes.{short_corner, short_window, corner_above, extent_read, result_within, result_above}
use Rattle.ded_axes.proofs.placing.place_x.Goals as goal

pub rise-offset-requires-clause-first : goal.rise-offset-requires-clause-first
rise-offset-requires-clause-first c = short_corner c.corner.inside.x c.window.inside.den c.corner.invariant.x c.window.invariant.den

pub rise-offset-requires-clause-second : goal.rise-offset-requires-clause-second
rise-offset-requires-clause-second c = short_window c.window.inside.left c.corner.inside.den c.window.invariant.left c.corner.invariant.den

pub rise-offset-requires-clause-whole : goal.rise-offset-requires-clause-whole
rise-offset-requires-clause-whole c = corner_above c.corner.inside.x c.window.inside.den c.window.inside.left c.corner.inside.den c.corner.invariant.x c.window.invariant.den c.window.invariant.left c.corner.invariant.den

pub extent-requires-clause-whole : goal.extent-requires-clause-whole
extent-requires-clause-whole c = extent_read c.window.inside.left c.window.inside.right c.corner.inside.den c.window.invariant.left c.window.invariant.right c.corner.invariant.den

pub portion-requires-clause-positive : goal.portion-requires-clause-positive
portion-requires-clause-positive c =
    result_above c.window.inside.left c.window.inside.right c.corner.inside.den c.window.invariant.left c.window.invariant.right c.corner.invariant.den c.extent.result c.extent.ensures c.window.invariant.wide c.corner.invariant.positive

pub portion-requires-clause-short : goal.portion-requires-clause-short
portion-requires-clause-short c = result_within c.window.inside.left c.window.inside.right c.corner.inside.den c.window.invariant.left c.window.invariant.right c.corner.invariant.den c.extent.result c.extent.ensures
