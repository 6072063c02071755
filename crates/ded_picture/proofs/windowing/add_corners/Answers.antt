use Rattle.std.proofs.Common.{List, ◌++◌, ap, ◌∙◌, rules}
use Rattle.ded_polygon.specs.Plane.{Spot}
use Rattle.ded_picture.proofs.Cornering.{adds_some, adds_none}
use Rattle.ded_picture.proofs.windowing.add_corners.Goals as goal

pub returns-in_ok-extend_from_slice-in-Ok : goal.returns-in_ok-extend_from_slice-in-Ok
returns-in_ok-extend_from_slice-in-Ok c = adds_some c.args.figure.now _ _ c.in-Ok.more.items c.in-Ok.ensures.corners (c.in_ok-extend_from_slice-in-Ok.ensures.items ∙ ap (λ (l : List Spot). c.args.found.now.items ++ l) c.deref.ensures.value)

pub returns-in-Err-Wide : goal.returns-in-Err-Wide
returns-in-Err-Wide c = adds_none c.args.figure.now _ (c.in-Err-Wide.ensures.wide (search rules))
