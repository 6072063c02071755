-- What is put and what is left to put make the whole.
use Rattle.std.proofs.Common.{◌≡◌, ◌++◌, drop}
use Rattle.ded_svg.specs.Pictures.{corners_text}
use Rattle.ded_svg.proofs.mark.put_corners.Given as goal

abbrev pub invariant-loop-corner : goal.invariant-loop-corner
invariant-loop-corner l = l.text ++ corners_text l.lead (drop l.corner-index l.corners) ≡ l.fn.text ++ corners_text l.fn.lead l.corners
