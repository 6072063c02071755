-- The texts of those that are left complete the list.
use Rattle.std.proofs.Common.{◌≡◌, drop}
use Rattle.ded_picture.specs.Colours.{labels_from, labels_in}
use Rattle.ded_picture.proofs.colours.labels_of.Given as goal

abbrev pub invariant-loop-sight : goal.invariant-loop-sight
invariant-loop-sight l = labels_from l.labels.keys (drop l.sight-index l.sights) ≡ labels_in l.sights
