-- What is shown of those that are left completes it.
use Rattle.std.proofs.Common.{drop}
use Rattle.ded_picture.proofs.Showing.{Goes}
use Rattle.ded_picture.proofs.parts.parts_of.Given as goal

abbrev pub invariant-loop-sight : goal.invariant-loop-sight
invariant-loop-sight l = Goes l.window l.labels.keys l.sights (drop l.sight-index l.sights) l.parts.list.items l.parts.wide
