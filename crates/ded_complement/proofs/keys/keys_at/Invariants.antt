use Rattle.std.proofs.Common.{take}
use Rattle.ded_complement.specs.Parts.{conjs_at}
use Rattle.ded_complement.proofs.SameText.{SoFar}
use Rattle.ded_complement.proofs.keys.keys_at.Given as goal

abbrev pub invariant-loop-place : goal.invariant-loop-place
invariant-loop-place g l = SoFar g.T.Theory.holds l.slot l.taken (conjs_at l.taken (take l.place-index l.places)) l.keyed.items l.others.items
