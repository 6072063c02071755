use Rattle.ded_join.proofs.OtherTexts.{SoFar}
use Rattle.ded_join.proofs.texts.texts_at.Given as goal

abbrev pub invariant-loop-place : goal.invariant-loop-place
invariant-loop-place g l = SoFar g.T.Theory.holds l.slot l.list l.place l.placed.items l.others.items
