-- There is no comma before the place.
use Rattle.std.proofs.Common.{◌≡◌, ◌-◌, length, take, drop}
use Rattle.ded_draw.specs.Words.{cut_at_comma}
use Rattle.ded_draw.proofs.Cutting.{with_front}
use Rattle.ded_draw.proofs.words.cut_at_comma.Given as goal

abbrev pub invariant-loop-place : goal.invariant-loop-place
invariant-loop-place l = cut_at_comma l.text ≡ with_front (take l.place l.text) (cut_at_comma (drop l.place l.text))

abbrev pub decreases-loop-place : goal.decreases-loop-place
decreases-loop-place l = length l.text - l.place
