use Rattle.std.proofs.Common.{◌≡◌, take}
use Rattle.ded_join.proofs.OtherTexts.{places_in}
use Rattle.ded_join.proofs.texts.Texts.places.Given as goal

abbrev pub invariant-loop-entry : goal.invariant-loop-entry
invariant-loop-entry l = l.places.items ≡ places_in (take l.entry-index l.entry-items)
