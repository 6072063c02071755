use Rattle.std.proofs.Common.{◌≡◌, take}
use Rattle.ded_complement.specs.Boxed.{conjs_in}
use Rattle.ded_complement.specs.Parts.{conjs_at, ArePlaces}
use Rattle.ded_complement.proofs.parts.all_places.Given as goal

abbrev pub invariant-loop-place : goal.invariant-loop-place
invariant-loop-place g l = record {
  places : ArePlaces l.taken l.places.items;
  all : conjs_at l.taken l.places.items ≡ conjs_in (take l.place l.taken);
}
