use Rattle.std.proofs.Common.{List, take}
use Rattle.ded_model.specs.declared.slot.Slot.{Slot}
use Rattle.ded_complement.specs.Boxed.{IsBoxed, AreBoxed}
use Rattle.ded_complement.specs.Parts.{conjs_at, ArePlaces, IsSameOutside}
use Rattle.ded_complement.proofs.parts.near_places.Given as goal

abbrev pub invariant-loop-place : goal.invariant-loop-place
invariant-loop-place g l = record {
  places : ArePlaces l.taken l.near.items;
  near : (ss : List Slot) → IsBoxed g.T.Theory.holds g.T.Theory.normal ss l.piece → AreBoxed g.T.Theory.holds g.T.Theory.normal ss l.taken
      → IsSameOutside g.T.Theory.holds l.piece.conj.items (conjs_at l.taken (take l.place-index l.places)) (conjs_at l.taken l.near.items);
}
