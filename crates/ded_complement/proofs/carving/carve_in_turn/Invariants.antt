use Rattle.std.proofs.Common.{take}
use Rattle.ded_complement.specs.Boxed.{conjs_in, AreBoxed}
use Rattle.ded_complement.specs.Parts.{conjs_at}
use Rattle.ded_complement.proofs.Cutting.{Outside}
use Rattle.ded_complement.proofs.carving.carve_in_turn.Given as goal

abbrev pub invariant-loop-place : goal.invariant-loop-place
invariant-loop-place g l = record {
  outside : Outside g.T.Theory.holds g.T.Theory.mentions g.T.Theory.lines g.T.Theory.cell l.fn.part.piece.conj.items (conjs_at l.taken (take l.place-index l.place-items)) (conjs_in l.pieces.items);
  boxed : AreBoxed g.T.Theory.holds g.T.Theory.normal l.slots l.pieces.items;
}
