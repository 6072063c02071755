use Rattle.std.proofs.Common.{take}
use Rattle.ded_genrel.specs.Rounds.{IsBoxOf}
use Rattle.ded_genrel.proofs.boxes.box_round.Given as goal

abbrev pub invariant-loop-slot : goal.invariant-loop-slot
invariant-loop-slot g l = IsBoxOf g.T.Theory.holds g.T.Theory.mentions g.T.Theory.lines (take l.slot-index l.slots) l.atoms l.spans.items
