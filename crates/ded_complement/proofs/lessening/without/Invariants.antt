use Rattle.ded_complement.specs.Boxed.{conjs_in, AreBoxed}
use Rattle.ded_complement.proofs.Cutting.{Lessening}
use Rattle.ded_complement.proofs.lessening.without.Given as goal

abbrev pub invariant-loop-piece : goal.invariant-loop-piece
invariant-loop-piece g l = record {
  less : Lessening g.T.Theory.holds g.T.Theory.mentions g.T.Theory.lines g.T.Theory.cell l.conj.conj.items (conjs_in l.yielded) (conjs_in l.out.items);
  boxed : AreBoxed g.T.Theory.holds g.T.Theory.normal l.slots l.out.items;
}
