use Rattle.std.proofs.Common.{IfSome, take}
use Rattle.ded_genrel.specs.Lists.{conjs_of, pairs}
use Rattle.ded_join.specs.Kept.{AreKept, IsCount}
use Rattle.ded_join.specs.Texts.{AreTexts}
use Rattle.ded_join.proofs.inhabited.meet_inhabited.Given as goal

abbrev pub invariant-loop-conj : goal.invariant-loop-conj
invariant-loop-conj g l = record {
  texts : IfSome l.texts (λ k. AreTexts g.T.Theory.holds l.b k);
  kept : AreKept g.T.Theory.holds g.T.Theory.mentions g.T.Theory.lines (pairs (conjs_of (take l.conj-index l.conj-items)) l.b) l.out;
  count : IsCount (pairs (conjs_of (take l.conj-index l.conj-items)) l.b) l.fn.met l.count;
}
