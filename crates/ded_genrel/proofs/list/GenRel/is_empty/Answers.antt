use Rattle.std.proofs.Common.{◌+◌, ◌∙◌, sym, subst, take}
use Rattle.std.specs.List.{AllByRecursion}
use Rattle.ded_genrel.specs.Lists.{conjs_of}
use Rattle.ded_genrel.proofs.Items.{conjs_to, normal-at}
use Rattle.ded_genrel.proofs.Emptiness.{verdict_empty_more, verdict_unknown_more, verdict_inhabited}
use Rattle.ded_genrel.proofs.list.GenRel.is_empty.Goals as goal
use Rattle.ded_genrel.proofs.list.GenRel.is_empty.Goals.{in-Empty, in-Unknown}

pub refute-requires : goal.refute-requires
refute-requires g c = record {
  normal = subst (AllByRecursion g.T.Theory.normal) (sym c.deref.ensures.value) (normal-at g.T.Theory.normal c.list-conj-items.result.now c.loop-conj.conj-index c.conj-item.result c.loop-conj-test.true c.conj-item.is c.list-conj-items.ensures.normal);
}

pub returns-in-Inhabited-clause-verdict : goal.returns-in-Inhabited-clause-verdict
returns-in-Inhabited-clause-verdict g c =
    verdict_inhabited g.T.Theory.holds g.T.Theory.mentions g.T.Theory.lines c.list-conj-items.result.now c.loop-conj.conj-index c.conj-item.result c.args.self.now c.deref.result.now c.in_ok-refute.field-0 c.loop-conj-test.true c.conj-item.is
    c.list-conj-items.ensures.list c.deref.ensures.value c.in-Inhabited.is c.in_ok-refute.ensures.verdict

pub loop-conj-preserved : goal.loop-conj-preserved
loop-conj-preserved g c =
    let next = conjs_to c.list-conj-items.result.now c.loop-conj.conj-index c.conj-item.result c.loop-conj-test.true c.conj-item.is in
    let conjs = conjs_of (take (c.loop-conj.conj-index + 1) c.list-conj-items.result.now) in
    elim c.match-branch-2.branch [
      | in-Empty w ↦ record {
        verdict = verdict_empty_more g.T.Theory.holds g.T.Theory.mentions g.T.Theory.lines (conjs_of (take c.loop-conj.conj-index c.list-conj-items.result.now)) conjs c.conj-item.result.items c.deref.result.now
            c.loop-conj.verdict c.match-branch-2.verdict c.in_ok-refute.field-0 next c.deref.ensures.value w.verdict-is w.in-Empty.is c.loop-conj.invariant.verdict c.in_ok-refute.ensures.verdict;
        decided = λ d u. c.loop-conj.invariant.decided d (sym w.verdict-is ∙ u);
      }
      | in-Unknown w ↦ record {
        verdict = verdict_unknown_more g.T.Theory.holds g.T.Theory.mentions g.T.Theory.lines (conjs_of (take c.loop-conj.conj-index c.list-conj-items.result.now)) conjs c.conj-item.result.items c.deref.result.now
            c.match-branch-2.verdict c.in_ok-refute.field-0 next c.deref.ensures.value w.verdict-is w.in-Unknown.is c.in_ok-refute.ensures.verdict;
        decided = λ d u. c.in_ok-refute.ensures.decided d w.in-Unknown.is;
      }
    ]
