use Rattle.std.proofs.Common.{◌∙◌, ◌+◌, ◌-◌, ◌^◌, min, length, [], refl, ap, sym, subst, take}
use Rattle.std.specs.List.{AllByRecursion}
use Rattle.ded_genrel.specs.Lists.{conjs_of, pairs, pairs_with}
use Rattle.ded_genrel.proofs.Items.{normal-at, conjs_to, pairs-push}
use Rattle.ded_join.specs.Kept.{AreKept, IsCount}
use Rattle.ded_join.specs.Taken.{AreTakenAfter}
use Rattle.ded_join.specs.declared.near.Taken.TheVariants.{Inhabited}
use Rattle.ded_join.proofs.Joined.{conjs_count}
use Rattle.ded_join.proofs.Kept.{count_none, count_with, count-append}
use Rattle.ded_join.proofs.Taken.{taken_next}
use Rattle.ded_join.proofs.inhabited.meet_inhabited.Goals as goal

pub loop-conj-init : goal.loop-conj-init
loop-conj-init g c = record { texts = c.in_ok-texts.ensures; kept = c.new-out.ensures; count = count_none (pairs [] c.args.b.now) c.args.met.now refl c.type_inv.count.fits }

pub push_met-requires : goal.push_met-requires
push_met-requires g c = record {
  texts = c.loop-conj.invariant.texts;
  normal = subst (AllByRecursion g.T.Theory.normal) (sym c.deref.ensures.value) (normal-at g.T.Theory.normal c.list-conj-items.result.now c.loop-conj.conj-index c.conj-item.result c.loop-conj-test.true c.conj-item.is c.list-conj-items.ensures.normal);
}

pub loop-conj-preserved : goal.loop-conj-preserved
loop-conj-preserved g c =
    let x = c.conj-item.result in
    let b = c.args.b.now in
    let done = conjs_of (take c.loop-conj.conj-index c.list-conj-items.result.now) in
    let added = pairs_with x.items b in
    let next = ap (λ xs. pairs xs b) (conjs_to c.list-conj-items.result.now c.loop-conj.conj-index x c.loop-conj-test.true c.conj-item.is) ∙ pairs-push done b x.items in
    let kept = subst (λ atoms. AreTakenAfter Inhabited g.T.Theory.holds g.T.Theory.mentions g.T.Theory.lines (pairs_with atoms b) c.loop-conj.out c.push_met.new.out) c.deref.ensures.value c.in_ok-push_met.ensures in
    let count = count_with x.items b c.loop-conj.count c.saturating_add-count.result (c.saturating_add-count.ensures ∙ ap (λ n. min (c.loop-conj.count + n) (2 ^ 64 - 1)) (sym (conjs_count c.list.result.now) ∙ ap length c.list.ensures.list)) in record {
      texts = c.loop-conj.invariant.texts;
      kept = subst (λ all. AreKept g.T.Theory.holds g.T.Theory.mentions g.T.Theory.lines all c.push_met.new.out) (sym next)
          (taken_next g.T.Theory.holds g.T.Theory.mentions g.T.Theory.lines Inhabited (pairs done b) added c.loop-conj.out c.push_met.new.out c.loop-conj.invariant.kept kept);
      count = subst (λ all. IsCount all c.args.met.now c.saturating_add-count.result) (sym next) (count-append (pairs done b) added c.args.met.now c.loop-conj.count c.saturating_add-count.result c.loop-conj.invariant.count count);
    }
