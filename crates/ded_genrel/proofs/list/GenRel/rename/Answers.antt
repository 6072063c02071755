use Rattle.std.proofs.Common.{◌≡◌, true, ◌+◌, ◌∙◌, ap, sym, subst, take}
use Rattle.std.specs.List.{AllByRecursion}
use Rattle.ded_model.specs.declared.slot.Slot.{Slot}
use Rattle.ded_theory.specs.Conjunctions.{conj_mentions}
use Rattle.ded_genrel.specs.Lists.{conjs_of, conjs_mention}
use Rattle.ded_genrel.proofs.Items.{conjs_to, normal-at, conjs-any-at}
use Rattle.ded_genrel.proofs.Renamed.{one_fewer, sorts_fewer, list_renaming_more}
use Rattle.ded_genrel.proofs.list.GenRel.rename.Goals as goal
use Rattle.ded_genrel.proofs.list.GenRel.rename.Goals.{After-deref}
use Rattle.ded_genrel.proofs.list.GenRel.rename.Given.{Over}

pub renamed_conj-requires-clause-normal : goal.renamed_conj-requires-clause-normal
renamed_conj-requires-clause-normal g c =
    subst (AllByRecursion g.T.Theory.normal) (sym c.deref.ensures.value) (normal-at g.T.Theory.normal c.list-conj-items.result.now c.loop-conj.conj-index c.conj-item.result c.loop-conj-test.true c.conj-item.is c.list-conj-items.ensures.normal)

-- the conjunction mentions what the list does
mentioned : (g : Over) (c : After-deref g) (s : Slot) → conj_mentions g.T.Theory.mentions c.deref.result.now s ≡ true → conjs_mention g.T.Theory.mentions c.args.self.now s ≡ true
mentioned g c s m =
    ap (λ xs. conjs_mention g.T.Theory.mentions xs s) (sym c.list-conj-items.ensures.list)
    ∙ conjs-any-at (λ xs. conj_mentions g.T.Theory.mentions xs s) c.list-conj-items.result.now c.loop-conj.conj-index c.conj-item.result c.loop-conj-test.true c.conj-item.is (ap (λ xs. conj_mentions g.T.Theory.mentions xs s) (sym c.deref.ensures.value) ∙ m)

pub renamed_conj-requires-clause-one : goal.renamed_conj-requires-clause-one
renamed_conj-requires-clause-one g c = one_fewer c.args.map.now (conjs_mention g.T.Theory.mentions c.args.self.now) (conj_mentions g.T.Theory.mentions c.deref.result.now) (mentioned g c) c.requires.one

pub renamed_conj-requires-clause-sorts : goal.renamed_conj-requires-clause-sorts
renamed_conj-requires-clause-sorts g c = sorts_fewer c.args.map.now (conjs_mention g.T.Theory.mentions c.args.self.now) (conj_mentions g.T.Theory.mentions c.deref.result.now) (mentioned g c) c.requires.sorts

pub loop-conj-preserved : goal.loop-conj-preserved
loop-conj-preserved g c =
    list_renaming_more g.T.Theory.holds g.T.Theory.mentions g.T.Theory.lines c.args.map.now (conjs_of (take c.loop-conj.conj-index c.list-conj-items.result.now)) (conjs_of (take (c.loop-conj.conj-index + 1) c.list-conj-items.result.now)) c.loop-conj.out c.push.new.self
    c.conj-item.result.items c.deref.result.now c.in_ok-renamed_conj.field-0.items (conjs_to c.list-conj-items.result.now c.loop-conj.conj-index c.conj-item.result c.loop-conj-test.true c.conj-item.is) c.deref.ensures.value c.in_ok-push.ensures.pushed
    c.loop-conj.invariant c.in_ok-renamed_conj.ensures.is
