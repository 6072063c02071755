use Rattle.std.proofs.Common.{ap, ◌∙◌, sym, subst, [], ◌∷◌}
use Rattle.std.proofs.lemmas.Iterator.Adapters.{YieldsList-from_vec}
use Rattle.std.proofs.lemmas.Iterator.Consumers.{YieldsList-turn, YieldsList-end}
use Rattle.std.proofs.lemmas.List.{map-id}
use Rattle.ded_genrel.specs.Lists.{conjs_of}
use Rattle.ded_genrel.proofs.Items.{normal-at, conjs_of-append}
use Rattle.ded_join.specs.Merged.{IsWithin, AreLeft}
use Rattle.ded_join.proofs.Alike.{left_none, left_kept, left_dropped}
use Rattle.ded_join.proofs.condensing.outside_of.Goals as goal

pub push-requires : goal.push-requires
push-requires g c =
    let gives = c.into_iter-other-iterator.ensures.into_iter_gives in
    let turn = YieldsList-turn (YieldsList-from_vec c.list.inside.conjs.items gives.0 (gives.1 ∙ c.list.inside.conjs.ok.0)) c.loop-other.yielded c.loop-other.other-iterator c.loop-other.yielded_by c.next.result c.next.new.self c.in-Some.other c.in-Some.is c.next.ensures.steps in
    record { normal = normal-at g.T.Theory.normal c.list.inside.conjs.items _ c.in-Some.other turn.0 turn.1 c.list.invariant }

pub loop-other-init : goal.loop-other-init
loop-other-init g c = subst (AreLeft g.T.Theory.holds g.T.Theory.mentions g.T.Theory.lines c.args.conj.now []) (sym c.new-left.ensures) (left_none g.T.Theory.holds g.T.Theory.mentions g.T.Theory.lines c.args.conj.now)

pub loop-other-preserved : goal.loop-other-preserved
loop-other-preserved g c =
    subst (λ xs. AreLeft g.T.Theory.holds g.T.Theory.mentions g.T.Theory.lines c.args.conj.now xs c.push.new.self) (sym (conjs_of-append c.loop-other.yielded (c.in-Some.other ∷ [])))
    (subst (AreLeft g.T.Theory.holds g.T.Theory.mentions g.T.Theory.lines c.args.conj.now _) (sym c.in_ok-push.ensures.pushed)
    (left_kept g.T.Theory.holds g.T.Theory.mentions g.T.Theory.lines c.args.conj.now (conjs_of c.loop-other.yielded) c.loop-other.left c.in-Some.other.items c.loop-other.invariant))

pub loop-other-preserved-then-lies_within : goal.loop-other-preserved-then-lies_within
loop-other-preserved-then-lies_within g c =
    subst (λ xs. AreLeft g.T.Theory.holds g.T.Theory.mentions g.T.Theory.lines c.args.conj.now xs c.loop-other.left) (sym (conjs_of-append c.loop-other.yielded (c.in-Some.other ∷ [])))
    (left_dropped g.T.Theory.holds g.T.Theory.mentions g.T.Theory.lines c.args.conj.now (conjs_of c.loop-other.yielded) c.loop-other.left c.in-Some.other.items
    (subst (λ xs. IsWithin g.T.Theory.holds xs c.args.conj.now) c.deref.ensures.value (c.lies_within.ensures c.if-lies_within.true)) c.loop-other.invariant)

pub returns : goal.returns
returns g c =
    let gives = c.into_iter-other-iterator.ensures.into_iter_gives in
    let all = YieldsList-end (YieldsList-from_vec c.list.inside.conjs.items gives.0 (gives.1 ∙ c.list.inside.conjs.ok.0)) c.loop-other.yielded c.loop-other.other-iterator c.loop-other.yielded_by c.next.result c.next.new.self c.in-None.is c.next.ensures.steps in
    subst (λ xs. AreLeft g.T.Theory.holds g.T.Theory.mentions g.T.Theory.lines c.args.conj.now xs c.loop-other.left) (ap conjs_of (sym (map-id c.loop-other.yielded) ∙ all.0) ∙ c.list.view_is) c.loop-other.invariant
