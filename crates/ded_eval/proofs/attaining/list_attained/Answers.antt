use Rattle.std.proofs.Common.{◌∙◌, subst}
use Rattle.std.proofs.lemmas.Iterator.Adapters.{YieldsList-from_vec}
use Rattle.std.proofs.lemmas.Iterator.Consumers.{YieldsList-turn}
use Rattle.ded_genrel.proofs.Items.{normal-at}
use Rattle.ded_eval.specs.Finding.{HoldsWithValues, IsConjVerdict}
use Rattle.ded_eval.proofs.Attained.{conj_attained}
use Rattle.ded_eval.proofs.attaining.list_attained.Goals as goal

pub conj_attained-requires-clause-conj : goal.conj_attained-requires-clause-conj
conj_attained-requires-clause-conj g c =
    let gives = c.into_iter-conj-iterator.ensures.into_iter_gives in
    let turn = YieldsList-turn (YieldsList-from_vec c.list.inside.conjs.items gives.0 (gives.1 ∙ c.list.inside.conjs.ok.0)) c.loop-conj.yielded c.loop-conj.conj-iterator c.loop-conj.yielded_by c.next.result c.next.new.self c.in-Some.conj c.in-Some.is c.next.ensures.steps in
    normal-at g.T.Theory.normal c.list.inside.conjs.items _ c.in-Some.conj turn.0 turn.1 c.list.invariant

pub returns-then-is_inhabited : goal.returns-then-is_inhabited
returns-then-is_inhabited g c =
    let gives = c.into_iter-conj-iterator.ensures.into_iter_gives in
    let turn = YieldsList-turn (YieldsList-from_vec c.list.inside.conjs.items gives.0 (gives.1 ∙ c.list.inside.conjs.ok.0)) c.loop-conj.yielded c.loop-conj.conj-iterator c.loop-conj.yielded_by c.next.result c.next.new.self c.in-Some.conj c.in-Some.is c.next.ensures.steps in
    let h = g.T.Theory.holds in
    let atoms = c.args.atoms.now in
    let ss = c.args.slots.now in
    subst (HoldsWithValues h atoms ss) c.list.view_is
    (conj_attained h atoms ss c.list.inside.conjs.items _ c.in-Some.conj turn.0 turn.1
    (subst (IsConjVerdict h atoms ss c.in-Some.conj.items) (c.is_inhabited.ensures c.if-is_inhabited.true) c.in_ok-verdict.ensures))
