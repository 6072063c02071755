use Rattle.std.proofs.Common.{ap, ◌∙◌, sym, subst, [], ◌∷◌}
use Rattle.std.proofs.lemmas.Iterator.Adapters.{YieldsList-from_vec}
use Rattle.std.proofs.lemmas.Iterator.Consumers.{YieldsList-turn, YieldsList-end}
use Rattle.std.proofs.lemmas.List.{map-id}
use Rattle.ded_model.specs.Cell.{conj_holds}
use Rattle.ded_genrel.specs.Lists.{conjs_of}
use Rattle.ded_genrel.proofs.Items.{normal-at, conjs_of-append}
use Rattle.ded_eval.specs.Inside.{IsInsidePart}
use Rattle.ded_eval.proofs.Inside.{inside_none}
use Rattle.ded_eval.proofs.across.kept_inside.Goals as goal

pub loop-conj-init : goal.loop-conj-init
loop-conj-init g c =
    subst (IsInsidePart g.T.Theory.holds g.T.Theory.mentions g.T.Theory.lines (conj_holds g.T.Theory.holds c.args.across.now) []) (sym c.new-out.ensures)
    (inside_none g.T.Theory.holds g.T.Theory.mentions g.T.Theory.lines (conj_holds g.T.Theory.holds c.args.across.now))

pub push_inside-requires-clause-conj : goal.push_inside-requires-clause-conj
push_inside-requires-clause-conj g c =
    let gives = c.into_iter-conj-iterator.ensures.into_iter_gives in
    let turn = YieldsList-turn (YieldsList-from_vec c.list.inside.conjs.items gives.0 (gives.1 ∙ c.list.inside.conjs.ok.0)) c.loop-conj.yielded c.loop-conj.conj-iterator c.loop-conj.yielded_by c.next.result c.next.new.self c.in-Some.conj c.in-Some.is c.next.ensures.steps in
    normal-at g.T.Theory.normal c.list.inside.conjs.items _ c.in-Some.conj turn.0 turn.1 c.list.invariant

pub loop-conj-preserved : goal.loop-conj-preserved
loop-conj-preserved g c =
    subst (λ xs. IsInsidePart g.T.Theory.holds g.T.Theory.mentions g.T.Theory.lines (conj_holds g.T.Theory.holds c.args.across.now) xs c.push_inside.new.out) (sym (conjs_of-append c.loop-conj.yielded (c.in-Some.conj ∷ [])))
    (c.in_ok-push_inside.ensures (conjs_of c.loop-conj.yielded) c.loop-conj.invariant)

pub returns : goal.returns
returns g c =
    let gives = c.into_iter-conj-iterator.ensures.into_iter_gives in
    let all = YieldsList-end (YieldsList-from_vec c.list.inside.conjs.items gives.0 (gives.1 ∙ c.list.inside.conjs.ok.0)) c.loop-conj.yielded c.loop-conj.conj-iterator c.loop-conj.yielded_by c.next.result c.next.new.self c.in-None.is c.next.ensures.steps in
    subst (λ xs. IsInsidePart g.T.Theory.holds g.T.Theory.mentions g.T.Theory.lines (conj_holds g.T.Theory.holds c.args.across.now) xs c.loop-conj.out) (ap conjs_of (sym (map-id c.loop-conj.yielded) ∙ all.0) ∙ c.list.view_is) c.loop-conj.invariant
