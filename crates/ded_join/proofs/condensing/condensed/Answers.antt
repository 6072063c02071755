use Rattle.std.proofs.Common.{ap, ◌∙◌, sym, subst, [], ◌∷◌}
use Rattle.std.proofs.lemmas.Iterator.Adapters.{YieldsList-from_vec}
use Rattle.std.proofs.lemmas.Iterator.Consumers.{YieldsList-turn, YieldsList-end}
use Rattle.std.proofs.lemmas.List.{map-id}
use Rattle.ded_genrel.specs.Lists.{conjs_of}
use Rattle.ded_genrel.proofs.Items.{normal-at, conjs_of-append}
use Rattle.ded_join.specs.Merged.{IsCondensed}
use Rattle.ded_join.proofs.Alike.{list_none, list_more}
use Rattle.ded_join.proofs.condensing.condensed.Goals as goal

pub merged-requires : goal.merged-requires
merged-requires g c =
    let gives = c.into_iter-conj-iterator.ensures.into_iter_gives in
    let turn = YieldsList-turn (YieldsList-from_vec c.list.inside.conjs.items gives.0 (gives.1 ∙ c.list.inside.conjs.ok.0)) c.loop-conj.yielded c.loop-conj.conj-iterator c.loop-conj.yielded_by c.next.result c.next.new.self c.in-Some.conj c.in-Some.is c.next.ensures.steps in
    record { normal = normal-at g.T.Theory.normal c.list.inside.conjs.items _ c.in-Some.conj turn.0 turn.1 c.list.invariant }

pub loop-conj-init : goal.loop-conj-init
loop-conj-init g c = subst (IsCondensed g.T.Theory.holds g.T.Theory.mentions g.T.Theory.lines []) (sym c.new-out.ensures) (list_none g.T.Theory.holds g.T.Theory.mentions g.T.Theory.lines)

pub loop-conj-preserved : goal.loop-conj-preserved
loop-conj-preserved g c =
    subst (λ xs. IsCondensed g.T.Theory.holds g.T.Theory.mentions g.T.Theory.lines xs c.in_ok-out.out) (sym (conjs_of-append c.loop-conj.yielded (c.in-Some.conj ∷ [])))
    (list_more g.T.Theory.holds g.T.Theory.mentions g.T.Theory.lines (conjs_of c.loop-conj.yielded) c.loop-conj.out c.in_ok-out.out c.in-Some.conj.items c.in_ok-conj.conj.items c.loop-conj.invariant c.in_ok-conj.ensures.alike c.in_ok-out.ensures)

pub returns : goal.returns
returns g c =
    let gives = c.into_iter-conj-iterator.ensures.into_iter_gives in
    let all = YieldsList-end (YieldsList-from_vec c.list.inside.conjs.items gives.0 (gives.1 ∙ c.list.inside.conjs.ok.0)) c.loop-conj.yielded c.loop-conj.conj-iterator c.loop-conj.yielded_by c.next.result c.next.new.self c.in-None.is c.next.ensures.steps in
    subst (λ xs. IsCondensed g.T.Theory.holds g.T.Theory.mentions g.T.Theory.lines xs c.loop-conj.out) (ap conjs_of (sym (map-id c.loop-conj.yielded) ∙ all.0) ∙ c.list.view_is) c.loop-conj.invariant
