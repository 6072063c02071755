use Rattle.std.proofs.Common.{ap, ◌∙◌, sym, subst, [], ◌∷◌}
use Rattle.std.proofs.lemmas.Iterator.Adapters.{YieldsList-from_vec}
use Rattle.std.proofs.lemmas.Iterator.Consumers.{YieldsList-turn, YieldsList-end}
use Rattle.std.proofs.lemmas.List.{map-id}
use Rattle.ded_genrel.specs.Lists.{conjs_of}
use Rattle.ded_genrel.specs.Operations.{IsInhabitedPart}
use Rattle.ded_genrel.proofs.Items.{normal-at, conjs_of-append}
use Rattle.ded_genrel.proofs.Inhabited.{inhabited_none}
use Rattle.ded_genrel.proofs.list.GenRel.inhabited.Goals as goal

pub loop-conj-init : goal.loop-conj-init
loop-conj-init g c = subst (IsInhabitedPart g.T.Theory.holds g.T.Theory.mentions g.T.Theory.lines []) (sym c.new-out.ensures) (inhabited_none g.T.Theory.holds g.T.Theory.mentions g.T.Theory.lines)

pub push_inhabited-requires : goal.push_inhabited-requires
push_inhabited-requires g c =
    let gives = c.into_iter-conj-iterator.ensures.into_iter_gives in
    let turn = YieldsList-turn (YieldsList-from_vec c.self.inside.conjs.items gives.0 (gives.1 ∙ c.self.inside.conjs.ok.0)) c.loop-conj.yielded c.loop-conj.conj-iterator c.loop-conj.yielded_by c.next.result c.next.new.self c.in-Some.conj c.in-Some.is c.next.ensures.steps in
    normal-at g.T.Theory.normal c.self.inside.conjs.items _ c.in-Some.conj turn.0 turn.1 c.self.invariant

pub loop-conj-preserved : goal.loop-conj-preserved
loop-conj-preserved g c =
    subst (λ xs. IsInhabitedPart g.T.Theory.holds g.T.Theory.mentions g.T.Theory.lines xs c.push_inhabited.new.self) (sym (conjs_of-append c.loop-conj.yielded (c.in-Some.conj ∷ [])))
    (c.in_ok-push_inhabited.ensures (conjs_of c.loop-conj.yielded) c.loop-conj.invariant)

pub returns : goal.returns
returns g c =
    let gives = c.into_iter-conj-iterator.ensures.into_iter_gives in
    let all = YieldsList-end (YieldsList-from_vec c.self.inside.conjs.items gives.0 (gives.1 ∙ c.self.inside.conjs.ok.0)) c.loop-conj.yielded c.loop-conj.conj-iterator c.loop-conj.yielded_by c.next.result c.next.new.self c.in-None.is c.next.ensures.steps in
    subst (λ xs. IsInhabitedPart g.T.Theory.holds g.T.Theory.mentions g.T.Theory.lines xs c.loop-conj.out) (ap conjs_of (sym (map-id c.loop-conj.yielded) ∙ all.0) ∙ c.self.view_is) c.loop-conj.invariant
