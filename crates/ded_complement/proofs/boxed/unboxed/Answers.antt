use Rattle.std.proofs.Common.{[], ◌∷◌, ◌++◌, ◌∙◌, sym, ap}
use Rattle.std.proofs.lemmas.Iterator.Adapters.{YieldsList-from_vec}
use Rattle.std.proofs.lemmas.Iterator.Consumers.{YieldsList-turn}
use Rattle.ded_complement.proofs.Boxes.{conjs_in-append, normal_in-at}
use Rattle.ded_complement.proofs.boxed.unboxed.Goals as goal

pub push-requires : goal.push-requires
push-requires g c =
    let gives = c.into_iter-boxed-iterator.ensures.into_iter_gives in
    let turn = YieldsList-turn (YieldsList-from_vec c.args.list.items gives.0 (gives.1 ∙ c.args.list.ok.0)) c.loop-boxed.yielded c.loop-boxed.boxed-iterator c.loop-boxed.yielded_by c.next.result c.next.new.self c.in-Some.boxed c.in-Some.is c.next.ensures.steps in
    record { normal = normal_in-at g.T.Theory.normal c.args.list.items _ c.in-Some.boxed turn.0 turn.1 c.requires }

pub loop-boxed-preserved : goal.loop-boxed-preserved
loop-boxed-preserved g c =
    c.in_ok-push.ensures.pushed ∙ ap (λ xs. xs ++ c.in-Some.boxed.conj.items ∷ []) c.loop-boxed.invariant ∙ sym (conjs_in-append c.loop-boxed.yielded (c.in-Some.boxed ∷ []))
