use Rattle.std.proofs.Common.{◌++◌, ap, ◌∙◌, sym, append_assoc, [], ◌∷◌}
use Rattle.std.proofs.lemmas.Iterator.Adapters.{YieldsList-from_vec}
use Rattle.std.proofs.lemmas.Iterator.Consumers.{YieldsList-turn}
use Rattle.ded_genrel.specs.Lists.{conjs_of}
use Rattle.ded_genrel.proofs.Items.{normal-at, conjs_of-append}
use Rattle.ded_genrel.proofs.list.GenRel.append.Goals as goal

pub push-requires : goal.push-requires
push-requires g c =
    let gives = c.into_iter-conj-iterator.ensures.into_iter_gives in
    let turn = YieldsList-turn (YieldsList-from_vec c.more.inside.conjs.items gives.0 (gives.1 ∙ c.more.inside.conjs.ok.0)) c.loop-conj.yielded c.loop-conj.conj-iterator c.loop-conj.yielded_by c.next.result c.next.new.self c.in-Some.conj c.in-Some.is c.next.ensures.steps in
    record { normal = normal-at g.T.Theory.normal c.more.inside.conjs.items _ c.in-Some.conj turn.0 turn.1 c.more.invariant }

pub loop-conj-preserved : goal.loop-conj-preserved
loop-conj-preserved g c =
    c.in_ok-push.ensures.pushed ∙ ap (λ xs. xs ++ c.in-Some.conj.items ∷ []) c.loop-conj.invariant ∙ append_assoc c.args.self.now (conjs_of c.loop-conj.yielded) (c.in-Some.conj.items ∷ [])
    ∙ ap (λ xs. c.args.self.now ++ xs) (sym (conjs_of-append c.loop-conj.yielded (c.in-Some.conj ∷ [])))
