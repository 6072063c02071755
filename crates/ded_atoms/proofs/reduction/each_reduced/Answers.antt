use Rattle.std.proofs.Common.{◌++◌, ◌∷◌, [], ◌∙◌, sym, subst}
use Rattle.std.proofs.lemmas.Iterator.Adapters.{YieldsList-from_vec}
use Rattle.std.proofs.lemmas.Iterator.Consumers.{YieldsList-end}
use Rattle.std.proofs.lemmas.List.{map-id}
use Rattle.ded_atoms.specs.Kept.{IsReducedPart, AreReducedParts}
use Rattle.ded_atoms.proofs.Reducing.{reduced_gone, reduced_more}
use Rattle.ded_atoms.proofs.reduction.each_reduced.Goals as goal

pub loop-tuple-preserved-in-Continue-branch-4 : goal.loop-tuple-preserved-in-Continue-branch-4
loop-tuple-preserved-in-Continue-branch-4 c = subst (λ xs. AreReducedParts xs (c.loop-tuple.yielded ++ c.in-Some.tuple ∷ [])) (sym c.in_ok-push.ensures.items)
    (reduced_more c.loop-tuple.yielded c.loop-tuple.list.items c.in-Some.tuple c.in-Some-2.reduced (subst (IsReducedPart c.in-Some.tuple) c.in-Some-2.is c.in_ok-reduced.ensures) c.loop-tuple.invariant)

pub loop-tuple-preserved : goal.loop-tuple-preserved
loop-tuple-preserved c =
    reduced_gone c.loop-tuple.yielded c.loop-tuple.list.items c.in-Some.tuple (subst (IsReducedPart c.in-Some.tuple) c.in_default.is c.in_ok-reduced.ensures) c.loop-tuple.invariant

pub returns : goal.returns
returns c =
    let gives = c.into_iter-tuple-iterator.ensures.into_iter_gives in
    let all = YieldsList-end (YieldsList-from_vec c.tuples.inside.list.items gives.0 (gives.1 ∙ c.tuples.inside.list.ok.0)) c.loop-tuple.yielded c.loop-tuple.tuple-iterator c.loop-tuple.yielded_by c.next.result c.next.new.self c.in-None.is c.next.ensures.steps in
    subst (AreReducedParts c.loop-tuple.list.items) (sym (map-id c.loop-tuple.yielded) ∙ all.0 ∙ c.tuples.view_is) c.loop-tuple.invariant
