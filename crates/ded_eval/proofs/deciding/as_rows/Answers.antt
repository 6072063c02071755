use Rattle.std.proofs.Common.{ap, ◌∙◌, sym, subst, [], ◌∷◌, ◌++◌}
use Rattle.std.specs.List.{AllByRecursion}
use Rattle.std.proofs.lemmas.Iterator.Adapters.{YieldsList-from_vec}
use Rattle.std.proofs.lemmas.Iterator.Consumers.{YieldsList-turn, YieldsList-end}
use Rattle.std.proofs.lemmas.List.{map-id}
use Rattle.ded_model.specs.Normal.{IsNormalTheme}
use Rattle.ded_theory.specs.Both.{IsByKind}
use Rattle.ded_elimination.specs.LinearAtoms.{IsLinearAtom}
use Rattle.ded_order.specs.OrderRows.{IsOrderAtom}
use Rattle.ded_genrel.specs.Lists.{conjs_of}
use Rattle.ded_genrel.proofs.Items.{normal-at, conjs_of-append}
use Rattle.ded_eval.proofs.OrderPlans.{linear_normal}
use Rattle.ded_eval.proofs.deciding.as_rows.Goals as goal

pub push-requires : goal.push-requires
push-requires c =
    let gives = c.into_iter-conj-iterator.ensures.into_iter_gives in
    let turn = YieldsList-turn (YieldsList-from_vec c.list.inside.conjs.items gives.0 (gives.1 ∙ c.list.inside.conjs.ok.0)) c.loop-conj.yielded c.loop-conj.conj-iterator c.loop-conj.yielded_by c.next.result c.next.new.self c.in-Some.conj c.in-Some.is c.next.ensures.steps in
    record {
      normal = subst (AllByRecursion (IsByKind IsLinearAtom IsNormalTheme)) (sym c.in_ok-tuple_atoms.ensures)
          (linear_normal c.in-Some.conj.items (normal-at (IsByKind IsOrderAtom IsNormalTheme) c.list.inside.conjs.items _ c.in-Some.conj turn.0 turn.1 c.list.invariant));
    }

pub loop-conj-preserved : goal.loop-conj-preserved
loop-conj-preserved c =
    c.in_ok-push.ensures.pushed ∙ ap (λ xs. xs ++ c.in_ok-tuple_atoms.field-0.items ∷ []) c.loop-conj.invariant ∙ ap (λ x. conjs_of c.loop-conj.yielded ++ x ∷ []) c.in_ok-tuple_atoms.ensures
    ∙ sym (conjs_of-append c.loop-conj.yielded (c.in-Some.conj ∷ []))

pub returns : goal.returns
returns c =
    let gives = c.into_iter-conj-iterator.ensures.into_iter_gives in
    let all = YieldsList-end (YieldsList-from_vec c.list.inside.conjs.items gives.0 (gives.1 ∙ c.list.inside.conjs.ok.0)) c.loop-conj.yielded c.loop-conj.conj-iterator c.loop-conj.yielded_by c.next.result c.next.new.self c.in-None.is c.next.ensures.steps in
    c.loop-conj.invariant ∙ ap conjs_of (sym (map-id c.loop-conj.yielded) ∙ all.0) ∙ c.list.view_is
