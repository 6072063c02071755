use Rattle.std.proofs.Common.{ap, ◌∙◌, sym, subst, [], ◌∷◌}
use Rattle.std.proofs.lemmas.Iterator.Adapters.{YieldsList-from_vec}
use Rattle.std.proofs.lemmas.Iterator.Consumers.{YieldsList-turn, YieldsList-end}
use Rattle.std.proofs.lemmas.List.{map-id}
use Rattle.ded_model.specs.Normal.{IsNormalTheme}
use Rattle.ded_theory.specs.Both.{IsByKind}
use Rattle.ded_elimination.specs.LinearAtoms.{IsLinearAtom}
use Rattle.ded_atoms.proofs.Conjunctive.{normal_or_true}
use Rattle.ded_genrel.specs.Lists.{conjs_of}
use Rattle.ded_genrel.proofs.Items.{normal-at, conjs_of-append}
use Rattle.ded_atoms.specs.Written.{IsWrittenAs}
use Rattle.ded_atoms.proofs.TuplesWritten.{written_none, written_more}
use Rattle.ded_atoms.proofs.writing.tuples.Goals as goal

pub loop-conj-init : goal.loop-conj-init
loop-conj-init c = subst (IsWrittenAs []) (sym c.in_ok-tuples.ensures.items) written_none

pub normal_tuple-requires : goal.normal_tuple-requires
normal_tuple-requires c =
    let gives = c.into_iter-conj-iterator.ensures.into_iter_gives in
    let turn = YieldsList-turn (YieldsList-from_vec c.list.inside.conjs.items gives.0 (gives.1 ∙ c.list.inside.conjs.ok.0)) c.loop-conj.yielded c.loop-conj.conj-iterator c.loop-conj.yielded_by c.next.result c.next.new.self c.in-Some.conj c.in-Some.is c.next.ensures.steps in
    normal_or_true c.in-Some.conj.items (normal-at (IsByKind IsLinearAtom IsNormalTheme) c.list.inside.conjs.items _ c.in-Some.conj turn.0 turn.1 c.list.invariant)

pub loop-conj-preserved : goal.loop-conj-preserved
loop-conj-preserved c =
    subst (λ xs. IsWrittenAs xs c.push.new.self.items) (sym (conjs_of-append c.loop-conj.yielded (c.in-Some.conj ∷ [])))
    (written_more (conjs_of c.loop-conj.yielded) c.loop-conj.tuples.items c.push.new.self.items c.in-Some.conj.items c.in_ok-normal_tuple.field-0 c.in_ok-push.ensures.items
    c.in_ok-normal_tuple.ensures.holds c.in_ok-normal_tuple.ensures.slots c.in_ok-normal_tuple.ensures.lines c.loop-conj.invariant)

pub returns : goal.returns
returns c =
    let gives = c.into_iter-conj-iterator.ensures.into_iter_gives in
    let all = YieldsList-end (YieldsList-from_vec c.list.inside.conjs.items gives.0 (gives.1 ∙ c.list.inside.conjs.ok.0)) c.loop-conj.yielded c.loop-conj.conj-iterator c.loop-conj.yielded_by c.next.result c.next.new.self c.in-None.is c.next.ensures.steps in
    subst (λ xs. IsWrittenAs xs c.loop-conj.tuples.items) (ap conjs_of (sym (map-id c.loop-conj.yielded) ∙ all.0) ∙ c.list.view_is) c.loop-conj.invariant
