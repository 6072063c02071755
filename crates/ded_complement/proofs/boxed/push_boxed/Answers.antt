use Rattle.std.proofs.Common.{[], ◌∷◌, ◌++◌, ◌∙◌, sym, ap, subst, append_assoc}
use Rattle.std.proofs.lemmas.Iterator.Adapters.{YieldsList-from_vec}
use Rattle.std.proofs.lemmas.Iterator.Consumers.{YieldsList-turn}
use Rattle.ded_genrel.specs.Lists.{conjs_of}
use Rattle.ded_genrel.proofs.Items.{all-push, normal-at, conjs_of-append}
use Rattle.ded_complement.specs.Boxed.{conjs_in, IsBoxed, AreBoxed}
use Rattle.ded_complement.proofs.Boxes.{longer_by}
use Rattle.ded_complement.proofs.boxed.push_boxed.Goals as goal

pub with_box-requires-clause-normal : goal.with_box-requires-clause-normal
with_box-requires-clause-normal g c =
    let gives = c.into_iter-conj-iterator.ensures.into_iter_gives in
    let turn = YieldsList-turn (YieldsList-from_vec c.list.inside.conjs.items gives.0 (gives.1 ∙ c.list.inside.conjs.ok.0)) c.loop-conj.yielded c.loop-conj.conj-iterator c.loop-conj.yielded_by c.next.result c.next.new.self c.in-Some.conj c.in-Some.is c.next.ensures.steps in
    normal-at g.T.Theory.normal c.list.inside.conjs.items _ c.in-Some.conj turn.0 turn.1 c.list.invariant

pub loop-conj-preserved : goal.loop-conj-preserved
loop-conj-preserved g c =
    let h = g.T.Theory.holds in
    let n = g.T.Theory.normal in
    let ss = c.args.slots.now in
    let done = conjs_in c.args.out.now.items ++ conjs_of c.loop-conj.yielded in
    let next = conjs_in c.args.out.now.items ++ conjs_of (c.loop-conj.yielded ++ c.in-Some.conj ∷ []) in
    record {
      same = longer_by c.loop-conj.out.items c.push.new.self.items done next c.in_ok-with_box.field-0 c.in-Some.conj.items c.in_ok-push.ensures.items c.in_ok-with_box.ensures.same c.loop-conj.invariant.same
          (ap (λ ys. conjs_in c.args.out.now.items ++ ys) (conjs_of-append c.loop-conj.yielded (c.in-Some.conj ∷ [])) ∙ sym (append_assoc (conjs_in c.args.out.now.items) (conjs_of c.loop-conj.yielded) (c.in-Some.conj.items ∷ [])));
      boxed = subst (AreBoxed h n ss) (sym c.in_ok-push.ensures.items) (all-push (IsBoxed h n ss) c.loop-conj.out.items c.in_ok-with_box.field-0 c.loop-conj.invariant.boxed c.in_ok-with_box.ensures.boxed);
    }
