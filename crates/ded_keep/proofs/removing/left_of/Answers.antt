use Rattle.std.proofs.Common.{◌++◌, ◌∷◌, [], sym, ap, ap₂, ◌∙◌, subst, append_assoc, append-nil}
use Rattle.std.proofs.lemmas.Iterator.Adapters.{YieldsList-from_vec}
use Rattle.std.proofs.lemmas.Iterator.Consumers.{YieldsList-end}
use Rattle.std.proofs.lemmas.List.{map-id}
use Rattle.ded_model.specs.PlanForm.{plan_form}
use Rattle.ded_keep.specs.declared.removing.Parted.{Parted}
use Rattle.ded_keep.specs.Remaining.{AreApart, AreLeft}
use Rattle.ded_keep.proofs.Leaving.{left_apart, left_put}
use Rattle.ded_keep.proofs.removing.left_of.Goals as goal

pub loop-tuple-init : goal.loop-tuple-init
loop-tuple-init g c =
    let apart = c.parted.inside.0.0.list.items in
    subst (AreLeft (g.A.Relations.catalogue c.args.after.now) (plan_form c.args.plan.now) c.args.lost.now (apart ++ [])) (sym (ap (λ us. apart ++ us) c.new-cut.ensures.items ∙ append-nil apart))
    (left_apart (g.A.Relations.catalogue c.args.after.now) (plan_form c.args.plan.now) c.args.lost.now apart (subst (λ ts. AreApart ts c.args.lost.now) (sym (ap (λ (s : Parted). s.apart) c.parted.view_is)) c.requires.apart))

pub loop-tuple-preserved : goal.loop-tuple-preserved
loop-tuple-preserved g c =
    subst (λ ts. AreLeft (g.A.Relations.catalogue c.args.after.now) (plan_form c.args.plan.now) c.args.lost.now ts (c.add_within.new.list.items ++ c.add_within.new.cut.items))
    (append_assoc c.parted.inside.0.0.list.items c.loop-tuple.yielded (c.in-Some.tuple ∷ []))
    (c.in_ok-add_within.ensures.is c.args.lost.now (c.parted.inside.0.0.list.items ++ c.loop-tuple.yielded) c.loop-tuple.invariant)

pub returns-clause-is : goal.returns-clause-is
returns-clause-is g c =
    let near = c.parted.inside.0.1.0.list in
    let gives = c.into_iter-tuple-iterator.ensures.into_iter_gives in
    let all = YieldsList-end (YieldsList-from_vec near.items gives.0 (gives.1 ∙ near.ok.0)) c.loop-tuple.yielded c.loop-tuple.tuple-iterator c.loop-tuple.yielded_by c.next.result c.next.new.self c.in-None.is c.next.ensures.steps in
    let is = ap₂ (λ xs ys. xs ++ ys) (ap (λ (s : Parted). s.apart) c.parted.view_is) (sym (map-id c.loop-tuple.yielded) ∙ all.0 ∙ ap (λ (s : Parted). s.near) c.parted.view_is) in
    subst (λ ts. AreLeft (g.A.Relations.catalogue c.args.after.now) (plan_form c.args.plan.now) c.args.lost.now ts c.put_behind.new.list.items) is
    (left_put (g.A.Relations.catalogue c.args.after.now) (plan_form c.args.plan.now) c.args.lost.now (c.parted.inside.0.0.list.items ++ c.loop-tuple.yielded) c.loop-tuple.list.items c.loop-tuple.cut.items c.put_behind.new.list.items c.in_ok-put_behind.ensures
    c.loop-tuple.invariant)
