use Rattle.std.proofs.Common.{List, ◌++◌, ◌∙◌, subst}
use Rattle.std.proofs.lemmas.Result.{IfOk-weaker}
use Rattle.ded_model.specs.PlanForm.{plan_form}
use Rattle.ded_model.specs.Row.{Atom}
use Rattle.ded_keep.specs.Adding.{with_alone}
use Rattle.ded_keep.specs.Remaining.{IsParted, AreLeft, IsRemaining}
use Rattle.ded_keep.proofs.AloneMeanings.{added_alone}
use Rattle.ded_keep.proofs.Leaving.{left_all, remaining, right_after}
use Rattle.ded_keep.proofs.removing.remove_tuple.Goals as goal
use Rattle.ded_keep.proofs.removing.remove_tuple.Goals.{After-drop-lost-inside-2}

is_remaining : (g : _) (c : After-drop-lost-inside-2 g) (ts : List (List Atom)) → AreLeft (g.A.Relations.catalogue c.args.after.now) (plan_form c.args.plan.now) c.deref-2.result.now (c.in_ok-parted.parted.apart ++ c.in_ok-parted.parted.near) ts
    → IsRemaining (with_alone (g.R.Relations.catalogue c.args.others.now) c.args.gone.now.name.now c.args.gone.now.heading.now c.args.gone.now.tuple.now) (g.A.Relations.catalogue c.args.after.now) (plan_form c.args.plan.now) c.args.kept ts
is_remaining g c ts k =
    let e = g.A.Relations.catalogue c.args.after.now in
    let f = plan_form c.args.plan.now in
    let parted = c.in_ok-parted.parted in
    let x = subst (λ ls. IsParted ls c.args.kept parted.apart parted.near) (c.deref.ensures.value ∙ c.lost.view_is) c.in_ok-parted.ensures in
    remaining e f c.in_ok-lost.lost (with_alone (g.R.Relations.catalogue c.args.others.now) c.args.gone.now.name.now c.args.gone.now.heading.now c.args.gone.now.tuple.now) c.args.kept ts c.in_ok-lost.ensures.is
    (left_all e f c.in_ok-lost.lost c.args.kept parted.apart parted.near ts x (subst (λ ls. AreLeft e f ls (parted.apart ++ parted.near) ts) (c.deref-2.ensures.value ∙ c.lost.view_is) k))

pub returns-clause-is : goal.returns-clause-is
returns-clause-is g c = IfOk-weaker c.left_of.result _ _ (λ ts k. is_remaining g c ts k) c.left_of.ensures.is

pub returns-clause-removes : goal.returns-clause-removes
returns-clause-removes g c =
    IfOk-weaker c.left_of.result _ _
    (λ ts k b d x after before p i.
    right_after (with_alone (g.R.Relations.catalogue c.args.others.now) c.args.gone.now.name.now c.args.gone.now.heading.now c.args.gone.now.tuple.now) (g.A.Relations.catalogue c.args.after.now) (plan_form c.args.plan.now) c.args.kept ts
    (is_remaining g c ts k) p i _ _
    (added_alone (g.R.Relations.catalogue c.args.others.now) d b c.args.gone.now.name.now c.args.gone.now.heading.now c.args.gone.now.tuple.now (plan_form c.args.plan.now) c.formed.ensures c.requires.apart c.requires.additive x p i) (after p i) (before p i)) c.left_of.ensures.is
