use Rattle.std.proofs.Common.{subst}
use Rattle.ded_model.specs.PlanForm.{plan_form}
use Rattle.ded_keep.specs.Adding.{with_alone, IsExtended}
use Rattle.ded_keep.specs.Behind.{IsPutBehind}
use Rattle.ded_keep.proofs.AloneMeanings.{added_alone}
use Rattle.ded_keep.proofs.Appended.{extended_behind, kept_after}
use Rattle.ded_keep.proofs.keeping.add_tuple.Goals as goal
use Rattle.ded_keep.proofs.keeping.add_tuple.Goals.{In_ok-put_behind}

is_extended : (g : _) (c : In_ok-put_behind g) → IsExtended (with_alone (g.R.Relations.catalogue c.args.others.now) c.args.added.now.name.now c.args.added.now.heading.now c.args.added.now.tuple.now) (plan_form c.args.plan.now) c.args.kept c.put_behind.new.list.items
is_extended g c =
    extended_behind (with_alone (g.R.Relations.catalogue c.args.others.now) c.args.added.now.name.now c.args.added.now.heading.now c.args.added.now.tuple.now) (plan_form c.args.plan.now) c.args.kept c.in_ok-more.more c.put_behind.new.list.items
    (subst (λ ks. IsPutBehind ks c.in_ok-more.more c.put_behind.new.list.items) c.kept.view_is c.in_ok-put_behind.ensures) c.in_ok-more.ensures.is

pub returns-clause-is : goal.returns-clause-is
returns-clause-is g c = is_extended g c

pub returns-clause-adds : goal.returns-clause-adds
returns-clause-adds g c = λ b d addition before p i.
    kept_after _ _ _ _ ((is_extended g c).holds p i) _ (before p i)
    (added_alone (g.R.Relations.catalogue c.args.others.now) b d c.args.added.now.name.now c.args.added.now.heading.now c.args.added.now.tuple.now (plan_form c.args.plan.now) c.formed.ensures c.requires.apart c.requires.additive addition p i)
