use Rattle.std.proofs.Common.{take, ap, ◌∙◌}
use Rattle.ded_model.specs.PlanForm.{plan_form}
use Rattle.ded_catalog.specs.Snapshots.{snapshot_of}
use Rattle.ded_query.specs.Gathering.{IsPosedPlan}
use Rattle.ded_query.proofs.BelowTried.{below_none}
use Rattle.ded_query.proofs.Gathered.{front_kept}
use Rattle.ded_query.proofs.answering.planned_over.Goals as goal

pub returns-clause-held : goal.returns-clause-held
returns-clause-held g c =
    c.keep_first.ensures ∙ ap (λ k. take k c.evaluated_by-tuples.new.given) c.count-count.ensures ∙ front_kept c.args.held.now c.evaluated_by-tuples.new.given c.evaluated_by-tuples.ensures.front

pub evaluated_by-tuples-requires-clause-below : goal.evaluated_by-tuples-requires-clause-below
evaluated_by-tuples-requires-clause-below g c =
    below_none (snapshot_of c.args.snapshot.now) c.args.held.now c.new-tried.result (IsPosedPlan (snapshot_of c.args.snapshot.now) (plan_form c.args.plan.now)) 16 c.new-tried.ensures c.requires.posed
