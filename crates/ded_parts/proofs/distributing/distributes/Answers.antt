use Rattle.ded_model.specs.PlanForm.{plan_form}
use Rattle.ded_parts.specs.Distributing.{scans_made}
use Rattle.ded_parts.proofs.Tests.{passes_then, fails_then}
use Rattle.ded_parts.proofs.distributing.distributes.Goals as goal

pub returns-then-is_additive : goal.returns-then-is_additive
returns-then-is_additive c = passes_then c.is_additive.result c.scans_made.result _ _ c.is_additive.ensures c.if-is_additive.true c.scans_made.ensures

pub returns-else-is_additive : goal.returns-else-is_additive
returns-else-is_additive c = fails_then c.is_additive.result _ (scans_made c.args.name.now (plan_form c.args.plan.now)) c.is_additive.ensures c.if-is_additive.false
