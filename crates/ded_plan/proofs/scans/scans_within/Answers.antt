use Rattle.ded_model.specs.PlanForm.{plan_form}
use Rattle.ded_plan.proofs.AddedScans.{read_within}
use Rattle.ded_plan.proofs.scans.scans_within.Goals as goal

pub returns : goal.returns
returns c = read_within (plan_form c.args.plan.now) c.args.within.now c.new-scans.result.items c.add_scans.new.scans.items c.new-scans.ensures.items c.in_ok-add_scans.ensures
