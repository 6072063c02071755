use Rattle.std.proofs.Common.{inl, inr, sym, ap, ◌∙◌}
use Rattle.ded_model.specs.PlanForm.{plan_form}
use Rattle.ded_keep.proofs.ScanCounts.{some_scan, uses_by}
use Rattle.ded_keep.proofs.additive.uses.Goals as goal

pub returns-in-Never : goal.returns-in-Never
returns-in-Never c = ap some_scan (sym c.in-Never.is) ∙ uses_by c.args.name.now (plan_form c.args.plan.now) c.count.result c.count.ensures

pub returns-in-Once : goal.returns-in-Once
returns-in-Once c =
    let by = uses_by c.args.name.now (plan_form c.args.plan.now) c.count.result c.count.ensures in
    elim c.in-Once.is [ inl e ↦ ap some_scan (sym e) ∙ by | inr e ↦ ap some_scan (sym e) ∙ by ]
