use Rattle.std.proofs.Common.{◌≡◌, [], sym, ap, ◌∙◌, subst, bytes_eq}
use Rattle.std.specs.List.{list_any}
use Rattle.ded_model.specs.PlanForm.{plan_form}
use Rattle.ded_plan.specs.ScannedNames.{with_names, scanned_name, AreDistinctNames}
use Rattle.ded_plan.proofs.ScannedNames.{names_of-plan, names_of-distinct}
use Rattle.ded_plan.proofs.names.scanned_names.Goals as goal

-- the names that are gathered after none
gathered : (c : goal.In_ok-add_names) → c.add_names.new.names.items ≡ with_names scanned_name [] (plan_form c.args.plan.now)
gathered c = c.in_ok-add_names.ensures ∙ ap (λ ns. with_names scanned_name ns (plan_form c.args.plan.now)) c.new-names.ensures.items

pub returns-clause-all : goal.returns-clause-all
returns-clause-all c = λ n. names_of-plan (plan_form c.args.plan.now) n ∙ ap (list_any (bytes_eq n)) (sym (gathered c))

pub returns-clause-once : goal.returns-clause-once
returns-clause-once c = subst AreDistinctNames (sym (gathered c)) (names_of-distinct scanned_name (plan_form c.args.plan.now))
