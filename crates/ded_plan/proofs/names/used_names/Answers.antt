use Rattle.std.proofs.Common.{◌≡◌, [], sym, ap, ◌∙◌, subst, bytes_eq}
use Rattle.std.specs.List.{list_any}
use Rattle.ded_model.specs.Goal.{goal_form}
use Rattle.ded_plan.specs.ScannedNames.{with_names, used_name, AreDistinctNames}
use Rattle.ded_plan.proofs.ScannedNames.{names_of-goal, names_of-distinct}
use Rattle.ded_plan.proofs.names.used_names.Goals as goal

-- the names that are gathered after none
gathered : (c : goal.In_ok-add_used_names) → c.add_used_names.new.names.items ≡ with_names used_name [] (goal_form c.args.goal.now)
gathered c = c.in_ok-add_used_names.ensures ∙ ap (λ ns. with_names used_name ns (goal_form c.args.goal.now)) c.new-names.ensures.items

pub returns-clause-all : goal.returns-clause-all
returns-clause-all c = λ n. names_of-goal (goal_form c.args.goal.now) n ∙ ap (list_any (bytes_eq n)) (sym (gathered c))

pub returns-clause-once : goal.returns-clause-once
returns-clause-once c = subst AreDistinctNames (sym (gathered c)) (names_of-distinct used_name (goal_form c.args.goal.now))
