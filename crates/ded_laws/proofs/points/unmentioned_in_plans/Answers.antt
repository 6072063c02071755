use Rattle.ded_model.specs.PlanForm.{PlanAtomHolds, in_plan_atom}
use Rattle.ded_model.specs.Catalogue.{meaning}
use Rattle.ded_model.proofs.Sats.{plan_respects}
use Rattle.ded_model.proofs.Unused.{extension, unused}
use Rattle.ded_laws.proofs.points.unmentioned_in_plans.Goals as goal

pub returns-clause-extension : goal.returns-clause-extension
returns-clause-extension c = λ d f s k p q. extension (PlanAtomHolds (meaning d)) in_plan_atom (plan_respects d) f s k p q

pub returns-clause-exists : goal.returns-clause-exists
returns-clause-exists c = λ d f s k p. unused (PlanAtomHolds (meaning d)) in_plan_atom (plan_respects d) f s k p
