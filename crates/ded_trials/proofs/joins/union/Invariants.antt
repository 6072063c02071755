use Rattle.ded_model.specs.Catalogue.{Catalogue}
use Rattle.ded_model.specs.Logic.{AllAtomsOf}
use Rattle.ded_model.specs.PlanForm.{plan_forms}
use Rattle.ded_algebra.specs.Evaluation.{IsAnyAtom, IsScannable}
use Rattle.ded_trials.proofs.joins.union.Given as goal

abbrev pub invariant-loop-tuple : goal.invariant-loop-tuple
invariant-loop-tuple l = (c : Catalogue) → AllAtomsOf (IsScannable IsAnyAtom c) (plan_forms l.parts.items)
