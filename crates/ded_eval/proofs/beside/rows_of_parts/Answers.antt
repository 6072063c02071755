use Rattle.std.proofs.Common.{sym, subst}
use Rattle.ded_model.specs.Logic.{AllAtomsOf}
use Rattle.ded_model.specs.PlanForm.{plan_forms}
use Rattle.ded_algebra.specs.Evaluation.{IsScannable}
use Rattle.ded_eval.proofs.Parts.{part_atoms}
use Rattle.ded_eval.proofs.beside.rows_of_parts.Goals as goal

pub push_rows-requires-clause-plan : goal.push_rows-requires-clause-plan
push_rows-requires-clause-plan g c = (
  c.requires.0,
  part_atoms (IsScannable g.T.OfTuples.reads c.requires.0) c.deref-part-items.result.now c.loop-part.part-index c.part-item.result c.loop-part-test.true c.part-item.is
      (subst (λ ps. AllAtomsOf (IsScannable g.T.OfTuples.reads c.requires.0) (plan_forms ps)) (sym c.deref-part-items.ensures.value) c.requires.1),
)
