use Rattle.std.proofs.Common.{ap, ◌∙◌}
use Rattle.ded_model.specs.Constraint.{LinearConstraint}
use Rattle.ded_model.specs.Normal.{normal_row}
use Rattle.ded_row.specs.Renaming.{renamed_row}
use Rattle.ded_order.proofs.Atoms.{renamed_order}
use Rattle.ded_order.proofs.theory.OrderTheory.rename.Goals as goal

pub of-requires : goal.of-requires
of-requires c = (
  c.in_ok-rename.ensures.normal,
  renamed_order c.args.map.now c.args.atom.now c.in_ok-rename.field-0
      (c.in_ok-rename.ensures.value ∙ ap (λ (r : LinearConstraint). normal_row (renamed_row c.args.map.now r)) c.row.ensures.value) c.requires.normal.order,
)
