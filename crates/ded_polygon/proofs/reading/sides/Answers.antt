use Rattle.std.proofs.Common.{◌++◌, ◌∙◌, ap, ap₂, sym}
use Rattle.ded_model.specs.Constraint.{row_op}
use Rattle.ded_polygon.specs.Rows.{by_op}
use Rattle.ded_polygon.proofs.Places.{in_read}
use Rattle.ded_polygon.proofs.Framing.{more_planes}
use Rattle.ded_polygon.proofs.reading.sides.Goals as goal

pub returns-in_default-clause-wide : goal.returns-in_default-clause-wide
returns-in_default-clause-wide c = λ h range. c.in_default.ensures (range c.row-item.result (in_read c.args.rows.now c.loop-row.row-index _ c.loop-row-test.true c.row-item.is))

pub loop-row-preserved : goal.loop-row-preserved
loop-row-preserved c =
    let rows = c.args.rows.now in
    let i = c.loop-row.row-index in
    let r = c.row-item.result in
    c.in_ok-add.ensures
    ∙ ap₂ (λ ss ts. ss ++ ts) c.loop-row.invariant (ap₂ by_op (ap row_op c.row.view_is) c.in-Some.ensures)
    ∙ sym (more_planes c.args.x c.args.y rows i r c.loop-row-test.true c.row-item.is)
