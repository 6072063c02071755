use Rattle.std.proofs.Common.{◌∙◌, ap, arith}
use Rattle.ded_model.specs.declared.name.Column.{Column}
use Rattle.ded_model.specs.Point.{same_sort}
use Rattle.ded_readback.proofs.Overs.{column_is, column_not}
use Rattle.ded_readback.proofs.over.is_column.Goals as goal

pub returns-in-Some : goal.returns-in-Some
returns-in-Some c =
    let found = c.in-Some.ensures.lookup in
    c.is_sort.ensures ∙ ap (λ (x : Column). same_sort x.sort c.args.slot.sort) found.1
    ∙ column_is 0 c.args.slot.number c.args.columns.now c.in-Some.column.now c.args.slot (omega arith) found.3.0

pub returns-in-None : goal.returns-in-None
returns-in-None c = column_not 0 c.args.slot.number c.args.columns.now c.args.slot (omega arith) c.in-None.ensures.lookup.3
