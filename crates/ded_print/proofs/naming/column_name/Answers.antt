-- The column is there, or it isn't.
use Rattle.std.proofs.Common.{◌∙◌, ap}
use Rattle.ded_model.specs.declared.name.Column.{Column}
use Rattle.ded_print.proofs.Columns.{column_there, column_absent}
use Rattle.ded_print.proofs.naming.column_name.Goals as goal

pub returns-in-Some : goal.returns-in-Some
returns-in-Some c =
    let found = c.in-Some.ensures.lookup in
    c.name_bytes.ensures ∙ ap (λ (x : Column). x.name) found.1 ∙ column_there c.args.columns.now c.args.number c.in-Some.column.now found.3.0

pub returns-in-None : goal.returns-in-None
returns-in-None c = column_absent c.args.columns.now c.args.number c.in-None.ensures.lookup.3
