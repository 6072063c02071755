-- The row is put, and then finished.
use Rattle.std.proofs.Common.{◌∙◌, ap, List}
use Rattle.ded_model.specs.declared.name.Column.{Column}
use Rattle.ded_print.specs.Tuples.{column_names, row_text}
use Rattle.ded_print.proofs.Gathering.{prints, adds_as}
use Rattle.ded_print.proofs.part.print_row.Goals as goal

pub returns-clause-bytes : goal.returns-clause-bytes
returns-clause-bytes g c =
    adds_as _ _ _ _ _
    (ap (λ (columns : List Column). row_text (column_names columns) c.args.row.now) (c.new-names.ensures ∙ c.columns_of.ensures))
    (prints _ _ _ _ _ _ _ _ _ c.new-gathered.ensures.pending c.new-gathered.ensures.sent c.put_row.ensures c.finish.ensures).0

pub returns-clause-cause : goal.returns-clause-cause
returns-clause-cause g c = (prints _ _ _ _ _ _ _ _ _ c.new-gathered.ensures.pending c.new-gathered.ensures.sent c.put_row.ensures c.finish.ensures).1
