use Rattle.std.proofs.Common.{sym, ap, ◌∙◌}
use Rattle.ded_model.specs.contracts.equality.rows.RowEq.TheImpl.Laws.{laws-law}
use Rattle.ded_model.specs.Lines.{row_lines}
use Rattle.ded_database.specs.Lost.{as_lines}
use Rattle.ded_database.proofs.RowLines.{apart_one, among_one}
use Rattle.ded_database.proofs.lines.is_one_of.Goals as goal

pub returns-in-Some-clause-there : goal.returns-in-Some-clause-there
returns-in-Some-clause-there c = λ e. among_one _ c.equal_tuples.ensures.rows (row_lines c.args.row.now) c.args.lines.now c.in-Some.line (sym c.in_ok-line.ensures ∙ ap as_lines c.in-Some.is) (sym c.contains.ensures.value ∙ e)

pub returns-in-Some-clause-apart : goal.returns-in-Some-clause-apart
returns-in-Some-clause-apart c = λ e. apart_one _ laws-law (row_lines c.args.row.now) c.args.lines.now c.in-Some.line (sym c.in_ok-line.ensures ∙ ap as_lines c.in-Some.is) (sym c.contains.ensures.value ∙ e)
