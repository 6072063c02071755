use Rattle.ded_reread.proofs.Lines.{header_spelled, header_whole, relation_line, insert_line}
use Rattle.ded_reread.proofs.Views.{view_line}
use Rattle.ded_reread.proofs.laws.read_lines.Goals as goal

pub returns-clause-header : goal.returns-clause-header
returns-clause-header c = header_spelled

pub returns-clause-whole_header : goal.returns-clause-whole_header
returns-clause-whole_header c = header_whole

pub returns-clause-relations : goal.returns-clause-relations
returns-clause-relations c = relation_line

pub returns-clause-inserts : goal.returns-clause-inserts
returns-clause-inserts c = insert_line c.read_tuples.ensures.plain c.read_tuples.ensures.short

pub returns-clause-views : goal.returns-clause-views
returns-clause-views c = view_line c.read_formulas.ensures.plain c.read_formulas.ensures.short
