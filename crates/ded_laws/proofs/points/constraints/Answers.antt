use Rattle.ded_model.proofs.Rows.{row_holds-same, theme_holds-same, atom_holds-same, tuple_holds-same, tuples_hold-same}
use Rattle.ded_laws.proofs.points.constraints.Goals as goal

pub returns-clause-row : goal.returns-clause-row
returns-clause-row c = row_holds-same

pub returns-clause-text : goal.returns-clause-text
returns-clause-text c = theme_holds-same

pub returns-clause-atom : goal.returns-clause-atom
returns-clause-atom c = atom_holds-same

pub returns-clause-tuple : goal.returns-clause-tuple
returns-clause-tuple c = tuple_holds-same

pub returns-clause-tuples : goal.returns-clause-tuples
returns-clause-tuples c = tuples_hold-same
