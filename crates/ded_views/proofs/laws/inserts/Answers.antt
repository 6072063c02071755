use Rattle.ded_views.proofs.Changing.{inserted, inserted_lines}
use Rattle.ded_views.proofs.laws.inserts.Goals as goal

pub returns-clause-own : goal.returns-clause-own
returns-clause-own c = inserted

pub returns-clause-lines : goal.returns-clause-lines
returns-clause-lines c = inserted_lines
