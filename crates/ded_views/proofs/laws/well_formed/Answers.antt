use Rattle.ded_views.proofs.Views.{tuples_over, view_accepted, name_level, lesser_level}
use Rattle.ded_views.proofs.laws.well_formed.Goals as goal

pub returns-clause-tuples : goal.returns-clause-tuples
returns-clause-tuples c = tuples_over

pub returns-clause-accepted : goal.returns-clause-accepted
returns-clause-accepted c = view_accepted

pub returns-clause-level : goal.returns-clause-level
returns-clause-level c = name_level

pub returns-clause-lesser : goal.returns-clause-lesser
returns-clause-lesser c = lesser_level
