use Rattle.ded_shapes.proofs.WindowCorners.{has_corner, is_drawn, corner_inside, corner_within}
use Rattle.ded_shapes.proofs.laws.shapes.Goals as goal

pub returns-clause-drawn : goal.returns-clause-drawn
returns-clause-drawn c = λ x y differ. has_corner x y differ

pub returns-clause-tuples : goal.returns-clause-tuples
returns-clause-tuples c = λ x y differ. is_drawn x y differ

pub returns-clause-within : goal.returns-clause-within
returns-clause-within c = corner_inside

pub returns-clause-corners : goal.returns-clause-corners
returns-clause-corners c = λ x y differ. corner_within x y differ
