use Rattle.std.proofs.Common.{ℕ, ◌<◌, get_or}
use Rattle.ded_model.specs.Constraint.{LinearConstraint}
use Rattle.ded_polygon.specs.Closures.{MentionsOnly}
use Rattle.ded_polygon.proofs.reading.mention_only.Given as goal

abbrev pub invariant-loop-row : goal.invariant-loop-row
invariant-loop-row l = (k : ℕ) → k < l.row-index → (d : LinearConstraint) → MentionsOnly l.x l.y (get_or l.rows k d)
