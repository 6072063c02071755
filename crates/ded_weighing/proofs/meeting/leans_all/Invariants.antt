use Rattle.std.proofs.Common.{◌≡◌, drop}
use Rattle.std.specs.List.{list_all}
use Rattle.ded_weighing.specs.Columns.{lent}
use Rattle.ded_weighing.specs.Meeting.{leans_row}
use Rattle.ded_weighing.proofs.meeting.leans_all.Given as goal

abbrev pub invariant-loop-row : goal.invariant-loop-row
invariant-loop-row l =
    list_all (λ r. leans_row l.witness.values.items l.witness.denominator r) (lent (drop l.row-index l.rows))
    ≡ list_all (λ r. leans_row l.witness.values.items l.witness.denominator r) (lent l.rows)
