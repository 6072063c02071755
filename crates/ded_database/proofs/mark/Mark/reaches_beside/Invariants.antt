use Rattle.std.proofs.Common.{◌≡◌, ◌&&◌, not, drop, bytes_eq}
use Rattle.std.specs.List.{list_any}
use Rattle.ded_database.specs.Closed.{has}
use Rattle.ded_database.specs.Marks.{reaches_beside}
use Rattle.ded_database.proofs.mark.Mark.reaches_beside.Given as goal

abbrev pub invariant-loop-used : goal.invariant-loop-used
invariant-loop-used l = list_any (λ u. not (bytes_eq u.name l.name) && has u.reached.items l.name) (drop l.used-index l.used-items) ≡ reaches_beside l.self l.name
