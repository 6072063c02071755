use Rattle.std.proofs.Common.{◌≡◌, drop}
use Rattle.std.specs.List.{list_any}
use Rattle.ded_database.specs.Closed.{has}
use Rattle.ded_database.specs.Marks.{mark_reaches}
use Rattle.ded_database.proofs.mark.Mark.reaches.Given as goal

abbrev pub invariant-loop-used : goal.invariant-loop-used
invariant-loop-used l = list_any (λ u. has u.reached.items l.name) (drop l.used-index l.used-items) ≡ mark_reaches l.self l.name
