use Rattle.std.proofs.Common.{◌≡◌, ◌++◌, drop}
use Rattle.ded_weighing.specs.Columns.{lent}
use Rattle.ded_cert.specs.Choosing.{chosen}
use Rattle.ded_cert.proofs.choosing.chosen.Given as goal

abbrev pub invariant-loop-i : goal.invariant-loop-i
invariant-loop-i l = lent l.few.items ++ chosen (drop l.i l.flags) (lent (drop l.i l.rows)) ≡ chosen l.flags (lent l.rows)
