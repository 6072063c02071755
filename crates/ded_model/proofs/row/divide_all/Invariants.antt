use Rattle.std.proofs.Common.{◌≡◌, ◌++◌, take, drop}
use Rattle.ded_model.specs.Normal.{coefs_over}
use Rattle.ded_model.proofs.row.divide_all.Given as goal

abbrev pub invariant-loop-entry : goal.invariant-loop-entry
invariant-loop-entry l = l.list ≡ coefs_over l.by (take l.entry-index l.initial.list) ++ drop l.entry-index l.initial.list
