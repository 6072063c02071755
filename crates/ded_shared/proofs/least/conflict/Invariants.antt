use Rattle.std.proofs.Common.{take}
use Rattle.std.specs.Prelude.{option_map}
use Rattle.ded_shared.proofs.LeastName.{LeastOf}
use Rattle.ded_shared.proofs.least.conflict.Given as goal

abbrev pub invariant-loop-name : goal.invariant-loop-name
invariant-loop-name l = LeastOf (take l.name-index l.touched) l.stale (option_map (λ n. n.now) l.least)
