use Rattle.std.proofs.Common.{◌≡◌}
use Rattle.ded_query.specs.Windows.{added}
use Rattle.ded_query.proofs.near.add_all.Given as goal

abbrev pub invariant-loop-relation : goal.invariant-loop-relation
invariant-loop-relation l = l.given ≡ added l.fn.given l.yielded
