use Rattle.std.proofs.Common.{◌++◌, sym, subst}
use Rattle.ded_linear.specs.Prunings.{IsPruned}
use Rattle.ded_linear.proofs.Prunes.{pruned_none}
use Rattle.ded_linear.proofs.pruning.needed.Goals as goal

pub loop-i-init : goal.loop-i-init
loop-i-init c = subst (λ xs. IsPruned (xs ++ c.args.rows.now) c.args.rows.now) (sym c.new-kept.ensures) (pruned_none c.args.rows.now)
