use Rattle.ded_linear.proofs.Prunes.{pruned_none}
use Rattle.ded_linear.proofs.pruning.leave_out.Goals as goal

pub returns-then-len-many : goal.returns-then-len-many
returns-then-len-many c = pruned_none c.args.kept.now.rows.items
