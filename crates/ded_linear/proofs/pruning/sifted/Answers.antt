use Rattle.std.proofs.Common.{◌+◌, ◌++◌, drop, sym, subst}
use Rattle.ded_linear.specs.Prunings.{IsPruned}
use Rattle.ded_linear.proofs.Prunes.{kept_normal, pruned_before, pruned_none, pruned_then}
use Rattle.ded_linear.proofs.pruning.sifted.Goals as goal

pub loop-i-init : goal.loop-i-init
loop-i-init c = subst (λ xs. IsPruned (xs ++ c.args.rows.now) c.args.rows.now) (sym c.new-kept.ensures) (pruned_none c.args.rows.now)

pub leave_out-requires : goal.leave_out-requires
leave_out-requires c = record { normal = kept_normal c.keep_needed.new.kept.rows.items (drop (c.loop-i.i + 1) c.args.rows.now) c.args.rows.now c.in_ok-keep_needed.ensures c.requires.normal }

pub loop-i-preserved : goal.loop-i-preserved
loop-i-preserved c =
    let rest = drop (c.loop-i.i + 1) c.args.rows.now in
    pruned_then (c.leave_out.new.kept.rows.items ++ rest) (c.keep_needed.new.kept.rows.items ++ rest) c.args.rows.now (pruned_before c.leave_out.new.kept.rows.items c.keep_needed.new.kept.rows.items rest c.in_ok-many.ensures) c.in_ok-keep_needed.ensures
