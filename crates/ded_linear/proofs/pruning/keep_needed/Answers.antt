use Rattle.std.proofs.Common.{drop}
use Rattle.ded_linear.proofs.Prunes.{kept_normal, pruned_left_out}
use Rattle.ded_linear.proofs.pruning.keep_needed.Goals as goal

pub imply-requires-clause-kept : goal.imply-requires-clause-kept
imply-requires-clause-kept c = kept_normal c.args.kept.now.rows.items (drop c.args.place c.args.rows.now) c.args.rows.now c.requires.so_far c.requires.normal

pub returns-then-branch : goal.returns-then-branch
returns-then-branch c =
    pruned_left_out c.args.kept.now.rows.items c.args.rows.now c.behind-others.result.now c.args.place c.index-rows-place.result c.requires.within c.index-rows-place.is c.behind-others.ensures
    (c.in_ok-imply.ensures c.if-branch.true) c.requires.so_far
