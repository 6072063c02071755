use Rattle.ded_index.proofs.Added.{added_to_tree, added_apart}
use Rattle.ded_index.proofs.index.add.Goals as goal

pub returns-in_ok-push-clause-added : goal.returns-in_ok-push-clause-added
returns-in_ok-push-clause-added c = added_to_tree c.args.tree.now.items c.push.new.self.items c.args.apart.now.items _ c.in_ok-push.ensures.items

pub returns-in_ok-push-2-clause-added : goal.returns-in_ok-push-2-clause-added
returns-in_ok-push-2-clause-added c = added_apart _ c.args.apart.now.items c.push-else-is_full.new.self.items c.args.entry c.in_ok-push-2.ensures.items
