use Rattle.std.proofs.Common.{rules, ◌≡◌, ◌<◌, ◌∷◌, ◌++◌, [], length}
use Rattle.std.proofs.lemmas.List.Sorted.{length_permutation}
use Rattle.ded_hull.proofs.Merged.{reordered, planted}
use Rattle.ded_hull.proofs.Falling.{falling_more}
use Rattle.ded_hull.proofs.hulls.plant.Goals as goal

pub returns-in_err-tree-clause-entries : goal.returns-in_err-tree-clause-entries
returns-in_err-tree-clause-entries c = reordered c.args.trees.now.items c.reserve.new.self.items c.args.tail.now.items c.build.new.entries.items c.reserve.ensures.items c.in_err-tree.ensures.kept

pub returns-clause-entries : goal.returns-clause-entries
returns-clause-entries c =
    let more : c.push_reserved.new.self.items ≡ c.args.trees.now.items ++ c.in_ok-tree.tree ∷ [] = search rules in
    planted c.args.trees.now.items c.push_reserved.new.self.items c.in_ok-tree.tree c.args.tail.now.items c.build.new.entries.items more c.in_ok-tree.ensures.moved c.in_ok-tree.ensures.built

pub returns-clause-falling : goal.returns-clause-falling
returns-clause-falling c = λ h r.
    let more : c.push_reserved.new.self.items ≡ c.args.trees.now.items ++ c.in_ok-tree.tree ∷ [] = search rules in
    let some : 0 < length c.args.tail.now.items = search rules in
    falling_more c.args.trees.now.items c.push_reserved.new.self.items c.in_ok-tree.tree (length c.args.tail.now.items) more (length_permutation c.args.tail.now.items c.in_ok-tree.tree c.in_ok-tree.ensures.built) some r h
