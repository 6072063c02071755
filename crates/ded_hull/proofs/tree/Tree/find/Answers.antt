use Rattle.std.proofs.Common.{subst, ◌≤◌, ◌+◌, ◌*◌}
use Rattle.ded_hull.specs.Trees.{IsCost, AreNarrow, looked_at}
use Rattle.ded_hull.proofs.Halved.{tree_cost}
use Rattle.ded_hull.proofs.tree.Tree.find.Goals as goal

pub returns-clause-steps : goal.returns-clause-steps
returns-clause-steps g c =
    let ls = c.args.probe.now in
    let ns = c.self.inside.nodes.items in
    let s = c.args.steps.now in
    let t = c.visit_all.new.steps in
    subst (λ es. IsCost ls es s t) c.self.view_is (tree_cost ls ns c.self.inside.entries.items s t c.self.invariant.1 (subst (λ ks. AreNarrow ks → t ≤ s + 9 * looked_at ls 0 ks) c.deref.ensures.value c.visit_all.ensures.steps))
