use Rattle.std.proofs.Common.{rules, true, ◌≡◌, ◌∙◌, ap, sym, subst, length, take, drop, ◌++◌}
use Rattle.std.specs.List.Sorted.{IsPermutation}
use Rattle.std.proofs.lemmas.List.Sorted.{answers_always, IsPermutation-map}
use Rattle.ded_box.specs.Intervals.{has_value}
use Rattle.ded_box.specs.Boxes.{AreIntervals}
use Rattle.ded_index.specs.Entries.{first_of}
use Rattle.ded_index.specs.Trees.{entries_of, InOrder, AreFull, AreSound, IsTree}
use Rattle.ded_index.proofs.Kept.{node_before, nodes_ranked, in_order, all_moved, written, same_count}
use Rattle.ded_index.proofs.tree.arrange.Goals as goal
use Rattle.ded_index.proofs.tree.arrange.Goals.{After-nodes-1}

pub fill-requires : goal.fill-requires
fill-requires c = record {
  sound = subst (λ ns. AreSound (entries_of ns)) (sym c.deref_mut.ensures.value) (all_moved (λ e. AreIntervals e.bounds) c.args.nodes.now.items c.sort_unstable_by.new.self.items c.sort_unstable_by.ensures.permutation c.requires.sound);
}

-- the entries stay
kept : (c : After-nodes-1) → entries_of c.fill.new.nodes ≡ entries_of c.sort_unstable_by.new.self.items
kept c = c.fill.ensures.entries ∙ ap entries_of c.deref_mut.ensures.value

-- the list is the one that was written
whole : (c : After-nodes-1) → take c.sort_unstable_by.new.self.len (c.fill.new.nodes ++ drop (length c.fill.new.nodes) c.sort_unstable_by.new.self.items) ≡ c.fill.new.nodes
whole c = written c.fill.new.nodes c.sort_unstable_by.new.self.items c.sort_unstable_by.new.self.len (same_count c.fill.new.nodes c.sort_unstable_by.new.self.items (kept c)) (search rules)

pub returns-clause-tree : goal.returns-clause-tree
unfolding node_before
returns-clause-tree c =
    let moved = c.sort_unstable_by.ensures.permutation in
    let sorted = c.sort_unstable_by.new.self.items in
    subst IsTree (sym (whole c)) (record {
      order = subst InOrder (sym (kept c)) (in_order sorted (c.sort_unstable_by.ensures.sorted node_before nodes_ranked (answers_always _ _ _ (λ f a r g h. search rules))));
      full = subst AreFull (sym (kept c)) (all_moved (λ e. has_value (first_of e.bounds) ≡ true) c.args.nodes.now.items sorted moved c.requires.full);
      sound = subst AreSound (sym (kept c)) (all_moved (λ e. AreIntervals e.bounds) c.args.nodes.now.items sorted moved c.requires.sound);
      ends = c.fill.ensures.ends;
    })

pub returns-clause-entries : goal.returns-clause-entries
returns-clause-entries c =
    subst (IsPermutation (entries_of c.args.nodes.now.items)) (sym (kept c) ∙ ap entries_of (sym (whole c))) (IsPermutation-map (λ n. n.entry) c.args.nodes.now.items c.sort_unstable_by.new.self.items c.sort_unstable_by.ensures.permutation)
