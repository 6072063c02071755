use Rattle.std.proofs.Common.{rules, ◌≡◌, ◌∙◌, ap, ap₂, sym, subst, length, take, drop, ◌++◌, List, ◌||◌, not, nat_eq}
use Rattle.std.specs.List.{list_any}
use Rattle.std.proofs.lemmas.Fn.{filter_same}
use Rattle.ded_box.specs.Boxes.{AreIntervals}
use Rattle.ded_index.specs.declared.entry.BoxEntry.{BoxEntry}
use Rattle.ded_index.specs.declared.tree.BoxNode.{BoxNode}
use Rattle.ded_index.specs.Entries.{has_id, without}
use Rattle.ded_index.specs.Trees.{entries_of, AreSound, IsIndex}
use Rattle.ded_index.proofs.Kept.{other_node, without-nodes, without-all, without-both, index_without, written, same_count, has_id-both}
use Rattle.ded_index.proofs.index.BoxIndex.remove.Goals as goal
use Rattle.ded_index.proofs.index.BoxIndex.remove.Goals.{After-self-1}

pub fill-requires : goal.fill-requires
unfolding other_node
fill-requires c =
    let ns = c.self.inside.tree.items in
    let kept = c.deref_mut.ensures.value ∙ filter_same _ (other_node c.args.id) _ (λ x b q h. search rules) _ _ c.retain.ensures.filtered in
    record { sound = subst AreSound (sym (ap entries_of kept ∙ without-nodes c.args.id ns)) (without-all (λ y. AreIntervals y.bounds) c.args.id (entries_of ns) c.self.invariant.tree.sound) }

-- the nodes with other numbers
kept : (c : After-self-1) → entries_of c.fill.new.nodes ≡ without c.args.id (entries_of c.self.inside.tree.items)
unfolding other_node
kept c = c.fill.ensures.entries ∙ ap entries_of (c.deref_mut.ensures.value ∙ filter_same _ (other_node c.args.id) _ (λ x b q h. search rules) _ _ c.retain.ensures.filtered) ∙ without-nodes c.args.id c.self.inside.tree.items

-- and the entries beside them
kept_apart : (c : After-self-1) → c.retain-2.new.self.items ≡ without c.args.id c.self.inside.apart.items
kept_apart c = filter_same _ (λ e. not (nat_eq e.id c.args.id)) _ (λ x b q h. search rules) _ _ c.retain-2.ensures.filtered

pub invariant_of-self : goal.invariant_of-self
invariant_of-self c =
    let whole : take c.retain.new.self.len (c.fill.new.nodes ++ drop (length c.fill.new.nodes) c.retain.new.self.items) ≡ c.fill.new.nodes =
    written c.fill.new.nodes c.retain.new.self.items c.retain.new.self.len (same_count c.fill.new.nodes c.retain.new.self.items (c.fill.ensures.entries ∙ ap entries_of c.deref_mut.ensures.value)) (search rules) in
    subst (λ ns. IsIndex ns c.retain-2.new.self.items) (sym whole) (subst (IsIndex c.fill.new.nodes) (sym (kept_apart c)) (index_without c.args.id c.self.inside.tree.items c.fill.new.nodes c.self.inside.apart.items c.self.invariant (kept c) c.fill.ensures.ends))

pub returns-clause-value : goal.returns-clause-value
returns-clause-value c =
    c.has_number-there.ensures ∙ ap₂ (λ (ns : List BoxNode) (es : List BoxEntry). list_any (λ n. nat_eq n.entry.id c.args.id) ns || list_any (λ e. nat_eq e.id c.args.id) es) c.deref.ensures.value c.deref-2.ensures.value
    ∙ has_id-both c.args.id c.self.inside.tree.items c.self.inside.apart.items ∙ ap (has_id c.args.id) c.self.view_is

pub returns-clause-removed : goal.returns-clause-removed
returns-clause-removed c =
    let whole : take c.retain.new.self.len (c.fill.new.nodes ++ drop (length c.fill.new.nodes) c.retain.new.self.items) ≡ c.fill.new.nodes =
    written c.fill.new.nodes c.retain.new.self.items c.retain.new.self.len (same_count c.fill.new.nodes c.retain.new.self.items (c.fill.ensures.entries ∙ ap entries_of c.deref_mut.ensures.value)) (search rules) in
    ap₂ (λ (ns : List BoxNode) (es : List BoxEntry). entries_of ns ++ es) whole (kept_apart c) ∙ without-both c.args.id c.self.inside.tree.items c.fill.new.nodes c.self.inside.apart.items (kept c) ∙ ap (without c.args.id) c.self.view_is
