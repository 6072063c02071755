use Rattle.std.proofs.Common.{◌≡◌, ◌==◌, sym, ap, ◌∙◌, true≢false, arith}
use Rattle.std.specs.BTreeMap.{is_at}
use Rattle.std.specs.List.{list_any}
use Rattle.std.specs.Map.{remove_entry}
use Rattle.std.specs.Ordering.{nat_cmp}
use Rattle.ded_relation.specs.Relations.{Relation}
use Rattle.ded_relation.proofs.Indexing.{index_pruned, index_taken_out}
use Rattle.ded_relation.proofs.Numbers.{above_none, removes}
use Rattle.ded_relation.proofs.relation.Relation.remove.Goals as goal

pub prove-unreachable-requires : goal.prove-unreachable-requires
prove-unreachable-requires c =
    let inserts : c.self.inside.inserts ≡ c.args.self.now.inserts = ap (λ (r : Relation). r.inserts) c.self.view_is in
    true≢false (sym c.requires.present ∙ above_none c.args.self.now.inserts c.args.number c.args.self.now.tuples.entries (omega (arith, c.if-prove.true, c.from.ensures, inserts)) c.requires.numbers)

pub told-requires : goal.told-requires
told-requires c = c.requires.present

pub invariant_of-self : goal.invariant_of-self
invariant_of-self c =
    index_pruned c.self.inside.heading c.remove-2.new.self c.prune.new.self c.remove.new.self.entries
    (index_taken_out c.self.inside.heading c.self.inside.index c.remove-2.new.self c.args.number c.self.inside.tuples.entries c.remove.new.self.entries (ap (λ (r : Relation). list_any (λ t. t.0 == c.args.number) r.tuples.entries) c.self.view_is ∙ c.requires.present)
    c.remove.ensures.entries c.remove.ensures.updates.1 c.self.invariant c.remove-2.ensures) c.prune.ensures

pub returns-clause-ok : goal.returns-clause-ok
returns-clause-ok c =
    removes c.args.self.now _ c.args.number c.requires.present (ap (λ (r : Relation). r.heading) c.self.view_is) (ap (λ (r : Relation). r.inserts) c.self.view_is)
    (c.remove.ensures.entries ∙ ap (λ (r : Relation). remove_entry (is_at (nat_cmp c.args.number)) r.tuples.entries) c.self.view_is)
