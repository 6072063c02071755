use Rattle.std.proofs.Common.{rules, ◌≡◌, List, ℕ, sym, ap, ◌∙◌, subst}
use Rattle.ded_num.proofs.Tests.{if_ok_by}
use Rattle.ded_model.specs.Row.{Atom}
use Rattle.ded_ranges.specs.declared.window.Window.{Window}
use Rattle.ded_ranges.specs.Windows.{IsMissed}
use Rattle.ded_model.proofs.Sublists.{sublist_refl, sublist_trans}
use Rattle.ded_relation.specs.Nearby.{numbered, AreNear, picked}
use Rattle.ded_relation.specs.Relations.{Relation, Finds}
use Rattle.ded_relation.proofs.Indexing.{index_misses}
use Rattle.ded_relation.proofs.Picked.{picked_near}
use Rattle.ded_relation.proofs.relation.Relation.near.Goals as goal

pub returns-then-is_empty-2-clause-found : goal.returns-then-is_empty-2-clause-found
returns-then-is_empty-2-clause-found g c =
    let w = c.args.window.now in
    let ts = c.args.self.now.tuples.entries in
    let same : c.self.inside.tuples.entries ≡ ts = ap (λ (r : Relation). r.tuples.entries) c.self.view_is in
    if_ok_by c.listed.result (λ v. numbered v.items ≡ c.self.inside.tuples.entries) _
    (λ v e. subst (λ (us : List (ℕ × List Atom)). AreNear w us ts) (sym (e ∙ same)) (sublist_refl (λ t. IsMissed w t.1) ts)) c.listed.ensures.list

pub returns-then-len-le1-clause-found : goal.returns-then-len-le1-clause-found
returns-then-len-le1-clause-found g c =
    let w = c.args.window.now in
    let ts = c.self.inside.tuples.entries in
    let ids = c.in-Some.numbers.items in
    let finds : Finds w c.self.inside.heading c.self.inside.index ids = search rules in
    let picks : AreNear w (picked ids ts) ts = picked_near w ids ts finds.ascending c.len-count.ensures.ordered (index_misses w c.self.inside.heading c.self.inside.index ids ts finds c.self.invariant) in
    if_ok_by c.picked.result (λ v. numbered v.items ≡ picked c.deref.result.now ts) _
    (λ v e.
    subst (λ (us : List (ℕ × List Atom)). AreNear w (numbered v.items) us) (ap (λ (r : Relation). r.tuples.entries) c.self.view_is)
    (subst (λ (us : List (ℕ × List Atom)). AreNear w us ts) (sym (e ∙ ap (λ (is : List ℕ). picked is ts) c.deref.ensures.value)) picks))
    c.picked.ensures.found

pub returns-clause-found : goal.returns-clause-found
returns-clause-found g c =
    let w = c.args.window.now in
    let ts = c.self.inside.tuples.entries in
    let ids = c.in-Some.numbers.items in
    let same : c.in_ok-new-2.field-0 ≡ w = search rules in
    let finds : Finds w c.self.inside.heading c.self.inside.index ids = search rules in
    let picks : AreNear w (picked ids ts) ts = picked_near w ids ts finds.ascending c.len-count.ensures.ordered (index_misses w c.self.inside.heading c.self.inside.index ids ts finds c.self.invariant) in
    if_ok_by c.looked_up-2.result (λ v. AreNear c.in_ok-new-2.field-0 (numbered v.items) (picked c.deref-2.result.now ts)) _
    (λ v n.
    let own : AreNear w (numbered v.items) (picked ids ts) =
    subst (λ (is : List ℕ). AreNear w (numbered v.items) (picked is ts)) c.deref-2.ensures.value (subst (λ (x : Window). AreNear x (numbered v.items) (picked c.deref-2.result.now ts)) same n) in
    subst (λ (us : List (ℕ × List Atom)). AreNear w (numbered v.items) us) (ap (λ (r : Relation). r.tuples.entries) c.self.view_is) (sublist_trans (λ t. IsMissed w t.1) (numbered v.items) (picked ids ts) ts own picks))
    c.looked_up-2.ensures.found
