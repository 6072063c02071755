use Rattle.std.proofs.Common.{◌≡◌, ◌∙◌, ◌+◌, ◌≤◌, ◌++◌, ap₂, subst, List, ℕ}
use Rattle.std.proofs.lemmas.List.Filters.{dedup_is}
use Rattle.ded_index.specs.declared.tree.BoxNode.{BoxNode}
use Rattle.ded_index.specs.Entries.{most_steps, ids_in}
use Rattle.ded_index.specs.Trees.{entries_of}
use Rattle.ded_index.specs.Costs.{IsCost}
use Rattle.ded_index.proofs.LookUps.{few_steps, answer}
use Rattle.ded_index.proofs.index.BoxIndex.look_up.Goals as goal

pub returns-in_err-visit_all-clause-steps : goal.returns-in_err-visit_all-clause-steps
returns-in_err-visit_all-clause-steps g c =
    let w = c.args.window.now in
    let s = c.args.steps.now in
    let t = c.visit_all.new.steps in
    subst (λ v. t ≤ s + most_steps w v) c.self.view_is (few_steps w (entries_of c.self.inside.tree.items) c.self.inside.apart.items s t (subst (λ ns. IsCost w (entries_of ns) s t) c.deref.ensures.value c.in_err-visit_all.ensures.steps))

pub returns-clause-steps : goal.returns-clause-steps
returns-clause-steps g c =
    let w = c.args.window.now in
    let s = c.args.steps.now in
    let t = c.visit_all.new.steps in
    subst (λ v. t ≤ s + most_steps w v) c.self.view_is (few_steps w (entries_of c.self.inside.tree.items) c.self.inside.apart.items s t (subst (λ ns. IsCost w (entries_of ns) s t) c.deref.ensures.value c.in_ok-visit_all.ensures.steps))

pub returns-clause-found : goal.returns-clause-found
returns-clause-found g c =
    let w = c.args.window.now in
    let is : c.visit_all.new.found.items ≡ ids_in w (entries_of c.self.inside.tree.items) =
    c.in_ok-visit_all.ensures.found ∙ ap₂ (λ (xs : List ℕ) (ns : List BoxNode). xs ++ ids_in w (entries_of ns)) c.new-found.ensures.items c.deref.ensures.value in
    answer w c.self.inside.tree.items c.self.inside.apart.items c.args.self.now c.self.invariant c.in_ok-visit_all.ensures.sound c.self.view_is c.visit_all.new.found.items c.sort_unstable.new.self.items c.dedup.new.self.items is
    c.sort_unstable.ensures.permutation c.sort_unstable.ensures.sorted (dedup_is _ _ _ c.dedup.ensures.filtered)
