use Rattle.std.proofs.Common.{rules, arith, ℕ, ◌≡◌, ◌≤◌, ◌+◌, ◌∙◌, List, ◌++◌, length, ap, sym, subst}
use Rattle.std.proofs.lemmas.List.Filters.{dedup_is}
use Rattle.std.proofs.lemmas.List.Sorted.{length_permutation}
use Rattle.ded_hull.specs.declared.entry.ReachEntry.{ReachEntry}
use Rattle.ded_hull.specs.Entries.{ids_in, AreFound, Hulls}
use Rattle.ded_hull.specs.Trees.{all_of, IsCostOfAll}
use Rattle.ded_hull.proofs.Falling.{few_steps}
use Rattle.ded_hull.proofs.Found.{answer, is_complete, ids_in-append}
use Rattle.ded_hull.proofs.hulls.Hulls.look_up.Given.{Over}
use Rattle.ded_hull.proofs.hulls.Hulls.look_up.Goals as goal
use Rattle.ded_hull.proofs.hulls.Hulls.look_up.Goals.{Joined-probe-3}

all_ids : (g : Over) (c : Joined-probe-3 g) → c.push_passing.new.found.items ≡ ids_in c.args.limits.now c.args.self.now.entries
all_ids g c =
    let ls = c.args.limits.now in
    let trees = c.self.inside.trees.items in
    let tail = c.self.inside.tail.items in
    let first : c.find_in.new.found.items ≡ ids_in ls (all_of trees) = search rules in
    let both : c.push_passing.new.found.items ≡ c.find_in.new.found.items ++ ids_in ls tail = search rules in
    both ∙ ap (λ xs. xs ++ ids_in ls tail) first ∙ sym (ids_in-append ls (all_of trees) tail) ∙ ap (λ (h : Hulls). ids_in ls h.entries) c.self.view_is

found : (g : Over) (c : Joined-probe-3 g) → AreFound c.args.limits.now c.args.self.now.entries c.dedup.new.self.items
found g c =
    answer c.args.limits.now c.args.self.now.entries c.push_passing.new.found.items c.sort_unstable.new.self.items c.dedup.new.self.items (all_ids g c) c.sort_unstable.ensures.permutation c.sort_unstable.ensures.sorted (dedup_is _ _ _ c.dedup.ensures.filtered)

pub returns-clause-found : goal.returns-clause-found
returns-clause-found g c = found g c

pub returns-clause-complete : goal.returns-clause-complete
returns-clause-complete g c = is_complete c.args.limits.now c.args.self.now.entries c.dedup.new.self.items (found g c)

pub returns-clause-count : goal.returns-clause-count
returns-clause-count g c =
    let fewer : length c.dedup.new.self.items ≤ length c.sort_unstable.new.self.items = search rules in
    let sorted : length c.sort_unstable.new.self.items ≡ length c.push_passing.new.found.items = length_permutation _ _ c.sort_unstable.ensures.permutation in
    let is : length c.push_passing.new.found.items ≡ length (ids_in c.args.limits.now c.args.self.now.entries) = ap (λ (ns : List ℕ). length ns) (all_ids g c) in
    omega (arith, fewer, sorted, is)

cost : (g : Over) (c : Joined-probe-3 g) → IsCostOfAll c.args.limits.now c.self.inside.trees.items c.args.steps.now c.find_in.new.steps
cost g c = subst (λ ls. IsCostOfAll ls c.self.inside.trees.items c.args.steps.now c.find_in.new.steps) c.in_ok-probe.ensures (subst (λ ts. IsCostOfAll c.in_ok-probe.probe ts c.args.steps.now c.find_in.new.steps) c.deref.ensures.value c.find_in.ensures.steps)

pub returns-in_err-find_in-clause-steps : goal.returns-in_err-find_in-clause-steps
returns-in_err-find_in-clause-steps g c =
    few_steps c.args.limits.now c.self.inside.trees.items c.self.inside.tail.items c.args.self.now c.args.steps.now c.find_in.new.steps c.find_in.new.steps c.self.view_is c.self.invariant
    (subst (λ ls. IsCostOfAll ls c.self.inside.trees.items c.args.steps.now c.find_in.new.steps) c.in_ok-probe.ensures (subst (λ ts. IsCostOfAll c.in_ok-probe.probe ts c.args.steps.now c.find_in.new.steps) c.deref.ensures.value c.find_in.ensures.steps))
    (omega arith)

pub returns-in_err-push_passing-clause-steps : goal.returns-in_err-push_passing-clause-steps
returns-in_err-push_passing-clause-steps g c =
    few_steps c.args.limits.now c.self.inside.trees.items c.self.inside.tail.items c.args.self.now c.args.steps.now c.find_in.new.steps c.push_passing.new.steps c.self.view_is c.self.invariant
    (subst (λ ls. IsCostOfAll ls c.self.inside.trees.items c.args.steps.now c.find_in.new.steps) c.in_ok-probe.ensures (subst (λ ts. IsCostOfAll c.in_ok-probe.probe ts c.args.steps.now c.find_in.new.steps) c.deref.ensures.value c.find_in.ensures.steps))
    (subst (λ (es : List ReachEntry). c.push_passing.new.steps ≤ c.find_in.new.steps + length es) c.deref-2.ensures.value c.push_passing.ensures.steps)

pub returns-clause-steps : goal.returns-clause-steps
returns-clause-steps g c =
    few_steps c.args.limits.now c.self.inside.trees.items c.self.inside.tail.items c.args.self.now c.args.steps.now c.find_in.new.steps c.push_passing.new.steps c.self.view_is c.self.invariant (cost g c)
    (subst (λ (es : List ReachEntry). c.push_passing.new.steps ≤ c.find_in.new.steps + length es) c.deref-2.ensures.value c.push_passing.ensures.steps)
