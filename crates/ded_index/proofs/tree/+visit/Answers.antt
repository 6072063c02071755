use Rattle.std.proofs.Common.{rules, ◌≡◌, ◌∙◌, ◌/◌, ◌+◌, ◌-◌, ◌<◌, ◌++◌, ℕ, true, false, arith, ap, ap₂, sym, subst, length, take, drop}
use Rattle.std.proofs.lemmas.List.{length-take}
use Rattle.std.proofs.lemmas.Result.{IfOk-weaker}
use Rattle.ded_model.specs.declared.bound.Bound.{Bound}
use Rattle.ded_box.specs.Intervals.{may_meet}
use Rattle.ded_index.specs.Entries.{first_of, low, ids_in}
use Rattle.ded_index.specs.Trees.{entries_of, IsTree}
use Rattle.ded_index.specs.Costs.{IsCost}
use Rattle.ded_index.proofs.Pruning.{tree_round, tail_is}
use Rattle.ded_index.proofs.Costs.{cost_left, cost_both, halves}
use Rattle.ded_index.proofs.Finding.{dead, left_alone, all_three}
use Rattle.ded_index.proofs.tree.+visit.Goals as goal

pub returns-then-not-may_meet-clause-found : goal.returns-then-not-may_meet-clause-found
returns-then-not-may_meet-clause-found g t c =
    let ns = c.args.nodes.now in
    let w = c.args.window.now in
    let n = c.look_at-node.result.now in
    let p : 0 < length ns = search rules in
    let far : may_meet (first_of w).0 n.end ≡ false = ap (λ (i : Bound × Bound). may_meet i.0 n.end) (sym c.first_interval-low.ensures.value) ∙ sym c.if-not-may_meet.ensures in
    dead w ns n _ _ (tree_round ns n p c.look_at-node.ensures.node c.requires.tree) c.first_interval-low.ensures.sound c.args.found.now.items far

pub visit-requires : goal.visit-requires
visit-requires g t c κs within =
    let ns = c.args.nodes.now in
    let n = c.look_at-node.result.now in
    let p : 0 < length ns = search rules in
    (omega (arith, length-take (length ns / 2) ns), (within, ((tree_round ns n p c.look_at-node.ensures.node c.requires.tree).left, c.requires.full)))

pub returns-in_err-visit-clause-steps : goal.returns-in_err-visit-clause-steps
returns-in_err-visit-clause-steps g t c =
    let ns = c.args.nodes.now in
    let w = c.args.window.now in
    let n = c.look_at-node.result.now in
    let p : 0 < length ns = search rules in
    let near : may_meet (first_of w).0 n.end ≡ true = ap (λ (i : Bound × Bound). may_meet i.0 n.end) (sym c.first_interval-low.ensures.value) ∙ sym c.if-not-may_meet.ensures in
    cost_left w ns n _ _ (halves ns p) (tree_round ns n p c.look_at-node.ensures.node c.requires.tree) c.first_interval-low.ensures.sound c.args.steps.now c.visit.new.steps c.requires.full c.requires.tree.full near
    (subst (λ s. IsCost w (entries_of (take (length ns / 2) ns)) s c.visit.new.steps) c.look_at-node.ensures.steps c.in_err-visit.ensures.steps)

pub returns-then-not-may_meet-2-clause-found : goal.returns-then-not-may_meet-2-clause-found
returns-then-not-may_meet-2-clause-found g t c =
    let ns = c.args.nodes.now in
    let w = c.args.window.now in
    let n = c.look_at-node.result.now in
    let p : 0 < length ns = search rules in
    let ahead : may_meet (low n.entry) (first_of w).1 ≡ false = ap₂ (λ (i j : Bound × Bound). may_meet i.0 j.1) (sym c.first_interval.ensures.value) (sym c.first_interval-low.ensures.value) ∙ sym c.if-not-may_meet-2.ensures in
    left_alone w ns n _ _ (tree_round ns n p c.look_at-node.ensures.node c.requires.tree) c.first_interval-low.ensures.sound c.args.found.now.items c.visit.new.found.items ahead c.in_ok-visit.ensures.found

pub returns-then-not-may_meet-2-clause-steps : goal.returns-then-not-may_meet-2-clause-steps
returns-then-not-may_meet-2-clause-steps g t c =
    let ns = c.args.nodes.now in
    let w = c.args.window.now in
    let n = c.look_at-node.result.now in
    let p : 0 < length ns = search rules in
    let near : may_meet (first_of w).0 n.end ≡ true = ap (λ (i : Bound × Bound). may_meet i.0 n.end) (sym c.first_interval-low.ensures.value) ∙ sym c.if-not-may_meet.ensures in
    cost_left w ns n _ _ (halves ns p) (tree_round ns n p c.look_at-node.ensures.node c.requires.tree) c.first_interval-low.ensures.sound c.args.steps.now c.visit.new.steps c.requires.full c.requires.tree.full near
    (subst (λ s. IsCost w (entries_of (take (length ns / 2) ns)) s c.visit.new.steps) c.look_at-node.ensures.steps c.in_ok-visit.ensures.steps)

pub returns-in_err-push_meeting-clause-steps : goal.returns-in_err-push_meeting-clause-steps
returns-in_err-push_meeting-clause-steps g t c =
    let ns = c.args.nodes.now in
    let w = c.args.window.now in
    let n = c.look_at-node.result.now in
    let p : 0 < length ns = search rules in
    let near : may_meet (first_of w).0 n.end ≡ true = ap (λ (i : Bound × Bound). may_meet i.0 n.end) (sym c.first_interval-low.ensures.value) ∙ sym c.if-not-may_meet.ensures in
    cost_left w ns n _ _ (halves ns p) (tree_round ns n p c.look_at-node.ensures.node c.requires.tree) c.first_interval-low.ensures.sound c.args.steps.now c.visit.new.steps c.requires.full c.requires.tree.full near
    (subst (λ s. IsCost w (entries_of (take (length ns / 2) ns)) s c.visit.new.steps) c.look_at-node.ensures.steps c.in_ok-visit.ensures.steps)

pub visit-requires-2 : goal.visit-requires-2
visit-requires-2 g t c κs within =
    let ns = c.args.nodes.now in
    let n = c.look_at-node.result.now in
    let m : ℕ = length ns / 2 + 1 in
    let p : 0 < length ns = search rules in
    (omega (arith, length-take (length ns - m) (drop m ns)), (within, (subst IsTree (sym (tail_is ns m)) (tree_round ns n p c.look_at-node.ensures.node c.requires.tree).right, c.requires.full)))

pub returns-clause-found : goal.returns-clause-found
returns-clause-found g t c =
    let ns = c.args.nodes.now in
    let w = c.args.window.now in
    let n = c.look_at-node.result.now in
    let m : ℕ = length ns / 2 + 1 in
    let p : 0 < length ns = search rules in
    IfOk-weaker c.visit-2.result _ _ (λ x e. all_three w ns n _ _ (tree_round ns n p c.look_at-node.ensures.node c.requires.tree) c.first_interval-low.ensures.sound
    c.args.found.now.items c.visit.new.found.items c.push_meeting.new.found.items c.visit-2.new.found.items c.in_ok-visit.ensures.found c.in_ok-push_meeting.ensures
    (e ∙ ap (λ xs. c.push_meeting.new.found.items ++ ids_in w (entries_of xs)) (tail_is ns m))) c.visit-2.ensures.found

pub returns-clause-steps : goal.returns-clause-steps
returns-clause-steps g t c =
    let ns = c.args.nodes.now in
    let w = c.args.window.now in
    let n = c.look_at-node.result.now in
    let m : ℕ = length ns / 2 + 1 in
    let p : 0 < length ns = search rules in
    let near : may_meet (first_of w).0 n.end ≡ true = ap (λ (i : Bound × Bound). may_meet i.0 n.end) (sym c.first_interval-low.ensures.value) ∙ sym c.if-not-may_meet.ensures in
    let begins : may_meet (low n.entry) (first_of w).1 ≡ true = ap₂ (λ (i j : Bound × Bound). may_meet i.0 j.1) (sym c.first_interval.ensures.value) (sym c.first_interval-low.ensures.value) ∙ sym c.if-not-may_meet-2.ensures in
    cost_both w ns n _ _ (halves ns p) (tree_round ns n p c.look_at-node.ensures.node c.requires.tree) c.first_interval-low.ensures.sound c.args.steps.now c.visit.new.steps c.visit-2.new.steps c.requires.full c.requires.tree.full near begins
    (subst (λ s. IsCost w (entries_of (take (length ns / 2) ns)) s c.visit.new.steps) c.look_at-node.ensures.steps c.in_ok-visit.ensures.steps)
    (subst (λ xs. IsCost w (entries_of xs) c.visit.new.steps c.visit-2.new.steps) (tail_is ns m) c.visit-2.ensures.steps)
