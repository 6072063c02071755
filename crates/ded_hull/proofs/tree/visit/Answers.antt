use Rattle.std.proofs.Common.{rules, ◌≡◌, ◌<◌, true, false, take, refl, sym, ◌∙◌}
use Rattle.ded_ranges.specs.Limits.{may_hold}
use Rattle.ded_ranges.proofs.Columns.{contrary}
use Rattle.ded_hull.proofs.Rooted.{whole_rest, step_past, step_into, step_own, own_few}
use Rattle.ded_hull.proofs.tree.visit.Goals as goal

pub returns-then-not-may_pass-clause-next : goal.returns-then-not-may_pass-clause-next
returns-then-not-may_pass-clause-next g c =
    let n = c.args.node.now in
    let apart : may_hold n.hull c.args.probe.now ≡ false = contrary (may_hold n.hull c.args.probe.now) c.may_pass.result c.may_pass.ensures.sound (search rules) in
    step_past c.args.probe.now n c.args.behind.now c.args.entries.now c.requires _ _ c.args.found.now.items (whole_rest c.args.behind.now n.below) (whole_rest c.args.entries.now n.count) apart

pub returns-then-node-gt0-clause-next : goal.returns-then-node-gt0-clause-next
returns-then-node-gt0-clause-next g c =
    let n = c.args.node.now in
    let passes : c.may_pass.result ≡ true = search rules in
    let some : 0 < n.below = search rules in
    step_into c.args.probe.now n c.args.behind.now c.args.entries.now c.requires _ _ c.args.found.now.items refl refl some (λ e. sym (c.may_pass.ensures.exact e) ∙ passes)

pub returns-in_err-push_passing-clause-steps : goal.returns-in_err-push_passing-clause-steps
returns-in_err-push_passing-clause-steps g c =
    let n = c.args.node.now in
    let leaf : n.below ≡ 0 = search rules in
    own_few n c.args.behind.now c.args.entries.now (take n.count c.args.entries.now) c.requires leaf refl c.args.steps.now c.push_passing.new.steps c.push_passing.ensures.steps

pub returns-clause-next : goal.returns-clause-next
returns-clause-next g c =
    let n = c.args.node.now in
    let leaf : n.below ≡ 0 = search rules in
    step_own c.args.probe.now n c.args.behind.now c.args.entries.now c.requires _ (take n.count c.args.entries.now) _ c.args.found.now.items c.push_passing.new.found.items refl refl (whole_rest c.args.entries.now n.count) leaf c.in_ok-push_passing.ensures.found

pub returns-clause-steps : goal.returns-clause-steps
returns-clause-steps g c =
    let n = c.args.node.now in
    let leaf : n.below ≡ 0 = search rules in
    own_few n c.args.behind.now c.args.entries.now (take n.count c.args.entries.now) c.requires leaf refl c.args.steps.now c.push_passing.new.steps c.push_passing.ensures.steps
