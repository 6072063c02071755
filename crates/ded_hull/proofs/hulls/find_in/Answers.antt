use Rattle.std.proofs.Common.{rules, arith, ◌≡◌, ◌+◌, ◌<◌, ◌≤◌, length}
use Rattle.ded_hull.proofs.Merged.{found_tree}
use Rattle.ded_hull.proofs.Falling.{cost_more, cost_whole}
use Rattle.ded_hull.proofs.hulls.find_in.Goals as goal

pub loop-i-preserved : goal.loop-i-preserved
loop-i-preserved g c =
    let inside : c.loop-i.i < length c.args.trees.now = search rules in (
      found_tree c.args.probe.now c.args.trees.now c.loop-i.i c.index-trees-i.result c.args.found.now.items c.loop-i.found.items c.find.new.found.items inside c.index-trees-i.is c.loop-i.invariant.0 c.in_ok-find.ensures.found,
      cost_more c.args.probe.now c.args.trees.now c.loop-i.i c.index-trees-i.result c.args.steps.now c.loop-i.steps c.find.new.steps inside c.index-trees-i.is c.in_ok-find.ensures.steps c.loop-i.invariant.1,
      omega (arith, c.loop-i.invariant.2, c.find.ensures.forward),
    )

pub returns-in_err-find-clause-steps : goal.returns-in_err-find-clause-steps
returns-in_err-find-clause-steps g c =
    let inside : c.loop-i.i < length c.args.trees.now = search rules in
    let one : c.loop-i.i + 1 ≤ length c.args.trees.now = omega (arith, inside) in
    cost_whole c.args.probe.now c.args.trees.now (c.loop-i.i + 1) c.args.steps.now c.find.new.steps one (cost_more c.args.probe.now c.args.trees.now c.loop-i.i c.index-trees-i.result c.args.steps.now c.loop-i.steps c.find.new.steps inside c.index-trees-i.is c.in_err-find.ensures.steps c.loop-i.invariant.1)

pub returns-clause-steps : goal.returns-clause-steps
returns-clause-steps g c =
    let end : c.loop-i.i ≡ length c.args.trees.now = search rules in
    cost_whole c.args.probe.now c.args.trees.now c.loop-i.i c.args.steps.now c.loop-i.steps (omega (arith, end)) c.loop-i.invariant.1
