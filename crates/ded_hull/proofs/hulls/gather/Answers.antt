use Rattle.std.proofs.Common.{rules, arith, ◌≡◌, ◌≤◌, ◌+◌, ◌-◌, ◌∙◌, length, refl, sym}
use Rattle.std.proofs.Math.Seq.{take-length}
use Rattle.ded_hull.proofs.Merged.{given, not_given}
use Rattle.ded_hull.proofs.Falling.{gathered_more, gathered_same, gathered_all}
use Rattle.ded_hull.proofs.hulls.gather.Goals as goal

pub returns-in_err-give-clause-moved : goal.returns-in_err-give-clause-moved
returns-in_err-give-clause-moved c =
    not_given c.loop-trees.trees.items (c.len-last.result - 1) c.index_mut.result.now c.give.new.self c.loop-trees.tail.items c.give.new.list.items c.index_mut.ensures.value c.in_err-give.ensures.unchanged c.in_err-give.ensures.list
    ∙ c.loop-trees.invariant.0

pub loop-trees-preserved : goal.loop-trees-preserved
loop-trees-preserved c =
    let k = c.len-last.result - 1 in
    let last : k + 1 ≡ length c.loop-trees.trees.items = search rules in
    let more = gathered_more c.loop-trees.trees.items c.args.trees.now.items c.truncate.new.self.items k c.args.keep c.give.new.self last c.truncate.ensures.items (search rules) c.loop-trees.invariant.1 in (
      given c.loop-trees.trees.items c.truncate.new.self.items k c.index_mut.result.now c.give.new.self c.loop-trees.tail.items c.give.new.list.items last c.index_mut.ensures.value c.truncate.ensures.items c.in_ok-give.ensures.given
          ∙ c.loop-trees.invariant.0,
      more.0,
      more.1,
    )

pub loop-trees-init : goal.loop-trees-init
loop-trees-init c = (refl, sym (take-length c.args.trees.now.items), omega arith)

pub returns-in_err-give-clause-first : goal.returns-in_err-give-clause-first
returns-in_err-give-clause-first c =
    gathered_same c.loop-trees.trees.items c.args.trees.now.items (c.len-last.result - 1) c.index_mut.result.now c.give.new.self c.index_mut.ensures.value c.in_err-give.ensures.unchanged c.loop-trees.invariant.1

pub returns-clause-first : goal.returns-clause-first
returns-clause-first c = c.loop-trees.invariant.1

pub returns-clause-gathered : goal.returns-clause-gathered
returns-clause-gathered c =
    let few : length c.loop-trees.trees.items ≤ c.args.keep = search rules in
    gathered_all c.loop-trees.trees.items c.args.trees.now.items c.args.keep few c.loop-trees.invariant.1 c.loop-trees.invariant.2
