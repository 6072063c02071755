use Rattle.std.proofs.Common.{arith}
use Rattle.ded_relation.specs.Nearby.{numbered}
use Rattle.ded_relation.proofs.NearTuples.{adds_step, adds_end, counts_step}
use Rattle.ded_relation.proofs.finding.sifted.Goals as goal

pub loop-number-preserved : goal.loop-number-preserved
loop-number-preserved g c = (
  adds_step c.args.sieve.now (numbered c.loop-number.found.items) (numbered c.push_if_near.new.found.items) (c.in-Some.number.now, c.in-Some.tuple.now) c.loop-number.number-iterator c.next.new.self c.args.tuples.now.entries c.in-Some.ensures.steps c.in_ok-push_if_near.ensures.near c.loop-number.invariant.0,
  counts_step (c.in-Some.number.now, c.in-Some.tuple.now) c.loop-number.number-iterator c.next.new.self c.args.tuples.now.entries c.args.steps.now c.loop-number.steps c.tick.new.self c.in-Some.ensures.steps c.tick.ensures c.loop-number.invariant.1,
  omega (arith, c.loop-number.invariant.2, c.tick.ensures, c.in_ok-push_if_near.ensures.count),
)

pub returns-in_err-push_if_near-clause-steps : goal.returns-in_err-push_if_near-clause-steps
returns-in_err-push_if_near-clause-steps g c =
    let next = counts_step (c.in-Some.number.now, c.in-Some.tuple.now) c.loop-number.number-iterator c.next.new.self c.args.tuples.now.entries c.args.steps.now c.loop-number.steps c.tick.new.self c.in-Some.ensures.steps c.tick.ensures c.loop-number.invariant.1 in
    omega (arith, next)

pub returns-clause-found : goal.returns-clause-found
returns-clause-found g c = adds_end c.args.sieve.now (numbered c.loop-number.found.items) c.loop-number.number-iterator c.args.tuples.now.entries c.in-None.ensures.steps.0 c.loop-number.invariant.0
