use Rattle.std.proofs.Common.{refl, get_or, arith}
use Rattle.std.specs.Option.{option_map}
use Rattle.ded_relation.specs.Nearby.{numbered}
use Rattle.ded_relation.proofs.NearTuples.{picked_more}
use Rattle.ded_relation.proofs.finding.looked_up.Goals as goal

pub loop-number-preserved : goal.loop-number-preserved
loop-number-preserved g c = (
  picked_more c.args.sieve.now c.args.numbers.now c.loop-number.number-index (get_or c.args.numbers.now c.loop-number.number-index 0) c.args.tuples.now.entries (numbered c.loop-number.found.items) (numbered c.push_if_there.new.found.items)
      (option_map (λ t. t.now) c.get.result) c.loop-number-test.true refl c.get.ensures.value c.in_ok-push_if_there.ensures.near c.loop-number.invariant.0,
  omega (arith, c.loop-number.invariant.1, c.tick.ensures),
  omega (arith, c.loop-number.invariant.2, c.tick.ensures, c.in_ok-push_if_there.ensures.count),
)
