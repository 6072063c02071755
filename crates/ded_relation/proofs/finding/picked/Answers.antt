use Rattle.std.proofs.Common.{refl, get_or, sym, ap, arith, ◌∙◌, ◌++◌}
use Rattle.std.specs.Option.{option_map}
use Rattle.ded_relation.specs.Nearby.{with_number}
use Rattle.ded_relation.proofs.NearTuples.{picked_next}
use Rattle.ded_relation.proofs.finding.picked.Goals as goal

pub loop-number-preserved : goal.loop-number-preserved
loop-number-preserved g c =
    let numbers = c.args.numbers.now in
    let k = c.loop-number.number-index in
    let o = option_map (λ t. t.now) c.get.result in (
      c.in_ok-push_there.ensures.there ∙ ap (λ us. us ++ with_number (get_or numbers k 0) o) c.loop-number.invariant.0
          ∙ sym (picked_next numbers k (get_or numbers k 0) c.args.tuples.now.entries o c.loop-number-test.true refl c.get.ensures.value),
      omega (arith, c.loop-number.invariant.1, c.tick.ensures),
      omega (arith, c.loop-number.invariant.2, c.tick.ensures, c.in_ok-push_there.ensures.count),
    )
