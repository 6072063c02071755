use Rattle.std.proofs.Common.{◌+◌, ◌*◌, subst, sym, ◌∙◌, arith}
use Rattle.std.specs.Prelude.{◌^◌}
use Rattle.ded_terminals.specs.Views.{seen_totals, IsBounded}
use Rattle.ded_terminals.proofs.Denominators.{total_on, small_on}
use Rattle.ded_terminals.proofs.Totals.{bounded_more, add_bounded, signed_small}
use Rattle.ded_terminals.proofs.operand.summed.Goals as goal

pub loop-part-preserved : goal.loop-part-preserved
loop-part-preserved c =
    let is = c.in_ok-add_part.ensures in
    let small = small_on c.args.over c.loop-part.part-index c.args.parts.now _ c.loop-part-test.true c.loop-part.invariant.small in
    record {
      value = total_on c.args.over c.loop-part.part-index c.args.parts.now _ _ _ c.loop-part-test.true is ∙ c.loop-part.invariant.value;
      within = omega (arith, c.loop-part-test.true);
      bounded =
          bounded_more (c.loop-part.part-index * 2 ^ 96 + 2 ^ 96) _ (seen_totals c.add_part.new.totals) (omega arith)
          (subst (IsBounded (c.loop-part.part-index * 2 ^ 96 + 2 ^ 96)) (sym is) (add_bounded (c.loop-part.part-index * 2 ^ 96) (2 ^ 96) (seen_totals c.loop-part.totals) _ _ (signed_small _ _ _ small.0) c.loop-part.invariant.bounded));
      small = small.1;
    }

pub returns-clause-bounded : goal.returns-clause-bounded
returns-clause-bounded c = bounded_more _ _ (seen_totals c.loop-part.totals) (omega (arith, c.loop-part.invariant.within, c.requires.few)) c.loop-part.invariant.bounded

pub add_part-requires-clause-bounded : goal.add_part-requires-clause-bounded
add_part-requires-clause-bounded c = bounded_more _ _ (seen_totals c.loop-part.totals) (omega (arith, c.loop-part.invariant.within, c.requires.few)) c.loop-part.invariant.bounded

pub add_part-requires-clause-small : goal.add_part-requires-clause-small
add_part-requires-clause-small c = (small_on c.args.over c.loop-part.part-index c.args.parts.now _ c.loop-part-test.true c.loop-part.invariant.small).0
