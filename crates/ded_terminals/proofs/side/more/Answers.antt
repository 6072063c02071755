use Rattle.std.proofs.Common.{sym, ◌∙◌, arith}
use Rattle.ded_terminals.specs.Literals.{capped}
use Rattle.ded_terminals.proofs.Totals.{all_parts_on}
use Rattle.ded_terminals.proofs.side.more.Goals as goal

pub loop-minus-preserved : goal.loop-minus-preserved
loop-minus-preserved c =
    let a = c.in_ok-rest.ensures.read in
    record {
      read = sym (all_parts_on capped _ _ _ _ _ c.in-Some.ensures.some a.read a.adds) ∙ c.loop-minus.invariant.read;
      few = omega (arith, c.loop-minus.invariant.few, c.in_ok-rest.ensures.count, c.in-Some.ensures.low, c.in_ok-rest.ensures.low);
      low = omega (arith, c.in-Some.ensures.low, c.in_ok-rest.ensures.low, c.loop-minus.invariant.low);
      positive = λ h. c.in_ok-rest.ensures.positive (c.loop-minus.invariant.positive h);
    }
