use Rattle.std.proofs.Common.{◌≡◌, ◌≤◌, ◌*◌, drop, length}
use Rattle.std.specs.Prelude.{◌^◌}
use Rattle.ded_terminals.specs.Literals.{marked_numerator}
use Rattle.ded_terminals.specs.Operands.{literals_of, no_sums, total_from}
use Rattle.ded_terminals.specs.Views.{seen_parts, seen_totals, AreSmall, IsBounded}
use Rattle.ded_terminals.proofs.operand.summed.Given as goal

abbrev pub invariant-loop-part : goal.invariant-loop-part
invariant-loop-part l = record {
  value : total_from marked_numerator l.over (seen_totals l.totals) (seen_parts (drop l.part-index l.parts)) ≡ total_from marked_numerator l.over no_sums (seen_parts l.parts);
  within : l.part-index ≤ length l.parts;
  bounded : IsBounded (l.part-index * 2 ^ 96) (seen_totals l.totals);
  small : AreSmall l.over (literals_of (seen_parts (drop l.part-index l.parts)));
}
