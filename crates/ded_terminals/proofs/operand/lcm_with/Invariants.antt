use Rattle.std.proofs.Common.{◌≡◌, ◌<◌, drop}
use Rattle.ded_terminals.specs.Literals.{capped_from}
use Rattle.ded_terminals.specs.Operands.{literals_of}
use Rattle.ded_terminals.specs.Views.{seen_parts, ArePositive}
use Rattle.ded_terminals.proofs.operand.lcm_with.Given as goal

abbrev pub invariant-loop-part : goal.invariant-loop-part
invariant-loop-part l = record {
  value : capped_from l.common (literals_of (seen_parts (drop l.part-index l.parts))) ≡ capped_from l.over (literals_of (seen_parts l.parts));
  some : 0 < l.common;
  positive : ArePositive (drop l.part-index l.parts);
}
