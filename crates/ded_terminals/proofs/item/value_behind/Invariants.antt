use Rattle.std.proofs.Common.{◌≡◌, ◌≤◌, drop}
use Rattle.std.specs.Prelude.{◌^◌}
use Rattle.ded_terminals.specs.Symbols.{number_from}
use Rattle.ded_terminals.specs.Literals.{capped}
use Rattle.ded_terminals.proofs.item.value_behind.Given as goal

-- the digits so far and those to come are the number
abbrev pub invariant-loop-byte : goal.invariant-loop-byte
invariant-loop-byte l = record {
  value : capped (number_from l.value (drop l.byte-index l.digits)) ≡ capped (number_from l.fn.value l.digits);
  least : l.value ≤ 2 ^ 63;
}
