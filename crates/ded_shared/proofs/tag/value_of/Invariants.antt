use Rattle.std.proofs.Common.{◌≡◌, ◌≤◌, drop}
use Rattle.std.specs.Prelude.{min}
use Rattle.ded_terminals.specs.Symbols.{number_of, number_from}
use Rattle.ded_shared.proofs.tag.value_of.Given as goal

-- the digits so far and those to come are the number
abbrev pub invariant-loop-byte : goal.invariant-loop-byte
invariant-loop-byte l = record {
  value : min (number_from l.value (drop l.byte-index l.digits)) 65 ≡ min (number_of l.digits) 65;
  least : l.value ≤ 65;
}
