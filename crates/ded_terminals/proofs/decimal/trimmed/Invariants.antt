use Rattle.std.proofs.Common.{◌≡◌, ◌≤◌, length, take}
use Rattle.ded_terminals.specs.Symbols.{trimmed}
use Rattle.ded_terminals.proofs.decimal.trimmed.Given as goal

abbrev pub invariant-loop-count : goal.invariant-loop-count
invariant-loop-count l = record {
  within : l.count ≤ length l.digits;
  same : trimmed (take l.count l.digits) ≡ trimmed l.digits;
}

abbrev pub decreases-loop-count : goal.decreases-loop-count
decreases-loop-count l = l.count
