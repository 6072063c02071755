use Rattle.std.proofs.Common.{◌≡◌, ◌≤◌, ◌<◌, ◌*◌, length, drop}
use Rattle.std.specs.Prelude.{◌^◌}
use Rattle.ded_terminals.specs.Literals.{capped}
use Rattle.ded_terminals.proofs.decimal.power_of_ten.Given as goal

abbrev pub invariant-loop : goal.invariant-loop
invariant-loop l = record {
  value : capped (l.power * 10 ^ length (drop l.index l.digits)) ≡ capped (10 ^ length l.digits);
  least : l.power ≤ 2 ^ 63;
  positive : 0 < l.power;
}
