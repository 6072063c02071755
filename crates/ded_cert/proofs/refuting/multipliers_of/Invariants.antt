use Rattle.std.proofs.Common.{◌≡◌, ◌+◌, ◌-◌, ◌*◌, ◌++◌}
use Rattle.std.specs.List.{AllByRecursion}
use Rattle.ded_num.specs.Length.{IsShort}
use Rattle.ded_cert.specs.Tracing.{multipliers}
use Rattle.ded_cert.proofs.refuting.multipliers_of.Given as goal

abbrev pub invariant-loop : goal.invariant-loop
invariant-loop l = record {
  number : l.number ≡ l.first_tag + 2 * l.counter;
  same : l.list.items ++ multipliers l.row l.number (l.count - l.counter) ≡ multipliers l.row l.first_tag l.count;
  short : AllByRecursion IsShort l.list.items;
}
