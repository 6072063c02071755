use Rattle.std.proofs.Common.{◌≡◌, ◌++◌, drop}
use Rattle.std.specs.List.{AllByRecursion}
use Rattle.ded_num.specs.Length.{IsShort}
use Rattle.ded_cert.specs.Choosing.{spread}
use Rattle.ded_cert.proofs.choosing.spread.Given as goal

abbrev pub invariant-loop-flag : goal.invariant-loop-flag
invariant-loop-flag l = record {
  same : l.list.items ++ spread (drop l.flag-index l.flags) l.rest ≡ spread l.flags l.numbers;
  short : AllByRecursion IsShort l.list.items;
  left : AllByRecursion IsShort l.rest;
}
