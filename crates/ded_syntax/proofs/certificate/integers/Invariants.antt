use Rattle.std.proofs.Common.{◌≡◌, ◌≤◌, ◌++◌, length}
use Rattle.std.specs.List.{AllByRecursion}
use Rattle.ded_num.specs.Length.{IsShort}
use Rattle.ded_syntax.specs.CertificateReading.{integers_at}
use Rattle.ded_terminals.specs.Items.{left}
use Rattle.ded_terminals.specs.Literals.{capped_reader}
use Rattle.ded_syntax.proofs.certificate.integers.Given as goal

-- the integers so far and those to come
abbrev pub invariant-loop-next : goal.invariant-loop-next
invariant-loop-next l = record {
  same : (l.list.items ++ (integers_at capped_reader (left l.rest)).0, (integers_at capped_reader (left l.rest)).1) ≡ integers_at capped_reader (left l.fn.items);
  short : AllByRecursion IsShort l.list.items;
  low : length (left l.rest) ≤ length (left l.fn.items);
}

abbrev pub decreases-loop-next : goal.decreases-loop-next
decreases-loop-next l = length (left l.rest)
