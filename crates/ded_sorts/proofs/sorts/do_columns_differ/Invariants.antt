use Rattle.std.proofs.Common.{◌≡◌, drop}
use Rattle.ded_sorts.specs.Causes.{headings_differ}
use Rattle.ded_sorts.proofs.sorts.do_columns_differ.Given as goal

abbrev pub invariant-loop-i : goal.invariant-loop-i
invariant-loop-i l = headings_differ l.first l.second ≡ headings_differ (drop l.i l.first) (drop l.i l.second)
