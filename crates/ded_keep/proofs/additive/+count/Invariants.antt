use Rattle.std.proofs.Common.{◌≡◌, drop}
use Rattle.ded_keep.specs.Scans.{both}
use Rattle.ded_keep.proofs.ScanCounts.{scans_from}
use Rattle.ded_keep.proofs.additive.+count.Given as goal

abbrev pub invariant-count_all-loop-plan : goal.invariant-count_all-loop-plan
invariant-count_all-loop-plan l = both l.all (scans_from l.name (drop l.plan-index l.plan-items)) ≡ scans_from l.name l.plan-items
