use Rattle.std.proofs.Common.{◌≡◌, ◌≤◌, take}
use Rattle.ded_query.specs.Windows.{scans_of}
use Rattle.ded_query.proofs.near.is_only.Given as goal

abbrev pub invariant-loop-scan : goal.invariant-loop-scan
invariant-loop-scan l = (l.count ≡ scans_of l.name (take l.scan-index l.scans)) × (l.count ≤ l.scan-index)
