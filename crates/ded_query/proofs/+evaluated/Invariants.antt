use Rattle.std.proofs.Common.{◌≡◌, true, ◌+◌, ◌*◌, None, take}
use Rattle.std.specs.Prelude.{if◌then◌else◌}
use Rattle.std.specs.List.{AllByRecursion}
use Rattle.ded_model.specs.Made.{is_made}
use Rattle.ded_catalog.specs.Snapshots.{snapshot_of}
use Rattle.ded_algebra.specs.Given.{has_name}
use Rattle.ded_query.specs.Gathering.{IsFront}
use Rattle.ded_query.specs.Over.{over_relations}
use Rattle.ded_query.specs.Tried.{TriesMore, IsGatheredBy}
use Rattle.ded_query.proofs.NearViews.{IsGatheredTo}
use Rattle.ded_query.proofs.+evaluated.Given as goal

abbrev pub decreases-giving::give_view : goal.decreases-giving::give_view
decreases-giving::give_view g l = 9 * l.strata.now.level

abbrev pub decreases-giving::give_other : goal.decreases-giving::give_other
decreases-giving::give_other g l = 9 * l.strata.now.level + (if is_made l.name.now then 2 else 0)

abbrev pub decreases-giving::give : goal.decreases-giving::give
decreases-giving::give g l = 9 * l.strata.now.level + (if is_made l.name.now then 3 else 1)

abbrev pub decreases-giving::give_all : goal.decreases-giving::give_all
decreases-giving::give_all g l = 9 * l.strata.now.level + 4

abbrev pub decreases-within::view_near : goal.decreases-within::view_near
decreases-within::view_near g l = 9 * l.strata.now.level

abbrev pub decreases-within::gathered : goal.decreases-within::gathered
decreases-within::gathered g l = 9 * l.strata.now.level + 4

abbrev pub decreases-within::evaluated_within : goal.decreases-within::evaluated_within
decreases-within::evaluated_within g l = 9 * l.strata.now.level + 5

abbrev pub decreases-within::evaluated_near : goal.decreases-within::evaluated_near
decreases-within::evaluated_near g l = 9 * l.strata.now.level + 5

abbrev pub decreases-gathering::evaluated_whole : goal.decreases-gathering::evaluated_whole
decreases-gathering::evaluated_whole g l = 9 * l.strata.now.level + 6

abbrev pub decreases-witness::witnessed : goal.decreases-witness::witnessed
decreases-witness::witnessed g l = 9 * l.strata.now.level

abbrev pub decreases-gathering::evaluated_by : goal.decreases-gathering::evaluated_by
decreases-gathering::evaluated_by g l = 9 * l.strata.now.level + 7

abbrev pub decreases-gathering::evaluated : goal.decreases-gathering::evaluated
decreases-gathering::evaluated g l = 9 * l.strata.now.level + 8

abbrev pub invariant-giving::give_all-loop-name : goal.invariant-giving::give_all-loop-name
invariant-giving::give_all-loop-name g l = IsGatheredBy (snapshot_of l.strata.snapshot.now) l.fn.given l.fn.tried l.given l.tried × AllByRecursion (λ n. has_name n (over_relations (snapshot_of l.strata.snapshot.now) None l.given) ≡ true) (take l.name-index l.names) × IsFront l.fn.given l.given × TriesMore l.fn.given l.fn.tried l.tried

abbrev pub invariant-within::gathered-loop-scan : goal.invariant-within::gathered-loop-scan
invariant-within::gathered-loop-scan g l = IsGatheredTo (snapshot_of l.strata.snapshot.now) l.scans l.fn.given l.fn.tried l.scan-index l.given l.tried l.near.items
