use Rattle.std.proofs.Common.{◌+◌, ◌*◌, take}
use Rattle.ded_catalog.specs.State.{catalogue_of}
use Rattle.ded_database.proofs.ReachedNames.{AreReachedFrom}
use Rattle.ded_database.proofs.reaching.+reached.Given as goal

abbrev pub decreases-add_reached : goal.decreases-add_reached
decreases-add_reached l = 2 * l.level + 1

abbrev pub decreases-add_used : goal.decreases-add_used
decreases-add_used l = 2 * l.level

abbrev pub invariant-add_used-loop-name : goal.invariant-add_used-loop-name
invariant-add_used-loop-name l = AreReachedFrom (catalogue_of l.catalogue) (take l.name-index l.name-items) l.fn.reached.items l.reached.items
