use Rattle.std.proofs.Common.{◌+◌, ◌*◌, take}
use Rattle.ded_catalog.specs.State.{catalogue_of}
use Rattle.ded_shared.specs.Gathering.{TouchesAll}
use Rattle.ded_shared.proofs.touching.+touch.Given as goal

abbrev pub decreases-touch : goal.decreases-touch
decreases-touch l = 2 * l.level + 1

abbrev pub decreases-touch_all : goal.decreases-touch_all
decreases-touch_all l = 2 * l.level

abbrev pub invariant-touch_all-loop-name : goal.invariant-touch_all-loop-name
invariant-touch_all-loop-name l = TouchesAll (catalogue_of l.catalogue) (take l.name-index l.these) l.fn.names.items l.names.items
