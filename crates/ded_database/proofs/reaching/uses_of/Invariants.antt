use Rattle.ded_catalog.specs.State.{catalogue_of}
use Rattle.ded_database.proofs.UsedNames.{AreUses}
use Rattle.ded_database.proofs.reaching.uses_of.Given as goal

abbrev pub invariant-loop-name : goal.invariant-loop-name
invariant-loop-name l = AreUses (catalogue_of l.catalogue) l.yielded l.uses.items
