use Rattle.ded_database.specs.Changes.{before, after}
use Rattle.ded_database.specs.Lost.{AreLost}
use Rattle.ded_database.proofs.unshared.unshared.Given as goal

abbrev pub invariant-loop-tuple : goal.invariant-loop-tuple
invariant-loop-tuple l = AreLost (before l.change) (after l.change) l.change.name.now l.gone l.left.items
