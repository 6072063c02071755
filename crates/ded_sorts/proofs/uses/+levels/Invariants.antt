use Rattle.std.proofs.Common.{◌≡◌, max, drop}
use Rattle.ded_model.specs.Form.{forms}
use Rattle.ded_model.specs.Known.{atom_level}
use Rattle.ded_model.specs.Logic.{greatest_of}
use Rattle.ded_model.specs.Entries.{known}
use Rattle.ded_sorts.proofs.uses.+levels.Given as goal

abbrev pub invariant-greatest_level_of-loop-formula : goal.invariant-greatest_level_of-loop-formula
invariant-greatest_level_of-loop-formula g l =
    greatest_of (atom_level (known (g.N.Names.catalogue l.names))) (forms l.formula-items)
    ≡ max l.level (greatest_of (atom_level (known (g.N.Names.catalogue l.names))) (forms (drop l.formula-index l.formula-items)))
