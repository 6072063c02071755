use Rattle.std.proofs.Common.{◌≡◌, max, drop}
use Rattle.ded_model.specs.Form.{forms}
use Rattle.ded_model.specs.Logic.{greatest_of}
use Rattle.ded_catalog.specs.State.{atom_level_in}
use Rattle.ded_catalog.proofs.table.+level.Given as goal

abbrev pub invariant-greatest_level-loop-part : goal.invariant-greatest_level-loop-part
invariant-greatest_level-loop-part l =
    max l.level (greatest_of (atom_level_in l.table.entries) (forms (drop l.part-index l.part-items))) ≡ greatest_of (atom_level_in l.table.entries) (forms l.part-items)
