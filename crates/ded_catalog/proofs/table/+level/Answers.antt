use Rattle.std.proofs.Common.{rules}
use Rattle.ded_catalog.specs.State.{atom_level_in}
use Rattle.ded_catalog.proofs.Levels.{greatest-more}
use Rattle.ded_catalog.proofs.table.+level.Goals as goal

pub greatest_level-loop-part-preserved : goal.greatest_level-loop-part-preserved
greatest_level-loop-part-preserved n c =
    greatest-more (atom_level_in c.args.table.now.entries) c.deref-part-items.result.now c.loop-part.part-index c.part-item.result c.loop-part.level c.larger-level.result _ (search rules) (search rules) (search rules) c.loop-part.invariant
