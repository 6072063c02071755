-- What a journal keeps true of its store.
use Rattle.std.specs.Prelude.{◌≡◌, ℕ, ◌^◌, ◌<◌, false, IsTrue, length}
use Rattle.sqlite_trees.specs.declared.store.Shape.TheVariants.{Table}
use Rattle.sqlite_trees.specs.Tree.{Trees}
use Rattle.sqlite_trees.specs.View.{View, IsClean}
use Rattle.ded_journal.specs.Statements.{statements_in, HoldsStatements}

-- both views of the store are lists of statements, as is each outcome of a crash, and both are counted
pub record IsKeptBy (v : View) (recovers : Trees → Type 0) (count kept : ℕ) : Type 0 where
  pub few : (count < 2 ^ 63) × (kept < 2 ^ 63)
  pub numbered : IsClean v → IsTrue v.is_numbered
  pub table : IsClean v → v.shape 0 ≡ Table
  pub reals : IsClean v → v.reals 0 ≡ 0
  pub unaltered : IsClean v → (v.shape ≡ v.committed_shape) × (v.reals ≡ v.committed_reals)
  pub mended : IsTrue v.is_open → v.is_broken ≡ false
  pub now : IsTrue v.is_open → HoldsStatements v.trees (statements_in v.trees)
  pub committed : IsTrue v.is_open → HoldsStatements v.committed (statements_in v.committed)
  pub counted : IsTrue v.is_open → (count ≡ length (statements_in v.trees)) × (kept ≡ length (statements_in v.committed))
  pub found : IsClean v → (db : Trees) → recovers db → HoldsStatements db (statements_in db)
