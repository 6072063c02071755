-- How long a join with a small list may be.
use Rattle.std.specs.Prelude.{◌<◌, ◌≤◌, ◌*◌, ℕ, ℤ, List, ◌++◌, length}
use Rattle.ded_model.specs.Point.{Point}
use Rattle.ded_model.specs.Cell.{HasCells}
use Rattle.ded_complement.specs.Pieces.{all_atoms}

-- the atoms of both lists realise so many cells that a list of more than 32 conjunctions, and of more than either of the two, has at
-- most as many for each conjunction of the first one
pub record IsFew {A : Type 0} (cell : A → Point → ℤ) (xs ys out : List (List A)) : Type 0 where
  pub cells : ℕ
  pub realised : HasCells cell (all_atoms xs ++ all_atoms ys) cells
  pub few : 32 < length out → length xs < length out → length ys < length out → length out ≤ length xs * cells
