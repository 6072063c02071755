-- Lines that are written at the end of a text.
use Rattle.std.specs.Prelude.{◌≡◌, ℕ, List, ◌++◌}
use Rattle.ded_print.specs.Lines.{lines_text}
use Rattle.ded_cells.specs.Tables.{AreLines}

-- a line was written, without its end
pub record WritesLine (IsLine : List ℕ → Type 0) (before now : List ℕ) : Type 0 where
  pub line : List ℕ
  pub is_line : IsLine line
  pub is : now ≡ before ++ line

-- a line was written for each, in order
pub record WritesLines {A : Type 0} (IsLine : A → List ℕ → Type 0) (before now : List ℕ) (items : List A) : Type 0 where
  pub lines : List (List ℕ)
  pub are : AreLines IsLine items lines
  pub is : now ≡ before ++ lines_text lines
