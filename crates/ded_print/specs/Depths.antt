-- Depths that the code gives.
use Rattle.std.specs.Prelude.{ℕ, ◌+◌}
use Rattle.ded_print.specs.declared.depth.Depth.{Depth, fold-Depth}
use Rattle.ded_print.specs.declared.depth.Depth.TheOpen.{Depth-F}

-- how many levels are above
abbrev pub levels : Depth → ℕ
levels = fold-Depth ℕ level
  where
    level : Depth-F ℕ → ℕ
    level Depth-F.Top = 0
    level (Depth-F.Below d) = d.now + 1
