-- Tuples over two of their columns.
use Rattle.std.specs.Prelude.{ℕ, List}
use Rattle.ded_model.specs.Constraint.{LinearConstraint}
use Rattle.ded_figures.specs.Axes.{Axes}

-- a tuple over two columns: rows over these, its first text, and its text as it is printed
pub record Figure : Type 0 where
  pub axes : Axes
  pub rows : List LinearConstraint
  pub label : List ℕ
  pub title : List ℕ
