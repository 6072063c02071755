-- A choice among rows, and numbers for the chosen ones as numbers for all.
use Rattle.std.specs.Prelude.{ℤ, pos, Bool, true, false, List, [], ◌∷◌}
use Rattle.ded_model.specs.Constraint.{LinearConstraint}

-- the rows at which the list has `true`
abbrev pub chosen : List Bool → List LinearConstraint → List LinearConstraint
chosen (true ∷ fs) (r ∷ rs) = r ∷ chosen fs rs
chosen (false ∷ fs) (r ∷ rs) = chosen fs rs
chosen _ _ = []

-- the next number where the list has `true`, 0 where it has `false` or there is no number more
abbrev pub spread : List Bool → List ℤ → List ℤ
spread [] ms = []
spread (true ∷ fs) (m ∷ ms) = m ∷ spread fs ms
spread (true ∷ fs) [] = pos 0 ∷ spread fs []
spread (false ∷ fs) ms = pos 0 ∷ spread fs ms
