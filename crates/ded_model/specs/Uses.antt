-- Which names goals and plans use, and names that mean the same over two catalogues.
use Rattle.std.specs.Prelude.{ℕ, Bool, false, ◌↔◌, List}
use Rattle.std.specs.Str.{bytes_eq}
use Rattle.ded_model.specs.Logic.{some_atom}
use Rattle.ded_model.specs.Goal.{GoalAtom, linear, theme, member, GoalForm}
use Rattle.ded_model.specs.PlanForm.{PlanAtom, scan, rows, PlanForm}
use Rattle.ded_model.specs.Value.{Argument}
use Rattle.ded_model.specs.Catalogue.{Catalogue, meaning}

-- whether it is an atom of the name
abbrev pub goal_atom_uses : List ℕ → GoalAtom → Bool
goal_atom_uses n (linear r) = false
goal_atom_uses n (theme a) = false
goal_atom_uses n (member m ts) = bytes_eq n m

-- whether a goal has an atom of the name
abbrev pub goal_uses : List ℕ → GoalForm → Bool
goal_uses n g = some_atom (goal_atom_uses n) g

-- whether it is a scan of the name
abbrev pub plan_atom_uses : List ℕ → PlanAtom → Bool
plan_atom_uses n (scan m ss) = bytes_eq n m
plan_atom_uses n (rows t) = false

-- whether a plan scans the name
abbrev pub plan_uses : List ℕ → PlanForm → Bool
plan_uses n f = some_atom (plan_atom_uses n) f

-- the name means the same of all values over both catalogues
abbrev pub MeansAlike : Catalogue → Catalogue → List ℕ → Type 0
MeansAlike c d n = (den : ℕ) (xs : List Argument) → meaning c n den xs ↔ meaning d n den xs
