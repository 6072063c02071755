-- What belongs into lower crates.
use Rattle.std.proofs.Common.{ℕ, ◌+◌, ◌<◌, List, [], ◌∷◌}
use Rattle.ded_model.specs.declared.name.Column.{Column}
use Rattle.ded_model.specs.Catalogue.{at_slots}
use Rattle.ded_model.specs.Point.{AreValues, IsPoint}
use Rattle.ded_model.specs.Value.{Argument}
use Rattle.ded_plan.specs.Plans.{AreArguments}
use Rattle.ded_plan.proofs.PlansOfFormulas.{argument_value}

-- ---- ded_plan, where they stand as private ones

-- the values of a heading's columns at its slots
pub slots_values : (i : ℕ) (h : List Column) (xs : List Argument) → AreArguments h xs → AreValues (at_slots i h xs)
slots_values i [] xs a = tt
slots_values i (c ∷ cs) [] a = tt
slots_values i (c ∷ cs) (x ∷ xs) a = (argument_value c.sort x a.0, slots_values (i + 1) cs xs a.1)

-- make a point
pub slots_point : (h : List Column) (xs : List Argument) (den : ℕ) → 0 < den → AreArguments h xs → IsPoint (record { den = den; coords = at_slots 0 h xs })
slots_point h xs den i a = record { positive = i; bytes = slots_values 0 h xs a }
