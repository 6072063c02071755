-- Points at the values of a heading's columns.
use Rattle.std.proofs.Common.{◌≡◌, suc, List, [], ◌∷◌, length, refl, ap}
use Rattle.ded_model.specs.declared.name.Column.{Column}
use Rattle.ded_model.specs.Value.{Argument}
use Rattle.ded_plan.specs.Plans.{AreArguments}
use Rattle.ded_views.specs.Same.{AreByteArguments}

-- the values of columns are byte arguments
pub byte_arguments : (h : List Column) (xs : List Argument) → AreArguments h xs → AreByteArguments xs
byte_arguments [] [] k = tt
byte_arguments [] (x ∷ xs) k = absurd k
byte_arguments (c ∷ cs) [] k = absurd k
byte_arguments (c ∷ cs) (x ∷ xs) k = (k.0, byte_arguments cs xs k.1)

-- there are as many as columns
pub arguments_long : (h : List Column) (xs : List Argument) → AreArguments h xs → length xs ≡ length h
arguments_long [] [] k = refl
arguments_long [] (x ∷ xs) k = absurd k
arguments_long (c ∷ cs) [] k = absurd k
arguments_long (c ∷ cs) (x ∷ xs) k = ap suc (arguments_long cs xs k.1)
