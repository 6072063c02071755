-- Names that mean the same of all byte strings.
use Rattle.std.specs.Prelude.{◌≡◌, ◌↔◌, ◌<◌, ℕ, List, length}
use Rattle.std.specs.List.{AllByRecursion}
use Rattle.ded_model.specs.Point.{AllBytes}
use Rattle.ded_model.specs.PlanForm.{PlanAtom, scan, rows}
use Rattle.ded_model.specs.Value.{Argument, Meaning}
use Rattle.ded_model.specs.Catalogue.{Catalogue, meaning}

-- all texts among the arguments are byte strings
abbrev pub AreByteArguments : List Argument → Type 0
AreByteArguments xs = AllByRecursion (λ (a : Argument). AllBytes a.1) xs

-- over both catalogues the name means the same of such arguments
abbrev pub MeansSame : Catalogue → Catalogue → List ℕ → Type 0
MeansSame c d n = (den : ℕ) (xs : List Argument) → 0 < den → AreByteArguments xs → meaning c n den xs ↔ meaning d n den xs

-- both hold of the same such arguments, where there are k of them
abbrev pub IsSameOf : ℕ → (ℕ → List Argument → Type 0) → (ℕ → List Argument → Type 0) → Type 0
IsSameOf k R S = (den : ℕ) (xs : List Argument) → 0 < den → AreByteArguments xs → length xs ≡ k → R den xs ↔ S den xs

-- by both meanings the name of a scan holds of the same such arguments, as many as the scan has slots
abbrev pub ScansSame : Meaning → Meaning → PlanAtom → Type 0
ScansSame I J (scan n ss) = IsSameOf (length ss) (I n) (J n)
ScansSame I J (rows t) = Unit {0}
