-- Tuples that stand for what a name means.
use Rattle.std.specs.Prelude.{◌≡◌, ◌↔◌, ◌<◌, ℕ, length, IsTrue, List}
use Rattle.std.specs.List.{AllByRecursion}
use Rattle.ded_model.specs.declared.name.Column.{Column}
use Rattle.ded_model.specs.Catalogue.{Catalogue, at_slots, stored}
use Rattle.ded_model.specs.Known.{IsTupleOver}
use Rattle.ded_model.specs.Row.{Atom, tuples_hold}
use Rattle.ded_model.specs.Value.{Argument}
use Rattle.ded_views.specs.Same.{AreByteArguments}

-- it holds of as many arguments as the heading has columns, with byte strings as texts, exactly where the tuples hold at the point of
-- the arguments
abbrev pub HoldsAsTuples : (ℕ → List Argument → Type 0) → List Column → List (List Atom) → Type 0
HoldsAsTuples R h ts = (d : ℕ) (xs : List Argument) → 0 < d → AreByteArguments xs → length xs ≡ length h → R d xs ↔ IsTrue (tuples_hold ts (record { den = d; coords = at_slots 0 h xs }))

-- the tuples are over the heading and say what the relation or view means
pub record StandsForName (c : Catalogue) (n : List ℕ) (h : List Column) (ts : List (List Atom)) : Type 0 where
  pub means : HoldsAsTuples (stored c n) h ts
  pub over : AllByRecursion (IsTupleOver h) ts
