-- Names of which no byte is a line feed, a blank or a quote, and what is written with such names.
use Rattle.std.specs.Prelude.{ℕ, ◌<◌, List}
use Rattle.std.specs.List.{AllByRecursion}
use Rattle.ded_model.specs.declared.name.Column.{Column}
use Rattle.ded_model.specs.Logic.{atom, always, never, negation, every_of, some_of, implies, minus, exists, forall, Logics, none, also}
use Rattle.ded_model.specs.PlanForm.{PlanAtom, scan, rows, PlanForm}
use Rattle.ded_print.specs.Plans.{key_text}

-- each byte is above 39, the quote, as letters, digits and `_` are
abbrev pub IsQuiet : List ℕ → Type 0
IsQuiet = AllByRecursion (λ b. 39 < b)

-- each column has such a name
abbrev pub AreQuiet : List Column → Type 0
AreQuiet = AllByRecursion (λ (c : Column). IsQuiet c.name)

-- a scan is of such a name; nothing is asked of rows
abbrev pub IsQuietAtom : PlanAtom → Type 0
IsQuietAtom (scan n ss) = IsQuiet n
IsQuietAtom (rows t) = Unit {0}

-- each scan of a plan is of such a name, and so is what is projected away
abbrev mutual
  pub IsQuietPlan : PlanForm → Type 0
  IsQuietPlan (atom a) = IsQuietAtom a
  IsQuietPlan always = Unit {0}
  IsQuietPlan never = Unit {0}
  IsQuietPlan (negation f) = IsQuietPlan f
  IsQuietPlan (every_of fs) = AreQuietPlans fs
  IsQuietPlan (some_of fs) = AreQuietPlans fs
  IsQuietPlan (implies f g) = Unit {0}
  IsQuietPlan (minus f g) = IsQuietPlan f × IsQuietPlan g
  IsQuietPlan (exists s k f) = IsQuiet (key_text k) × IsQuietPlan f
  IsQuietPlan (forall s k f) = Unit {0}

  -- each plan of the list is such
  pub AreQuietPlans : Logics PlanAtom → Type 0
  AreQuietPlans none = Unit {0}
  AreQuietPlans (also f fs) = IsQuietPlan f × AreQuietPlans fs
