-- One tuple more in a relation, and what it adds to the tuples of a plan.
use Rattle.std.specs.Prelude.{◌≡◌, ◌↔◌, ◌⊎◌, ◌+◌, ◌<◌, ◌≤◌, ℕ, Bool, true, false, IsTrue, List, [], ◌∷◌, ◌++◌, length, map}
use Rattle.ded_model.specs.declared.name.Column.{Column}
use Rattle.ded_model.specs.declared.slot.Slot.{Slot}
use Rattle.ded_model.specs.Catalogue.{relation, Catalogue, at_slots, stored, meaning, GivenHolds}
use Rattle.ded_model.specs.Lines.{IsSubset, tuples_lines}
use Rattle.ded_model.specs.Logic.{AllAtoms}
use Rattle.ded_model.specs.Measure.{stored_measures, plan_lines}
use Rattle.ded_model.specs.PlanForm.{PlanForm, plan_mentions}
use Rattle.ded_model.specs.Point.{slot, Point, IsPoint}
use Rattle.ded_model.specs.Row.{Atom, tuple_holds, tuples_hold, tuples_mention}
use Rattle.ded_model.specs.Value.{Argument}
use Rattle.ded_views.specs.Same.{AreByteArguments}
use Rattle.ded_keep.specs.Additive.{IsOtherScan}

-- the given relations, and the name as a relation of the tuples alone, under numbers that don't count
abbrev pub with_tuples : Catalogue → List ℕ → List Column → List (List Atom) → Catalogue
with_tuples c n h ts = record { limit = 0; entries = relation n h 0 (map (λ t. (0, t)) ts) ∷ c.entries }

-- the given relations, and the name as a relation of the tuple alone
abbrev pub with_alone : Catalogue → List ℕ → List Column → List Atom → Catalogue
with_alone c n h t = with_tuples c n h (t ∷ [])

-- the steps of looking a name up: where it is that of the tuples, one for each of them at most, and else those of the other relations
pub record AreStepsBeside (own : Bool) (ts : List (List Atom)) (Others : ℕ → ℕ → Type 0) (before after : ℕ) : Type 0 where
  pub here : own ≡ true → after ≤ before + length ts
  pub there : own ≡ false → Others before after

-- the kept tuples and more behind them: they hold exactly where the kept ones or the plan do, mention only slots that one of both
-- mentions, and have lines among those of both
pub record IsExtended (c : Catalogue) (f : PlanForm) (kept ts : List (List Atom)) : Type 0 where
  pub more : List (List Atom)
  pub is : ts ≡ kept ++ more
  pub holds : (p : Point) → IsPoint p → IsTrue (tuples_hold ts p) ↔ (IsTrue (tuples_hold kept p) ⊎ GivenHolds c f p)
  pub slots : (s : Slot) → tuples_mention ts s ≡ true → (tuples_mention kept s ≡ true) ⊎ (plan_mentions f (slot s) ≡ true)
  pub lines : IsSubset (tuples_lines ts) (tuples_lines kept ++ plan_lines (stored_measures c) f)

-- from the one catalogue to the next the name gains the tuple, and each other name that the plan scans means what is given of it
pub record IsAddition (given before after : Catalogue) (n : List ℕ) (h : List Column) (t : List Atom) (f : PlanForm) : Type 0 where
  pub others : AllAtoms (IsOtherScan (meaning before) (stored given) (meaning after) n) f
  pub adds : (den : ℕ) (xs : List Argument) → 0 < den → AreByteArguments xs
      → meaning after n den xs ↔ (meaning before n den xs ⊎ IsTrue (tuple_holds t (record { den = den; coords = at_slots 0 h xs })))
