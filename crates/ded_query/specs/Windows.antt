-- Views that a plan scans once, as tuples that are right where the scan's tuple holds.
use Rattle.std.specs.Prelude.{◌≡◌, ◌↔◌, ◌≤◌, ◌*◌, ℕ, suc, Bool, true, IsTrue, is_some, List, [], ◌∷◌, ◌++◌, map, if◌then◌else◌}
use Rattle.std.specs.List.{AllByRecursion}
use Rattle.std.specs.Str.{bytes_eq}
use Rattle.ded_model.specs.declared.name.Column.{Column}
use Rattle.ded_model.specs.declared.slot.Slot.{Slot}
use Rattle.ded_model.specs.Catalogue.{Catalogue, at_slots, GoalHolds, PlanHolds}
use Rattle.ded_model.specs.Entries.{known, columns_in}
use Rattle.ded_model.specs.Goal.{GoalForm, goal_mentions}
use Rattle.ded_model.specs.Known.{IsTupleOver, level_with}
use Rattle.ded_model.specs.Lines.{IsSubset, tuples_lines}
use Rattle.ded_model.specs.Logic.{atom}
use Rattle.ded_model.specs.Made.{base}
use Rattle.ded_model.specs.Measure.{measures, goal_lines}
use Rattle.ded_model.specs.PlanForm.{scan}
use Rattle.ded_model.specs.Point.{slot, Point, IsPoint, stands_in}
use Rattle.ded_model.specs.Row.{Atom, tuple_holds, tuple_mentions, tuples_hold, tuples_mention}
use Rattle.ded_model.specs.Value.{slot_value, overs, arguments}
use Rattle.ded_algebra.specs.Evaluation.{HaveSorts}
use Rattle.ded_plan.specs.declared.scans.ScanWithin.{ScanWithin}
use Rattle.ded_algebra.specs.declared.given.GivenRelation.{GivenRelation}
use Rattle.ded_algebra.specs.Given.{has_name}

-- ---- columns

-- the values of the slots as those of the columns that are read into them
abbrev pub column_values : Point → List Column → List Slot → Point
column_values p h ss = record { den = p.den * overs (map (slot_value p) ss); coords = at_slots 0 h (arguments (map (slot_value p) ss)) }

-- the tuple mentions only slots of the list
abbrev pub IsOverSlots : List Slot → List Atom → Type 0
IsOverSlots ss t = (u : Slot) → tuple_mentions t u ≡ true → stands_in ss u ≡ true

-- the tuple over columns holds at their values where the other does at those of the slots
abbrev pub IsAtColumns : List Slot → List Atom → List Atom → Type 0
IsAtColumns ss t out = (h : List Column) → HaveSorts h ss → (p : Point) → IsPoint p → tuple_holds out (column_values p h ss) ≡ tuple_holds t p

-- ---- scans

-- a scan of a defined name that has at most the level, at slots of the sorts of its columns, with a tuple over them
pub record IsReadable (c : Catalogue) (most : ℕ) (s : ScanWithin) : Type 0 where
  pub defined : is_some (known c (base s.name)) ≡ true
  pub level : level_with (known c (base s.name)) ≤ most
  pub sorts : HaveSorts (columns_in c (base s.name)) s.slots
  pub own : IsOverSlots s.slots s.within

-- how many of the scans are of the name
abbrev pub scans_of : List ℕ → List ScanWithin → ℕ
scans_of n [] = 0
scans_of n (s ∷ ss) = if bytes_eq s.name n then suc (scans_of n ss) else scans_of n ss

-- ---- relations

-- tuples over the columns of what the name is made of, with lines among those of the name
pub record IsShapedOf (c : Catalogue) (r : GivenRelation) : Type 0 where
  pub columns : columns_in c (base r.name) ≡ r.heading
  pub over : AllByRecursion (IsTupleOver r.heading) r.tuples
  pub lines : IsSubset (tuples_lines r.tuples) (measures c r.name).lines

-- where the scan's tuple holds, the relation has the points at which the scan of its name holds over the catalogue
abbrev pub IsReadFrom : Catalogue → ScanWithin → GivenRelation → Type 0
IsReadFrom c s r =
    (p : Point) → IsPoint p → IsTrue (tuple_holds s.within p) → PlanHolds c (atom (scan s.name s.slots)) p ↔ IsTrue (tuples_hold r.tuples (column_values p r.heading s.slots))

-- so it is for each of the scans that is of its name
pub record IsGivenNear (c : Catalogue) (ss : List ScanWithin) (r : GivenRelation) : Type 0 where
  pub shaped : IsShapedOf c r
  pub reads : AllByRecursion (λ s. s.name ≡ r.name → IsReadFrom c s r) ss

-- the relation of the scan's name, right where the scan's tuple holds
pub record IsNearView (c : Catalogue) (s : ScanWithin) (r : GivenRelation) : Type 0 where
  pub named : r.name ≡ s.name
  pub shaped : IsShapedOf c r
  pub reads : IsReadFrom c s r

-- those of the second list whose names are new, one by one behind the first
abbrev pub added : List GivenRelation → List GivenRelation → List GivenRelation
added gs [] = gs
added gs (r ∷ rs) = added (if has_name r.name gs then gs else gs ++ r ∷ []) rs

-- ---- evaluation

-- of the points inside the tuples hold exactly where the goal does over the catalogue; they mention only slots that the goal mentions
-- freely, and have lines among the goal's
pub record IsEvaluatedWithin (c : Catalogue) (g : GoalForm) (inside : Point → Bool) (ts : List (List Atom)) : Type 0 where
  pub holds : (p : Point) → IsPoint p → inside p ≡ true → IsTrue (tuples_hold ts p) ↔ GoalHolds c g p
  pub slots : (s : Slot) → tuples_mention ts s ≡ true → goal_mentions g (slot s) ≡ true
  pub lines : IsSubset (tuples_lines ts) (goal_lines (measures c) g)
