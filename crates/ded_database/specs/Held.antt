-- The lists that are held of kept views.
use Rattle.std.specs.Prelude.{◌≡◌, ◌↔◌, ◌<◌, ℕ, Bool, true, false, IsTrue, Option, Some, List, [], ◌∷◌}
use Rattle.std.specs.Str.{bytes_eq}
use Rattle.std.specs.List.{list_any, AllByRecursion}
use Rattle.std.specs.Option.{option_map}
use Rattle.ded_model.specs.declared.name.Column.{Column}
use Rattle.ded_model.specs.Catalogue.{Catalogue, view, at_slots, at_names, Holds}
use Rattle.ded_model.specs.Entries.{entry_of}
use Rattle.ded_model.specs.Form.{Form}
use Rattle.ded_model.specs.Known.{IsTupleOver}
use Rattle.ded_model.specs.Lines.{IsSubset, tuples_lines}
use Rattle.ded_model.specs.Measure.{measures, goal_lines}
use Rattle.ded_model.specs.Row.{Atom, tuples_hold}
use Rattle.ded_model.specs.Slotted.{goal_of}
use Rattle.ded_model.specs.Value.{Argument}
use Rattle.ded_algebra.specs.declared.given.GivenRelation.{GivenRelation}
use Rattle.ded_algebra.specs.Given.{given_under}
use Rattle.ded_database.specs.declared.mark.Mark.{Mark}
use Rattle.ded_database.specs.Marks.{IsMark}
use Rattle.ded_plan.specs.Plans.{AreArguments}
use Rattle.ded_query.specs.Gathering.{IsGivenOf, IsViewOf}

-- what is held under a name
abbrev pub held_under : List GivenRelation → List ℕ → Option (List (List Atom))
held_under rs n = option_map (λ r. r.tuples) (given_under n rs)

-- normal tuples over the heading of a view that hold exactly where its formula does, with lines among those of its goal
pub record IsListOf (c : Catalogue) (n : List ℕ) (ts : List (List Atom)) : Type 0 where
  pub own : List ℕ
  pub columns : List Column
  pub formula : Form
  pub entry : entry_of c.entries n ≡ Some (view own columns formula)
  pub over : AllByRecursion (IsTupleOver columns) ts
  pub holds : (d : ℕ) (xs : List Argument) → 0 < d → AreArguments columns xs
      → IsTrue (tuples_hold ts (record { den = d; coords = at_slots 0 columns xs })) ↔ Holds c formula (record { den = d; coords = at_names columns xs })
  pub lines : IsSubset (tuples_lines ts) (goal_lines (measures c) (goal_of columns formula))

-- ---- what is kept by the type

-- the list of a view: it is given in the view's place, and its goal is evaluated to it
pub record IsHeld (c : Catalogue) (r : GivenRelation) : Type 0 where
  pub given : IsGivenOf c r
  pub view : IsViewOf c r.name r.tuples

-- the names of marks
abbrev pub is_marked : List Mark → List ℕ → Bool
is_marked ms n = list_any (λ (m : Mark). bytes_eq n m.name) ms

-- no two are of one name
abbrev pub AreMarkedApart : List Mark → Type 0
AreMarkedApart [] = Unit {0}
AreMarkedApart (m ∷ ms) = (is_marked ms m.name ≡ false) × AreMarkedApart ms

-- marks of views, each of its own, and lists of some of these views that are right over the catalogue
pub record IsUpheld (c : Catalogue) (ms : List Mark) (rs : List GivenRelation) : Type 0 where
  pub marks : AllByRecursion (IsMark c) ms
  pub apart : AreMarkedApart ms
  pub held : AllByRecursion (IsHeld c) rs
  pub marked : AllByRecursion (λ (r : GivenRelation). is_marked ms r.name ≡ true) rs
