-- What is remembered of a kept view.
use Rattle.std.specs.Prelude.{◌≡◌, ℕ, Bool, true, false, not, ◌&&◌, Some, List}
use Rattle.std.specs.Str.{bytes_eq}
use Rattle.std.specs.List.{list_any, AllByRecursion}
use Rattle.ded_model.specs.declared.name.Column.{Column}
use Rattle.ded_model.specs.Catalogue.{Catalogue, view}
use Rattle.ded_model.specs.Entries.{entry_of}
use Rattle.ded_model.specs.Form.{Form, uses}
use Rattle.ded_model.specs.Logic.{conjunctive, count_atoms}
use Rattle.ded_model.specs.Made.{base}
use Rattle.ded_model.specs.PlanForm.{plan_form}
use Rattle.ded_model.specs.Slotted.{goal_of}
use Rattle.ded_algebra.specs.Compiled.{is_member_of}
use Rattle.ded_keep.specs.Additive.{is_additive}
use Rattle.ded_plan.specs.Planned.{IsPlanned}
use Rattle.ded_views.specs.Reaching.{reaches}
use Rattle.ded_database.specs.declared.mark.Mark.{Mark}
use Rattle.ded_database.specs.declared.mark.NameReach.{NameReach}
use Rattle.ded_database.specs.Closed.{has}

-- a name in the formula reaches the name
abbrev pub mark_reaches : Mark → List ℕ → Bool
mark_reaches m n = list_any (λ (u : NameReach). has u.reached.items n) m.used.items

-- and so does another name in it than that one
abbrev pub reaches_beside : Mark → List ℕ → Bool
reaches_beside m n = list_any (λ (u : NameReach). not (bytes_eq u.name n) && has u.reached.items n) m.used.items

-- the plan only adds where the name does: it scans the name once, where nothing is taken away, and no other name in the formula reaches it
abbrev pub mark_adds : Mark → List ℕ → Bool
mark_adds m n = is_additive n (plan_form m.plan) && not (reaches_beside m n)

-- the mark is of a view of the catalogue: with a plan of its formula's goal, and the names that the formula uses, each with all that what it is made of reaches
pub record IsMark (c : Catalogue) (m : Mark) : Type 0 where
  pub own : List ℕ
  pub columns : List Column
  pub formula : Form
  pub entry : entry_of c.entries m.name ≡ Some (view own columns formula)
  pub planned : IsPlanned (goal_of columns formula) (plan_form m.plan)
  pub used : (n : List ℕ) → uses n formula ≡ list_any (λ (u : NameReach). bytes_eq n u.name) m.used.items
  pub reached : AllByRecursion (λ (u : NameReach). (n : List ℕ) → has u.reached.items n ≡ reaches c (base u.name) n) m.used.items

-- the view's goal is conjunctive and has an atom of the name once, and no other name in it is made of one that reaches the name
pub record IsOnceIn (c : Catalogue) (v n : List ℕ) : Type 0 where
  pub own : List ℕ
  pub columns : List Column
  pub formula : Form
  pub entry : entry_of c.entries v ≡ Some (view own columns formula)
  pub conjunctive : conjunctive (goal_of columns formula) ≡ true
  pub once : count_atoms (is_member_of n) (goal_of columns formula) ≡ 1
  pub beside : (m : List ℕ) → uses m formula ≡ true → bytes_eq m n ≡ false → reaches c (base m) n ≡ false
