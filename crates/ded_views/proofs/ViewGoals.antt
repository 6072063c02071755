-- Goals of views, and the names that they use.
use Rattle.std.proofs.Common.{◌≡◌, ℕ, Bool, true, List, Option, Some, None, refl, sym, true≢false}
use Rattle.std.specs.Option.{option_map}
use Rattle.std.proofs.lemmas.Option.{same_Some, none-some}
use Rattle.ded_model.specs.declared.name.Column.{Column}
use Rattle.ded_model.specs.Catalogue.{Entry, relation, view, Catalogue}
use Rattle.ded_model.specs.Entries.{entry_of, view_in}
use Rattle.ded_model.specs.Form.{Form, FormAtom, compare, member, atom_uses, uses}
use Rattle.ded_model.specs.Made.{base}
use Rattle.ded_model.specs.Goal.{GoalForm}
use Rattle.ded_model.specs.Logic.{some_atom}
use Rattle.ded_model.specs.Slotted.{goal_of}
use Rattle.ded_model.proofs.Alike.{all_atoms}
use Rattle.ded_views.specs.Reaching.{atom_reaches}
use Rattle.ded_views.proofs.Atoms.{some_with}
use Rattle.ded_model.proofs.Bools.{bytes_eq-refl}

-- the name is a view, and the goal that of its formula
pub record IsGoalOfView (c : Catalogue) (n : List ℕ) (g : GoalForm) : Type 0 where
  pub own : List ℕ
  pub columns : List Column
  pub formula : Form
  pub entry : entry_of c.entries n ≡ Some (view own columns formula)
  pub goal : g ≡ goal_of columns formula

-- a name of which there is the goal of a view
pub view_goal : (c : Catalogue) (n : List ℕ) (g : GoalForm) → Some g ≡ option_map (λ v. goal_of v.0 v.1) (view_in (entry_of c.entries n)) → IsGoalOfView c n g
view_goal c n g e = by (entry_of c.entries n) refl e
  where
    by : (o : Option Entry) → entry_of c.entries n ≡ o → Some g ≡ option_map (λ v. goal_of v.0 v.1) (view_in o) → IsGoalOfView c n g
    by None f e = absurd (none-some g (sym e))
    by (Some (relation m h i ts)) f e = absurd (none-some g (sym e))
    by (Some (view m h x)) f e = record { own = m; columns = h; formula = x; entry = f; goal = same_Some g (goal_of h x) e }

-- some name that the formula uses is made of one that reaches the name
pub record IsReachedByUsed (R : List ℕ → List ℕ → Bool) (r : List ℕ) (f : Form) : Type 0 where
  pub name : List ℕ
  pub used : uses name f ≡ true
  pub reaches : R (base name) r ≡ true

pub reached_by_used : (R : List ℕ → List ℕ → Bool) (r : List ℕ) (f : Form) → some_atom (atom_reaches R r) f ≡ true → IsReachedByUsed R r f
reached_by_used R r f h =
    some_with (atom_reaches R r) (λ a. (n : List ℕ) → atom_uses n a ≡ true → uses n f ≡ true) (IsReachedByUsed R r f) step f
    (all_atoms atom_uses (λ n. uses n f ≡ true) (λ a. (n : List ℕ) → atom_uses n a ≡ true → uses n f ≡ true) (λ a k. k) f (λ n e. e)) h
  where
    step : (a : FormAtom) → ((n : List ℕ) → atom_uses n a ≡ true → uses n f ≡ true) → atom_reaches R r a ≡ true → IsReachedByUsed R r f
    step (compare l op r') k t = absurd (true≢false (sym t))
    step (member m ts) k t = record { name = m; used = k m (bytes_eq-refl m); reaches = t }
