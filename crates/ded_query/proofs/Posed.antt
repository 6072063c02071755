-- The goals of accepted formulas, maybe with quantifiers round them.
use Rattle.std.proofs.Common.{◌≡◌, ℕ, ◌≤◌, Bool, true, List, [], ◌∷◌, refl, sym, ◌∙◌, subst}
use Rattle.ded_model.specs.declared.slot.Slot.{Slot}
use Rattle.ded_model.specs.declared.name.Column.{Column}
use Rattle.ded_model.specs.Catalogue.{Catalogue}
use Rattle.ded_model.specs.Entries.{known}
use Rattle.ded_model.specs.Form.{Form, speaks_of}
use Rattle.ded_model.specs.Goal.{GoalForm}
use Rattle.ded_model.specs.Known.{KnownNames, IsAccepted, level_with}
use Rattle.ded_model.specs.Logic.{Logic, some_atom, AllAtoms}
use Rattle.ded_model.specs.NormalGoal.{IsNormalGoal, IsNormalGoalAtom}
use Rattle.ded_model.specs.PlanForm.{PlanAtom}
use Rattle.ded_model.specs.Slotted.{goal_of}
use Rattle.ded_algebra.specs.Compiled.{ComesFrom, comes_from}
use Rattle.ded_plan.specs.Plans.{IsScanOf}
use Rattle.ded_query.specs.Closing.{closing}
use Rattle.ded_query.specs.Gathering.{IsPosed}
use Rattle.ded_query.specs.Questions.{IsQuestion}
use Rattle.ded_plan.proofs.PlansOfFormulas.{atom_scans}

-- ---- accepted formulas

-- ---- below quantifiers

module _ {L : Type 0} (f : Logic L) where
  pub some_closing : (test : L → Bool) (ss : List Slot) → some_atom test (closing ss f) ≡ some_atom test f
  some_closing test [] = refl
  some_closing test (s ∷ ss) = some_closing test ss

  pub to_closing : (P : L → Type 0) (ss : List Slot) → AllAtoms P f → AllAtoms P (closing ss f)
  to_closing P [] k = k
  to_closing P (s ∷ ss) k = to_closing P ss k

  pub from_closing : (P : L → Type 0) (ss : List Slot) → AllAtoms P (closing ss f) → AllAtoms P f
  from_closing P [] k = k
  from_closing P (s ∷ ss) k = from_closing P ss k

-- ---- goals

-- of an accepted formula
pub posed_of : (c : Catalogue) (h : List Column) (g : GoalForm) (f : Form) (level : ℕ) → IsQuestion c h g f → ((n : List ℕ) → speaks_of n f ≡ true → level_with (known c n) ≤ level) → IsPosed c g level
posed_of c h g f level q l = record { columns = h; formula = f; round = []; inner = g; is = refl; question = q; levels = l }

-- with quantifiers round it
pub posed_round : (c : Catalogue) (h : List Column) (g : GoalForm) (f : Form) (level : ℕ) (ss : List Slot) → IsQuestion c h g f → ((n : List ℕ) → speaks_of n f ≡ true → level_with (known c n) ≤ level)
    → IsPosed c (closing ss g) level
posed_round c h g f level ss q l = record { columns = h; formula = f; round = ss; inner = g; is = refl; question = q; levels = l }

module _ (c : Catalogue) (g : GoalForm) (level : ℕ) (p : IsPosed c g level) where
  -- it is normal, as the goals of all accepted formulas are
  pub posed_normal : ((K : KnownNames) (h : List Column) (f : Form) → IsAccepted K h f → IsNormalGoal (goal_of h f)) → IsNormalGoal g
  posed_normal law = subst IsNormalGoal (sym p.is) (to_closing p.inner IsNormalGoalAtom p.round (subst IsNormalGoal (sym p.question.goal) (law (known c) p.columns p.formula p.question.accepted)))

  -- what it scans, the formula uses
  pub posed_atom : (a : PlanAtom) → ComesFrom g a → IsScanOf c p.formula a
  posed_atom a e =
      atom_scans c p.columns p.formula p.question.accepted a
      (subst (λ x. ComesFrom x a) p.question.goal (sym (some_closing p.inner (comes_from a) p.round) ∙ subst (λ x. ComesFrom x a) p.is e))
