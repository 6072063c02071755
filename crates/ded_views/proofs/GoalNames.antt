-- The goal of a formula uses the names of the formula, so what is measured of it depends on these alone.
use Rattle.std.proofs.Common.{◌≡◌, ℕ, ◌+◌, true, false, ◌||◌, List, ◌∷◌, is_some, refl, sym, ap, ap₂, ◌∙◌, true≢false}
use Rattle.std.proofs.lemmas.Slice.Eq.{bytes_eq-Decides}
use Rattle.ded_model.specs.declared.name.Column.{Column}
use Rattle.ded_model.specs.declared.formula.CompareOp.{CompareOp}
use Rattle.ded_model.specs.declared.formula.Operand.{Operand}
use Rattle.ded_model.specs.Logic.{atom, always, never, negation, every_of, some_of, implies, minus, exists, forall, Logics, none, also, some_atom_of, quantifiers}
use Rattle.ded_model.specs.Form.{Form, FormAtom, compare, member, atom_uses, uses, atom_speaks_of, speaks_of}
use Rattle.ded_model.specs.Made.{reading, base}
use Rattle.ded_model.proofs.Entries.{measure_as-same}
use Rattle.ded_views.proofs.Atoms.{some_passes}
use Rattle.ded_model.specs.Goal.{GoalForm, GoalAtom, linear, theme}
use Rattle.ded_model.specs.Goal as goal
use Rattle.ded_model.specs.Known.{KnownNames, uses_unknown}
use Rattle.ded_model.specs.Measure.{Measure, Measures, goal_atom_b, goal_atom_rank, goal_atom_lines, goal_atom_clash, goal_b, goal_rank, goal_lines, goal_clashes, read_measure}
use Rattle.ded_model.specs.Slotted.{SlotScope, compare_goal, goal_below, goals_below, goal_of}
use Rattle.ded_model.specs.Uses.{goal_atom_uses, goal_uses}
use Rattle.ded_model.proofs.Alike.{all_atoms}
use Rattle.ded_model.proofs.Comparisons.{comparison_has}
use Rattle.ded_views.proofs.Measuring.{measured-same}
use Rattle.ded_views.proofs.ViewNames.{used_known}

-- ---- names

module _ (n : List ℕ) where
  -- a comparison uses no name
  comparison : (slots : SlotScope) (l r : Operand) (op : CompareOp) → goal_uses n (compare_goal slots l op r) ≡ false
  comparison = comparison_has (λ g. goal_uses n g ≡ false) (record { holds = refl; fails = refl; text = λ a. refl }) (record { row = λ r. refl; other = λ r. refl })

  mutual
    -- a goal uses the names of its formula
    used_below : (slots : SlotScope) (i : ℕ) (f : Form) → goal_uses n (goal_below slots i f) ≡ uses n f
    used_below slots i (atom (compare l op r)) = comparison slots l r op
    used_below slots i (atom (member m ts)) = refl
    used_below slots i always = refl
    used_below slots i never = refl
    used_below slots i (negation f) = used_below slots i f
    used_below slots i (every_of fs) = all_used_below slots i fs
    used_below slots i (some_of fs) = all_used_below slots i fs
    used_below slots i (implies f g) = ap₂ (◌||◌) (used_below slots i f) (used_below slots (i + quantifiers f) g)
    used_below slots i (minus f g) = ap₂ (◌||◌) (used_below slots i f) (used_below slots (i + quantifiers f) g)
    used_below slots i (exists s k f) = used_below ((k, record { number = i; sort = s }) ∷ slots) (i + 1) f
    used_below slots i (forall s k f) = used_below ((k, record { number = i; sort = s }) ∷ slots) (i + 1) f

    -- of a list
    all_used_below : (slots : SlotScope) (i : ℕ) (fs : Logics FormAtom) → some_atom_of (goal_atom_uses n) (goals_below slots i fs) ≡ some_atom_of (atom_uses n) fs
    all_used_below slots i none = refl
    all_used_below slots i (also f fs) = ap₂ (◌||◌) (used_below slots i f) (all_used_below slots (i + quantifiers f) fs)

pub goal_names : (h : List Column) (f : Form) (n : List ℕ) → goal_uses n (goal_of h f) ≡ uses n f
unfolding goal_of
goal_names h f n = used_below n _ _ f

-- ---- measures

abbrev atom_measure : Measures → GoalAtom → Measure
atom_measure M a = record { b = goal_atom_b M a; rank = goal_atom_rank M a; lines = goal_atom_lines M a; clash = goal_atom_clash M a; columns = 0 }

-- what a view measures
abbrev pub goal_measure : Measures → GoalForm → Measure
goal_measure M g = record { b = goal_b M g; rank = goal_rank M g; lines = goal_lines M g; clash = goal_clashes M g; columns = 0 }

-- with the columns of the view
abbrev pub with_columns : ℕ → Measure → Measure
with_columns k x = record { b = x.b; rank = x.rank; lines = x.lines; clash = x.clash; columns = k }

-- names that it uses are measured alike
module _ (M N : Measures) where
  step : (a : GoalAtom) → ((n : List ℕ) → goal_atom_uses n a ≡ true → N n ≡ M n) → atom_measure N a ≡ atom_measure M a
  step (linear r) h = refl
  step (theme a) h = refl
  step (goal.member m places) h = ap (λ (x : Measure). atom_measure (λ k. x) (goal.member m places)) (h m ((bytes_eq-Decides m m).1 refl))

  pub measure_of_used : (h : List Column) (f : Form) → ((n : List ℕ) → uses n f ≡ true → N n ≡ M n) → goal_measure N (goal_of h f) ≡ goal_measure M (goal_of h f)
  measure_of_used h f same =
      measured-same (atom_measure N) (atom_measure M) (goal_of h f)
      (all_atoms goal_atom_uses (λ n. N n ≡ M n) (λ a. atom_measure N a ≡ atom_measure M a) step (goal_of h f) (λ n e. same n (sym (goal_names h f n) ∙ e)))

-- a formula speaks of what the names are made of that it uses
pub speaks_used : (f : Form) (n : List ℕ) → uses n f ≡ true → speaks_of (base n) f ≡ true
speaks_used f n u = some_passes (atom_uses n) (atom_speaks_of (base n)) one f u
  where
    one : (a : FormAtom) → atom_uses n a ≡ true → atom_speaks_of (base n) a ≡ true
    one (compare l op r) e = absurd (true≢false (sym e))
    one (member m ts) e = (bytes_eq-Decides (base n) (base m)).1 (ap base ((bytes_eq-Decides n m).0 e))

-- where the names are measured alike of which it speaks
pub measure_of_spoken : (M N : Measures) (h : List Column) (f : Form) → ((n : List ℕ) → speaks_of n f ≡ true → N n ≡ M n)
    → goal_measure (read_measure N) (goal_of h f) ≡ goal_measure (read_measure M) (goal_of h f)
measure_of_spoken M N h f same = measure_of_used (read_measure M) (read_measure N) h f (λ n u. measure_as-same N M n (reading n) (same (base n) (speaks_used f n u)))

-- known names are measured alike
module _ (K : KnownNames) (M N : Measures) (kept : (m : List ℕ) → is_some (K m) ≡ true → N m ≡ M m) where
  pub measure_same : (h : List Column) (f : Form) → uses_unknown K f ≡ false → goal_measure (read_measure N) (goal_of h f) ≡ goal_measure (read_measure M) (goal_of h f)
  measure_same h f u = measure_of_spoken M N h f (λ n e. kept n (used_known K f n u e))
