-- A goal and a plan clash where a name that they use does.
use Rattle.std.proofs.Common.{◌≡◌, ℕ, Bool, true, List, sym, ap, ◌∙◌, bytes_eq}
use Rattle.std.proofs.lemmas.Slice.Eq.{bytes_eq-Decides}
use Rattle.ded_model.specs.Lines.{Line, clash_past, lines, clashes, any_clashes}
use Rattle.ded_model.specs.Logic.{Logic, atom, always, never, negation, every_of, some_of, implies, minus, exists, forall, Logics, none, also, some_atom, some_atom_of}
use Rattle.ded_model.specs.Goal.{GoalAtom, linear, theme, member, GoalForm}
use Rattle.ded_model.specs.PlanForm.{PlanAtom, scan, rows, PlanForm}
use Rattle.ded_model.specs.Measure.{Measures, goal_atom_lines, goal_atom_clash, goal_clashes, plan_atom_lines, plan_atom_clash, plan_clashes}
use Rattle.ded_model.specs.Uses.{goal_atom_uses, goal_uses, plan_atom_uses, plan_uses}
use Rattle.ded_model.proofs.Rows.{or_left}
use Rattle.ded_model.proofs.Monotone.{or-grows}

-- a formula clashes where one of its atoms does
module _ {L : Type 0} (of_atom : L → List Line) (in_atom : L → Bool) (test : L → Bool) (step : (a : L) → test a ≡ true → in_atom a ≡ true) where
  mutual
    pub atom_clashes : (f : Logic L) → some_atom test f ≡ true → clashes of_atom in_atom f ≡ true
    atom_clashes (atom a) h = step a h
    atom_clashes always h = h
    atom_clashes never h = h
    atom_clashes (negation f) h = atom_clashes f h
    atom_clashes (every_of fs) h = atom_clashes_of fs h
    atom_clashes (some_of fs) h = atom_clashes_of fs h
    atom_clashes (implies f g) h = or-grows (some_atom test f) (some_atom test g) _ _ (atom_clashes f) (atom_clashes g) h
    atom_clashes (minus f g) h = or-grows (some_atom test f) (some_atom test g) _ _ (atom_clashes f) (atom_clashes g) h
    atom_clashes (exists s k f) h = or_left (clashes of_atom in_atom f) (clash_past s k (lines of_atom f)) (atom_clashes f h)
    atom_clashes (forall s k f) h = or_left (clashes of_atom in_atom f) (clash_past s k (lines of_atom f)) (atom_clashes f h)

    -- of a list
    atom_clashes_of : (fs : Logics L) → some_atom_of test fs ≡ true → any_clashes of_atom in_atom fs ≡ true
    atom_clashes_of none h = h
    atom_clashes_of (also f fs) h = or-grows (some_atom test f) (some_atom_of test fs) _ _ (atom_clashes f) (atom_clashes_of fs) h

-- of the same name
same_clash : (M : Measures) (n m : List ℕ) → bytes_eq n m ≡ true → (M n).clash ≡ true → (M m).clash ≡ true
same_clash M n m e c = ap (λ x. (M x).clash) (sym ((bytes_eq-Decides n m).0 e)) ∙ c

goal_step : (M : Measures) (n : List ℕ) → (M n).clash ≡ true → (a : GoalAtom) → goal_atom_uses n a ≡ true → goal_atom_clash M a ≡ true
goal_step M n c (linear r) h = h
goal_step M n c (theme a) h = h
goal_step M n c (member m ts) h = or_left (M m).clash _ (same_clash M n m h c)

plan_step : (M : Measures) (n : List ℕ) → (M n).clash ≡ true → (a : PlanAtom) → plan_atom_uses n a ≡ true → plan_atom_clash M a ≡ true
plan_step M n c (scan m ss) h = same_clash M n m h c
plan_step M n c (rows t) h = h

pub goal_clashing : (M : Measures) (g : GoalForm) (n : List ℕ) → goal_uses n g ≡ true → (M n).clash ≡ true → goal_clashes M g ≡ true
goal_clashing M g n u c = atom_clashes (goal_atom_lines M) (goal_atom_clash M) (goal_atom_uses n) (goal_step M n c) g u

pub plan_clashing : (M : Measures) (f : PlanForm) (n : List ℕ) → plan_uses n f ≡ true → (M n).clash ≡ true → plan_clashes M f ≡ true
plan_clashing M f n u c = atom_clashes (plan_atom_lines M) (plan_atom_clash M) (plan_atom_uses n) (plan_step M n c) f u
