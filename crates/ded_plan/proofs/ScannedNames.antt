-- The names that are gathered: those that were there and those of the formula's atoms, each once.
use Rattle.std.proofs.Common.{◌≡◌, ℕ, Bool, true, false, ◌||◌, cond, List, [], ◌∷◌, ◌++◌, Option, Some, None, refl, sym, ap, ◌∙◌, subst, bytes_eq}
use Rattle.std.specs.List.{list_any}
use Rattle.std.proofs.lemmas.Slice.Eq.{bytes_eq-Decides}
use Rattle.std.proofs.Math.Bool.{or_assoc, or-false}
use Rattle.ded_model.specs.Logic.{Logic, atom, always, never, negation, every_of, some_of, implies, minus, exists, forall, Logics, none, also, some_atom, some_atom_of}
use Rattle.ded_model.specs.Goal.{GoalAtom, linear, theme, member, GoalForm}
use Rattle.ded_model.specs.PlanForm.{PlanAtom, scan, rows, PlanForm}
use Rattle.ded_model.specs.Uses.{goal_atom_uses, goal_uses, plan_atom_uses, plan_uses}
use Rattle.ded_plan.specs.ScannedNames.{with_name, with_some_name, with_names, with_all_names, scanned_name, used_name, AreDistinctNames}
use Rattle.ded_model.proofs.Bools.{or_false_left, or_false_right}
use Rattle.std.proofs.lemmas.Bool.{or_from}
use Rattle.ded_num.proofs.Tests.{bytes_eq-swap}

-- ---- one name more

-- a name at the end is one more
pub any_more : (n m : List ℕ) (ns : List (List ℕ)) → list_any (bytes_eq n) (ns ++ m ∷ []) ≡ (list_any (bytes_eq n) ns || bytes_eq n m)
any_more n m [] = or-false (bytes_eq n m)
any_more n m (k ∷ ns) = ap (λ b. bytes_eq n k || b) (any_more n m ns) ∙ sym (or_assoc (bytes_eq n k) _ _)

-- one that is there is no more
any_there : (n m : List ℕ) (ns : List (List ℕ)) (b : Bool) → bytes_eq n m ≡ b → list_any (bytes_eq m) ns ≡ true → list_any (bytes_eq n) ns ≡ (list_any (bytes_eq n) ns || b)
any_there n m ns true e h = let there = subst (λ k. list_any (bytes_eq k) ns ≡ true) (sym ((bytes_eq-Decides n m).0 e)) h in rw there refl
any_there n m ns false e h = sym (or-false _)

-- so the names are those that were there and this one
name_more : (n m : List ℕ) (ns : List (List ℕ)) → list_any (bytes_eq n) (with_name ns m) ≡ (list_any (bytes_eq n) ns || bytes_eq n m)
name_more n m ns = step (list_any (bytes_eq m) ns) refl
  where
    step : (b : Bool) → list_any (bytes_eq m) ns ≡ b → list_any (bytes_eq n) (cond b ns (ns ++ m ∷ [])) ≡ (list_any (bytes_eq n) ns || bytes_eq n m)
    step true e = any_there n m ns (bytes_eq n m) refl e
    step false e = any_more n m ns

-- ---- formulas

-- whether it is the name, if there is one
abbrev is_name : List ℕ → Option (List ℕ) → Bool
is_name n None = false
is_name n (Some m) = bytes_eq n m

some_name_more : (n : List ℕ) (o : Option (List ℕ)) (ns : List (List ℕ)) → list_any (bytes_eq n) (with_some_name ns o) ≡ (list_any (bytes_eq n) ns || is_name n o)
some_name_more n None ns = sym (or-false _)
some_name_more n (Some m) ns = name_more n m ns

-- the names that were there and those that pass a test of the name of an atom
module _ {L : Type 0} (name_of : L → Option (List ℕ)) (test : L → Bool) (n : List ℕ) (tells : (a : L) → is_name n (name_of a) ≡ test a) where
  mutual
    names_more : (f : Logic L) (ns : List (List ℕ)) → list_any (bytes_eq n) (with_names name_of ns f) ≡ (list_any (bytes_eq n) ns || some_atom test f)
    names_more (atom a) ns = some_name_more n (name_of a) ns ∙ ap (λ b. list_any (bytes_eq n) ns || b) (tells a)
    names_more always ns = sym (or-false _)
    names_more never ns = sym (or-false _)
    names_more (negation f) ns = names_more f ns
    names_more (every_of fs) ns = all_names_more fs ns
    names_more (some_of fs) ns = all_names_more fs ns
    names_more (implies f g) ns = names_more g (with_names name_of ns f) ∙ ap (λ b. b || some_atom test g) (names_more f ns) ∙ or_assoc (list_any (bytes_eq n) ns) (some_atom test f) (some_atom test g)
    names_more (minus f g) ns = names_more g (with_names name_of ns f) ∙ ap (λ b. b || some_atom test g) (names_more f ns) ∙ or_assoc (list_any (bytes_eq n) ns) (some_atom test f) (some_atom test g)
    names_more (exists s k f) ns = names_more f ns
    names_more (forall s k f) ns = names_more f ns

    -- of a list
    all_names_more : (fs : Logics L) (ns : List (List ℕ)) → list_any (bytes_eq n) (with_all_names name_of ns fs) ≡ (list_any (bytes_eq n) ns || some_atom_of test fs)
    all_names_more none ns = sym (or-false _)
    all_names_more (also f fs) ns = all_names_more fs (with_names name_of ns f) ∙ ap (λ b. b || some_atom_of test fs) (names_more f ns) ∙ or_assoc (list_any (bytes_eq n) ns) (some_atom test f) (some_atom_of test fs)

-- with none there before, the names of the plan
pub names_of-plan : (f : PlanForm) (n : List ℕ) → plan_uses n f ≡ list_any (bytes_eq n) (with_names scanned_name [] f)
names_of-plan f n = sym (names_more scanned_name (plan_atom_uses n) n tells f [])
  where
    tells : (a : PlanAtom) → is_name n (scanned_name a) ≡ plan_atom_uses n a
    tells (scan m ss) = refl
    tells (rows t) = refl

-- and of the goal
pub names_of-goal : (g : GoalForm) (n : List ℕ) → goal_uses n g ≡ list_any (bytes_eq n) (with_names used_name [] g)
names_of-goal g n = sym (names_more used_name (goal_atom_uses n) n tells g [])
  where
    tells : (a : GoalAtom) → is_name n (used_name a) ≡ goal_atom_uses n a
    tells (linear r) = refl
    tells (theme a) = refl
    tells (member m ts) = refl

-- ---- each once

-- a name that is not there
distinct_more : (m : List ℕ) (ns : List (List ℕ)) → list_any (bytes_eq m) ns ≡ false → AreDistinctNames ns → AreDistinctNames (ns ++ m ∷ [])
distinct_more m [] e d = (refl, tt)
distinct_more m (k ∷ ns) e d =
    (any_more k m ns ∙ or_from _ _ d.0 (bytes_eq-swap k m ∙ or_false_left _ _ e), distinct_more m ns (or_false_right (bytes_eq m k) _ e) d.1)

-- or any name
name_distinct : (m : List ℕ) (ns : List (List ℕ)) → AreDistinctNames ns → AreDistinctNames (with_name ns m)
name_distinct m ns d = step (list_any (bytes_eq m) ns) refl
  where
    step : (b : Bool) → list_any (bytes_eq m) ns ≡ b → AreDistinctNames (cond b ns (ns ++ m ∷ []))
    step true e = d
    step false e = distinct_more m ns e d

some_name_distinct : (o : Option (List ℕ)) (ns : List (List ℕ)) → AreDistinctNames ns → AreDistinctNames (with_some_name ns o)
some_name_distinct None ns d = d
some_name_distinct (Some m) ns d = name_distinct m ns d

module _ {L : Type 0} (name_of : L → Option (List ℕ)) where
  mutual
    -- so are all that are gathered
    names_distinct : (f : Logic L) (ns : List (List ℕ)) → AreDistinctNames ns → AreDistinctNames (with_names name_of ns f)
    names_distinct (atom a) ns d = some_name_distinct (name_of a) ns d
    names_distinct always ns d = d
    names_distinct never ns d = d
    names_distinct (negation f) ns d = names_distinct f ns d
    names_distinct (every_of fs) ns d = all_names_distinct fs ns d
    names_distinct (some_of fs) ns d = all_names_distinct fs ns d
    names_distinct (implies f g) ns d = names_distinct g (with_names name_of ns f) (names_distinct f ns d)
    names_distinct (minus f g) ns d = names_distinct g (with_names name_of ns f) (names_distinct f ns d)
    names_distinct (exists s k f) ns d = names_distinct f ns d
    names_distinct (forall s k f) ns d = names_distinct f ns d

    -- of a list
    all_names_distinct : (fs : Logics L) (ns : List (List ℕ)) → AreDistinctNames ns → AreDistinctNames (with_all_names name_of ns fs)
    all_names_distinct none ns d = d
    all_names_distinct (also f fs) ns d = all_names_distinct fs (with_names name_of ns f) (names_distinct f ns d)

  -- with none there before
  pub names_of-distinct : (f : Logic L) → AreDistinctNames (with_names name_of [] f)
  names_of-distinct f = names_distinct f [] tt
