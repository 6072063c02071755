-- How often a plan scans a name, and whether it does at all.
use Rattle.std.proofs.Common.{◌≡◌, ℕ, suc, zero, ◌+◌, Bool, true, false, not, ◌||◌, List, arith, refl, sym, ap, ap₂, ◌∙◌, true≢false, ◌==◌}
use Rattle.std.proofs.lemmas.Bool.{and_parts, and_from, or_from, eqb-true, eq-eqb}
use Rattle.ded_model.specs.Logic.{Logic, atom, always, never, negation, every_of, some_of, implies, minus, exists, forall, Logics, none, also, some_atom, some_atom_of, count_atoms, count_atoms_of, as_count, conjunctive, all_conjunctive}
use Rattle.ded_model.specs.PlanForm.{PlanAtom, scan, rows, PlanForm}
use Rattle.ded_model.specs.Uses.{plan_atom_uses, plan_uses}
use Rattle.ded_algebra.specs.Compiled.{is_scan_of}
use Rattle.ded_keep.specs.Additive.{hides, some_hides, is_additive}

-- ---- of any atoms

-- a count above 0
abbrev pub is_above : ℕ → Bool
is_above zero = false
is_above (suc k) = true

above_sum : (x y : ℕ) → is_above (x + y) ≡ (is_above x || is_above y)
above_sum zero y = let e : 0 + y ≡ y = omega arith in ap is_above e
above_sum (suc x) y = let e : suc x + y ≡ suc (x + y) = omega arith in ap is_above e

above_count : (b : Bool) → b ≡ is_above (as_count b)
above_count true = refl
above_count false = refl

module _ {L : Type 0} (test : L → Bool) where
  mutual
    -- some atom passes the test exactly where the count of those that do is above 0
    some_is : (f : Logic L) → some_atom test f ≡ is_above (count_atoms test f)
    some_is (atom a) = above_count (test a)
    some_is always = refl
    some_is never = refl
    some_is (negation f) = some_is f
    some_is (every_of fs) = some_of_is fs
    some_is (some_of fs) = some_of_is fs
    some_is (implies f g) = ap₂ (λ a b. a || b) (some_is f) (some_is g) ∙ sym (above_sum (count_atoms test f) (count_atoms test g))
    some_is (minus f g) = ap₂ (λ a b. a || b) (some_is f) (some_is g) ∙ sym (above_sum (count_atoms test f) (count_atoms test g))
    some_is (exists s k f) = some_is f
    some_is (forall s k f) = some_is f

    some_of_is : (fs : Logics L) → some_atom_of test fs ≡ is_above (count_atoms_of test fs)
    some_of_is none = refl
    some_of_is (also f fs) = ap₂ (λ a b. a || b) (some_is f) (some_of_is fs) ∙ sym (above_sum (count_atoms test f) (count_atoms_of test fs))

-- ---- of plans

-- to be a scan of a name is to use it
same_tests : (n : List ℕ) → is_scan_of n ≡ plan_atom_uses n
same_tests n = λ i a. same a i
  where
    same : (a : PlanAtom) → is_scan_of n a ≡ plan_atom_uses n a
    same (scan m ss) = refl
    same (rows t) = refl

module _ (n : List ℕ) where
  -- to use a name is to scan it at least once
  pub uses_is : (f : PlanForm) → plan_uses n f ≡ is_above (count_atoms (is_scan_of n) f)
  uses_is f = ap (λ t. some_atom t f) (sym (same_tests n)) ∙ some_is (is_scan_of n) f

  uses_of_is : (fs : Logics PlanAtom) → some_atom_of (plan_atom_uses n) fs ≡ is_above (count_atoms_of (is_scan_of n) fs)
  uses_of_is fs = ap (λ t. some_atom_of t fs) (sym (same_tests n)) ∙ some_of_is (is_scan_of n) fs

  none_above : (x : ℕ) → is_above x ≡ false → x ≡ 0
  none_above zero h = refl
  none_above (suc x) h = absurd (true≢false h)

  -- a plan without a scan of the name doesn't use it
  pub unused : (f : PlanForm) → count_atoms (is_scan_of n) f ≡ 0 → plan_uses n f ≡ false
  unused f h = uses_is f ∙ ap is_above h

  -- nor do plans
  pub unused_of : (fs : Logics PlanAtom) → count_atoms_of (is_scan_of n) fs ≡ 0 → some_atom_of (plan_atom_uses n) fs ≡ false
  unused_of fs h = uses_of_is fs ∙ ap is_above h

  -- a plan that doesn't use it has no scan of it
  pub unscanned : (f : PlanForm) → plan_uses n f ≡ false → count_atoms (is_scan_of n) f ≡ 0
  unscanned f h = none_above _ (sym (uses_is f) ∙ h)

  -- a plan that scans it once uses it
  pub used_once : (f : PlanForm) → count_atoms (is_scan_of n) f ≡ 1 → plan_uses n f ≡ true
  used_once f h = uses_is f ∙ ap is_above h

  -- ---- the parts of the test

  pub scanned_once : (f : PlanForm) → is_additive n f ≡ true → count_atoms (is_scan_of n) f ≡ 1
  scanned_once f h = eqb-true _ _ (and_parts _ _ h).0

  pub not_hidden : (f : PlanForm) → is_additive n f ≡ true → hides n f ≡ false
  not_hidden f h = turned (hides n f) (and_parts (count_atoms (is_scan_of n) f == 1) _ h).1
    where
      turned : (b : Bool) → not b ≡ true → b ≡ false
      turned true h = absurd (true≢false (sym h))
      turned false h = refl

  -- ---- conjunctive plans

  mutual
    shown : (f : PlanForm) → conjunctive f ≡ true → hides n f ≡ false
    shown (atom a) h = refl
    shown always h = refl
    shown never h = refl
    shown (negation f) h = absurd (true≢false (sym h))
    shown (every_of fs) h = all_shown fs h
    shown (some_of fs) h = absurd (true≢false (sym h))
    shown (implies f g) h = absurd (true≢false (sym h))
    shown (minus f g) h = absurd (true≢false (sym h))
    shown (exists s k f) h = shown f h
    shown (forall s k f) h = absurd (true≢false (sym h))

    all_shown : (fs : Logics PlanAtom) → all_conjunctive fs ≡ true → some_hides n fs ≡ false
    all_shown none h = refl
    all_shown (also f fs) h = or_from (hides n f) (some_hides n fs) (shown f (and_parts _ _ h).0) (all_shown fs (and_parts (conjunctive f) _ h).1)

pub conjunctive_plans : (n : List ℕ) (f : PlanForm) → conjunctive f ≡ true → count_atoms (is_scan_of n) f ≡ 1 → is_additive n f ≡ true
conjunctive_plans n f h k = and_from (count_atoms (is_scan_of n) f == 1) (not (hides n f)) (eq-eqb _ _ k) (ap not (shown n f h))
