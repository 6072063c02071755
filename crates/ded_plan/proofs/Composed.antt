-- What is compiled and then rewritten is planned.
use Rattle.std.proofs.Common.{◌≡◌, ◌+◌, ◌≤◌, ℕ, Bool, List, arith, refl, ◌∙◌, ap₂, bytes_eq}
use Rattle.std.specs.Prelude.{◌↔◌}
use Rattle.ded_model.specs.declared.slot.Slot.{Slot}
use Rattle.ded_model.specs.Catalogue.{Catalogue, GoalHolds, PlanHolds}
use Rattle.ded_model.specs.Goal.{GoalForm}
use Rattle.ded_model.specs.Logic.{atom, always, never, negation, every_of, some_of, implies, minus, exists, forall, Logic, Logics, none, also, some_atom, count_atoms, count_atoms_of}
use Rattle.ded_model.specs.Measure.{goal_b, goal_rank, plan_b, plan_rank}
use Rattle.ded_model.specs.PlanForm.{PlanAtom, scan, rows, PlanForm}
use Rattle.ded_model.specs.Point.{Point, IsPoint}
use Rattle.ded_algebra.specs.Compiled.{comes_from, is_scan_of, IsConjunctivePlan, IsCompiled}
use Rattle.ded_plan.specs.Rewritten.{is_scan_with, IsRewritten}
use Rattle.ded_plan.specs.Planned.{IsPlanned}

-- ---- counts

module _ {L : Type 0} (test other : L → Bool) (same : (a : L) → test a ≡ other a) where
  mutual
    -- tests that agree of each atom count alike
    same_count : (f : Logic L) → count_atoms test f ≡ count_atoms other f
    same_count (atom a) = rw (same a) refl
    same_count always = refl
    same_count never = refl
    same_count (negation f) = same_count f
    same_count (every_of fs) = same_counts fs
    same_count (some_of fs) = same_counts fs
    same_count (implies f g) = ap₂ (λ m n. m + n) (same_count f) (same_count g)
    same_count (minus f g) = ap₂ (λ m n. m + n) (same_count f) (same_count g)
    same_count (exists s k f) = same_count f
    same_count (forall s k f) = same_count f

    -- of a list
    same_counts : (fs : Logics L) → count_atoms_of test fs ≡ count_atoms_of other fs
    same_counts none = refl
    same_counts (also f fs) = ap₂ (λ m n. m + n) (same_count f) (same_counts fs)

-- a scan of the name, at any slots
any_slots : List ℕ → List ℕ → List Slot → Bool
any_slots n m ss = bytes_eq n m

-- as a test of atoms
name_test : (n : List ℕ) (a : PlanAtom) → is_scan_of n a ≡ is_scan_with (any_slots n) a
unfolding any_slots
name_test n (scan m ss) = refl
name_test n (rows t) = refl

-- each name is scanned as often
names_stay : (f p : PlanForm) → IsRewritten f p → (n : List ℕ) → count_atoms (is_scan_of n) p ≡ count_atoms (is_scan_of n) f
names_stay f p r n =
    same_count (is_scan_of n) (is_scan_with (any_slots n)) (name_test n) p ∙ r.scans (any_slots n) ∙ same_count (is_scan_with (any_slots n)) (is_scan_of n) (λ a. rw (name_test n a) refl) f

-- ---- the law

-- a conjunctive plan stays one
conjunctive_stays : (g : GoalForm) (f p : PlanForm) → IsRewritten f p → IsConjunctivePlan g f → IsConjunctivePlan g p
conjunctive_stays g f p r k = record { conjunctive = r.conjunctive k.conjunctive; scans = λ n. names_stay f p r n ∙ k.scans n }

-- at most what is at most
at_most : (a b c : ℕ) → a ≤ b → b ≤ c → a ≤ c
at_most a b c h k = omega arith

-- it holds where the goal does
holds_still : (g : GoalForm) (f p : PlanForm) → IsCompiled g f → IsRewritten f p → (c : Catalogue) (q : Point) → IsPoint q → GoalHolds c g q ↔ PlanHolds c p q
holds_still g f p k r c q i = let e = k.holds c q i in let e' = r.holds c q i.positive in (λ h. e'.0 (e.0 h), λ h. e.1 (e'.1 h))

-- what is compiled and then rewritten is planned
pub planned : (g : GoalForm) (f p : PlanForm) → IsCompiled g f → IsRewritten f p → IsPlanned g p
planned g f p k r = record {
  holds = λ c q i. holds_still g f p k r c q i;
  slots = λ j h. k.slots j (r.slots j h);
  length = λ M. at_most (plan_b M p) (plan_b M f) (goal_b M g) (r.length M) (k.length M);
  rank = λ M. at_most (plan_rank M p) (plan_rank M f) (goal_rank M g) (r.rank M) (k.rank M);
  lines = λ M l h. k.lines M l (r.lines M l h);
  clashes = λ M h. k.clashes M (r.clashes M h);
  atoms = r.atoms (λ a. some_atom (comes_from a) g) k.atoms;
  conjunctive = λ h. conjunctive_stays g f p r (k.conjunctive h);
  sorts = λ sort_of h. r.sorts (k.sorts sort_of h);
  pushed = r.pushed;
  tidy = r.tidy;
}
