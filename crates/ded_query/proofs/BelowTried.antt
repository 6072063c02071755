-- What is asked for is below the views that are still being evaluated.
use Rattle.std.proofs.Common.{◌≡◌, ℕ, ◌-◌, ◌<◌, ◌≤◌, arith, true, false, List, [], ◌∷◌, ◌++◌, get_or, length, inl, inr, bytes_eq}
use Rattle.std.specs.List.{AllByRecursion, list_any}
use Rattle.ded_num.proofs.Tests.{all-at}
use Rattle.ded_model.specs.Catalogue.{Catalogue}
use Rattle.ded_model.specs.Entries.{known}
use Rattle.ded_model.specs.Goal.{GoalForm}
use Rattle.ded_model.specs.Known.{IsWellFormed, level_with}
use Rattle.ded_model.specs.Made.{base}
use Rattle.ded_model.specs.Measure.{measures}
use Rattle.ded_model.specs.PlanForm.{PlanForm}
use Rattle.ded_model.specs.Row.{Atom}
use Rattle.ded_model.specs.Uses.{plan_uses}
use Rattle.ded_plan.specs.Planned.{IsPlanned}
use Rattle.ded_plan.specs.Scans.{IsReadWithin}
use Rattle.ded_plan.specs.declared.scans.ScanWithin.{ScanWithin}
use Rattle.ded_algebra.specs.declared.given.GivenRelation.{GivenRelation}
use Rattle.ded_algebra.specs.Given.{has_name}
use Rattle.ded_query.specs.Asking.{IsAsking, IsClosedView}
use Rattle.ded_query.specs.Gathering.{IsPosed, IsPosedPlan, IsViewGoal}
use Rattle.ded_query.specs.Tried.{IsBelowTried, IsGatheredBy}
use Rattle.ded_query.specs.Windows.{IsReadable}
use Rattle.ded_query.proofs.Entries.{view_posed, view_low, view_level}
use Rattle.ded_query.proofs.Gathered.{posed_levels}
use Rattle.ded_query.proofs.NearViews.{posed_readable}
use Rattle.ded_query.proofs.Tries.{settled_none, settled_lower, settled_after, settled_begun}
use Rattle.ded_query.proofs.Witnesses.{closed_posed, asked_low}

module _ (c : Catalogue) (g : List GivenRelation) (t : List (List ℕ)) where
  -- where nothing was tried
  pub below_none : (Has : ℕ → Type 0) (level : ℕ) → t ≡ [] → Has level → IsBelowTried c g t Has
  below_none Has level e k = record { level = level; has = k; settled = settled_none c g t level e }

  -- a plan of a goal
  pub below_plan : (goal : GoalForm) (plan : PlanForm) → IsPlanned goal plan → IsBelowTried c g t (IsPosed c goal) → IsBelowTried c g t (IsPosedPlan c plan)
  below_plan goal plan k b = record { level = b.level; has = record { goal = goal; posed = b.has; planned = k }; settled = b.settled }

  -- the names that a plan scans
  pub below_names : (plan : PlanForm) (names : List (List ℕ)) → ((n : List ℕ) → plan_uses n plan ≡ list_any (bytes_eq n) names) → IsBelowTried c g t (IsPosedPlan c plan)
      → IsBelowTried c g t (λ m. AllByRecursion (λ n. level_with (known c (base n)) ≤ m) names)
  below_names plan names all b = record { level = b.level; has = posed_levels c b.has.goal plan b.level b.has.posed b.has.planned names all; settled = b.settled }

  -- its scans
  pub below_scans : (plan : PlanForm) (within : List Atom) (ss : List ScanWithin) → IsReadWithin plan within ss → IsBelowTried c g t (IsPosedPlan c plan) → IsBelowTried c g t (λ m. AllByRecursion (IsReadable c m) ss)
  below_scans plan within ss r b = record { level = b.level; has = posed_readable c b.has.goal plan b.level b.has.posed b.has.planned within ss r; settled = b.settled }

  module _ (w : IsWellFormed c) (n : List ℕ) where
    -- the view that a plan asks for a point
    pub below_asked : (plan : PlanForm) → IsAsking plan n → IsBelowTried c g t (IsPosedPlan c plan) → IsBelowTried c g t (λ m. level_with (known c (base n)) ≤ m)
    below_asked plan a b = record { level = b.level; has = asked_low c w b.has.goal plan b.level b.has.posed b.has.planned n a; settled = b.settled }

    -- the closed goal of a view
    pub below_closed : (goal : GoalForm) (plan : PlanForm) → IsClosedView c n goal → IsPlanned goal plan → IsBelowTried c g t (λ m. level_with (known c (base n)) ≤ m) → IsBelowTried c g t (IsPosedPlan c plan)
    below_closed goal plan v k b =
        let own : ℕ = level_with (known c (base n)) in
        let same : own ≤ own = omega arith in
        let less : own - 1 ≤ b.level = omega (arith, b.has) in
        record { level = own - 1; has = record { goal = goal; posed = closed_posed c w n goal own v same; planned = k }; settled = settled_lower c g t (own - 1) b.level less b.settled }

    module _ (goal : GoalForm) (v : IsViewGoal c n goal) (b : IsBelowTried c g t (λ m. level_with (known c (base n)) ≤ m)) where
      -- a view that was tried, and isn't given, is too wide
      pub tried_clash : has_name n g ≡ false → list_any (bytes_eq n) t ≡ true → (measures c n).clash ≡ true
      tried_clash h u =
          let low : level_with (known c n) ≤ b.level = view_low c n goal b.level w v b.has in
          elim (b.settled n u h) [ inl x ↦ x | inr x ↦ absurd (omega (arith, low, x)) ]

      -- the plan of its goal
      pub below_near : (plan : PlanForm) → IsPlanned goal plan → IsBelowTried c g t (IsPosedPlan c plan)
      below_near plan k =
          let own : ℕ = level_with (known c n) in
          let same : own ≤ own = omega arith in
          let low : own ≤ b.level = view_low c n goal b.level w v b.has in
          let less : own - 1 ≤ b.level = omega (arith, low) in
          record { level = own - 1; has = record { goal = goal; posed = view_posed c n goal own w v same; planned = k }; settled = settled_lower c g t (own - 1) b.level less b.settled }

      -- and the goal, where it is begun
      pub below_begun : (s : List (List ℕ)) → s ≡ t ++ n ∷ [] → IsBelowTried c g s (IsPosed c goal)
      below_begun s e =
          let own : ℕ = level_with (known c n) in
          let same : own ≤ own = omega arith in
          let above : 1 ≤ own = view_level c n goal own w v same in
          let low : own ≤ b.level = view_low c n goal b.level w v b.has in
          let less : own - 1 ≤ b.level = omega (arith, low) in
          let under : own - 1 < own = omega (arith, above) in
          record { level = own - 1; has = view_posed c n goal own w v same; settled = settled_begun c g t s n (own - 1) e under (settled_lower c g t (own - 1) b.level less b.settled) }

-- ---- one of several

module _ (c : Catalogue) (old now : List GivenRelation) (t u : List (List ℕ)) (k : IsGatheredBy c old t now u) where
  pub below_name : (names : List (List ℕ)) (i : ℕ) (n : List ℕ) → i < length names → n ≡ get_or names i n → IsBelowTried c old t (λ m. AllByRecursion (λ x. level_with (known c (base x)) ≤ m) names)
      → IsBelowTried c now u (λ m. level_with (known c (base n)) ≤ m)
  below_name names i n l e b = record { level = b.level; has = all-at (λ x. level_with (known c (base x)) ≤ b.level) names i n l e b.has; settled = settled_after c old now t u b.level k b.settled }

  pub below_scan : (ss : List ScanWithin) (i : ℕ) (s : ScanWithin) → i < length ss → s ≡ get_or ss i s → IsBelowTried c old t (λ m. AllByRecursion (IsReadable c m) ss) → IsBelowTried c now u (λ m. level_with (known c (base s.name)) ≤ m)
  below_scan ss i s l e b = record { level = b.level; has = (all-at (IsReadable c b.level) ss i s l e b.has).level; settled = settled_after c old now t u b.level k b.settled }
