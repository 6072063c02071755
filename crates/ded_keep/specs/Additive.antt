-- Plans that are additive in a name: with more tuples under it, they hold where they did and where they do for the new tuples alone.
use Rattle.std.specs.Prelude.{◌↔◌, ◌⊎◌, ◌<◌, ◌==◌, ℕ, Bool, false, not, ◌&&◌, ◌||◌, ◌≡◌, List, length}
use Rattle.std.specs.Str.{bytes_eq}
use Rattle.ded_model.specs.Logic.{atom, always, never, negation, every_of, some_of, implies, minus, exists, forall, Logics, none, also, count_atoms}
use Rattle.ded_model.specs.PlanForm.{PlanAtom, scan, rows, PlanForm}
use Rattle.ded_model.specs.Uses.{plan_uses}
use Rattle.ded_model.specs.Value.{Argument, Meaning}
use Rattle.ded_algebra.specs.Compiled.{is_scan_of}
use Rattle.ded_views.specs.Same.{AreByteArguments, IsSameOf}

abbrev mutual
  -- some scan of the name stands under a complement, or in what a difference takes away
  pub hides : List ℕ → PlanForm → Bool
  hides n (atom a) = false
  hides n always = false
  hides n never = false
  hides n (negation f) = plan_uses n f
  hides n (every_of fs) = some_hides n fs
  hides n (some_of fs) = some_hides n fs
  hides n (implies f g) = plan_uses n f || plan_uses n g
  hides n (minus f g) = hides n f || plan_uses n g
  hides n (exists s k f) = hides n f
  hides n (forall s k f) = plan_uses n f

  -- in one of the list
  pub some_hides : List ℕ → Logics PlanAtom → Bool
  some_hides n none = false
  some_hides n (also f fs) = hides n f || some_hides n fs

-- the plan scans the name exactly once, under no complement and not in what a difference takes away
abbrev pub is_additive : List ℕ → PlanForm → Bool
is_additive n f = (count_atoms (is_scan_of n) f == 1) && not (hides n f)

-- by the last meaning the name holds of byte strings exactly where it does by one of the first two
abbrev pub AddsMeaning : Meaning → Meaning → Meaning → List ℕ → Type 0
AddsMeaning I J K n = (den : ℕ) (xs : List Argument) → 0 < den → AreByteArguments xs → K n den xs ↔ (I n den xs ⊎ J n den xs)

-- a scan of any other name reads the same by all three; the closure and the interior of the name are other names
abbrev pub IsOtherScan : Meaning → Meaning → Meaning → List ℕ → PlanAtom → Type 0
IsOtherScan I J K n (scan m ss) = bytes_eq m n ≡ false → IsSameOf (length ss) (I m) (K m) × IsSameOf (length ss) (J m) (K m)
IsOtherScan I J K n (rows t) = Unit {0}
