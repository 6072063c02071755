-- The form of plans in which each projection stands as deep as it can.
use Rattle.std.specs.Prelude.{Bool, true, false, not, ◌&&◌, ◌||◌}
use Rattle.ded_model.specs.Logic.{atom, always, never, negation, every_of, some_of, implies, minus, exists, forall, Logics, none, also}
use Rattle.ded_model.specs.Point.{Key}
use Rattle.ded_model.specs.PlanForm.{PlanAtom, rows, PlanForm, plan_mentions}

-- whether the plan is a union
abbrev pub is_union : PlanForm → Bool
is_union (some_of fs) = true
is_union _ = false

-- whether the plan is a join
abbrev pub is_join : PlanForm → Bool
is_join (every_of fs) = true
is_join _ = false

-- whether the plan is a complement
abbrev pub is_not : PlanForm → Bool
is_not (negation f) = true
is_not _ = false

-- whether the plan is a list of atoms
abbrev pub is_rows : PlanForm → Bool
is_rows (atom (rows t)) = true
is_rows _ = false

-- whether some of the plans passes the test; where there are none, none does
abbrev pub some_member : (PlanForm → Bool) → Logics PlanAtom → Bool
some_member test none = false
some_member test (also f fs) = test f || some_member test fs

-- whether each of the plans passes the test; where there are none, it is so
abbrev pub every_member : (PlanForm → Bool) → Logics PlanAtom → Bool
every_member test none = true
every_member test (also f fs) = test f && every_member test fs

-- whether there is exactly one plan
abbrev pub is_one : Logics PlanAtom → Bool
is_one (also f none) = true
is_one _ = false

-- whether a projection of the key may stand right over the plan: over no union, nothing that doesn't mention the key, and
-- no join with a member that doesn't
abbrev pub may_project : Key → PlanForm → Bool
may_project k (some_of fs) = false
may_project k (every_of fs) = plan_mentions (every_of fs) k && every_member (λ f. plan_mentions f k) fs
may_project k f = plan_mentions f k

-- whether a join may have these members: not one alone, no join, not rows beside a union, and no complement beside another
-- member
abbrev pub may_join : Logics PlanAtom → Bool
may_join fs = not (is_one fs) && not (some_member is_join fs) && not (some_member is_rows fs && some_member is_union fs) && not (some_member is_not fs)

-- whether each projection, join, union and complement of the plan may stand where it does: no union has one member
-- alone, and no complement stands right over another; what is no plan, as a quantifier `forall`, isn't pushed
abbrev mutual
  pub pushed : PlanForm → Bool
  pushed (atom a) = true
  pushed always = false
  pushed never = false
  pushed (negation f) = not (is_not f) && pushed f
  pushed (every_of fs) = may_join fs && all_pushed fs
  pushed (some_of fs) = not (is_one fs) && all_pushed fs
  pushed (implies f g) = false
  pushed (minus f g) = pushed f && pushed g
  pushed (exists s k f) = may_project k f && pushed f
  pushed (forall s k f) = false

  -- whether each of the plans is pushed
  pub all_pushed : Logics PlanAtom → Bool
  all_pushed none = true
  all_pushed (also f fs) = pushed f && all_pushed fs
