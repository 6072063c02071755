-- The plan that is put in the place of a plan.
use Rattle.std.specs.Prelude.{ℕ, suc, Bool, true, false, not, ◌&&◌, ◌||◌, List, [], ◌∷◌, if◌then◌else◌}
use Rattle.ded_model.specs.declared.slot.Sort.{Sort}
use Rattle.ded_model.specs.Point.{Key}
use Rattle.ded_model.specs.Row.{Atom}
use Rattle.ded_model.specs.Logic.{atom, always, never, negation, every_of, some_of, implies, minus, exists, forall, Logics, none, also}
use Rattle.ded_model.specs.PlanForm.{PlanAtom, rows, PlanForm, plan_mentions}
use Rattle.ded_model.specs.Pushed.{is_union, is_join, is_not, is_rows, some_member, is_one}

-- ---- members

-- the first members, then the second
abbrev pub appended : Logics PlanAtom → Logics PlanAtom → Logics PlanAtom
appended none gs = gs
appended (also f fs) gs = also f (appended fs gs)

-- whether there is no member
abbrev pub is_none : Logics PlanAtom → Bool
is_none none = true
is_none (also f fs) = false

-- how many members there are
abbrev pub count_of : Logics PlanAtom → ℕ
count_of none = 0
count_of (also f fs) = suc (count_of fs)

-- the members that pass the test
abbrev pub filtered : (PlanForm → Bool) → Logics PlanAtom → Logics PlanAtom
filtered test none = none
filtered test (also f fs) = if test f then also f (filtered test fs) else filtered test fs

-- the join of the members; a single one as it is
abbrev pub join_of : Logics PlanAtom → PlanForm
join_of none = every_of none
join_of (also f none) = f
join_of (also f (also g gs)) = every_of (also f (also g gs))

-- the union of the parts; a single one as it is
abbrev pub union_of : Logics PlanAtom → PlanForm
union_of none = some_of none
union_of (also f none) = f
union_of (also f (also g gs)) = some_of (also f (also g gs))

-- ---- complements

-- the complement of a complement is its part
abbrev pub negated : PlanForm → PlanForm
negated (negation f) = f
negated f = negation f

-- ---- rows beside a union

abbrev mutual
  -- the plan at the points at which the atoms hold as well: in a union each part is
  pub with_rows : List Atom → PlanForm → PlanForm
  with_rows t (some_of fs) = some_of (each_with_rows t fs)
  with_rows t (every_of fs) = join_of (also_rows t fs)
  with_rows t (negation f) = minus (atom (rows t)) f
  with_rows t f = every_of (also f (also (atom (rows t)) none))

  -- each part of a union at these points
  pub each_with_rows : List Atom → Logics PlanAtom → Logics PlanAtom
  each_with_rows t none = none
  each_with_rows t (also f fs) = also (with_rows t f) (each_with_rows t fs)

  -- the first union among the members at these points, or one member more
  pub also_rows : List Atom → Logics PlanAtom → Logics PlanAtom
  also_rows t none = also (atom (rows t)) none
  also_rows t (also f fs) = if is_union f then also (with_rows t f) fs else also f (also_rows t fs)

-- one list of atoms after another
abbrev pub also_all_rows : List (List Atom) → Logics PlanAtom → Logics PlanAtom
also_all_rows [] fs = fs
also_all_rows (t ∷ ts) fs = also_all_rows ts (also_rows t fs)

-- the atoms of a plan that is rows
abbrev pub atoms_of : PlanForm → List Atom
atoms_of (atom (rows t)) = t
atoms_of _ = []

-- the atoms of each member that is rows
abbrev pub rows_of : Logics PlanAtom → List (List Atom)
rows_of none = []
rows_of (also f fs) = if is_rows f then atoms_of f ∷ rows_of fs else rows_of fs

-- the members that aren't rows
abbrev pub no_rows_of : Logics PlanAtom → Logics PlanAtom
no_rows_of fs = filtered (λ f. not (is_rows f)) fs

-- the members with rows put into a union, where there is one
abbrev pub distributed : Logics PlanAtom → Logics PlanAtom
distributed fs = if some_member is_rows fs && some_member is_union fs then also_all_rows (rows_of fs) (no_rows_of fs) else fs

-- ---- joins

-- the members of a join, or the plan as the one member
abbrev pub members_of : PlanForm → Logics PlanAtom
members_of (every_of fs) = fs
members_of f = also f none

-- the members of members that are joins stand in these joins' places
abbrev pub flattened : Logics PlanAtom → Logics PlanAtom
flattened none = none
flattened (also f fs) = appended (members_of f) (flattened fs)

-- whether a join takes the plan apart: a join into its members, a complement into its part
abbrev pub comes_apart : PlanForm → Bool
comes_apart f = is_join f || is_not f

-- the part of a complement
abbrev pub part_of : PlanForm → PlanForm
part_of (negation f) = f
part_of f = f

-- the members that aren't complements
abbrev pub kept : Logics PlanAtom → Logics PlanAtom
kept fs = filtered (λ f. not (is_not f)) fs

-- the parts of the members that are complements
abbrev pub taken : Logics PlanAtom → Logics PlanAtom
taken none = none
taken (also f fs) = if is_not f then also (part_of f) (taken fs) else taken fs

-- the join of the first without the union of the second
abbrev pub difference_of : Logics PlanAtom → Logics PlanAtom → PlanForm
difference_of fs none = join_of (distributed fs)
difference_of none (also g gs) = negated (union_of (also g gs))
difference_of (also f fs) (also g gs) = minus (join_of (distributed (also f fs))) (union_of (also g gs))

-- the join of the members, without the parts of complements
abbrev pub joined : Logics PlanAtom → PlanForm
joined fs = difference_of (kept (flattened fs)) (taken (flattened fs))

-- ---- projections

-- the members that mention the key
abbrev pub inside : Key → Logics PlanAtom → Logics PlanAtom
inside k fs = filtered (λ f. plan_mentions f k) fs

-- the members that don't mention the key
abbrev pub outside : Key → Logics PlanAtom → Logics PlanAtom
outside k fs = filtered (λ f. not (plan_mentions f k)) fs

-- the members that don't mention the key, and one more: the join of those that do, without the key
abbrev pub projected_apart : Sort → Key → Logics PlanAtom → PlanForm
projected_apart s k fs = every_of (appended (outside k fs) (also (exists s k (every_of (inside k fs))) none))

-- a join without the key, where `one` are its members with the only one that mentions the key projected
abbrev pub projected_join : Sort → Key → Logics PlanAtom → Logics PlanAtom → PlanForm
projected_join s k fs one =
    if is_none (outside k fs) then exists s k (every_of fs) else (if is_one (inside k fs) then every_of one else projected_apart s k fs)

abbrev mutual
  -- a plan that mentions the key, without it: in a union each part is, and in a join the members that mention the key are
  pub projected_down : Sort → Key → PlanForm → PlanForm
  projected_down s k (some_of fs) = some_of (each_projected s k fs)
  projected_down s k (every_of fs) = projected_join s k fs (each_projected s k fs)
  projected_down s k f = exists s k f

  -- each of the plans without the key
  pub each_projected : Sort → Key → Logics PlanAtom → Logics PlanAtom
  each_projected s k none = none
  each_projected s k (also f fs) = also (if plan_mentions f k then projected_down s k f else f) (each_projected s k fs)

-- the plan without the key
abbrev pub projected : Sort → Key → PlanForm → PlanForm
projected s k f = if plan_mentions f k then projected_down s k f else f

-- ---- plans

abbrev mutual
  -- the plan in the place of a plan. What is no plan, as a quantifier `forall`, is put into the words of plans first
  pub rewritten : PlanForm → PlanForm
  rewritten (atom a) = atom a
  rewritten always = every_of none
  rewritten never = some_of none
  rewritten (negation f) = negated (rewritten f)
  rewritten (every_of fs) = joined (each_rewritten fs)
  rewritten (some_of fs) = union_of (each_rewritten fs)
  rewritten (implies f g) = some_of (also (negated (rewritten f)) (also (rewritten g) none))
  rewritten (minus f g) = minus (rewritten f) (rewritten g)
  rewritten (exists s k f) = projected s k (rewritten f)
  rewritten (forall s k f) = negated (projected s k (negated (rewritten f)))

  -- of each of the plans
  pub each_rewritten : Logics PlanAtom → Logics PlanAtom
  each_rewritten none = none
  each_rewritten (also f fs) = also (rewritten f) (each_rewritten fs)
