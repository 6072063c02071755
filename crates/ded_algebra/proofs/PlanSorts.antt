-- In the plan of a goal in which each number has one sort, each number has one sort in each part.
--
-- What a part of the plan mentions freely is mentioned in the goal, or is a new slot of an atom. The new slots have numbers above
-- those of the atom's own slots, and no two have the same.
use Rattle.std.proofs.Common.{◌≡◌, ℕ, suc, ◌≤◌, true, not, List, [], ◌∷◌, arith, inl, inr, sym, ap, ◌∙◌, true≢false, map}
use Rattle.std.specs.List.{list_any}
use Rattle.ded_model.specs.declared.slot.Slot.{Slot}
use Rattle.ded_model.specs.declared.slot.Sort.{Sort}
use Rattle.ded_model.specs.declared.goal.Place.{Place}
use Rattle.ded_model.specs.Point.{Key, slot, same_key, same_slot, stands_in}
use Rattle.ded_model.specs.Row.{Atom}
use Rattle.ded_model.specs.Logic.{atom, always, never, negation, every_of, some_of, implies, minus, exists, forall, Logics, none, also, logics, any_mentions, AllAtoms, AllAtomsOf}
use Rattle.ded_model.specs.Goal.{GoalAtom, linear, theme, member, GoalForm, place_mentions, in_goal_atom, goal_mentions}
use Rattle.ded_model.specs.PlanForm.{scan, PlanForm, plan_mentions}
use Rattle.ded_model.specs.Scanned.{scanned, scanned_slots, tied_atoms, fresh_slots, first_free}
use Rattle.ded_model.proofs.Points.{and_right, same_slot_is}
use Rattle.ded_model.proofs.Rows.{or_left, or_right}
use Rattle.ded_model.proofs.Members.{or_split}
use Rattle.ded_algebra.specs.Compile.{row_plan, joined, projected, atom_plan, plan_of, plans_of}
use Rattle.ded_algebra.specs.Compiled.{HasSortsBy, HasOneSort, PartsHaveOneSort, EachHasOneSort, IsOneSorted}
use Rattle.ded_algebra.proofs.Scans.{AreFrom, scanned-from, places_below}
use Rattle.ded_algebra.proofs.PlanShapes.{IsOld, base_old, plan_slots}

-- a plan that mentions no more has no more to tell apart
pub fewer_slots : (f g : PlanForm) → ((k : Key) → plan_mentions g k ≡ true → plan_mentions f k ≡ true) → HasOneSort f → HasOneSort g
fewer_slots f g within h s t a b e = h s t (within (slot s) a) (within (slot t) b) e

-- ---- new slots

-- their numbers are no less than the first
from_above : (n : ℕ) (ss : List Slot) (s : Slot) → AreFrom n ss → stands_in ss s ≡ true → n ≤ s.number
from_above n [] s h m = absurd (true≢false (sym m))
from_above n (u ∷ ss) s h m = elim (or_split (same_slot u s) _ m) [
  | inl e ↦ (let f = ap (λ (v : Slot). v.number) (same_slot_is u s e) in let i = h.0 in omega (arith, f, i))
  | inr e ↦ (let f = from_above (suc u.number) ss s h.1 e in let i = h.0 in omega (arith, f, i))
]

-- the first of them has another number than those after it
first_apart : (u s t : Slot) (ss : List Slot) → AreFrom (suc u.number) ss → same_slot u s ≡ true → stands_in ss t ≡ true → s.number ≡ t.number → ⊥
first_apart u s t ss h a b e =
    let f = ap (λ (v : Slot). v.number) (same_slot_is u s a) in
    let i = from_above (suc u.number) ss t h b in
    omega (arith, f, i, e)

-- two of one number have one sort
from_one : (n : ℕ) (ss : List Slot) (s t : Slot) → AreFrom n ss → stands_in ss s ≡ true → stands_in ss t ≡ true → s.number ≡ t.number → s.sort ≡ t.sort
from_one n [] s t h a b e = absurd (true≢false (sym a))
from_one n (u ∷ ss) s t h a b e = elim (or_split (same_slot u s) _ a) [
  | inl x ↦ elim (or_split (same_slot u t) _ b) [
    | inl y ↦ ap (λ (v : Slot). v.sort) (sym (same_slot_is u s x) ∙ same_slot_is u t y)
    | inr y ↦ absurd (first_apart u s t ss h.1 x y e)
  ]
  | inr x ↦ elim (or_split (same_slot u t) _ b) [
    | inl y ↦ absurd (first_apart u t s ss h.1 y x (sym e))
    | inr y ↦ from_one (suc u.number) ss s t h.1 x y e
  ]
]

-- ---- parts of projections and of the joins with ties

projected_sorted : (ss : List Slot) (f : PlanForm) → IsOneSorted f → IsOneSorted (projected ss f)
projected_sorted [] f h = h
projected_sorted (s ∷ ss) f h =
    let g : PlanForm = exists s.sort (slot s) f in
    projected_sorted ss g (fewer_slots f g (λ k m. and_right (not (same_key k (slot s))) (plan_mentions f k) m) h.0, h)

ties_sorted : (atoms : List Atom) → HasOneSort (every_of (logics (map row_plan atoms))) → EachHasOneSort (logics (map row_plan atoms))
ties_sorted [] h = tt
ties_sorted (a ∷ atoms) h =
    let all : PlanForm = every_of (logics (map row_plan (a ∷ atoms))) in
    let rest : PlanForm = every_of (logics (map row_plan atoms)) in (
      (fewer_slots all (row_plan a) (λ k m. or_left (plan_mentions (row_plan a) k) _ m) h, tt),
      ties_sorted atoms (fewer_slots all rest (λ k m. or_right (plan_mentions (row_plan a) k) _ m) h),
    )

joined_sorted : (n : List ℕ) (ss : List Slot) (atoms : List Atom) → HasOneSort (joined (atom (scan n ss)) (map row_plan atoms)) → IsOneSorted (joined (atom (scan n ss)) (map row_plan atoms))
joined_sorted n ss [] h = (h, tt)
joined_sorted n ss (a ∷ atoms) h =
    let here : PlanForm = atom (scan n ss) in
    let all : PlanForm = joined here (map row_plan (a ∷ atoms)) in
    let ties : PlanForm = every_of (logics (map row_plan (a ∷ atoms))) in (
      h,
      (
        (fewer_slots all here (λ k m. or_left (plan_mentions here k) _ m) h, tt),
        ties_sorted (a ∷ atoms) (fewer_slots all ties (λ k m. or_right (plan_mentions here k) _ m) h),
      ),
    )

-- ---- goals

module _ (sort_of : ℕ → Sort) where
  mutual
    -- what a goal mentions freely has the sort of its number
    mentioned_sort : (f : GoalForm) → AllAtoms (HasSortsBy sort_of) f → (s : Slot) → goal_mentions f (slot s) ≡ true → s.sort ≡ sort_of s.number
    mentioned_sort (atom a) h s m = h s m
    mentioned_sort always h s m = absurd (true≢false (sym m))
    mentioned_sort never h s m = absurd (true≢false (sym m))
    mentioned_sort (negation f) h s m = mentioned_sort f h s m
    mentioned_sort (every_of fs) h s m = mentioned_sorts fs h s m
    mentioned_sort (some_of fs) h s m = mentioned_sorts fs h s m
    mentioned_sort (implies f g) h s m = elim (or_split (goal_mentions f (slot s)) _ m) [ inl e ↦ mentioned_sort f h.0 s e | inr e ↦ mentioned_sort g h.1 s e ]
    mentioned_sort (minus f g) h s m = elim (or_split (goal_mentions f (slot s)) _ m) [ inl e ↦ mentioned_sort f h.0 s e | inr e ↦ mentioned_sort g h.1 s e ]
    mentioned_sort (exists x k f) h s m = mentioned_sort f h s (and_right (not (same_key (slot s) k)) (goal_mentions f (slot s)) m)
    mentioned_sort (forall x k f) h s m = mentioned_sort f h s (and_right (not (same_key (slot s) k)) (goal_mentions f (slot s)) m)

    -- so has what goals of a list do
    mentioned_sorts : (fs : Logics GoalAtom) → AllAtomsOf (HasSortsBy sort_of) fs → (s : Slot) → any_mentions in_goal_atom fs (slot s) ≡ true → s.sort ≡ sort_of s.number
    mentioned_sorts none h s m = absurd (true≢false (sym m))
    mentioned_sorts (also f fs) h s m = elim (or_split (goal_mentions f (slot s)) _ m) [ inl e ↦ mentioned_sort f h.0 s e | inr e ↦ mentioned_sorts fs h.1 s e ]

  -- the plan of a goal mentions freely what the goal does
  plan_one : (f : GoalForm) → AllAtoms (HasSortsBy sort_of) f → HasOneSort (plan_of f)
  plan_one f h s t a b e = mentioned_sort f h s (plan_slots f (slot s) a) ∙ ap sort_of e ∙ sym (mentioned_sort f h t (plan_slots f (slot t) b))

  -- two slots of the places, or new ones
  old_sorts : (n : List ℕ) (ts : List Place) → HasSortsBy sort_of (member n ts) → (s t : Slot) → IsOld ts (scanned ts) s → IsOld ts (scanned ts) t → s.number ≡ t.number → s.sort ≡ t.sort
  old_sorts n ts h s t x y e = elim x [
    | inl a ↦ elim y [
      | inl b ↦ from_one (first_free ts) (fresh_slots (scanned ts)) s t (scanned-from [] (first_free ts) ts) a b e
      | inr b ↦ absurd (apart s t a b e)
    ]
    | inr a ↦ elim y [
      | inl b ↦ absurd (apart t s b a (sym e))
      | inr b ↦ h s a ∙ ap sort_of e ∙ sym (h t b)
    ]
  ]
    where
      apart : (u v : Slot) → stands_in (fresh_slots (scanned ts)) u ≡ true → list_any (λ w. place_mentions w v) ts ≡ true → u.number ≡ v.number → ⊥
      apart u v a b e =
          let i = from_above (first_free ts) (fresh_slots (scanned ts)) u (scanned-from [] (first_free ts) ts) a in
          let j = places_below ts v b in
          omega (arith, i, j, e)

  -- the scan and its ties mention no others
  base_one : (n : List ℕ) (ts : List Place) → HasSortsBy sort_of (member n ts) → HasOneSort (joined (atom (scan n (scanned_slots (scanned ts)))) (map row_plan (tied_atoms (scanned ts))))
  base_one n ts h s t a b e = old_sorts n ts h s t (base_old n ts s a) (base_old n ts t b) e

  -- the parts of an atom's plan
  atom_sorted : (a : GoalAtom) → HasSortsBy sort_of a → PartsHaveOneSort (atom_plan a)
  atom_sorted (linear r) h = tt
  atom_sorted (theme a) h = tt
  atom_sorted (member n ts) h =
      let gs = scanned ts in
      let base : PlanForm = joined (atom (scan n (scanned_slots gs))) (map row_plan (tied_atoms gs)) in
      (projected_sorted (fresh_slots gs) base (joined_sorted n (scanned_slots gs) (tied_atoms gs) (base_one n ts h))).1

  mutual
    -- the parts of a goal's plan
    parts_sorted : (f : GoalForm) → AllAtoms (HasSortsBy sort_of) f → PartsHaveOneSort (plan_of f)
    parts_sorted (atom a) h = atom_sorted a h
    parts_sorted always h = tt
    parts_sorted never h = tt
    parts_sorted (negation f) h = (plan_one f h, parts_sorted f h)
    parts_sorted (every_of fs) h = each_sorted fs h
    parts_sorted (some_of fs) h = each_sorted fs h
    parts_sorted (implies f g) h = ((plan_one f h.0, (plan_one f h.0, parts_sorted f h.0)), ((plan_one g h.1, parts_sorted g h.1), tt))
    parts_sorted (minus f g) h = ((plan_one f h.0, parts_sorted f h.0), (plan_one g h.1, parts_sorted g h.1))
    parts_sorted (exists x k f) h = (plan_one f h, parts_sorted f h)
    parts_sorted (forall x k f) h = (plan_one (forall x k f) h, (plan_one f h, (plan_one f h, parts_sorted f h)))

    -- of each of the plans of goals
    each_sorted : (fs : Logics GoalAtom) → AllAtomsOf (HasSortsBy sort_of) fs → EachHasOneSort (plans_of fs)
    each_sorted none h = tt
    each_sorted (also f fs) h = ((plan_one f h.0, parts_sorted f h.0), each_sorted fs h.1)

-- the law
pub plan_sorted : (sort_of : ℕ → Sort) (g : GoalForm) → AllAtoms (HasSortsBy sort_of) g → IsOneSorted (plan_of g)
plan_sorted sort_of g h = (plan_one sort_of g h, parts_sorted sort_of g h)
