-- The plan of a goal has no line, no clash, no length and no rank that the goal has not.
use Rattle.std.proofs.Common.{◌≡◌, ℕ, ◌+◌, ◌≤◌, max, Bool, true, false, ◌||◌, cond, List, [], ◌∷◌, ◌++◌, arith, inl, inr, refl, sym, ap, subst, ◌∙◌, map}
use Rattle.std.proofs.Math.Bool.{or_assoc}
use Rattle.ded_model.specs.declared.slot.Slot.{Slot}
use Rattle.ded_model.specs.declared.slot.Sort.{Sort}
use Rattle.ded_model.specs.declared.slot.Sort.TheVariants.{Rat, Text}
use Rattle.ded_model.specs.declared.tuple.BothAtom.TheVariants.{First, Second}
use Rattle.ded_model.specs.Constraint.{LinearConstraint}
use Rattle.ded_model.specs.Point.{slot}
use Rattle.ded_model.specs.Row.{Atom}
use Rattle.ded_model.specs.Normal.{is_true_row}
use Rattle.ded_model.specs.Logic.{atom, always, never, negation, every_of, some_of, implies, minus, exists, forall, Logics, none, also, logics, rank, greatest_rank, greatest, greatest_of, one_more}
use Rattle.ded_model.specs.Goal.{GoalAtom, linear, theme, member, GoalForm}
use Rattle.ded_model.specs.PlanForm.{PlanAtom, scan, PlanForm}
use Rattle.ded_model.specs.Scanned.{scanned, scanned_slots, tied_atoms, fresh_slots, rational_count}
use Rattle.ded_model.specs.Width.{row_length, tuple_length}
use Rattle.ded_model.specs.Lines.{Line, IsSubset, row_lines, atoms_lines, lines, all_lines, clashes, any_clashes, clash_past, elim_past_all, clash_past_all}
use Rattle.ded_model.specs.Measure.{Measures, scanned_lines, goal_atom_b, goal_atom_rank, goal_atom_lines, goal_atom_clash, goal_b, goal_rank, goal_lines, goal_clashes, plan_atom_b, plan_atom_rank, plan_atom_lines, plan_atom_clash, plan_b, plan_rank, plan_lines, plan_clashes}
use Rattle.ded_model.proofs.Members.{In-split, In-left, subset_refl, subset_trans, subset_append, subset_none}
use Rattle.ded_model.proofs.Monotone.{past-grows, clash_past-grows, or-grows}
use Rattle.ded_model.proofs.Growth.{elim_past_all-grows, clash_past_all-grows}
use Rattle.ded_algebra.specs.Compile.{row_plan, joined, projected, plan_of, plans_of, atom_plan}
use Rattle.ded_algebra.proofs.PlanShapes.{or_one}

pub drop_none : (xs : List Line) → IsSubset (xs ++ []) xs
drop_none xs l h = elim (In-split l xs [] h) [ inl a ↦ a | inr b ↦ absurd b ]

-- ---- projections

pub lines-projected : (of : PlanAtom → List Line) (ss : List Slot) (f : PlanForm) → lines of (projected ss f) ≡ elim_past_all ss (lines of f)
lines-projected of [] f = refl
lines-projected of (s ∷ ss) f = lines-projected of ss (exists s.sort (slot s) f)

pub clashes-projected : (of : PlanAtom → List Line) (in_atom : PlanAtom → Bool) (ss : List Slot) (f : PlanForm)
    → clashes of in_atom (projected ss f) ≡ (clashes of in_atom f || clash_past_all ss (lines of f))
clashes-projected of in_atom [] f = or_false (clashes of in_atom f)
  where
    or_false : (b : Bool) → b ≡ (b || false)
    or_false true = refl
    or_false false = refl
clashes-projected of in_atom (s ∷ ss) f = clashes-projected of in_atom ss (exists s.sort (slot s) f) ∙ or_assoc (clashes of in_atom f) (clash_past s.sort (slot s) (lines of f)) _

greatest-projected : (of : PlanAtom → ℕ) (ss : List Slot) (f : PlanForm) → greatest of (projected ss f) ≡ greatest of f
greatest-projected of [] f = refl
greatest-projected of (s ∷ ss) f = greatest-projected of ss (exists s.sort (slot s) f)

count_more : (x : Sort) (n : ℕ) (s : Slot) (ss : List Slot) → s.sort ≡ x → one_more x n + rational_count ss ≡ n + rational_count (s ∷ ss)
count_more Rat n s ss e = rw e (omega arith)
count_more Text n s ss e = rw e refl

rank-projected : (of : PlanAtom → ℕ) (ss : List Slot) (f : PlanForm) → rank of (projected ss f) ≡ rank of f + rational_count ss
rank-projected of [] f = omega arith
rank-projected of (s ∷ ss) f = rank-projected of ss (exists s.sort (slot s) f) ∙ count_more s.sort (rank of f) s ss refl

-- ---- atoms

module _ (M : Measures) where
  rows-lines : (atoms : List Atom) → IsSubset (all_lines (plan_atom_lines M) (logics (map row_plan atoms))) (atoms_lines atoms)
  rows-lines [] = subset_refl []
  rows-lines (First r ∷ atoms) = subset_append _ _ _ _ (drop_none (row_lines r)) (rows-lines atoms)
  rows-lines (Second a ∷ atoms) = rows-lines atoms

  rows-clash : (atoms : List Atom) → any_clashes (plan_atom_lines M) (plan_atom_clash M) (logics (map row_plan atoms)) ≡ false
  rows-clash [] = refl
  rows-clash (a ∷ atoms) = rows-clash atoms

  base-lines : (n : List ℕ) (ss : List Slot) (atoms : List Atom) → IsSubset (plan_lines M (joined (atom (scan n ss)) (map row_plan atoms))) (plan_atom_lines M (scan n ss) ++ atoms_lines atoms)
  base-lines n ss [] = λ l h. In-left l (plan_atom_lines M (scan n ss)) [] h
  base-lines n ss (a ∷ atoms) = subset_append _ _ _ _ (subset_refl (plan_atom_lines M (scan n ss))) (rows-lines (a ∷ atoms))

  base-clashes : (n : List ℕ) (ss : List Slot) (atoms : List Atom) → plan_clashes M (joined (atom (scan n ss)) (map row_plan atoms)) ≡ true → (M n).clash ≡ true
  base-clashes n ss [] h = h
  base-clashes n ss (a ∷ atoms) h = or_one (M n).clash (ap (λ b. (M n).clash || b) (sym (rows-clash (a ∷ atoms))) ∙ h)

  row-lines : (r : LinearConstraint) (b : Bool) → IsSubset (atoms_lines (cond b [] (First r ∷ []))) (row_lines r)
  row-lines r true = subset_none (row_lines r)
  row-lines r false = drop_none (row_lines r)

  atom-lines : (a : GoalAtom) → IsSubset (plan_lines M (atom_plan a)) (goal_atom_lines M a)
  atom-lines (linear r) = row-lines r (is_true_row r)
  atom-lines (theme a) = subset_refl []
  atom-lines (member n ts) =
      let gs = scanned ts in
      let base = joined (atom (scan n (scanned_slots gs))) (map row_plan (tied_atoms gs)) in
      subst (λ ls. IsSubset ls (elim_past_all (fresh_slots gs) (scanned_lines M n gs))) (sym (lines-projected (plan_atom_lines M) (fresh_slots gs) base))
      (elim_past_all-grows (fresh_slots gs) _ _ (base-lines n (scanned_slots gs) (tied_atoms gs)))

  atom-clashes : (a : GoalAtom) → plan_clashes M (atom_plan a) ≡ true → goal_atom_clash M a ≡ true
  atom-clashes (linear r) h = h
  atom-clashes (theme a) h = h
  atom-clashes (member n ts) h =
      let gs = scanned ts in
      let base = joined (atom (scan n (scanned_slots gs))) (map row_plan (tied_atoms gs)) in
      or-grows _ _ _ _ (base-clashes n (scanned_slots gs) (tied_atoms gs)) (clash_past_all-grows (fresh_slots gs) _ _ (base-lines n (scanned_slots gs) (tied_atoms gs)))
      (sym (clashes-projected (plan_atom_lines M) (plan_atom_clash M) (fresh_slots gs) base) ∙ h)

  -- ---- goals

  mutual
    pub plan_of-lines : (f : GoalForm) → IsSubset (plan_lines M (plan_of f)) (goal_lines M f)
    plan_of-lines (atom a) = atom-lines a
    plan_of-lines always = subset_refl []
    plan_of-lines never = subset_refl []
    plan_of-lines (negation f) = plan_of-lines f
    plan_of-lines (every_of fs) = plans_of-lines fs
    plan_of-lines (some_of fs) = plans_of-lines fs
    plan_of-lines (implies f g) = subset_append _ _ _ _ (plan_of-lines f) (subset_trans _ _ _ (drop_none (plan_lines M (plan_of g))) (plan_of-lines g))
    plan_of-lines (minus f g) = subset_append _ _ _ _ (plan_of-lines f) (plan_of-lines g)
    plan_of-lines (exists s k f) = past-grows s k _ _ (plan_of-lines f)
    plan_of-lines (forall s k f) = past-grows s k _ _ (plan_of-lines f)

    plans_of-lines : (fs : Logics GoalAtom) → IsSubset (all_lines (plan_atom_lines M) (plans_of fs)) (all_lines (goal_atom_lines M) fs)
    plans_of-lines none = subset_refl []
    plans_of-lines (also f fs) = subset_append _ _ _ _ (plan_of-lines f) (plans_of-lines fs)

  mutual
    pub plan_of-clashes : (f : GoalForm) → plan_clashes M (plan_of f) ≡ true → goal_clashes M f ≡ true
    plan_of-clashes (atom a) h = atom-clashes a h
    plan_of-clashes always h = h
    plan_of-clashes never h = h
    plan_of-clashes (negation f) h = plan_of-clashes f h
    plan_of-clashes (every_of fs) h = plans_of-clashes fs h
    plan_of-clashes (some_of fs) h = plans_of-clashes fs h
    plan_of-clashes (implies f g) h = or-grows _ _ _ _ (plan_of-clashes f) (λ e. plan_of-clashes g (or_one _ e)) h
    plan_of-clashes (minus f g) h = or-grows _ _ _ _ (plan_of-clashes f) (plan_of-clashes g) h
    plan_of-clashes (exists s k f) h = or-grows _ _ _ _ (plan_of-clashes f) (clash_past-grows s k _ _ (plan_of-lines f)) h
    plan_of-clashes (forall s k f) h = or-grows _ _ _ _ (plan_of-clashes f) (clash_past-grows s k _ _ (plan_of-lines f)) h

    plans_of-clashes : (fs : Logics GoalAtom) → any_clashes (plan_atom_lines M) (plan_atom_clash M) (plans_of fs) ≡ true → any_clashes (goal_atom_lines M) (goal_atom_clash M) fs ≡ true
    plans_of-clashes none h = h
    plans_of-clashes (also f fs) h = or-grows _ _ _ _ (plan_of-clashes f) (plans_of-clashes fs) h

  -- ---- lengths

  rows-length : (atoms : List Atom) → greatest_of (plan_atom_b M) (logics (map row_plan atoms)) ≤ tuple_length atoms
  rows-length [] = omega arith
  rows-length (First r ∷ atoms) = let h = rows-length atoms in omega (arith, h)
  rows-length (Second a ∷ atoms) = let h = rows-length atoms in omega (arith, h)

  base-length : (n : List ℕ) (ss : List Slot) (atoms : List Atom) → plan_b M (joined (atom (scan n ss)) (map row_plan atoms)) ≤ max (M n).b (tuple_length atoms)
  base-length n ss [] = omega arith
  base-length n ss (a ∷ atoms) = let h = rows-length (a ∷ atoms) in omega (arith, h)

  row-length : (r : LinearConstraint) (b : Bool) → tuple_length (cond b [] (First r ∷ [])) ≤ row_length r
  row-length r true = omega arith
  row-length r false = omega arith

  atom-length : (a : GoalAtom) → plan_b M (atom_plan a) ≤ goal_atom_b M a
  atom-length (linear r) = row-length r (is_true_row r)
  atom-length (theme a) = omega arith
  atom-length (member n ts) =
      let gs = scanned ts in
      let base = joined (atom (scan n (scanned_slots gs))) (map row_plan (tied_atoms gs)) in
      subst (λ k. k ≤ max (M n).b (tuple_length (tied_atoms gs))) (sym (greatest-projected (plan_atom_b M) (fresh_slots gs) base)) (base-length n (scanned_slots gs) (tied_atoms gs))

  max-grows : (a b c d : ℕ) → a ≤ c → b ≤ d → max a b ≤ max c d
  max-grows a b c d h k = omega (arith, h, k)

  mutual
    pub plan_of-length : (f : GoalForm) → plan_b M (plan_of f) ≤ goal_b M f
    plan_of-length (atom a) = atom-length a
    plan_of-length always = omega arith
    plan_of-length never = omega arith
    plan_of-length (negation f) = plan_of-length f
    plan_of-length (every_of fs) = plans_of-length fs
    plan_of-length (some_of fs) = plans_of-length fs
    plan_of-length (implies f g) = max-grows _ _ _ _ (plan_of-length f) (let h = plan_of-length g in omega (arith, h))
    plan_of-length (minus f g) = max-grows _ _ _ _ (plan_of-length f) (plan_of-length g)
    plan_of-length (exists s k f) = plan_of-length f
    plan_of-length (forall s k f) = plan_of-length f

    plans_of-length : (fs : Logics GoalAtom) → greatest_of (plan_atom_b M) (plans_of fs) ≤ greatest_of (goal_atom_b M) fs
    plans_of-length none = omega arith
    plans_of-length (also f fs) = max-grows _ _ _ _ (plan_of-length f) (plans_of-length fs)

  -- ---- ranks

  rows-rank : (atoms : List Atom) → greatest_rank (plan_atom_rank M) (logics (map row_plan atoms)) ≤ 0
  rows-rank [] = omega arith
  rows-rank (a ∷ atoms) = let h = rows-rank atoms in omega (arith, h)

  base-rank : (n : List ℕ) (ss : List Slot) (atoms : List Atom) → plan_rank M (joined (atom (scan n ss)) (map row_plan atoms)) ≤ (M n).rank
  base-rank n ss [] = omega arith
  base-rank n ss (a ∷ atoms) = let h = rows-rank (a ∷ atoms) in omega (arith, h)

  atom-rank : (a : GoalAtom) → plan_rank M (atom_plan a) ≤ goal_atom_rank M a
  atom-rank (linear r) = omega arith
  atom-rank (theme a) = omega arith
  atom-rank (member n ts) =
      let gs = scanned ts in
      let base = joined (atom (scan n (scanned_slots gs))) (map row_plan (tied_atoms gs)) in
      let h = base-rank n (scanned_slots gs) (tied_atoms gs) in
      subst (λ k. k ≤ (M n).rank + rational_count (fresh_slots gs)) (sym (rank-projected (plan_atom_rank M) (fresh_slots gs) base)) (more _ _ (rational_count (fresh_slots gs)) h)
    where
      more : (a b k : ℕ) → a ≤ b → a + k ≤ b + k
      more a b k h = omega (arith, h)

  more-grows : (s : Sort) (a b : ℕ) → a ≤ b → one_more s a ≤ one_more s b
  more-grows Rat a b h = omega (arith, h)
  more-grows Text a b h = h

  mutual
    pub plan_of-rank : (f : GoalForm) → plan_rank M (plan_of f) ≤ goal_rank M f
    plan_of-rank (atom a) = atom-rank a
    plan_of-rank always = omega arith
    plan_of-rank never = omega arith
    plan_of-rank (negation f) = plan_of-rank f
    plan_of-rank (every_of fs) = plans_of-rank fs
    plan_of-rank (some_of fs) = plans_of-rank fs
    plan_of-rank (implies f g) = max-grows _ _ _ _ (plan_of-rank f) (let h = plan_of-rank g in omega (arith, h))
    plan_of-rank (minus f g) = max-grows _ _ _ _ (plan_of-rank f) (plan_of-rank g)
    plan_of-rank (exists s k f) = more-grows s _ _ (plan_of-rank f)
    plan_of-rank (forall s k f) = more-grows s _ _ (plan_of-rank f)

    plans_of-rank : (fs : Logics GoalAtom) → greatest_rank (plan_atom_rank M) (plans_of fs) ≤ greatest_rank (goal_atom_rank M) fs
    plans_of-rank none = omega arith
    plans_of-rank (also f fs) = max-grows _ _ _ _ (plan_of-rank f) (plans_of-rank fs)
