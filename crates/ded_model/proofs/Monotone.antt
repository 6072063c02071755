-- Lines and clashes of formulas grow with those of their atoms.
--
-- By induction on the formula: a connective puts the lines of its parts together, and what is past a quantifier grows with
-- what is before it (`past-grows`).
use Rattle.std.proofs.Common.{◌≡◌, ℕ, ◌≤◌, max, Bool, true, ◌||◌, List, [], inl, inr, arith}
use Rattle.ded_model.specs.declared.slot.Sort.{Sort}
use Rattle.ded_model.specs.declared.slot.Sort.TheVariants.{Rat, Text}
use Rattle.ded_model.specs.Point.{Key, slot, name}
use Rattle.ded_model.specs.Logic.{Logic, atom, always, never, negation, every_of, some_of, implies, minus, exists, forall, Logics, none, also, one_more, rank, greatest_rank, greatest, greatest_of}
use Rattle.ded_model.specs.Lines.{Line, IsSubset, elim_past, clash_past, lines, all_lines, clashes, any_clashes}
use Rattle.ded_model.proofs.Rows.{or_left, or_right}
use Rattle.ded_model.proofs.Members.{subset_refl, subset_append, elim-grows, clash-grows, or_split}

-- what is past a quantifier
pub past-grows : (s : Sort) (k : Key) (xs ys : List Line) → IsSubset xs ys → IsSubset (elim_past s k xs) (elim_past s k ys)
past-grows Rat (slot s) xs ys f = elim-grows s xs ys f
past-grows Rat (name x) xs ys f = f
past-grows Text k xs ys f = f

-- what clashes at a quantifier
pub clash_past-grows : (s : Sort) (k : Key) (xs ys : List Line) → IsSubset xs ys → clash_past s k xs ≡ true → clash_past s k ys ≡ true
clash_past-grows Rat (slot s) xs ys f h = clash-grows s xs ys f h
clash_past-grows Rat (name x) xs ys f h = h
clash_past-grows Text k xs ys f h = h

-- `or` grows with its parts
pub or-grows : (a b c d : Bool) → (a ≡ true → c ≡ true) → (b ≡ true → d ≡ true) → (a || b) ≡ true → (c || d) ≡ true
or-grows a b c d f g h = elim (or_split a b h) [ inl x ↦ or_left c d (f x) | inr y ↦ or_right c d (g y) ]

module _ {L : Type 0} (of of' : L → List Line) (grows : (a : L) → IsSubset (of a) (of' a)) where
  mutual
    -- the lines
    pub lines-grow : (f : Logic L) → IsSubset (lines of f) (lines of' f)
    lines-grow (atom a) = grows a
    lines-grow always = subset_refl []
    lines-grow never = subset_refl []
    lines-grow (negation f) = lines-grow f
    lines-grow (every_of fs) = all_lines-grow fs
    lines-grow (some_of fs) = all_lines-grow fs
    lines-grow (implies f g) = subset_append _ _ _ _ (lines-grow f) (lines-grow g)
    lines-grow (minus f g) = subset_append _ _ _ _ (lines-grow f) (lines-grow g)
    lines-grow (exists s k f) = past-grows s k _ _ (lines-grow f)
    lines-grow (forall s k f) = past-grows s k _ _ (lines-grow f)

    -- those of a list
    pub all_lines-grow : (fs : Logics L) → IsSubset (all_lines of fs) (all_lines of' fs)
    all_lines-grow none = subset_refl []
    all_lines-grow (also f fs) = subset_append _ _ _ _ (lines-grow f) (all_lines-grow fs)

  module _ (in_atom in_atom' : L → Bool) (atom_grows : (a : L) → in_atom a ≡ true → in_atom' a ≡ true) where
    mutual
      -- the clashes
      pub clashes-grow : (f : Logic L) → clashes of in_atom f ≡ true → clashes of' in_atom' f ≡ true
      clashes-grow (atom a) h = atom_grows a h
      clashes-grow always h = h
      clashes-grow never h = h
      clashes-grow (negation f) h = clashes-grow f h
      clashes-grow (every_of fs) h = any_clashes-grow fs h
      clashes-grow (some_of fs) h = any_clashes-grow fs h
      clashes-grow (implies f g) h = or-grows _ _ _ _ (clashes-grow f) (clashes-grow g) h
      clashes-grow (minus f g) h = or-grows _ _ _ _ (clashes-grow f) (clashes-grow g) h
      clashes-grow (exists s k f) h = or-grows _ _ _ _ (clashes-grow f) (clash_past-grows s k _ _ (lines-grow f)) h
      clashes-grow (forall s k f) h = or-grows _ _ _ _ (clashes-grow f) (clash_past-grows s k _ _ (lines-grow f)) h

      -- those of a list
      pub any_clashes-grow : (fs : Logics L) → any_clashes of in_atom fs ≡ true → any_clashes of' in_atom' fs ≡ true
      any_clashes-grow none h = h
      any_clashes-grow (also f fs) h = or-grows _ _ _ _ (clashes-grow f) (any_clashes-grow fs) h

-- ---- greatest lengths and ranks

-- the greater of two numbers grows with them
pub max-grows : (a b c d : ℕ) → a ≤ c → b ≤ d → max a b ≤ max c d
max-grows a b c d h k = omega arith

-- a quantifier more
pub one_more-grows : (s : Sort) (a b : ℕ) → a ≤ b → one_more s a ≤ one_more s b
one_more-grows Rat a b h = omega arith
one_more-grows Text a b h = h

module _ {L : Type 0} (of of' : L → ℕ) (grows : (a : L) → of a ≤ of' a) where
  mutual
    -- the greatest number of the atoms
    pub greatest-grows : (f : Logic L) → greatest of f ≤ greatest of' f
    greatest-grows (atom a) = grows a
    greatest-grows always = omega arith
    greatest-grows never = omega arith
    greatest-grows (negation f) = greatest-grows f
    greatest-grows (every_of fs) = greatest_of-grows fs
    greatest-grows (some_of fs) = greatest_of-grows fs
    greatest-grows (implies f g) = max-grows _ _ _ _ (greatest-grows f) (greatest-grows g)
    greatest-grows (minus f g) = max-grows _ _ _ _ (greatest-grows f) (greatest-grows g)
    greatest-grows (exists s k f) = greatest-grows f
    greatest-grows (forall s k f) = greatest-grows f

    -- of a list
    pub greatest_of-grows : (fs : Logics L) → greatest_of of fs ≤ greatest_of of' fs
    greatest_of-grows none = omega arith
    greatest_of-grows (also f fs) = max-grows _ _ _ _ (greatest-grows f) (greatest_of-grows fs)

  mutual
    -- the rank
    pub rank-grows : (f : Logic L) → rank of f ≤ rank of' f
    rank-grows (atom a) = grows a
    rank-grows always = omega arith
    rank-grows never = omega arith
    rank-grows (negation f) = rank-grows f
    rank-grows (every_of fs) = greatest_rank-grows fs
    rank-grows (some_of fs) = greatest_rank-grows fs
    rank-grows (implies f g) = max-grows _ _ _ _ (rank-grows f) (rank-grows g)
    rank-grows (minus f g) = max-grows _ _ _ _ (rank-grows f) (rank-grows g)
    rank-grows (exists s k f) = one_more-grows s _ _ (rank-grows f)
    rank-grows (forall s k f) = one_more-grows s _ _ (rank-grows f)

    -- of a list
    pub greatest_rank-grows : (fs : Logics L) → greatest_rank of fs ≤ greatest_rank of' fs
    greatest_rank-grows none = omega arith
    greatest_rank-grows (also f fs) = max-grows _ _ _ _ (rank-grows f) (greatest_rank-grows fs)
