-- What follows of the atoms of a formula from a test of them.
use Rattle.std.proofs.Common.{◌≡◌, ℕ, ◌≤◌, max, Bool, true, false, ◌||◌, inl, inr, List, [], ◌∷◌, refl, sym, ◌∙◌, true≢false, le_trans}
use Rattle.std.proofs.Math.Nat.{le-max_left, le-max_right}
use Rattle.ded_model.specs.Logic.{Logic, atom, always, never, negation, every_of, some_of, implies, minus, exists, forall, Logics, none, also, AllAtoms, AllAtomsOf, Scope, some_atom, some_atom_of, some_below, some_below_of, greatest, greatest_of}
use Rattle.ded_model.proofs.Rows.{or_left, or_right}
use Rattle.ded_model.proofs.Members.{or_split}
use Rattle.ded_sorts.proofs.Unscoped.{some_below-unscoped}
use Rattle.ded_model.proofs.Bools.{or_false_left, or_false_right}

-- what follows of each atom from a property of it, and from facts of the names that it uses, holds of all
module _ {L : Type 0} (uses : List ℕ → L → Bool) (Q R : L → Type 0) (P : List ℕ → Type 0) (step : (a : L) → Q a → ((n : List ℕ) → uses n a ≡ true → P n) → R a) where
  mutual
    pub all_with : (f : Logic L) → AllAtoms Q f → ((n : List ℕ) → some_atom (uses n) f ≡ true → P n) → AllAtoms R f
    all_with (atom a) q u = step a q u
    all_with always q u = tt
    all_with never q u = tt
    all_with (negation f) q u = all_with f q u
    all_with (every_of fs) q u = all_with_of fs q u
    all_with (some_of fs) q u = all_with_of fs q u
    all_with (implies f g) q u = (all_with f q.0 (λ n e. u n (or_left _ _ e)), all_with g q.1 (λ n e. u n (or_right (some_atom (uses n) f) _ e)))
    all_with (minus f g) q u = (all_with f q.0 (λ n e. u n (or_left _ _ e)), all_with g q.1 (λ n e. u n (or_right (some_atom (uses n) f) _ e)))
    all_with (exists s k f) q u = all_with f q u
    all_with (forall s k f) q u = all_with f q u

    -- of a list
    all_with_of : (fs : Logics L) → AllAtomsOf Q fs → ((n : List ℕ) → some_atom_of (uses n) fs ≡ true → P n) → AllAtomsOf R fs
    all_with_of none q u = tt
    all_with_of (also f fs) q u = (all_with f q.0 (λ n e. u n (or_left _ _ e)), all_with_of fs q.1 (λ n e. u n (or_right (some_atom (uses n) f) _ e)))

-- a property of all atoms that follows from another one
pub all_weaker : {L : Type 0} (Q R : L → Type 0) → ((a : L) → Q a → R a) → (f : Logic L) → AllAtoms Q f → AllAtoms R f
all_weaker Q R step f q = all_with (λ n a. false) Q R (λ n. Unit {0}) (λ a h u. step a h) f q (λ n e. tt)

-- what follows of each atom that doesn't pass a test holds of all, where none of the formula passes
module _ {L : Type 0} (test : L → Bool) (P : L → Type 0) (step : (a : L) → test a ≡ false → P a) where
  mutual
    pub all_where_none : (f : Logic L) → some_atom test f ≡ false → AllAtoms P f
    all_where_none (atom a) h = step a h
    all_where_none always h = tt
    all_where_none never h = tt
    all_where_none (negation f) h = all_where_none f h
    all_where_none (every_of fs) h = all_where_none_of fs h
    all_where_none (some_of fs) h = all_where_none_of fs h
    all_where_none (implies f g) h = (all_where_none f (or_false_left _ _ h), all_where_none g (or_false_right (some_atom test f) _ h))
    all_where_none (minus f g) h = (all_where_none f (or_false_left _ _ h), all_where_none g (or_false_right (some_atom test f) _ h))
    all_where_none (exists s k f) h = all_where_none f h
    all_where_none (forall s k f) h = all_where_none f h

    -- of a list
    all_where_none_of : (fs : Logics L) → some_atom_of test fs ≡ false → AllAtomsOf P fs
    all_where_none_of none h = tt
    all_where_none_of (also f fs) h = (all_where_none f (or_false_left _ _ h), all_where_none_of fs (or_false_right (some_atom test f) _ h))

-- what follows of an atom that has a property and passes a test, where all have the property and some atom passes
module _ {L : Type 0} (test : L → Bool) (P : L → Type 0) (X : Type 0) (step : (a : L) → P a → test a ≡ true → X) where
  mutual
    pub some_with : (f : Logic L) → AllAtoms P f → some_atom test f ≡ true → X
    some_with (atom a) k h = step a k h
    some_with always k h = absurd (true≢false (sym h))
    some_with never k h = absurd (true≢false (sym h))
    some_with (negation f) k h = some_with f k h
    some_with (every_of fs) k h = some_with_of fs k h
    some_with (some_of fs) k h = some_with_of fs k h
    some_with (implies f g) k h = elim (or_split (some_atom test f) (some_atom test g) h) [ inl e ↦ some_with f k.0 e | inr e ↦ some_with g k.1 e ]
    some_with (minus f g) k h = elim (or_split (some_atom test f) (some_atom test g) h) [ inl e ↦ some_with f k.0 e | inr e ↦ some_with g k.1 e ]
    some_with (exists s k' f) k h = some_with f k h
    some_with (forall s k' f) k h = some_with f k h

    -- of a list
    some_with_of : (fs : Logics L) → AllAtomsOf P fs → some_atom_of test fs ≡ true → X
    some_with_of none k h = absurd (true≢false (sym h))
    some_with_of (also f fs) k h = elim (or_split (some_atom test f) (some_atom_of test fs) h) [ inl e ↦ some_with f k.0 e | inr e ↦ some_with_of fs k.1 e ]

-- a test that each atom passes that passes another
pub some_passes : {L : Type 0} (test test' : L → Bool) → ((a : L) → test a ≡ true → test' a ≡ true) → (f : Logic L) → some_atom test f ≡ true → some_atom test' f ≡ true
some_passes {L} test test' step f h = by (some_atom test' f) refl
  where
    by : (b : Bool) → some_atom test' f ≡ b → b ≡ true
    by true e = refl
    by false e =
        absurd (some_with test (λ a. test' a ≡ false) ⊥ (λ a n t. true≢false (sym (step a t) ∙ n)) f (all_where_none test' (λ a. test' a ≡ false) (λ a n. n) f e) h)

-- two tests that are the same of an atom below each scope
abbrev pub SameTests : {L : Type 0} → (Scope → L → Bool) → (Scope → L → Bool) → L → Type 0
SameTests t t' a = (scope : Scope) → t scope a ≡ t' scope a

-- tests that are the same of all atoms are so of the formula
module _ {L : Type 0} (t t' : Scope → L → Bool) where
  mutual
    pub some_below-same : (f : Logic L) → AllAtoms (SameTests t t') f → (scope : Scope) → some_below t scope f ≡ some_below t' scope f
    some_below-same (atom a) h scope = h scope
    some_below-same always h scope = refl
    some_below-same never h scope = refl
    some_below-same (negation f) h scope = some_below-same f h scope
    some_below-same (every_of fs) h scope = some_below_of-same fs h scope
    some_below-same (some_of fs) h scope = some_below_of-same fs h scope
    some_below-same (implies f g) h scope = λ i. some_below-same f h.0 scope i || some_below-same g h.1 scope i
    some_below-same (minus f g) h scope = λ i. some_below-same f h.0 scope i || some_below-same g h.1 scope i
    some_below-same (exists s k f) h scope = some_below-same f h ((k, s) ∷ scope)
    some_below-same (forall s k f) h scope = some_below-same f h ((k, s) ∷ scope)

    -- of a list
    some_below_of-same : (fs : Logics L) → AllAtomsOf (SameTests t t') fs → (scope : Scope) → some_below_of t scope fs ≡ some_below_of t' scope fs
    some_below_of-same none h scope = refl
    some_below_of-same (also f fs) h scope = λ i. some_below-same f h.0 scope i || some_below_of-same fs h.1 scope i

-- of tests alone
pub some_atom-same : {L : Type 0} (t t' : L → Bool) (f : Logic L) → AllAtoms (SameTests (λ s. t) (λ s. t')) f → some_atom t f ≡ some_atom t' f
some_atom-same t t' f h = sym (some_below-unscoped t [] f) ∙ some_below-same (λ s. t) (λ s. t') f h [] ∙ some_below-unscoped t' [] f

-- the measure of an atom that passes a test is at most the greatest
module _ {L : Type 0} (of_atom : L → ℕ) (test : L → Bool) (x : ℕ) (step : (a : L) → test a ≡ true → x ≤ of_atom a) where
  -- of two parts
  either : (a b : Bool) (y z : ℕ) → (a ≡ true → x ≤ y) → (b ≡ true → x ≤ z) → (a || b) ≡ true → x ≤ max y z
  either a b y z f g h = elim (or_split a b h) [ inl e ↦ le_trans (f e) (le-max_left y z) | inr e ↦ le_trans (g e) (le-max_right y z) ]

  mutual
    pub at_most_greatest : (f : Logic L) → some_atom test f ≡ true → x ≤ greatest of_atom f
    at_most_greatest (atom a) h = step a h
    at_most_greatest always h = absurd (true≢false (sym h))
    at_most_greatest never h = absurd (true≢false (sym h))
    at_most_greatest (negation f) h = at_most_greatest f h
    at_most_greatest (every_of fs) h = at_most_greatest_of fs h
    at_most_greatest (some_of fs) h = at_most_greatest_of fs h
    at_most_greatest (implies f g) h = either (some_atom test f) (some_atom test g) (greatest of_atom f) (greatest of_atom g) (at_most_greatest f) (at_most_greatest g) h
    at_most_greatest (minus f g) h = either (some_atom test f) (some_atom test g) (greatest of_atom f) (greatest of_atom g) (at_most_greatest f) (at_most_greatest g) h
    at_most_greatest (exists s k f) h = at_most_greatest f h
    at_most_greatest (forall s k f) h = at_most_greatest f h

    -- of a list
    at_most_greatest_of : (fs : Logics L) → some_atom_of test fs ≡ true → x ≤ greatest_of of_atom fs
    at_most_greatest_of none h = absurd (true≢false (sym h))
    at_most_greatest_of (also f fs) h = either (some_atom test f) (some_atom_of test fs) (greatest of_atom f) (greatest_of of_atom fs) (at_most_greatest f) (at_most_greatest_of fs) h
