-- First-order logic over any atoms: when a formula holds at a point, and what is measured of its shape.
use Rattle.std.specs.Prelude.{◌≡◌, ℕ, suc, ◌+◌, max, ◌⊎◌, Bool, true, false, not, ◌||◌, ◌&&◌, List, [], ◌∷◌}
use Rattle.ded_model.specs.declared.slot.Sort.{Sort}
use Rattle.ded_model.specs.declared.slot.Sort.TheVariants.{Rat, Text}
use Rattle.ded_model.specs.Point.{Key, slot, name, Point, IsExtension, same_key}

-- the formulas over atoms of the type L. A quantifier says what its key ranges over. `minus` is the first part without
-- the second, which plans have and the user's formulas have not.
mutual
  pub data Logic (L : Type 0) : Type 0 where
    atom : L → Logic L
    always : Logic L
    never : Logic L
    negation : Logic L → Logic L
    every_of : Logics L → Logic L
    some_of : Logics L → Logic L
    implies : Logic L → Logic L → Logic L
    minus : Logic L → Logic L → Logic L
    exists : Sort → Key → Logic L → Logic L
    forall : Sort → Key → Logic L → Logic L

  -- some formulas over atoms of the type L, in order
  pub data Logics (L : Type 0) : Type 0 where
    none : Logics L
    also : Logic L → Logics L → Logics L

-- the formulas of a list, in the same order
abbrev pub logics : {L : Type 0} → List (Logic L) → Logics L
logics [] = none
logics (f ∷ fs) = also f (logics fs)

-- ---- when it holds

-- whether the formula holds at the point, where `Holds` says which atoms do
abbrev mutual
  pub Sat : {L : Type 0} → (L → Point → Type 0) → Logic L → Point → Type 0
  Sat Holds (atom a) p = Holds a p
  Sat Holds always p = Unit {0}
  Sat Holds never p = ⊥
  Sat Holds (negation f) p = ¬ Sat Holds f p
  Sat Holds (every_of fs) p = SatEvery Holds fs p
  Sat Holds (some_of fs) p = SatSome Holds fs p
  Sat Holds (implies f g) p = Sat Holds f p → Sat Holds g p
  Sat Holds (minus f g) p = Sat Holds f p × (¬ Sat Holds g p)
  Sat Holds (exists s k f) p = (q : Point) × IsExtension s p k q × Sat Holds f q
  Sat Holds (forall s k f) p = (q : Point) → IsExtension s p k q → Sat Holds f q

  -- whether each of the formulas holds at the point; where there are none, it is so
  pub SatEvery : {L : Type 0} → (L → Point → Type 0) → Logics L → Point → Type 0
  SatEvery Holds none p = Unit {0}
  SatEvery Holds (also f fs) p = Sat Holds f p × SatEvery Holds fs p

  -- whether some of the formulas holds at the point; where there are none, it isn't so
  pub SatSome : {L : Type 0} → (L → Point → Type 0) → Logics L → Point → Type 0
  SatSome Holds none p = ⊥
  SatSome Holds (also f fs) p = Sat Holds f p ⊎ SatSome Holds fs p

-- ---- what it mentions

-- whether the formula mentions the key freely, where `in_atom` says it of atoms
abbrev mutual
  pub mentions : {L : Type 0} → (L → Key → Bool) → Logic L → Key → Bool
  mentions in_atom (atom a) j = in_atom a j
  mentions in_atom always j = false
  mentions in_atom never j = false
  mentions in_atom (negation f) j = mentions in_atom f j
  mentions in_atom (every_of fs) j = any_mentions in_atom fs j
  mentions in_atom (some_of fs) j = any_mentions in_atom fs j
  mentions in_atom (implies f g) j = mentions in_atom f j || mentions in_atom g j
  mentions in_atom (minus f g) j = mentions in_atom f j || mentions in_atom g j
  mentions in_atom (exists s k f) j = not (same_key j k) && mentions in_atom f j
  mentions in_atom (forall s k f) j = not (same_key j k) && mentions in_atom f j

  -- whether some of the formulas mentions the key freely
  pub any_mentions : {L : Type 0} → (L → Key → Bool) → Logics L → Key → Bool
  any_mentions in_atom none j = false
  any_mentions in_atom (also f fs) j = mentions in_atom f j || any_mentions in_atom fs j

-- whether some atom passes the test
abbrev mutual
  pub some_atom : {L : Type 0} → (L → Bool) → Logic L → Bool
  some_atom test (atom a) = test a
  some_atom test always = false
  some_atom test never = false
  some_atom test (negation f) = some_atom test f
  some_atom test (every_of fs) = some_atom_of test fs
  some_atom test (some_of fs) = some_atom_of test fs
  some_atom test (implies f g) = some_atom test f || some_atom test g
  some_atom test (minus f g) = some_atom test f || some_atom test g
  some_atom test (exists s k f) = some_atom test f
  some_atom test (forall s k f) = some_atom test f

  -- whether some atom of the formulas passes the test
  pub some_atom_of : {L : Type 0} → (L → Bool) → Logics L → Bool
  some_atom_of test none = false
  some_atom_of test (also f fs) = some_atom test f || some_atom_of test fs

-- the keys of the quantifiers and columns round a place, the nearest first, each with what it ranges over
abbrev pub Scope : Type 0
Scope = List (Key × Sort)

-- whether some atom below its scope passes the test
abbrev mutual
  pub some_below : {L : Type 0} → (Scope → L → Bool) → Scope → Logic L → Bool
  some_below test scope (atom a) = test scope a
  some_below test scope always = false
  some_below test scope never = false
  some_below test scope (negation f) = some_below test scope f
  some_below test scope (every_of fs) = some_below_of test scope fs
  some_below test scope (some_of fs) = some_below_of test scope fs
  some_below test scope (implies f g) = some_below test scope f || some_below test scope g
  some_below test scope (minus f g) = some_below test scope f || some_below test scope g
  some_below test scope (exists s k f) = some_below test ((k, s) ∷ scope) f
  some_below test scope (forall s k f) = some_below test ((k, s) ∷ scope) f

  -- whether some atom of the formulas, below its scope, passes the test
  pub some_below_of : {L : Type 0} → (Scope → L → Bool) → Scope → Logics L → Bool
  some_below_of test scope none = false
  some_below_of test scope (also f fs) = some_below test scope f || some_below_of test scope fs

-- each atom has the property
abbrev mutual
  pub AllAtoms : {L : Type 0} → (L → Type 0) → Logic L → Type 0
  AllAtoms P (atom a) = P a
  AllAtoms P always = Unit {0}
  AllAtoms P never = Unit {0}
  AllAtoms P (negation f) = AllAtoms P f
  AllAtoms P (every_of fs) = AllAtomsOf P fs
  AllAtoms P (some_of fs) = AllAtomsOf P fs
  AllAtoms P (implies f g) = AllAtoms P f × AllAtoms P g
  AllAtoms P (minus f g) = AllAtoms P f × AllAtoms P g
  AllAtoms P (exists s k f) = AllAtoms P f
  AllAtoms P (forall s k f) = AllAtoms P f

  -- each atom of the formulas has the property
  pub AllAtomsOf : {L : Type 0} → (L → Type 0) → Logics L → Type 0
  AllAtomsOf P none = Unit {0}
  AllAtomsOf P (also f fs) = AllAtoms P f × AllAtomsOf P fs

-- ---- what is counted

-- how many quantifiers it has
abbrev mutual
  pub quantifiers : {L : Type 0} → Logic L → ℕ
  quantifiers (atom a) = 0
  quantifiers always = 0
  quantifiers never = 0
  quantifiers (negation f) = quantifiers f
  quantifiers (every_of fs) = quantifiers_of fs
  quantifiers (some_of fs) = quantifiers_of fs
  quantifiers (implies f g) = quantifiers f + quantifiers g
  quantifiers (minus f g) = quantifiers f + quantifiers g
  quantifiers (exists s k f) = quantifiers f + 1
  quantifiers (forall s k f) = quantifiers f + 1

  -- how many quantifiers the formulas have together
  pub quantifiers_of : {L : Type 0} → Logics L → ℕ
  quantifiers_of none = 0
  quantifiers_of (also f fs) = quantifiers f + quantifiers_of fs

-- a rational quantifier has one more than its body
abbrev pub one_more : Sort → ℕ → ℕ
one_more Rat n = suc n
one_more Text n = n

-- the rank: how many rational quantifiers stand one in another, on top of the rank of an atom
abbrev mutual
  pub rank : {L : Type 0} → (L → ℕ) → Logic L → ℕ
  rank of_atom (atom a) = of_atom a
  rank of_atom always = 0
  rank of_atom never = 0
  rank of_atom (negation f) = rank of_atom f
  rank of_atom (every_of fs) = greatest_rank of_atom fs
  rank of_atom (some_of fs) = greatest_rank of_atom fs
  rank of_atom (implies f g) = max (rank of_atom f) (rank of_atom g)
  rank of_atom (minus f g) = max (rank of_atom f) (rank of_atom g)
  rank of_atom (exists s k f) = one_more s (rank of_atom f)
  rank of_atom (forall s k f) = one_more s (rank of_atom f)

  -- the greatest rank of the formulas, 0 where there are none
  pub greatest_rank : {L : Type 0} → (L → ℕ) → Logics L → ℕ
  greatest_rank of_atom none = 0
  greatest_rank of_atom (also f fs) = max (rank of_atom f) (greatest_rank of_atom fs)

-- the greatest of a measure of the atoms, 0 where there is none
abbrev mutual
  pub greatest : {L : Type 0} → (L → ℕ) → Logic L → ℕ
  greatest of_atom (atom a) = of_atom a
  greatest of_atom always = 0
  greatest of_atom never = 0
  greatest of_atom (negation f) = greatest of_atom f
  greatest of_atom (every_of fs) = greatest_of of_atom fs
  greatest of_atom (some_of fs) = greatest_of of_atom fs
  greatest of_atom (implies f g) = max (greatest of_atom f) (greatest of_atom g)
  greatest of_atom (minus f g) = max (greatest of_atom f) (greatest of_atom g)
  greatest of_atom (exists s k f) = greatest of_atom f
  greatest of_atom (forall s k f) = greatest of_atom f

  -- the greatest of a measure of the atoms of the formulas, 0 where there is none
  pub greatest_of : {L : Type 0} → (L → ℕ) → Logics L → ℕ
  greatest_of of_atom none = 0
  greatest_of of_atom (also f fs) = max (greatest of_atom f) (greatest_of of_atom fs)

-- 1 for true, and 0 for false
abbrev pub as_count : Bool → ℕ
as_count true = 1
as_count false = 0

-- how many atoms pass the test
abbrev mutual
  pub count_atoms : {L : Type 0} → (L → Bool) → Logic L → ℕ
  count_atoms test (atom a) = as_count (test a)
  count_atoms test always = 0
  count_atoms test never = 0
  count_atoms test (negation f) = count_atoms test f
  count_atoms test (every_of fs) = count_atoms_of test fs
  count_atoms test (some_of fs) = count_atoms_of test fs
  count_atoms test (implies f g) = count_atoms test f + count_atoms test g
  count_atoms test (minus f g) = count_atoms test f + count_atoms test g
  count_atoms test (exists s k f) = count_atoms test f
  count_atoms test (forall s k f) = count_atoms test f

  -- how many atoms of the formulas pass the test
  pub count_atoms_of : {L : Type 0} → (L → Bool) → Logics L → ℕ
  count_atoms_of test none = 0
  count_atoms_of test (also f fs) = count_atoms test f + count_atoms_of test fs

-- ---- its shape

-- the key is a slot of the sort, or any name
abbrev pub IsOfSort : Sort → Key → Type 0
IsOfSort s (slot u) = u.sort ≡ s
IsOfSort s (name x) = Unit {0}

-- each quantifier over a slot ranges over what the slot's sort says
abbrev mutual
  pub IsSorted : {L : Type 0} → Logic L → Type 0
  IsSorted (atom a) = Unit {0}
  IsSorted always = Unit {0}
  IsSorted never = Unit {0}
  IsSorted (negation f) = IsSorted f
  IsSorted (every_of fs) = AreSorted fs
  IsSorted (some_of fs) = AreSorted fs
  IsSorted (implies f g) = IsSorted f × IsSorted g
  IsSorted (minus f g) = IsSorted f × IsSorted g
  IsSorted (exists s k f) = IsOfSort s k × IsSorted f
  IsSorted (forall s k f) = IsOfSort s k × IsSorted f

  -- in each of the formulas a quantifier over a slot ranges over what the slot's sort says
  pub AreSorted : {L : Type 0} → Logics L → Type 0
  AreSorted none = Unit {0}
  AreSorted (also f fs) = IsSorted f × AreSorted fs

-- whether it is made of atoms, `and` and `exists` alone
abbrev mutual
  pub conjunctive : {L : Type 0} → Logic L → Bool
  conjunctive (atom a) = true
  conjunctive always = true
  conjunctive never = false
  conjunctive (negation f) = false
  conjunctive (every_of fs) = all_conjunctive fs
  conjunctive (some_of fs) = false
  conjunctive (implies f g) = false
  conjunctive (minus f g) = false
  conjunctive (exists s k f) = conjunctive f
  conjunctive (forall s k f) = false

  -- whether each of the formulas is made of atoms, `and` and `exists` alone
  pub all_conjunctive : {L : Type 0} → Logics L → Bool
  all_conjunctive none = true
  all_conjunctive (also f fs) = conjunctive f && all_conjunctive fs
