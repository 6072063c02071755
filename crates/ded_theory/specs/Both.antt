-- Atoms of one of two kinds, and the atoms of each kind in a conjunction of them.
use Rattle.std.specs.Prelude.{List, [], ◌∷◌}
use Rattle.ded_model.specs.declared.tuple.BothAtom.{BothAtom}
use Rattle.ded_model.specs.declared.tuple.BothAtom.TheVariants.{First, Second}
use Rattle.ded_model.specs.declared.tuple.Negated.{Negated}
use Rattle.ded_model.specs.declared.tuple.Negated.TheVariants.{One, Two}

-- f of an atom of the first kind, and g of one of the second
abbrev pub by_kind : {A B R : Type 0} → (A → R) → (B → R) → BothAtom A B → R
by_kind f g (First a) = f a
by_kind f g (Second b) = g b

-- P of an atom of the first kind, and Q of one of the second
abbrev pub IsByKind : {A B : Type 0} → (A → Type 0) → (B → Type 0) → BothAtom A B → Type 0
IsByKind P Q (First a) = P a
IsByKind P Q (Second b) = Q b

-- the atoms of the first kind, in order
abbrev pub firsts : {A B : Type 0} → List (BothAtom A B) → List A
firsts [] = []
firsts (First a ∷ atoms) = a ∷ firsts atoms
firsts (Second b ∷ atoms) = firsts atoms

-- the atoms of the second kind, in order
abbrev pub seconds : {A B : Type 0} → List (BothAtom A B) → List B
seconds [] = []
seconds (First a ∷ atoms) = seconds atoms
seconds (Second b ∷ atoms) = b ∷ seconds atoms

-- the pieces of a negation, each as an atom of the first kind
abbrev pub first_pieces : {A B : Type 0} → Negated A → Negated (BothAtom A B)
first_pieces (One a) = One (First a)
first_pieces (Two a b) = Two (First a) (First b)

-- the pieces of a negation, each as an atom of the second kind
abbrev pub second_pieces : {A B : Type 0} → Negated B → Negated (BothAtom A B)
second_pieces (One b) = One (Second b)
second_pieces (Two a b) = Two (Second a) (Second b)
