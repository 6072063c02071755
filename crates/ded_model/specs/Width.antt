-- Lengths of rows and tuples, and when lengths are narrow.
use Rattle.std.specs.Prelude.{ℕ, ◌+◌, ◌*◌, ◌^◌, ◌≤◌, max, ℤ, List, [], ◌∷◌, length, if◌then◌else◌}
use Rattle.ded_num.specs.Length.{length_of}
use Rattle.ded_model.specs.declared.slot.Slot.{Slot}
use Rattle.ded_model.specs.declared.slot.Sort.TheVariants.{Rat}
use Rattle.ded_model.specs.declared.name.Column.{Column}
use Rattle.ded_model.specs.declared.tuple.BothAtom.TheVariants.{First, Second}
use Rattle.ded_model.specs.Constraint.{LinearConstraint}
use Rattle.ded_model.specs.Point.{same_sort, stands_in}
use Rattle.ded_model.specs.Row.{Atom}
use Rattle.ded_model.specs.Normal.{numbers}

-- ---- lengths

-- the greatest length of the numbers, 0 where there is none
abbrev pub greatest_length : List ℤ → ℕ
greatest_length [] = 0
greatest_length (z ∷ zs) = max (length_of z) (greatest_length zs)

-- the greatest length of the coefficients and the constant of a row
abbrev pub row_length : LinearConstraint → ℕ
row_length r = greatest_length (numbers r)

-- the greatest length of the rows of a tuple, 0 where there is none; text atoms have no length
abbrev pub tuple_length : List Atom → ℕ
tuple_length [] = 0
tuple_length (First r ∷ atoms) = max (row_length r) (tuple_length atoms)
tuple_length (Second a ∷ atoms) = tuple_length atoms

-- the greatest length of the rows of all tuples, 0 where there is none
abbrev pub tuples_length : List (List Atom) → ℕ
tuples_length [] = 0
tuples_length (t ∷ ts) = max (tuple_length t) (tuples_length ts)

-- ---- narrow

-- q eliminations begun with lengths of at most b leave no length above 127
abbrev pub IsNarrowWith : ℕ → ℕ → Type 0
IsNarrowWith b q = (b + 1) * 2 ^ q ≤ 128

-- the slots of the list, with each new one of the coefficients
abbrev pub with_slots : List (Slot × ℤ) → List Slot → List Slot
with_slots [] ss = ss
with_slots (c ∷ cs) ss = with_slots cs (if stands_in ss c.0 then ss else c.0 ∷ ss)

-- the slots of the list, with each new one that the rows of a list of atoms mention
abbrev pub rational_slots_after : List Slot → List Atom → List Slot
rational_slots_after ss [] = ss
rational_slots_after ss (First r ∷ atoms) = rational_slots_after (with_slots r.coefs ss) atoms
rational_slots_after ss (Second a ∷ atoms) = rational_slots_after ss atoms

-- the rational slots that the rows of a list of atoms mention, each once
abbrev pub rational_slots : List Atom → List Slot
rational_slots atoms = rational_slots_after [] atoms

-- the lengths of a list of atoms are narrow for eliminating all rational slots that its rows mention
unfoldable pub IsNarrowList : List Atom → Type 0
IsNarrowList atoms = IsNarrowWith (tuple_length atoms) (length (rational_slots atoms))

-- how many columns of a heading are rational
abbrev pub rational_columns : List Column → ℕ
rational_columns [] = 0
rational_columns (c ∷ cs) = (if same_sort c.sort Rat then 1 else 0) + rational_columns cs

-- the lengths of tuples over a heading are narrow for eliminating all its rational columns
unfoldable pub IsBoxNarrow : List Column → List (List Atom) → Type 0
IsBoxNarrow h ts = IsNarrowWith (tuples_length ts) (rational_columns h)
