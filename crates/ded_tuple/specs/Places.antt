-- Where an atom stands in a list that is in order, and atoms put at their places.
use Rattle.std.specs.Prelude.{ℕ, ◌+◌, Bool, true, false, List, [], ◌∷◌}
use Rattle.std.specs.declared.cmp.Ordering.{Ordering}
use Rattle.std.specs.declared.cmp.Ordering.TheVariants.{Less, Equal, Greater}
use Rattle.ded_model.specs.Row.{Atom}
use Rattle.ded_model.specs.Normal.{BeginsAfter, atom_order, place_atom}

-- each atom stands before the next one
abbrev pub AreOrdered : List Atom → Type 0
AreOrdered [] = Unit {0}
AreOrdered (a ∷ atoms) = BeginsAfter a atoms × AreOrdered atoms

-- how many of the first atoms stand before the atom
abbrev pub atom_place : Atom → List Atom → ℕ
atom_place a [] = 0
atom_place a (b ∷ bs) = behind (atom_order a b) (atom_place a bs)
  where
    behind : Ordering → ℕ → ℕ
    behind Less n = 0
    behind Equal n = 0
    behind Greater n = n + 1

-- whether the atom itself stands behind these
abbrev pub is_placed : Atom → List Atom → Bool
is_placed a [] = false
is_placed a (b ∷ bs) = by_order (atom_order a b) (is_placed a bs)
  where
    by_order : Ordering → Bool → Bool
    by_order Less later = false
    by_order Equal later = true
    by_order Greater later = later

-- the atoms put at their places, the last one first
abbrev pub placed : List Atom → List Atom → List Atom
placed [] tuple = tuple
placed (a ∷ atoms) tuple = place_atom a (placed atoms tuple)
