-- The catalogue that the lines of a dump make.
use Rattle.std.specs.Prelude.{ℕ, suc, List, [], ◌∷◌, ◌++◌, length, map}
use Rattle.ded_model.specs.Row.{Atom}
use Rattle.ded_model.specs.Catalogue.{Entry, relation, view, Catalogue}
use Rattle.ded_reread.specs.Formulas.{restored}

-- the tuples, numbered from one above n on
abbrev pub numbered : ℕ → List (ℕ × List Atom) → List (ℕ × List Atom)
numbered n [] = []
numbered n (t ∷ ts) = (suc n, t.1) ∷ numbered (suc n) ts

-- a relation has the same tuples in the same order, which are all that were inserted; a view has the formula that is read back
abbrev pub remade_entry : Entry → Entry
remade_entry (relation n h m ts) = relation n h (length ts) (numbered 0 ts)
remade_entry (view n h f) = view n h (restored h f)

-- entries of the same names, kinds and headings, in order
abbrev pub remade : Catalogue → Catalogue
remade c = record { limit = c.limit; entries = map remade_entry c.entries }

-- ---- the script

-- each line, and a line feed behind it
abbrev pub script_of_lines : List (List ℕ) → List ℕ
script_of_lines [] = []
script_of_lines (l ∷ ls) = l ++ 10 ∷ script_of_lines ls

-- the lines one behind another, without a line feed between them
abbrev pub joined_lines : List (List ℕ) → List ℕ
joined_lines [] = []
joined_lines (l ∷ ls) = l ++ joined_lines ls
