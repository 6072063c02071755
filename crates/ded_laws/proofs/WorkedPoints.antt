-- Rows and tuples at points with denominators above 1, each by computing.
use Rattle.std.proofs.Common.{◌≡◌, ℕ, true, false, List, [], ◌∷◌, refl}
use Rattle.std.specs.Prelude.{ℤ, pos, negsuc}
use Rattle.ded_model.specs.declared.slot.Sort.TheVariants.{Rat, Text}
use Rattle.ded_model.specs.declared.slot.Slot.{Slot}
use Rattle.ded_model.specs.declared.row.RowOp.TheVariants.{Zero, AtMost, Below}
use Rattle.ded_model.specs.declared.tuple.ThemeAtom.TheVariants.{EqText, NeText}
use Rattle.ded_model.specs.declared.tuple.BothAtom.TheVariants.{First, Second}
use Rattle.ded_model.specs.Constraint.{LinearConstraint}
use Rattle.ded_model.specs.Point.{slot, number, text, Point, number_at, text_at}
use Rattle.ded_model.specs.Row.{Atom, row_holds, theme_holds, atom_holds, tuple_holds, tuples_hold}

abbrev x : Slot
x = record { number = 0; sort = Rat }

abbrev y : Slot
y = record { number = 1; sort = Rat }

abbrev n : Slot
n = record { number = 2; sort = Text }

-- 2*x - 1 = 0
abbrev twice_x_is_one : LinearConstraint
twice_x_is_one = record { coefs = (x, pos 2) ∷ []; constant = negsuc 0; op = Zero }

-- x is a numerator over a denominator
abbrev x_is : ℤ → ℕ → Point
x_is c d = record { den = d; coords = (slot x, number c) ∷ [] }

row_holds_at_half : row_holds twice_x_is_one (x_is (pos 1) 2) ≡ true
unfolding row_holds number_at
row_holds_at_half = refl

row_holds_at_three_sixths : row_holds twice_x_is_one (x_is (pos 3) 6) ≡ true
unfolding row_holds number_at
row_holds_at_three_sixths = refl

row_fails_at_third : row_holds twice_x_is_one (x_is (pos 1) 3) ≡ false
unfolding row_holds number_at
row_fails_at_third = refl

-- n = 'a', x + y - 1 < 0, 3*y - 1 <= 0
abbrev three_atoms : List Atom
three_atoms = Second (EqText n (97 ∷ []))
    ∷ First (record { coefs = (x, pos 1) ∷ (y, pos 1) ∷ []; constant = negsuc 0; op = Below })
    ∷ First (record { coefs = (y, pos 3) ∷ []; constant = negsuc 0; op = AtMost })
    ∷ []

-- x and y over 6, and a text
abbrev over_six : ℤ → ℤ → List ℕ → Point
over_six a b t = record { den = 6; coords = (slot x, number a) ∷ (slot y, number b) ∷ (slot n, text t) ∷ [] }

-- 1/2, 1/3, 'a'
tuple_holds_inside : tuple_holds three_atoms (over_six (pos 3) (pos 2) (97 ∷ [])) ≡ true
unfolding row_holds theme_holds atom_holds tuple_holds number_at text_at
tuple_holds_inside = refl

-- 2/3, 1/3, 'a': the sum is 1
tuple_fails_on_strict_edge : tuple_holds three_atoms (over_six (pos 4) (pos 2) (97 ∷ [])) ≡ false
unfolding row_holds theme_holds atom_holds tuple_holds number_at text_at
tuple_fails_on_strict_edge = refl

-- 0, 1/2, 'a': y is above 1/3
tuple_fails_outside : tuple_holds three_atoms (over_six (pos 0) (pos 3) (97 ∷ [])) ≡ false
unfolding row_holds theme_holds atom_holds tuple_holds number_at text_at
tuple_fails_outside = refl

-- 1/2, 1/3, 'b'
tuple_fails_at_other_text : tuple_holds three_atoms (over_six (pos 3) (pos 2) (98 ∷ [])) ≡ false
unfolding row_holds theme_holds atom_holds tuple_holds number_at text_at
tuple_fails_at_other_text = refl

-- no tuples, and no atoms
no_tuple_holds_nowhere : tuples_hold [] (over_six (pos 3) (pos 2) (97 ∷ [])) ≡ false
unfolding tuples_hold
no_tuple_holds_nowhere = refl

no_atom_holds_everywhere : tuple_holds [] (over_six (pos 3) (pos 2) (97 ∷ [])) ≡ true
unfolding tuple_holds
no_atom_holds_everywhere = refl

-- one of two tuples holds
one_of_two_tuples_holds : tuples_hold ((Second (NeText n (97 ∷ [])) ∷ []) ∷ three_atoms ∷ []) (over_six (pos 3) (pos 2) (97 ∷ [])) ≡ true
unfolding row_holds theme_holds atom_holds tuple_holds tuples_hold number_at text_at
one_of_two_tuples_holds = refl
