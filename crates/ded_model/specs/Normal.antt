-- Normal rows, text atoms and tuples, and the order of atoms.
use Rattle.std.specs.Prelude.{◌≡◌, ◌<◌, ℕ, ℤ, pos, ◌*ℤ◌, int_lt, int_div, Bool, true, false, List, [], ◌∷◌, map, if◌then◌else◌}
use lib.IntN.{neg_ℤ}
use Rattle.std.specs.declared.cmp.Ordering.{Ordering}
use Rattle.std.specs.declared.cmp.Ordering.TheVariants.{Less, Equal, Greater}
use Rattle.std.specs.Ordering.{ordering_then, nat_cmp, int_cmp}
use Rattle.std.specs.Cmp.Lexicographic.{slice_cmp}
use Rattle.ded_num.specs.Gcd.{gcd_all}
use Rattle.ded_model.specs.declared.slot.Slot.{Slot}
use Rattle.ded_model.specs.declared.slot.Sort.TheVariants.{Text}
use Rattle.ded_model.specs.declared.row.RowOp.{RowOp}
use Rattle.ded_model.specs.declared.row.RowOp.TheVariants.{Zero, AtMost, Below}
use Rattle.ded_model.specs.declared.tuple.ThemeAtom.{ThemeAtom}
use Rattle.ded_model.specs.declared.tuple.ThemeAtom.TheVariants.{EqText, NeText, EqSlot, NeSlot}
use Rattle.ded_model.specs.declared.tuple.BothAtom.TheVariants.{First, Second}
use Rattle.ded_model.specs.Constraint.{LinearConstraint}
use Rattle.ded_model.specs.Coefs.{AreCoefs}
use Rattle.ded_model.specs.Point.{AllBytes}
use Rattle.ded_model.specs.Row.{Atom, sign_meets}

-- ---- normal rows

-- the constant and all coefficients
abbrev pub numbers : LinearConstraint → List ℤ
numbers r = r.constant ∷ map (λ c. c.1) r.coefs

-- the coefficients, each divided by k
abbrev pub coefs_over : ℤ → List (Slot × ℤ) → List (Slot × ℤ)
coefs_over k cs = map (λ c. (c.0, int_div c.1 k)) cs

-- k divides each coefficient without rest
abbrev pub DivideWhole : ℤ → List (Slot × ℤ) → Type 0
DivideWhole k [] = Unit {0}
DivideWhole k (c ∷ cs) = (k *ℤ int_div c.1 k ≡ c.1) × DivideWhole k cs

-- the row with its coefficients and its constant divided by k
abbrev pub row_over : ℤ → LinearConstraint → LinearConstraint
row_over k r = record { coefs = coefs_over k r.coefs; constant = int_div r.constant k; op = r.op }

-- what the numbers are divided by: their greatest common divisor g, turned where the first coefficient of an equality is negative
abbrev pub divisor_for : RowOp → ℤ → ℕ → ℤ
divisor_for Zero first g = if int_lt first (pos 0) then neg_ℤ (pos g) else pos g
divisor_for AtMost first g = pos g
divisor_for Below first g = pos g

-- what a row with these numbers is divided by
abbrev pub divisor_of : RowOp → ℤ → List (Slot × ℤ) → ℤ
divisor_of op constant [] = pos 1
divisor_of op constant (c ∷ cs) = divisor_for op c.1 (gcd_all (constant ∷ map (λ d. d.1) (c ∷ cs)))

-- the rows `0 = 0` and `0 < 0`
abbrev pub constant_row : Bool → LinearConstraint
constant_row b = record { coefs = []; constant = pos 0; op = if b then Zero else Below }

-- the row r in normal form, where the list is that of its coefficients
abbrev pub normal_with : LinearConstraint → List (Slot × ℤ) → LinearConstraint
normal_with r [] = constant_row (sign_meets r.op r.constant)
normal_with r (c ∷ cs) = row_over (divisor_of r.op r.constant (c ∷ cs)) r

-- the row in lowest numbers, an equality with a positive first coefficient; a row without coefficients is `0 = 0` or `0 < 0`
unfoldable pub normal_row : LinearConstraint → LinearConstraint
normal_row r = normal_with r r.coefs

-- the row is in normal form
pub record IsNormalRow (r : LinearConstraint) : Type 0 where
  pub normal : normal_row r ≡ r

-- whether it is a row without coefficients that is no inequality below 0; a normal one is then `0 = 0`
abbrev pub is_true_with : RowOp → List (Slot × ℤ) → Bool
is_true_with op (c ∷ cs) = false
is_true_with Zero [] = true
is_true_with AtMost [] = true
is_true_with Below [] = false

-- whether it is a row by `=` or `<=` without coefficients; a normal one is then `0 = 0`
abbrev pub is_true_row : LinearConstraint → Bool
is_true_row r = is_true_with r.op r.coefs

-- ---- normal text atoms

-- text slots, a text of bytes, and of two slots the one of lesser number first
abbrev pub IsNormalTheme : ThemeAtom → Type 0
IsNormalTheme (EqText s t) = (s.sort ≡ Text) × AllBytes t
IsNormalTheme (NeText s t) = (s.sort ≡ Text) × AllBytes t
IsNormalTheme (EqSlot s t) = (s.sort ≡ Text) × (t.sort ≡ Text) × (s.number < t.number)
IsNormalTheme (NeSlot s t) = (s.sort ≡ Text) × (t.sort ≡ Text) × (s.number < t.number)

-- ---- the order of rows

-- the order of the first coefficient c of a row with the coefficients c and then more, of which `rest` tells how those
-- compare, against the coefficients of another row
abbrev pub coefs_order_after : Slot × ℤ → (List (Slot × ℤ) → Ordering) → List (Slot × ℤ) → Ordering
coefs_order_after c rest [] = ordering_then (int_cmp c.1 (pos 0)) (rest [])
coefs_order_after c rest (d ∷ ds) =
    by_slot (nat_cmp c.0.number d.0.number) (ordering_then (int_cmp c.1 (pos 0)) (rest (d ∷ ds))) (ordering_then (int_cmp c.1 d.1) (rest ds)) (ordering_then (int_cmp (pos 0) d.1) (coefs_order_after c rest ds))
  where
    by_slot : Ordering → Ordering → Ordering → Ordering → Ordering
    by_slot Less earlier same later = earlier
    by_slot Equal earlier same later = same
    by_slot Greater earlier same later = later

-- coefficients slot by slot from number 0 upwards, an absent one counting as 0
abbrev pub coefs_order : List (Slot × ℤ) → List (Slot × ℤ) → Ordering
coefs_order [] [] = Equal
coefs_order [] (d ∷ ds) = ordering_then (int_cmp (pos 0) d.1) (coefs_order [] ds)
coefs_order (c ∷ cs) ds = coefs_order_after c (coefs_order cs) ds

-- in the order `=`, `<=`, `<`
abbrev pub op_place : RowOp → ℕ
op_place Zero = 0
op_place AtMost = 1
op_place Below = 2

-- by coefficients, then by constant, then by op
unfoldable pub row_order : LinearConstraint → LinearConstraint → Ordering
row_order a b = ordering_then (coefs_order a.coefs b.coefs) (ordering_then (int_cmp a.constant b.constant) (nat_cmp (op_place a.op) (op_place b.op)))

-- ---- the order of text atoms

-- the slot that a text atom compares with a text, or the first of the two slots that it compares
abbrev pub first_slot : ThemeAtom → Slot
first_slot (EqText s t) = s
first_slot (NeText s t) = s
first_slot (EqSlot s t) = s
first_slot (NeSlot s t) = s

-- in the order of a text that is equal, one that differs, a slot that is equal, one that differs
abbrev pub kind_place : ThemeAtom → ℕ
kind_place (EqText s t) = 0
kind_place (NeText s t) = 1
kind_place (EqSlot s t) = 2
kind_place (NeSlot s t) = 3

-- the text that a text atom compares its slot with; the empty text where it compares two slots
abbrev pub quoted_text : ThemeAtom → List ℕ
quoted_text (EqText s t) = t
quoted_text (NeText s t) = t
quoted_text (EqSlot s t) = []
quoted_text (NeSlot s t) = []

-- the number of the second slot of a text atom; 0 where it compares a slot with a text
abbrev pub second_number : ThemeAtom → ℕ
second_number (EqText s t) = 0
second_number (NeText s t) = 0
second_number (EqSlot s t) = t.number
second_number (NeSlot s t) = t.number

-- by first slot number, then by kind, then by the text's bytes or the second slot's number
unfoldable pub theme_order : ThemeAtom → ThemeAtom → Ordering
theme_order a b = ordering_then (nat_cmp (first_slot a).number (first_slot b).number)
    (ordering_then (nat_cmp (kind_place a) (kind_place b))
    (ordering_then (slice_cmp nat_cmp (quoted_text a) (quoted_text b)) (nat_cmp (second_number a) (second_number b))))

-- text atoms stand before rows
abbrev pub atom_order : Atom → Atom → Ordering
atom_order (Second a) (Second b) = theme_order a b
atom_order (Second a) (First r) = Less
atom_order (First r) (Second a) = Greater
atom_order (First r) (First q) = row_order r q

-- ---- normal tuples

-- a normal atom that isn't the true row; a row is over rational slots in order, with coefficients that aren't 0
abbrev pub IsNormalAtom : Atom → Type 0
IsNormalAtom (First r) = AreCoefs r.coefs × IsNormalRow r × (is_true_row r ≡ false)
IsNormalAtom (Second a) = IsNormalTheme a

-- the list is empty, or its first atom stands after a
abbrev pub BeginsAfter : Atom → List Atom → Type 0
BeginsAfter a [] = Unit {0}
BeginsAfter a (b ∷ bs) = atom_order a b ≡ Less

-- normal atoms in order, none true, each once
abbrev pub IsNormalTuple : List Atom → Type 0
IsNormalTuple [] = Unit {0}
IsNormalTuple (a ∷ atoms) = IsNormalAtom a × BeginsAfter a atoms × IsNormalTuple atoms

-- the atom at its place in a list in order, where it doesn't stand there already
abbrev pub place_atom : Atom → List Atom → List Atom
place_atom a [] = a ∷ []
place_atom a (b ∷ bs) = by_order (atom_order a b) (a ∷ b ∷ bs) (b ∷ bs) (b ∷ place_atom a bs)
  where
    by_order : Ordering → List Atom → List Atom → List Atom → List Atom
    by_order Less before same after = before
    by_order Equal before same after = same
    by_order Greater before same after = after

-- the atoms in order, each once
abbrev pub ordered_atoms : List Atom → List Atom
ordered_atoms [] = []
ordered_atoms (a ∷ atoms) = place_atom a (ordered_atoms atoms)
