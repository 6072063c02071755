-- How rows, text atoms, tuples and lists of tuples are written.
use Rattle.std.specs.Prelude.{ℕ, zero, suc, ◌==◌, ℤ, pos, int_lt, unsigned_abs, Bool, true, false, List, [], ◌∷◌, ◌++◌, length, map, codes, if◌then◌else◌}
use lib.IntN.{neg_ℤ}
use Rattle.ded_model.specs.declared.name.Column.{Column}
use Rattle.ded_model.specs.declared.slot.Slot.{Slot}
use Rattle.ded_model.specs.declared.row.RowOp.{RowOp}
use Rattle.ded_model.specs.declared.row.RowOp.TheVariants.{Zero, AtMost, Below}
use Rattle.ded_model.specs.declared.tuple.ThemeAtom.{ThemeAtom}
use Rattle.ded_model.specs.declared.tuple.ThemeAtom.TheVariants.{EqText, NeText, EqSlot, NeSlot}
use Rattle.ded_model.specs.declared.tuple.BothAtom.TheVariants.{First, Second}
use Rattle.ded_model.specs.Constraint.{LinearConstraint}
use Rattle.ded_model.specs.Row.{Atom}
use Rattle.ded_model.specs.Quoting.{quoted}
use Rattle.ded_print.specs.Lines.{counted_text}
use Rattle.ded_print.specs.Numbers.{number_text, integer_text}

-- ---- names of slots

-- how slots are called
abbrev pub Names : Type 0
Names = Slot → List ℕ

-- the name of column number n, counted from 0
abbrev pub column_at : List Column → ℕ → List ℕ
column_at [] n = []
column_at (c ∷ cs) zero = c.name
column_at (c ∷ cs) (suc n) = column_at cs n

-- slot number i is called as column i
abbrev pub column_names : List Column → Names
column_names columns s = column_at columns s.number

-- slot number i is called `v` and i
abbrev pub slot_names : Names
slot_names s = 118 ∷ number_text s.number

-- ---- rows

-- `x` for the magnitude 1, else `a*x`
abbrev pub term_text : Names → Slot → ℤ → List ℕ
term_text names s a = if unsigned_abs a == 1 then names s else (number_text (unsigned_abs a) ++ (42 ∷ names s))

-- the sign of a term after the first
abbrev pub sign_text : ℤ → List ℕ
sign_text a = if int_lt a (pos 0) then codes " - " else codes " + "

-- ` + ` or ` - `, and the term with the magnitude
abbrev pub later_term_text : Names → Slot → ℤ → List ℕ
later_term_text names s a = sign_text a ++ term_text names s a

-- a number, or where all signs are turned its negative
abbrev pub signed : Bool → ℤ → ℤ
signed false a = a
signed true a = neg_ℤ a

-- the terms after the first, each after its sign; where `turned` is true, all signs are turned
abbrev pub later_terms_text : Names → Bool → List (Slot × ℤ) → List ℕ
later_terms_text names turned [] = []
later_terms_text names turned (c ∷ cs) = later_term_text names c.0 (signed turned c.1) ++ later_terms_text names turned cs

-- how the sum is compared; where all signs are turned, the other way round
abbrev pub op_text : Bool → RowOp → List ℕ
op_text turned Zero = codes " = "
op_text false AtMost = codes " <= "
op_text true AtMost = codes " >= "
op_text false Below = codes " < "
op_text true Below = codes " > "

-- the terms, the op, and the constant with its sign turned
abbrev pub sides_text : Names → Bool → Slot × ℤ → List (Slot × ℤ) → RowOp → ℤ → List ℕ
sides_text names turned c cs op constant = term_text names c.0 (signed turned c.1) ++ (later_terms_text names turned cs ++ (op_text turned op ++ integer_text (neg_ℤ (signed turned constant))))

-- where the first coefficient is negative all signs are turned; a row without coefficients is a false one, since a
-- normal tuple has no true one
abbrev pub row_with_text : Names → List (Slot × ℤ) → RowOp → ℤ → List ℕ
row_with_text names [] op constant = codes "0 < 0"
row_with_text names (c ∷ cs) op constant = sides_text names (int_lt c.1 (pos 0)) c cs op constant

-- a row: its terms, the op, and the constant with its sign turned; `0 < 0` where it has no coefficients
abbrev pub row_text : Names → LinearConstraint → List ℕ
row_text names r = row_with_text names r.coefs r.op r.constant

-- the terms, `!=`, and the constant with its sign turned; where the first coefficient is negative all signs are turned
abbrev pub unlike_sides_text : Names → Bool → Slot × ℤ → List (Slot × ℤ) → ℤ → List ℕ
unlike_sides_text names turned c cs constant = term_text names c.0 (signed turned c.1) ++ (later_terms_text names turned cs ++ (codes " != " ++ integer_text (neg_ℤ (signed turned constant))))

-- a sum without terms is 0
abbrev pub unlike_with_text : Names → List (Slot × ℤ) → ℤ → List ℕ
unlike_with_text names [] constant = codes "0 != " ++ integer_text (neg_ℤ constant)
unlike_with_text names (c ∷ cs) constant = unlike_sides_text names (int_lt c.1 (pos 0)) c cs constant

-- that the sum of a row isn't 0: the row with `!=` in the place of its sign
abbrev pub unlike_text : Names → LinearConstraint → List ℕ
unlike_text names r = unlike_with_text names r.coefs r.constant

-- ---- text atoms

-- `n = 'a'`, `n != 'a'`, `n = m`, `n != m`
abbrev pub theme_text : Names → ThemeAtom → List ℕ
theme_text names (EqText s t) = names s ++ (codes " = " ++ quoted t)
theme_text names (NeText s t) = names s ++ (codes " != " ++ quoted t)
theme_text names (EqSlot s t) = names s ++ (codes " = " ++ names t)
theme_text names (NeSlot s t) = names s ++ (codes " != " ++ names t)

-- ---- tuples

-- a row or a text atom
abbrev pub atom_text : Names → Atom → List ℕ
atom_text names (First r) = row_text names r
atom_text names (Second a) = theme_text names a

-- each atom after a comma and a blank
abbrev pub later_atoms_text : Names → List Atom → List ℕ
later_atoms_text names [] = []
later_atoms_text names (a ∷ atoms) = codes ", " ++ (atom_text names a ++ later_atoms_text names atoms)

-- `{ }` without atoms, else `{ a, b, c }`
abbrev pub tuple_text : Names → List Atom → List ℕ
tuple_text names [] = codes "{ }"
tuple_text names (a ∷ atoms) = codes "{ " ++ (atom_text names a ++ (later_atoms_text names atoms ++ codes " }"))

-- ---- lists of tuples

-- `answer K`, K lines of one tuple each, `end`
abbrev pub answer_text : List Column → List (List Atom) → List ℕ
answer_text columns tuples = counted_text (codes "answer") (number_text (length tuples)) (map (tuple_text (column_names columns)) tuples)

-- a tuple's number, a blank, and the tuple
abbrev pub stored_line : Names → ℕ × List Atom → List ℕ
stored_line names t = number_text t.0 ++ (32 ∷ tuple_text names t.1)

-- `tuples K`, K lines of one stored tuple each, `end`
abbrev pub stored_text : List Column → List (ℕ × List Atom) → List ℕ
stored_text columns stored = counted_text (codes "tuples") (number_text (length stored)) (map (stored_line (column_names columns)) stored)
