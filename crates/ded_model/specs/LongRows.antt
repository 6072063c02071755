-- Comparisons and arguments of formulas whose normal rows have a number above 2^63 - 1 in magnitude.
use Rattle.std.specs.Prelude.{ℕ, ◌^◌, ◌/◌, nat_le, ℤ, pos, ◌-ℤ◌, unsigned_abs, Bool, true, false, ◌&&◌, not, List, [], ◌∷◌, ◌++◌, if◌then◌else◌}
use Rattle.std.specs.List.{list_any}
use Rattle.std.specs.Ordering.{int_eq}
use Rattle.std.specs.Str.{bytes_eq}
use Rattle.ded_num.specs.Gcd.{gcd_all}
use Rattle.ded_model.specs.declared.formula.Operand.{Operand}
use Rattle.ded_model.specs.declared.formula.Operand.TheVariants.{Single, Sum, Quoted}
use Rattle.ded_model.specs.Command.{CommandForm, header, relation, insert, delete, drop, view, keep, ask, query, show, box_of, explain, dump, disjoint, verify}
use Rattle.ded_model.specs.Form.{FormAtom, compare, member}
use Rattle.ded_model.specs.Logic.{some_atom, some_atom_of}

-- ---- rows by names

-- the denominator of a comparison: that of its sums, and 1 where it has none
abbrev pub denominator_of : Operand → Operand → ℤ
denominator_of (Sum t) r = t.over
denominator_of (Single n) (Sum u) = u.over
denominator_of (Single n) (Single m) = pos 1
denominator_of (Single n) (Quoted t) = pos 1
denominator_of (Quoted t) (Sum u) = u.over
denominator_of (Quoted t) (Single n) = pos 1
denominator_of (Quoted t) (Quoted u) = pos 1

-- the coefficients of an operand, multiplied by the denominator m; those of a sum are over m already
abbrev pub parts_over : ℤ → Operand → List (List ℕ × ℤ)
parts_over m (Single n) = (n, m) ∷ []
parts_over m (Sum t) = t.parts
parts_over m (Quoted t) = []

-- the constant of a sum, over the sum's denominator; 0 for any other operand
abbrev pub constant_of : Operand → ℤ
constant_of (Single n) = pos 0
constant_of (Sum t) = t.constant
constant_of (Quoted t) = pos 0

-- the coefficient of a name, 0 where it has none; a name stands once at most
abbrev pub coefficient : List (List ℕ × ℤ) → List ℕ → ℤ
coefficient [] n = pos 0
coefficient (p ∷ ps) n = if bytes_eq p.0 n then p.1 else coefficient ps n

-- the coefficient of a name in `m*l - m*r`
abbrev pub difference_over : ℤ → Operand → Operand → List ℕ → ℤ
difference_over m l r n = coefficient (parts_over m l) n -ℤ coefficient (parts_over m r) n

-- the coefficients in `m*l - m*r` of the names of a list. A name of both sides comes twice, and a coefficient may be 0: that
-- changes neither the greatest common divisor nor which numbers there are besides 0.
abbrev pub differences_over : ℤ → Operand → Operand → List (List ℕ × ℤ) → List ℤ
differences_over m l r [] = []
differences_over m l r (p ∷ ps) = difference_over m l r p.0 ∷ differences_over m l r ps

-- the coefficients in `m*l - m*r` of the names of l, and then those of the names of r
abbrev pub row_coefs_over : ℤ → Operand → Operand → List ℤ
row_coefs_over m l r = differences_over m l r (parts_over m l) ++ differences_over m l r (parts_over m r)

-- the coefficients of the row of a comparison: those of `l - r`, times the denominator
abbrev pub row_coefs : Operand → Operand → List ℤ
row_coefs l r = row_coefs_over (denominator_of l r) l r

-- the constant of the row of a comparison: that of `l - r`, times the denominator
abbrev pub row_constant : Operand → Operand → ℤ
row_constant l r = constant_of l -ℤ constant_of r

-- ---- long numbers

-- whether the number isn't 0
abbrev pub is_nonzero : ℤ → Bool
is_nonzero z = not (int_eq z (pos 0))

-- the number, divided by g, is above 2^63 - 1 in magnitude
abbrev pub is_long_over : ℕ → ℤ → Bool
is_long_over g z = nat_le (2 ^ 63) (unsigned_abs z / g)

-- The row of these coefficients and this constant, divided by their greatest common divisor, has a long number. A row
-- without coefficients is true or false and has none.
abbrev pub is_long_row : List ℤ → ℤ → Bool
is_long_row coefs constant = list_any is_nonzero coefs && list_any (is_long_over (gcd_all (constant ∷ coefs))) (constant ∷ coefs)

-- whether the operand is a quoted text
abbrev pub is_quoted : Operand → Bool
is_quoted (Quoted t) = true
is_quoted (Single n) = false
is_quoted (Sum t) = false

-- the row of `l - r`; a comparison with a quoted text has none
abbrev pub is_long_comparison : Operand → Operand → Bool
is_long_comparison l r = (not (is_quoted l) && not (is_quoted r)) && is_long_row (row_coefs l r) (row_constant l r)

-- the coefficients of the parts of a sum, in order
abbrev pub coefficients : List (List ℕ × ℤ) → List ℤ
coefficients [] = []
coefficients (p ∷ ps) = p.1 ∷ coefficients ps

-- the row of `m*u - m*t`, for a new variable u and the denominator m of t, up to sign
abbrev pub is_long_argument : Operand → Bool
is_long_argument (Single n) = false
is_long_argument (Sum t) = is_long_row (t.over ∷ coefficients t.parts) t.constant
is_long_argument (Quoted t) = false

-- whether the row of a comparison, or that of some argument of a relation or view, has a long number
abbrev pub is_long_atom : FormAtom → Bool
is_long_atom (compare l op r) = is_long_comparison l r
is_long_atom (member n ts) = list_any is_long_argument ts

-- whether some comparison or argument in the command's formulas has a row with a long number
abbrev pub has_long_row : CommandForm → Bool
has_long_row header = false
has_long_row (relation n h) = false
has_long_row (insert n fs) = some_atom_of is_long_atom fs
has_long_row (delete n k) = false
has_long_row (drop n) = false
has_long_row (view n h f) = some_atom is_long_atom f
has_long_row (keep n) = false
has_long_row (ask f) = some_atom is_long_atom f
has_long_row (query h f) = some_atom is_long_atom f
has_long_row (show n) = false
has_long_row (box_of n) = false
has_long_row (explain h f) = some_atom is_long_atom f
has_long_row dump = false
has_long_row (disjoint n m) = false
has_long_row (verify n m es) = false
