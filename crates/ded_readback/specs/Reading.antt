-- Reading tuples, as functions on bytes. They also read much that spells nothing: what was read has to be written again and
-- compared.
use Rattle.std.specs.Prelude.{ℕ, zero, suc, ◌+◌, ◌-◌, ◌*◌, ◌^◌, min, nat_lt, ◌==◌, ℤ, pos, Bool, true, false, not, ◌&&◌, Option, Some, None, List, [], ◌∷◌, ◌++◌, length, take, drop, codes, if◌then◌else◌}
use Rattle.std.specs.Str.{bytes_eq}
use Rattle.ded_model.specs.declared.slot.Sort.{Sort}
use Rattle.ded_model.specs.declared.slot.Sort.TheVariants.{Rat, Text}
use Rattle.ded_model.specs.declared.slot.Slot.{Slot}
use Rattle.ded_model.specs.declared.name.Column.{Column}
use Rattle.ded_model.specs.declared.row.RowOp.{RowOp}
use Rattle.ded_model.specs.declared.row.RowOp.TheVariants.{Zero, AtMost, Below}
use Rattle.ded_model.specs.declared.tuple.ThemeAtom.{ThemeAtom}
use Rattle.ded_model.specs.declared.tuple.ThemeAtom.TheVariants.{EqText, NeText, EqSlot, NeSlot}
use Rattle.ded_model.specs.declared.tuple.BothAtom.TheVariants.{First, Second}
use Rattle.ded_model.specs.Constraint.{LinearConstraint}
use Rattle.ded_model.specs.Coefs.{with_coef}
use Rattle.ded_model.specs.Point.{same_sort}
use Rattle.ded_model.specs.Row.{Atom}
use Rattle.ded_model.specs.Normal.{normal_row, constant_row, ordered_atoms}
use Rattle.ded_tuple.specs.TrueRows.{without_true}
use Rattle.ded_lex.specs.Lexemes.{digit_byte}
use Rattle.ded_lex.specs.Fronts.{word_rest}
use Rattle.ded_print.specs.Tuples.{signed}
use Rattle.ded_readback.specs.declared.terms.Summand.{Summand}

-- ---- steps

infixl 10 ◌>>=◌
-- what the second step makes of what the first one gives, or none where that gives none
abbrev pub ◌>>=◌ : {A B : Type 0} → Option A → (A → Option B) → Option B
None >>= f = None
(Some x) >>= f = f x

-- what stands behind these bytes
abbrev pub behind : List ℕ → List ℕ → Option (List ℕ)
behind [] bs = Some bs
behind (p ∷ ps) [] = None
behind (p ∷ ps) (b ∷ bs) = if b == p then behind ps bs else None

-- what was read, and what stands behind it
abbrev pub with_rest : {A : Type 0} → List ℕ → Option A → Option (A × List ℕ)
with_rest rest None = None
with_rest rest (Some x) = Some (x, rest)

-- one value where the first bytes stand there, and another one where the second do
abbrev pub one_of : {A : Type 0} → A → Option (List ℕ) → Option (A × List ℕ) → Option (A × List ℕ)
one_of x None other = other
one_of x (Some rest) other = Some (x, rest)

-- the first of the two that isn't none
abbrev pub first_of : {A : Type 0} → Option A → Option A → Option A
first_of None other = other
first_of (Some x) other = Some x

-- ---- numbers

-- the number with one more digit, as far as 128 bits hold it
abbrev pub with_digit : ℕ → ℕ → ℕ
with_digit n b = min (min (n * 10) (2 ^ 128 - 1) + (b - 48)) (2 ^ 128 - 1)

-- the number that n and the digits that follow make, and what stands behind it
abbrev pub digits_from : ℕ → List ℕ → ℕ × List ℕ
digits_from n [] = (n, [])
digits_from n (b ∷ bs) = if digit_byte b then digits_from (with_digit n b) bs else (n, b ∷ bs)

-- the sign, true for a minus, before a number and what stands behind it
abbrev pub with_minus : Bool → ℕ × List ℕ → Bool × ℕ × List ℕ
with_minus minus d = (minus, d.0, d.1)

-- the number behind a minus sign that was read, else the one at the front: whether it is negative, its magnitude, and
-- what stands behind it
abbrev pub integer_by : List ℕ → Option (List ℕ) → Bool × ℕ × List ℕ
integer_by bs None = with_minus false (digits_from 0 bs)
integer_by bs (Some rest) = with_minus true (digits_from 0 rest)

-- whether the number at the front is negative, its magnitude, and what stands behind it; 0 where no digit stands there
abbrev pub integer_at : List ℕ → Bool × ℕ × List ℕ
integer_at bs = integer_by bs (behind (codes "-") bs)

-- whether a magnitude has at most 127 digits
abbrev pub is_short : ℕ → Bool
is_short n = nat_lt n (2 ^ 127)

-- ---- slots

-- the slot with this number and sort, or none where the number has more than 32 binary digits
abbrev pub numbered : ℕ → Sort → Option Slot
numbered i sort = if nat_lt i (2 ^ 32) then Some (record { number = i; sort = sort }) else None

-- the slot of the column of this name, where the columns are counted from i on
abbrev pub column_slot : ℕ → List Column → List ℕ → Option Slot
column_slot i [] word = None
column_slot i (c ∷ cs) word = if bytes_eq c.name word then numbered i c.sort else column_slot (i + 1) cs word

-- the slot of the column whose name stands at the front, and what stands behind it
abbrev pub slot_at : List Column → List ℕ → Option (Slot × List ℕ)
slot_at columns bs = with_rest (drop (word_rest bs) bs) (column_slot 0 columns (take (word_rest bs) bs))

-- ---- terms

-- so many times the slot, and what stands behind it
abbrev pub term_of : Bool → ℕ → Slot × List ℕ → Option (Summand × List ℕ)
term_of minus n s = Some (record { slot = s.0; minus = minus; magnitude = n }, s.1)

-- so many times a column
abbrev pub multiple_at : List Column → Bool → ℕ → List ℕ → Option (Summand × List ℕ)
multiple_at columns minus n bs = slot_at columns bs >>= term_of minus n

-- the number times a column where `*` stands behind the number, else the column at the front by itself
abbrev pub term_by : List Column → Bool → ℕ → List ℕ → Option (List ℕ) → Option (Summand × List ℕ)
term_by columns minus n bs None = multiple_at columns minus 1 bs
term_by columns minus n bs (Some rest) = multiple_at columns minus n rest

-- a column, which a number and `*` may stand before
abbrev pub term_at : List Column → Bool → List ℕ → Option (Summand × List ℕ)
term_at columns minus bs = term_by columns minus (digits_from 0 bs).0 bs (behind (codes "*") (digits_from 0 bs).1)

-- the sign of one more term, true where it is taken away
abbrev pub sign_at : List ℕ → Option (Bool × List ℕ)
sign_at bs = one_of false (behind (codes " + ") bs) (one_of true (behind (codes " - ") bs) None)

-- one more term behind ` + ` or ` - `
abbrev pub later_at : List Column → List ℕ → Option (Summand × List ℕ)
later_at columns bs = sign_at bs >>= λ s. term_at columns s.0 s.1

-- the terms so far, and where there is one more, this one and what `more` reads behind it
abbrev pub terms_by : (List Summand → List ℕ → List Summand × List ℕ) → List Summand → List ℕ → Option (Summand × List ℕ) → List Summand × List ℕ
terms_by more ts bs None = (ts, bs)
terms_by more ts bs (Some t) = more (ts ++ t.0 ∷ []) t.1

-- the terms so far and up to k more, and what stands behind them
abbrev pub terms_from : List Column → ℕ → List Summand → List ℕ → List Summand × List ℕ
terms_from columns zero ts bs = (ts, bs)
terms_from columns (suc k) ts bs = terms_by (terms_from columns k) ts bs (later_at columns bs)

-- ---- rows

-- the op, and whether all signs are turned
abbrev pub comparison_at : List ℕ → Option ((RowOp × Bool) × List ℕ)
comparison_at bs =
    one_of (Zero, false) (behind (codes " = ") bs)
    (one_of (AtMost, false) (behind (codes " <= ") bs)
    (one_of (AtMost, true) (behind (codes " >= ") bs)
    (one_of (Below, false) (behind (codes " < ") bs)
    (one_of (Below, true) (behind (codes " > ") bs) None))))

-- the number of a magnitude
abbrev pub number_of : Bool → Bool → ℕ → ℤ
number_of turned minus n = signed turned (signed minus (pos n))

-- one more coefficient, where its slot is rational and it has at most 127 digits
abbrev pub with_term : Bool → List (Slot × ℤ) → Summand → Option (List (Slot × ℤ))
with_term turned cs t = if same_sort t.slot.sort Rat && is_short t.magnitude then Some (with_coef t.slot (number_of turned t.minus t.magnitude) cs) else None

-- the coefficients with those of the terms set; none where a slot isn't rational or a number has more than 127 digits
abbrev pub coefs_from : Bool → List (Slot × ℤ) → List Summand → Option (List (Slot × ℤ))
coefs_from turned cs [] = Some cs
coefs_from turned cs (t ∷ ts) = with_term turned cs t >>= λ ds. coefs_from turned ds ts

-- the row in normal form of these coefficients and a constant on the other side
abbrev pub row_with : RowOp → Bool → Bool → ℕ → List (Slot × ℤ) → Option LinearConstraint
row_with op turned minus n cs = if is_short n then Some (normal_row (record { coefs = cs; constant = number_of (not turned) minus n; op = op })) else None

-- the row in normal form of these terms and a constant on the other side, or none where a slot isn't rational or a
-- number is too long
abbrev pub row_of : RowOp → Bool → Bool → ℕ → List Summand → Option LinearConstraint
row_of op turned minus n ts = coefs_from turned [] ts >>= row_with op turned minus n

-- the row of these terms with the op that was read, and the constant behind it; none where no op was read
abbrev pub row_by : List Summand → Option ((RowOp × Bool) × List ℕ) → Option (LinearConstraint × List ℕ)
row_by ts None = None
row_by ts (Some c) = with_rest (integer_at c.1).2 (row_of c.0.0 c.0.1 (integer_at c.1).0 (integer_at c.1).1 ts)

-- the row of these terms with the op and the constant that stand behind them
abbrev pub row_behind : List Summand × List ℕ → Option (LinearConstraint × List ℕ)
row_behind ts = row_by ts.0 (comparison_at ts.1)

-- the row that begins with this term
abbrev pub row_at : List Column → Summand → List ℕ → Option (LinearConstraint × List ℕ)
row_at columns first bs = row_behind (terms_from columns (length bs) (first ∷ []) bs)

-- ---- text atoms

-- the text up to its closing quote; where the byte before was a quote, another one doubles it
abbrev pub unquoted : List ℕ → Bool → List ℕ → Option (List ℕ × List ℕ)
unquoted text true [] = Some (text, [])
unquoted text false [] = None
unquoted text true (b ∷ bs) = if b == 39 then unquoted (text ++ 39 ∷ []) false bs else Some (text, b ∷ bs)
unquoted text false (b ∷ bs) = if b == 39 then unquoted text true bs else unquoted (text ++ b ∷ []) false bs

-- whether it is an equality
abbrev pub equality_at : List ℕ → Option (Bool × List ℕ)
equality_at bs = one_of true (behind (codes " = ") bs) (one_of false (behind (codes " != ") bs) None)

-- the slot has the text, or where `equal` is false, doesn't have it
abbrev pub text_atom : Bool → Slot → List ℕ → ThemeAtom
text_atom equal s t = if equal then EqText s t else NeText s t

-- of two text slots, the one of lesser number first
abbrev pub slots_atom : Bool → Slot → Slot → Option ThemeAtom
slots_atom equal s t = if same_sort t.sort Text && nat_lt s.number t.number then Some (if equal then EqSlot s t else NeSlot s t) else None

-- the slot compared with a text, whose opening quote is behind
abbrev pub text_at : Bool → Slot → List ℕ → Option (ThemeAtom × List ℕ)
text_at equal s bs = unquoted [] false bs >>= λ t. Some (text_atom equal s t.0, t.1)

-- the slot compared with that of the column whose name stands at the front
abbrev pub slots_at : List Column → Bool → Slot → List ℕ → Option (ThemeAtom × List ℕ)
slots_at columns equal s bs = slot_at columns bs >>= λ t. with_rest t.1 (slots_atom equal s t.0)

-- the slot compared with a text where an opening quote stands there, else with a column
abbrev pub side_by : List Column → Slot → Bool → List ℕ → Option (List ℕ) → Option (ThemeAtom × List ℕ)
side_by columns s equal bs None = slots_at columns equal s bs
side_by columns s equal bs (Some rest) = text_at equal s rest

-- the text atom that begins with this slot
abbrev pub theme_at : List Column → Slot → List ℕ → Option (ThemeAtom × List ℕ)
theme_at columns s bs = equality_at bs >>= λ e. side_by columns s e.0 e.1 (behind (codes "'") e.1)

-- ---- tuples

-- the row that holds nowhere, where `0 < 0` stands there, and what stands behind it
abbrev pub false_at : Option (List ℕ) → Option (Atom × List ℕ)
false_at None = None
false_at (Some rest) = Some (First (constant_row false), rest)

-- the atom that begins with the term that was read, or where none was, `0 < 0`
abbrev pub atom_by : List Column → List ℕ → Option (Summand × List ℕ) → Option (Atom × List ℕ)
atom_by columns bs None = false_at (behind (codes "0 < 0") bs)
atom_by columns bs (Some t) =
    if same_sort t.0.slot.sort Text then (theme_at columns t.0.slot t.1 >>= λ a. Some (Second a.0, a.1))
    else (row_at columns t.0 t.1 >>= λ r. Some (First r.0, r.1))

-- the atom at the front, and what stands behind it
abbrev pub atom_at : List Column → List ℕ → Option (Atom × List ℕ)
atom_at columns bs = atom_by columns bs (term_at columns false bs)

-- behind what separates an atom from what stands before it
abbrev pub separated : List ℕ → Option (List ℕ)
separated bs = first_of (behind (codes ", ") bs) (behind (codes " ") bs)

-- one more atom behind a comma and a blank, or a blank alone
abbrev pub next_atom : List Column → List ℕ → Option (Atom × List ℕ)
next_atom columns bs = separated bs >>= atom_at columns

-- the atoms so far, at the closing brace and the end of the line; else these, one more, and what `more` reads behind it
abbrev pub atoms_by : List Column → (List Atom → List ℕ → Option (List Atom × List ℕ)) → List Atom → List ℕ → Option (List ℕ) → Option (List Atom × List ℕ)
atoms_by columns more atoms bs None = next_atom columns bs >>= λ a. more (atoms ++ a.0 ∷ []) a.1
atoms_by columns more atoms bs (Some rest) = Some (atoms, rest)

-- the atoms so far and those up to the closing brace and the end of the line; none where one of these can't be read or
-- k or more are left
abbrev pub atoms_from : List Column → ℕ → List Atom → List ℕ → Option (List Atom × List ℕ)
atoms_from columns zero atoms bs = None
atoms_from columns (suc k) atoms bs = atoms_by columns (atoms_from columns k) atoms bs (behind (32 ∷ 125 ∷ 10 ∷ []) bs)

-- the tuple behind its opening brace, up to the end of the line
abbrev pub tuple_at : List Column → List ℕ → Option (List Atom × List ℕ)
tuple_at columns bs = atoms_from columns (length bs) [] bs >>= λ t. Some (ordered_atoms (without_true t.0), t.1)

-- the tuples so far, and where an opening brace stands there, one more and what `more` reads behind it
abbrev pub tuples_by : List Column → (List (List Atom) → List ℕ → Option (List (List Atom))) → List (List Atom) → Option (List ℕ) → Option (List (List Atom))
tuples_by columns more tuples None = Some tuples
tuples_by columns more tuples (Some rest) = tuple_at columns rest >>= λ t. more (tuples ++ t.0 ∷ []) t.1

-- the tuples so far, and those on the next lines that begin with a brace; none where one of these can't be read or k or
-- more are left
abbrev pub tuples_from : List Column → ℕ → List (List Atom) → List ℕ → Option (List (List Atom))
tuples_from columns zero tuples bs = None
tuples_from columns (suc k) tuples bs = tuples_by columns (tuples_from columns k) tuples (behind (codes "{") bs)

-- what stands behind the first line feed, nothing where there is none
abbrev pub behind_line : List ℕ → List ℕ
behind_line [] = []
behind_line (b ∷ bs) = if b == 10 then bs else behind_line bs

-- the tuples on the lines from the front on that begin with a brace
abbrev pub tuples_at : List Column → List ℕ → Option (List (List Atom))
tuples_at columns bs = tuples_from columns (length bs) [] bs

-- the tuples of an answer, on the lines behind the first one
abbrev pub answer_at : List Column → List ℕ → Option (List (List Atom))
answer_at columns bs = tuples_at columns (behind_line bs)
