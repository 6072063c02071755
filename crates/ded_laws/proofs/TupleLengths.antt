-- The lines of normal tuples have as many digits as the tuples' rows.
--
-- The line of a row is the row divided by a whole number, so it has no more digits. The line of a normal row is the row divided by 1 or -1,
-- so it has no fewer; and a normal row without a line has the constant 0, which has no digits.
use Rattle.std.proofs.Common.{◌≡◌, ◌≢◌, ℕ, zero, suc, ◌*◌, ◌^◌, ◌<◌, ◌≤◌, Bool, true, false, List, [], ◌∷◌, ◌++◌, map, inl, inr, arith, refl, sym, ap, ◌∙◌, subst}
use Rattle.std.specs.Prelude.{ℤ, pos, ◌*ℤ◌, int_div, unsigned_abs}
use Rattle.std.specs.List.{AllByRecursion}
use Rattle.std.proofs.lemmas.Int.{unsigned_abs-mul}
use Rattle.ded_num.specs.Length.{IsWithin, length_of}
use Rattle.ded_num.proofs.Lengths.{length_of-le, length_of_zero, within_from_length}
use Rattle.ded_num.proofs.Signs.{same_size}
use Rattle.ded_model.specs.declared.row.RowOp.{RowOp}
use Rattle.ded_model.specs.declared.row.RowOp.TheVariants.{Zero}
use Rattle.ded_model.specs.declared.slot.Slot.{Slot}
use Rattle.ded_model.specs.declared.tuple.BothAtom.TheVariants.{First, Second}
use Rattle.ded_model.specs.Coefs.{AllAbove, AreCoefs, coef_at}
use Rattle.ded_model.specs.Constraint.{LinearConstraint}
use Rattle.ded_model.specs.Lines.{Line, AreWithin, line_with, row_lines, atoms_lines, tuples_lines}
use Rattle.ded_model.specs.Normal.{coefs_over, divisor_of, normal_row, DivideWhole, IsNormalAtom, IsNormalTuple}
use Rattle.ded_model.specs.Point.{same_slot}
use Rattle.ded_model.specs.Row.{Atom}
use Rattle.ded_model.specs.Width.{greatest_length, row_length, tuple_length, tuples_length}
use Rattle.ded_model.proofs.CoefLists.{coef_within}
use Rattle.ded_model.proofs.CoefLemmas.{coef_at-here, coef_at-past, coef_at-above}
use Rattle.ded_model.proofs.Divisors.{abs_divisor, divisor-whole, divisor-whole_constant}
use Rattle.ded_model.proofs.LineLengths.{zero_within, some_abs, line_with-within}
use Rattle.ded_model.proofs.Members.{In-left, In-right, In-split}
use Rattle.ded_model.proofs.Points.{same_slot_is, same_slot_refl}

-- ---- what a normal row is divided by

-- the number of the first coefficient
first_number : List (Slot × ℤ) → ℤ
first_number [] = pos 0
first_number (c ∷ cs) = c.1

one_factor : (a x : ℕ) → 0 < x → a * x ≡ x → a ≡ 1
one_factor zero x h e = absurd (omega (arith, h, e))
one_factor (suc zero) x h e = refl
one_factor (suc (suc a)) x h e = absurd (omega (arith, h, e))

-- what leaves a number that is not 0 as it is has the magnitude 1
one_size : (d z : ℤ) → z ≢ pos 0 → d *ℤ z ≡ z → unsigned_abs d ≡ 1
one_size d z n e = one_factor (unsigned_abs d) (unsigned_abs z) (some_abs z n) (sym (unsigned_abs-mul d z) ∙ ap unsigned_abs e)

-- the line of a normal row is divided by 1 or by -1
line_divisor : (op : RowOp) (constant : ℤ) (c : Slot × ℤ) (cs : List (Slot × ℤ)) → c.1 ≢ pos 0
    → normal_row (record { coefs = c ∷ cs; constant = constant; op = op }) ≡ record { coefs = c ∷ cs; constant = constant; op = op } → unsigned_abs (divisor_of Zero constant (c ∷ cs)) ≡ 1
unfolding normal_row first_number
line_divisor op constant c cs n e =
    let d = divisor_of op constant (c ∷ cs) in
    let same : int_div c.1 d ≡ c.1 = ap (λ (r : LinearConstraint). first_number r.coefs) e in
    abs_divisor Zero c.1 _ ∙ sym (abs_divisor op c.1 _) ∙ one_size d c.1 n (subst (λ x. d *ℤ x ≡ c.1) same (divisor-whole op constant (c ∷ cs)).0)

-- ---- rows have no more digits than their lines

-- where the quotients of coefficients by 1 or -1 are short, so are the coefficients
coefs_length : (d : ℤ) (cs : List (Slot × ℤ)) (k : ℕ) → unsigned_abs d ≡ 1 → AreCoefs cs → DivideWhole d cs → ((t : Slot) → IsWithin k (coef_at (coefs_over d cs) t)) → greatest_length (map (λ c. c.1) cs) ≤ k
coefs_length d [] k one a w h = omega arith
coefs_length d (c ∷ cs) k one a w h =
    let quotient : IsWithin k (int_div c.1 d) = subst (IsWithin k) (coef_at-here c.0 (c.0, int_div c.1 d) (coefs_over d cs) (same_slot_refl c.0) (above c.0.number cs a.3)) (h c.0) in
    let first : length_of c.1 ≤ k = length_of-le c.1 k (subst (λ m. m < 2 ^ k) (same_size d (int_div c.1 d) c.1 one w.0) quotient) in
    let rest = coefs_length d cs k one a.4 w.1 (λ t. later t (same_slot c.0 t) refl) in omega (arith, first, rest)
  where
    above : (n : ℕ) (cs : List (Slot × ℤ)) → AllAbove n cs → AllAbove n (coefs_over d cs)
    above n [] x = tt
    above n (c ∷ cs) x = (x.0, above n cs x.1)

    later : (t : Slot) (b : Bool) → same_slot c.0 t ≡ b → IsWithin k (coef_at (coefs_over d cs) t)
    later t true e = subst (IsWithin k) (sym (coef_at-above t (coefs_over d cs) (subst (λ (u : Slot). AllAbove u.number (coefs_over d cs)) (same_slot_is c.0 t e) (above c.0.number cs a.3)))) (zero_within k)
    later t false e = subst (IsWithin k) (coef_at-past t (c.0, int_div c.1 d) (coefs_over d cs) e) (h t)

-- a normal row is as short as its line
row_short : (k : ℕ) (op : RowOp) (constant : ℤ) (cs : List (Slot × ℤ)) → AreCoefs cs → normal_row (record { coefs = cs; constant = constant; op = op }) ≡ record { coefs = cs; constant = constant; op = op }
    → AreWithin k (line_with cs constant) → row_length (record { coefs = cs; constant = constant; op = op }) ≤ k
unfolding normal_row
row_short k op constant [] a e w =
    let none : 0 ≡ length_of constant = length_of_zero constant (ap (λ (r : LinearConstraint). unsigned_abs r.constant) (sym e)) in omega (arith, none)
row_short k op constant (c ∷ cs) a e w =
    let d = divisor_of Zero constant (c ∷ cs) in
    let one : unsigned_abs d ≡ 1 = line_divisor op constant c cs a.2 e in
    let line = w (normal_row (record { coefs = c ∷ cs; constant = constant; op = Zero })) (inl refl) in
    let coefs = coefs_length d (c ∷ cs) k one a (divisor-whole Zero constant (c ∷ cs)) line.coefs in
    let last : length_of constant ≤ k = length_of-le constant k (subst (λ m. m < 2 ^ k) (same_size d (int_div constant d) constant one (divisor-whole_constant Zero constant c cs)) line.constant) in
    omega (arith, coefs, last)

-- and normal atoms, in whatever order, as short as their lines
pub atoms_short : (t : List Atom) (k : ℕ) → AllByRecursion IsNormalAtom t → AreWithin k (atoms_lines t) → tuple_length t ≤ k
atoms_short [] k n w = omega arith
atoms_short (First r ∷ t) k n w =
    let row : row_length r ≤ k = row_short k r.op r.constant r.coefs n.0.0 n.0.1.normal (λ l i. w l (In-left l (row_lines r) (atoms_lines t) i)) in
    let rest = atoms_short t k n.1 (λ l i. w l (In-right l (row_lines r) (atoms_lines t) i)) in omega (arith, row, rest)
atoms_short (Second a ∷ t) k n w = atoms_short t k n.1 w

-- a normal tuple is one of normal atoms
pub normal_atoms : (t : List Atom) → IsNormalTuple t → AllByRecursion IsNormalAtom t
normal_atoms [] n = tt
normal_atoms (a ∷ t) n = (n.0, normal_atoms t n.2)

-- and normal tuples
pub tuples_short : (ts : List (List Atom)) (b : ℕ) → AllByRecursion IsNormalTuple ts → AreWithin b (tuples_lines ts) → tuples_length ts ≤ b
tuples_short [] b n w = omega arith
tuples_short (t ∷ ts) b n w =
    let first : tuple_length t ≤ b = atoms_short t b (normal_atoms t n.0) (λ l i. w l (In-left l (atoms_lines t) (tuples_lines ts) i)) in
    let rest : tuples_length ts ≤ b = tuples_short ts b n.1 (λ l i. w l (In-right l (atoms_lines t) (tuples_lines ts) i)) in omega (arith, first, rest)

-- ---- lines have no more digits than their rows

-- the line of a row
row_within : (r : LinearConstraint) (b : ℕ) → AreCoefs r.coefs → row_length r ≤ b → AreWithin b (row_lines r)
row_within r b c h = line_with-within r.coefs r.constant b (λ t. coef_within r.coefs t b c (omega (arith, h))) (within_from_length r.constant b (omega (arith, h)))

-- those of two lists
both_within : (b : ℕ) (xs ys : List Line) → AreWithin b xs → AreWithin b ys → AreWithin b (xs ++ ys)
both_within b xs ys h k l i = elim (In-split l xs ys i) [ inl j ↦ h l j | inr j ↦ k l j ]

-- those of normal atoms, in whatever order
pub atoms_within : (t : List Atom) (b : ℕ) → AllByRecursion IsNormalAtom t → tuple_length t ≤ b → AreWithin b (atoms_lines t)
atoms_within [] b n h = λ l i. absurd i
atoms_within (First r ∷ t) b n h = both_within b (row_lines r) (atoms_lines t) (row_within r b n.0.0 (omega (arith, h))) (atoms_within t b n.1 (omega (arith, h)))
atoms_within (Second a ∷ t) b n h = atoms_within t b n.1 h

-- those of normal tuples
pub tuples_within : (ts : List (List Atom)) (b : ℕ) → AllByRecursion IsNormalTuple ts → tuples_length ts ≤ b → AreWithin b (tuples_lines ts)
tuples_within [] b n h = λ l i. absurd i
tuples_within (t ∷ ts) b n h =
    both_within b (atoms_lines t) (tuples_lines ts) (atoms_within t b (normal_atoms t n.0) (omega (arith, h))) (tuples_within ts b n.1 (omega (arith, h)))
