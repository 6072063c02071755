-- Normal rows that aren't long: their numbers are below 2^63, and what is printed of them is worded as what is read back.
use Rattle.std.proofs.Common.{◌≡◌, ◌≢◌, ℕ, zero, suc, ◌*◌, ◌/◌, ◌^◌, ◌<◌, List, [], ◌∷◌, ◌++◌, map, refl, sym, ap, ap₂, subst, ◌∙◌, arith, Bool, true, false, append_assoc, append-nil, bytes_eq}
use Rattle.std.specs.Prelude.{ℤ, pos, negsuc, ◌*ℤ◌, ◌-ℤ◌, int_lt, int_div, unsigned_abs, ◌||◌, ◌&&◌, not, nat_le, if◌then◌else◌}
use lib.IntN.{neg_ℤ}
use Rattle.std.specs.List.{AllByRecursion, list_any}
use Rattle.std.specs.Ordering.{int_eq}
use Rattle.std.proofs.lemmas.Bool.{or_parts}
use Rattle.std.proofs.lemmas.Bool.Decides.{nat_tests, Decides-int_eq}
use Rattle.std.proofs.lemmas.Int.{ints, unsigned_abs-mul}
use Rattle.ded_num.specs.Gcd.{nat_gcd, gcd_from, gcd_all}
use Rattle.ded_num.proofs.Signs.{unsigned_abs-neg}
use Rattle.ded_model.specs.declared.formula.CompareOp.{CompareOp}
use Rattle.ded_model.specs.declared.formula.Operand.{Operand}
use Rattle.ded_model.specs.declared.formula.Operand.TheVariants.{Single}
use Rattle.ded_model.specs.declared.row.RowOp.{RowOp}
use Rattle.ded_model.specs.declared.slot.Slot.{Slot}
use Rattle.ded_model.specs.Constraint.{LinearConstraint}
use Rattle.ded_model.specs.Form.{compare}
use Rattle.ded_model.specs.LongRows.{parts_over, constant_of, coefficient, differences_over, row_coefs_over, denominator_of, is_nonzero, is_long_over, is_long_row, is_quoted, is_long_comparison, coefficients}
use Rattle.ded_model.specs.Normal.{IsNormalRow, normal_row, divisor_for}
use Rattle.ded_model.specs.Plain.{AreOnce, IsPlainOperand}
use Rattle.ded_model.proofs.Bools.{bytes_eq-refl}
use Rattle.ded_model.proofs.CoefLemmas.{not_zero}
use Rattle.ded_model.proofs.Divisors.{abs_divisor, divisor-whole}
use Rattle.ded_model.proofs.LineLengths.{some_abs}
use Rattle.ded_print.specs.Numbers.{integer_text}
use Rattle.ded_print.specs.Tuples.{Names, term_text, later_terms_text, signed}
use Rattle.ded_print.proofs.Signs.{turned_abs}
use Rattle.ded_print.proofs.Shared.{first_plus}
use Rattle.ded_dump.specs.Comparisons.{compare_text}
use Rattle.ded_reread.specs.Operands.{whole_sum, terms_of, left_of, right_of}
use Rattle.ded_reread.specs.Words.{HasWords}
use Rattle.ded_reread.specs.ScriptWords.{IsName, IsText}
use Rattle.ded_reread.proofs.Operands.{HaveNames}
use Rattle.ded_reread.proofs.Sides.{AreSmall, left_side, constant_side, whole_comparison}
use Rattle.ded_reread.proofs.WordedAtoms.{IsWordedComparison}
use Rattle.ded_reread.proofs.Rows.{minus_none}
use Rattle.ded_reread.proofs.Sums.{found_long}

-- ---- the greatest common divisor of a normal row

one_by : (g n : ℕ) → g * n ≡ n → 0 < n → g ≡ 1
one_by zero n e h = absurd (omega (arith, e, h))
one_by (suc zero) n e h = refl
one_by (suc (suc g)) n e h = absurd (omega (arith, e, h))

-- a number that stays when it is divided by k
stays_one : (g : ℕ) (k z : ℤ) → unsigned_abs k ≡ g → k *ℤ int_div z k ≡ z → int_div z k ≡ z → z ≢ pos 0 → g ≡ 1
stays_one g k z a w e h =
    let f : k *ℤ z ≡ z = ap (λ (x : ℤ). k *ℤ x) (sym e) ∙ w in
    let m : g * unsigned_abs z ≡ unsigned_abs z = ap (λ (x : ℕ). x * unsigned_abs z) (sym a) ∙ sym (unsigned_abs-mul k z) ∙ ap unsigned_abs f in
    one_by g (unsigned_abs z) m (some_abs z h)

abbrev first_number : List (Slot × ℤ) → ℤ
first_number [] = pos 0
first_number (c ∷ cs) = c.1

abbrev row : List (Slot × ℤ) → ℤ → RowOp → LinearConstraint
row cs m op = record { coefs = cs; constant = m; op = op }

normal_one : (op : RowOp) (m : ℤ) (c : Slot × ℤ) (cs : List (Slot × ℤ)) → c.1 ≢ pos 0 → IsNormalRow (row (c ∷ cs) m op) → gcd_all (m ∷ map (λ d. d.1) (c ∷ cs)) ≡ 1
unfolding normal_row
normal_one op m c cs h k =
    let g = gcd_all (m ∷ map (λ d. d.1) (c ∷ cs)) in
    stays_one g (divisor_for op c.1 g) c.1 (abs_divisor op c.1 g) (divisor-whole op m (c ∷ cs)).0 (ap (λ (r : LinearConstraint). first_number r.coefs) k.normal) h

-- ---- the row of its comparison

record IsLeft (l : Operand) (ts : List (List ℕ × ℤ)) : Type 0 where
  parts : parts_over (pos 1) l ≡ ts
  constant : constant_of l ≡ pos 0
  over : (k : ℤ) → denominator_of l (whole_sum [] k) ≡ pos 1
  plain : is_quoted l ≡ false

left_is : (ts : List (List ℕ × ℤ)) → IsLeft (left_of ts) ts
left_is [] = record { parts = refl; constant = refl; over = λ k. refl; plain = refl }
left_is (p ∷ []) = by (int_eq p.1 (pos 1)) refl
  where
    by : (b : Bool) → int_eq p.1 (pos 1) ≡ b → IsLeft (if b then Single p.0 else whole_sum (p ∷ []) (pos 0)) (p ∷ [])
    by true e = record { parts = ap (λ (z : ℤ). (p.0, z) ∷ []) (sym ((Decides-int_eq p.1 (pos 1)).0 e)); constant = refl; over = λ k. refl; plain = refl }
    by false e = record { parts = refl; constant = refl; over = λ k. refl; plain = refl }
left_is (p ∷ q ∷ ps) = record { parts = refl; constant = refl; over = λ k. refl; plain = refl }

abbrev HaveCoefficients : List (List ℕ × ℤ) → List (List ℕ × ℤ) → Type 0
HaveCoefficients ts = AllByRecursion (λ (p : List ℕ × ℤ). coefficient ts p.0 ≡ p.1)

have_more : (c : List ℕ × ℤ) (cs xs : List (List ℕ × ℤ)) → list_any (λ d. bytes_eq c.0 d.0) xs ≡ false → HaveCoefficients cs xs → HaveCoefficients (c ∷ cs) xs
have_more c cs [] e h = tt
have_more c cs (x ∷ xs) e h =
    let both = or_parts (bytes_eq c.0 x.0) (list_any (λ d. bytes_eq c.0 d.0) xs) e in
    (ap (λ (b : Bool). if b then c.1 else coefficient cs x.0) both.0 ∙ h.0, have_more c cs xs both.1 h.1)

have_each : (ts : List (List ℕ × ℤ)) → AreOnce ts → HaveCoefficients ts ts
have_each [] h = tt
have_each (c ∷ cs) h = (ap (λ (b : Bool). if b then c.1 else coefficient cs c.0) (bytes_eq-refl c.0), have_more c cs cs h.0 (have_each cs h.1))

differences_are : (l r : Operand) (ts xs : List (List ℕ × ℤ)) → parts_over (pos 1) l ≡ ts → parts_over (pos 1) r ≡ [] → HaveCoefficients ts xs → differences_over (pos 1) l r xs ≡ coefficients xs
differences_are l r ts [] e f h = refl
differences_are l r ts (x ∷ xs) e f h =
    ap₂ (λ (z : ℤ) (zs : List ℤ). z ∷ zs)
    (ap₂ (λ (a b : List (List ℕ × ℤ)). coefficient a x.0 -ℤ coefficient b x.0) e f ∙ minus_none (coefficient ts x.0) ∙ h.0)
    (differences_are l r ts xs e f h.1)

row_is : (l : Operand) (ts : List (List ℕ × ℤ)) (k : ℤ) → IsLeft l ts → AreOnce ts → is_long_comparison l (whole_sum [] k) ≡ is_long_row (coefficients ts) (pos 0 -ℤ k)
row_is l ts k left once =
    let r = whole_sum [] k in
    ap (λ (b : Bool). (not b && not false) && is_long_row (row_coefs_over (denominator_of l r) l r) (constant_of l -ℤ k)) left.plain
    ∙ ap (λ (m : ℤ). is_long_row (row_coefs_over m l r) (constant_of l -ℤ k)) (left.over k)
    ∙ ap (λ (z : ℤ). is_long_row (row_coefs_over (pos 1) l r) (z -ℤ k)) left.constant
    ∙ ap (λ (zs : List ℤ). is_long_row zs (pos 0 -ℤ k))
    (ap (λ (xs : List (List ℕ × ℤ)). differences_over (pos 1) l r xs ++ []) left.parts
    ∙ append-nil (differences_over (pos 1) l r ts)
    ∙ differences_are l r ts ts left.parts refl (have_each ts once))

-- ---- numbers below 2^63

terms_gcd : (names : Names) (turned : Bool) (g : ℕ) (cs : List (Slot × ℤ)) → gcd_from g (coefficients (terms_of names turned cs)) ≡ gcd_from g (map (λ d. d.1) cs)
terms_gcd names turned g [] = refl
terms_gcd names turned g (c ∷ cs) = ap (λ (n : ℕ). gcd_from (nat_gcd g n) (coefficients (terms_of names turned cs))) (turned_abs turned c.1) ∙ terms_gcd names turned (nat_gcd g (unsigned_abs c.1)) cs

minus_abs : (z : ℤ) → unsigned_abs (pos 0 -ℤ z) ≡ unsigned_abs z
minus_abs z = omega (arith, ints)

zero_abs : (z : ℤ) → unsigned_abs z ≡ 0 → z ≡ pos 0
zero_abs (pos n) e = ap pos e
zero_abs (negsuc n) e = absurd (omega (arith, e))

nonzero_turned : (turned : Bool) (z : ℤ) → z ≢ pos 0 → is_nonzero (signed turned z) ≡ true
nonzero_turned turned z h = ap not (not_zero (signed turned z) (λ e. h (zero_abs z (sym (turned_abs turned z) ∙ ap unsigned_abs e))))

small_one : (z : ℤ) → is_long_over 1 z ≡ false → unsigned_abs z < 2 ^ 63
small_one z e = below (unsigned_abs z) e
  where
    below : (n : ℕ) → nat_le (2 ^ 63) (n / 1) ≡ false → n < 2 ^ 63
    below n e = let one : n / 1 ≡ n = omega arith in low n (ap (nat_le (2 ^ 63)) (sym one) ∙ e)
      where
        low : (n : ℕ) → nat_le (2 ^ 63) n ≡ false → n < 2 ^ 63
        low n e = grind (arith, nat_tests)

small_all : (ts : List (List ℕ × ℤ)) → list_any (is_long_over 1) (coefficients ts) ≡ false → AreSmall ts
small_all [] e = tt
small_all (c ∷ cs) e = let both = or_parts (is_long_over 1 c.1) (list_any (is_long_over 1) (coefficients cs)) e in (small_one c.1 both.0, small_all cs both.1)

small_row : (names : Names) (turned : Bool) (op : RowOp) (m : ℤ) (c : Slot × ℤ) (cs : List (Slot × ℤ)) → c.1 ≢ pos 0 → IsNormalRow (row (c ∷ cs) m op) → AreOnce (terms_of names turned (c ∷ cs))
    → is_long_comparison (left_of (terms_of names turned (c ∷ cs))) (right_of turned m) ≡ false → AreSmall (terms_of names turned (c ∷ cs)) × (unsigned_abs (neg_ℤ (signed turned m)) < 2 ^ 63)
small_row names turned op m c cs h normal once short =
    let ts = terms_of names turned (c ∷ cs) in
    let zs = coefficients ts in
    let k = neg_ℤ (signed turned m) in
    let z = pos 0 -ℤ k in
    let same : unsigned_abs z ≡ unsigned_abs m = minus_abs k ∙ unsigned_abs-neg (signed turned m) ∙ turned_abs turned m in
    let one : gcd_all (z ∷ zs) ≡ 1 =
    ap (λ (n : ℕ). gcd_from (nat_gcd 0 n) zs) same ∙ terms_gcd names turned (nat_gcd 0 (unsigned_abs m)) (c ∷ cs) ∙ normal_one op m c cs h normal in
    let some : list_any is_nonzero zs ≡ true = ap (λ (b : Bool). b || list_any is_nonzero (coefficients (terms_of names turned cs))) (nonzero_turned turned c.1 h) in
    let none : list_any (is_long_over 1) (z ∷ zs) ≡ false =
    ap (λ (g : ℕ). list_any (is_long_over g) (z ∷ zs)) (sym one)
    ∙ found_long (list_any is_nonzero zs) (list_any (is_long_over (gcd_all (z ∷ zs))) (z ∷ zs)) some (sym (row_is (left_of ts) ts k (left_is ts) once) ∙ short) in
    let both = or_parts (is_long_over 1 z) (list_any (is_long_over 1) zs) none in
    (small_all ts both.1, subst (λ (n : ℕ). n < 2 ^ 63) (minus_abs k) (small_one z both.0))

-- ---- its text

left_words : (ts : List (List ℕ × ℤ)) → HasWords IsName IsText (left_of ts) → HaveNames ts
left_words [] h = tt
left_words (p ∷ []) h = (by (int_eq p.1 (pos 1)) h, tt)
  where
    by : (b : Bool) → HasWords IsName IsText (if b then Single p.0 else whole_sum (p ∷ []) (pos 0)) → IsName p.0
    by true h = h
    by false h = h.0
left_words (p ∷ q ∷ ps) h = h

left_once : (ts : List (List ℕ × ℤ)) → IsPlainOperand (left_of ts) → AreOnce ts
left_once [] h = tt
left_once (p ∷ []) h = (refl, tt)
left_once (p ∷ q ∷ ps) h = h.1

pub row_worded : (names : Names) (op : RowOp) (m : ℤ) (c : Slot × ℤ) (cs : List (Slot × ℤ)) (o : CompareOp) → c.1 ≢ pos 0 → IsNormalRow (row (c ∷ cs) m op)
    → HasWords IsName IsText (left_of (terms_of names (int_lt c.1 (pos 0)) (c ∷ cs))) → IsPlainOperand (left_of (terms_of names (int_lt c.1 (pos 0)) (c ∷ cs)))
    → is_long_comparison (left_of (terms_of names (int_lt c.1 (pos 0)) (c ∷ cs))) (right_of (int_lt c.1 (pos 0)) m) ≡ false
    → IsWordedComparison (term_text names c.0 (signed (int_lt c.1 (pos 0)) c.1) ++ (later_terms_text names (int_lt c.1 (pos 0)) cs ++ (compare_text o ++ integer_text (neg_ℤ (signed (int_lt c.1 (pos 0)) m)))))
    (compare (left_of (terms_of names (int_lt c.1 (pos 0)) (c ∷ cs))) o (right_of (int_lt c.1 (pos 0)) m))
row_worded names op m c cs o h normal words plain short =
    let turned = int_lt c.1 (pos 0) in
    let ts = terms_of names turned (c ∷ cs) in
    let k = neg_ℤ (signed turned m) in
    let once = left_once ts plain in
    let small = small_row names turned op m c cs h normal once short in
    subst (λ (t : List ℕ). IsWordedComparison t (compare (left_of ts) o (right_of turned m)))
    (append_assoc (term_text names c.0 (signed turned c.1)) (later_terms_text names turned cs) (compare_text o ++ integer_text k))
    (whole_comparison (term_text names c.0 (signed turned c.1) ++ later_terms_text names turned cs) (integer_text k) o (left_of ts) (whole_sum [] k)
    (left_side names turned c cs (first_plus c.1) (left_words ts words) small.0 once) (constant_side k small.1))
