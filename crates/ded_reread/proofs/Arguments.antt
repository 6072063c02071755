-- The texts of sums are worded as the sums in lowest numbers.
use Rattle.std.proofs.Common.{◌≡◌, ℕ, ◌/◌, ◌^◌, ◌<◌, List, [], ◌∷◌, ◌++◌, refl, sym, ap, subst, ◌∙◌, arith, Bool, true, false, append-nil, bytes_eq}
use Rattle.std.specs.Prelude.{ℤ, pos, negsuc, ◌<ℤ◌, int_lt, int_div, unsigned_abs, ◌||◌, not, nat_le, nat_lt, if◌then◌else◌}
use Rattle.std.specs.List.{AllByRecursion, list_any}
use Rattle.std.specs.Ordering.{int_eq}
use Rattle.std.proofs.Math.IntN.{+ℤ_idl}
use Rattle.std.proofs.Math.Nat.{zero-div}
use Rattle.std.proofs.lemmas.Bool.{or_parts, or_from}
use Rattle.std.proofs.lemmas.Bool.Decides.{nat_tests}
use Rattle.std.proofs.lemmas.Int.{ints}
use Prim.Native.Nat.{◌∣◌}
use Rattle.ded_num.specs.Gcd.{nat_gcd, gcd_from, gcd_all}
use Rattle.ded_num.proofs.Gcds.{DividesAll, DividesAll-gcd_all, gcd_from-divides}
use Rattle.ded_model.specs.declared.formula.Operand.{Operand}
use Rattle.ded_model.specs.declared.formula.Operand.TheVariants as operand
use Rattle.ded_model.specs.LongRows.{coefficients, is_long_argument, is_nonzero}
use Rattle.ded_model.specs.LongRows as rows
use Rattle.ded_model.specs.Plain.{AreOnce, IsPlainOperand}
use Rattle.ded_model.proofs.CoefLemmas.{not_zero}
use Rattle.ded_ranges.proofs.Sums.{zero_from}
use Rattle.ded_print.proofs.Signs.{plus}
use Rattle.ded_dump.specs.Operands.{parts_text, operand_text}
use Rattle.ded_terminals.specs.Literals.{Literal, lowest, lcm_from, common, numerator_over, is_long_over, are_long_over, exact, marked}
use Rattle.ded_terminals.specs.Operands.{ParsedSide, spell_side, SignedFactor, Reading, quoted, named, parts, literals_of, signed, no_sums, total_from, as_sum, operand_over, argument_of}
use Rattle.ded_terminals.specs.Atoms.{argument}
use Rattle.ded_syntax.specs.Marks.{is_marked}
use Rattle.ded_reread.specs.Operands.{parts_by, restored_operand}
use Rattle.ded_reread.specs.Words.{HasWords}
use Rattle.ded_reread.proofs.Sums.{found_long, once_by}
use Rattle.ded_reread.specs.ScriptWords.{IsName, IsText}
use Rattle.ded_reread.proofs.Lowest.{lowest_all, lcm_append, lcm_all, common_all, numerator_is, gcd_right, gcd_with_zero}
use Rattle.ded_reread.proofs.Operands.{IsFine, IsOver, AreFine, HaveNames, parts_over, constant_part, constant_parts, sum_parts, sum_of, parts_literals, all_gcd, all_gcd_is}
use Rattle.ded_reread.proofs.Products.{IsSide, quoted_side, named_side}
use Rattle.ded_reread.proofs.SumsRead.{AreRead, total_named, total_with, no_mark}
use Rattle.ded_reread.proofs.Worded.{Worded}

-- ---- what a sum is over

pub sum_common : (M : ℕ) (k : ℤ) (cs : List (List ℕ × ℤ)) → 0 < M → common (literals_of (sum_parts M k cs)) ≡ M / all_gcd M k (coefficients cs)
sum_common M k [] some = common_all M (k ∷ []) some
sum_common M k (c ∷ cs) some =
    ap common (parts_literals M (c ∷ cs) (constant_parts M k))
    ∙ lcm_append 1 (lowest_all M (coefficients (c ∷ cs))) (literals_of (constant_parts M k))
    ∙ ap (λ (m : ℕ). lcm_from m (literals_of (constant_parts M k))) (common_all M (coefficients (c ∷ cs)) some)
    ∙ by (int_eq k (pos 0)) refl
  where
    by : (b : Bool) → int_eq k (pos 0) ≡ b → lcm_from (M / gcd_from M (coefficients (c ∷ cs))) (literals_of (if b then [] else constant_part M k ∷ [])) ≡ M / all_gcd M k (coefficients (c ∷ cs))
    by true e =
        ap (λ (g : ℕ). M / g) (sym (gcd_with_zero (gcd_from M (coefficients (c ∷ cs)))) ∙ ap (λ (z : ℤ). nat_gcd (gcd_from M (coefficients (c ∷ cs))) (unsigned_abs z)) (sym (zero_from k e)))
    by false e = lcm_all M (gcd_from M (coefficients (c ∷ cs))) (k ∷ []) some (gcd_from-divides M (coefficients (c ∷ cs))).0

-- ---- what it adds up to

signed_div : (a : ℤ) (g : ℕ) → signed (int_lt a (pos 0)) (unsigned_abs a / g) ≡ int_div a (pos g)
signed_div (pos n) g = ap (λ (b : Bool). signed b (n / g)) (plus n)
signed_div (negsuc n) g = refl

numerator_signed : (M g : ℕ) (z : ℤ) → IsOver M g → IsFine g z → signed (int_lt z (pos 0)) (numerator_over (M / g) (lowest (unsigned_abs z) M)) ≡ int_div z (pos g)
numerator_signed M g z over fine = ap (signed (int_lt z (pos 0))) (numerator_is (unsigned_abs z) M g over.some fine.divides over.divides) ∙ signed_div z g

parts_read : (M g : ℕ) (cs : List (List ℕ × ℤ)) → IsOver M g → AreFine g cs → AreRead (M / g) (parts_over M cs) (parts_by (pos g) cs)
parts_read M g [] over fine = tt
parts_read M g (c ∷ cs) over fine = (refl, numerator_signed M g c.1 over fine.0, parts_read M g cs over fine.1)

absent_by : (g : ℤ) (x : List ℕ) (cs : List (List ℕ × ℤ)) → list_any (λ d. bytes_eq x d.0) (parts_by g cs) ≡ list_any (λ d. bytes_eq x d.0) cs
absent_by g x [] = refl
absent_by g x (c ∷ cs) = ap (λ (b : Bool). bytes_eq x c.0 || b) (absent_by g x cs)

constant_total : (M g : ℕ) (k : ℤ) (cs : List (List ℕ × ℤ)) → IsOver M g → IsFine g k → AreFine g cs → AreOnce cs
    → total_from numerator_over (M / g) no_sums (parts_over M cs ++ constant_part M k ∷ []) ≡ (parts_by (pos g) cs, int_div k (pos g))
constant_total M g k cs over fine all once =
    total_with (M / g) (parts_over M cs) (parts_by (pos g) cs) (int_lt k (pos 0)) (lowest (unsigned_abs k) M) (parts_read M g cs over all) (once_by (pos g) cs once)
    ∙ ap (λ (z : ℤ). (parts_by (pos g) cs, z)) (+ℤ_idl (signed (int_lt k (pos 0)) (numerator_over (M / g) (lowest (unsigned_abs k) M))) ∙ numerator_signed M g k over fine)

pub sum_total : (M g : ℕ) (k : ℤ) (cs : List (List ℕ × ℤ)) → IsOver M g → IsFine g k → AreFine g cs → AreOnce cs → total_from numerator_over (M / g) no_sums (sum_parts M k cs) ≡ (parts_by (pos g) cs, int_div k (pos g))
sum_total M g k [] over fine all once = constant_total M g k [] over fine all once
sum_total M g k (c ∷ cs) over fine all once = by (int_eq k (pos 0)) refl
  where
    by : (b : Bool) → int_eq k (pos 0) ≡ b → total_from numerator_over (M / g) no_sums (parts_over M (c ∷ cs) ++ (if b then [] else constant_part M k ∷ [])) ≡ (parts_by (pos g) (c ∷ cs), int_div k (pos g))
    by true e =
        ap (total_from numerator_over (M / g) no_sums) (append-nil (parts_over M (c ∷ cs)))
        ∙ total_named (M / g) (parts_over M (c ∷ cs)) (parts_by (pos g) (c ∷ cs)) (parts_read M g (c ∷ cs) over all) (once_by (pos g) (c ∷ cs) once)
        ∙ ap (λ (z : ℤ). (parts_by (pos g) (c ∷ cs), z)) (ap pos (sym (zero-div g)) ∙ ap (λ (z : ℤ). int_div z (pos g)) (sym (zero_from k e)))
    by false e = constant_total M g k (c ∷ cs) over fine all once

-- ---- no mark

-- each numerator over m is below 2^63
abbrev pub AreShortOver : ℕ → List SignedFactor → Type 0
AreShortOver m = AllByRecursion (λ (p : SignedFactor). numerator_over m p.1.0 < 2 ^ 63)

pub not_long : (n : ℕ) → n < 2 ^ 63 → nat_lt (2 ^ 96) n ≡ false
not_long n h = grind (arith, nat_tests)

pub none_long : (m : ℕ) (ps : List SignedFactor) → AreShortOver m ps → list_any (is_long_over m) (literals_of ps) ≡ false
none_long m [] h = refl
none_long m (p ∷ ps) h = or_from (is_long_over m p.1.0) (list_any (is_long_over m) (literals_of ps)) (not_long (numerator_over m p.1.0) h.0) (none_long m ps h.1)

low : (m : ℕ) → m < 2 ^ 63 → nat_le (2 ^ 63) m ≡ false
low m h = grind (arith, nat_tests)

-- what short literals are over, by the marking reader
pub marked_low : (ls : List Literal) (m : ℕ) → common ls ≡ m → m < 2 ^ 63 → list_any (is_long_over m) ls ≡ false → marked.denominator ls ≡ m
marked_low ls m e h short =
    ap (λ (x : ℕ). if are_long_over x ls then 2 ^ 63 else x) e
    ∙ ap (λ (b : Bool). if b then 2 ^ 63 else m) (or_from (nat_le (2 ^ 63) m) (list_any (is_long_over m) ls) (low m h) short)

pub short_append : (m : ℕ) (ps qs : List SignedFactor) → AreShortOver m ps → AreShortOver m qs → AreShortOver m (ps ++ qs)
short_append m [] qs h k = k
short_append m (p ∷ ps) qs h k = (h.0, short_append m ps qs h.1 k)

number_short : (M g : ℕ) (z : ℤ) → IsOver M g → IsFine g z → numerator_over (M / g) (lowest (unsigned_abs z) M) < 2 ^ 63
number_short M g z over fine = subst (λ (n : ℕ). n < 2 ^ 63) (sym (numerator_is (unsigned_abs z) M g over.some fine.divides over.divides)) fine.small

parts_short : (M g : ℕ) (cs : List (List ℕ × ℤ)) → IsOver M g → AreFine g cs → AreShortOver (M / g) (parts_over M cs)
parts_short M g [] over fine = tt
parts_short M g (c ∷ cs) over fine = (number_short M g c.1 over fine.0, parts_short M g cs over fine.1)

sum_short : (M g : ℕ) (k : ℤ) (cs : List (List ℕ × ℤ)) → IsOver M g → IsFine g k → AreFine g cs → AreShortOver (M / g) (sum_parts M k cs)
sum_short M g k [] over fine all = (number_short M g k over fine, tt)
sum_short M g k (c ∷ cs) over fine all = short_append (M / g) (parts_over M (c ∷ cs)) (constant_parts M k) (parts_short M g (c ∷ cs) over all) (by (int_eq k (pos 0)))
  where
    by : (b : Bool) → AreShortOver (M / g) (if b then [] else constant_part M k ∷ [])
    by true = tt
    by false = (number_short M g k over fine, tt)

-- ---- arguments

pub record IsWordedArgument (bytes : List ℕ) (o : Operand) : Type 0 where
  pub side : ParsedSide
  pub worded : Worded bytes (spell_side side)
  pub means : argument exact side ≡ o
  pub unmarked : is_marked (argument marked side) ≡ false

argument_by : (bytes : List ℕ) (r : Reading) (o : Operand) → IsSide bytes r → argument_of exact r ≡ o → is_marked (argument_of marked r) ≡ false → IsWordedArgument bytes o
argument_by bytes r o s e f = record {
  side = s.side;
  worded = s.worded;
  means = ap (argument_of exact) s.value ∙ e;
  unmarked = ap (λ (x : Reading). is_marked (argument_of marked x)) s.value ∙ f;
}

-- a sum over M, whose numbers have the greatest common divisor g
sum_argument : (M g : ℕ) (k : ℤ) (cs : List (List ℕ × ℤ)) → all_gcd M k (coefficients cs) ≡ g → IsOver M g → IsFine g k → AreFine g cs → HaveNames cs → AreOnce cs
    → IsWordedArgument (parts_text (pos M) k cs) (operand.Sum (record { parts = parts_by (pos g) cs; constant = int_div k (pos g); over = int_div (pos M) (pos g) }))
sum_argument M g k cs is over fine all names once =
    let ps = sum_parts M k cs in
    let m : common (literals_of ps) ≡ M / g = sum_common M k cs over.some ∙ ap (λ (x : ℕ). M / x) is in
    let d : marked.denominator (literals_of ps) ≡ M / g = marked_low (literals_of ps) (M / g) m over.small (none_long (M / g) ps (sum_short M g k cs over fine all)) in
    argument_by (parts_text (pos M) k cs) (parts ps) _ (sum_of M g k cs over fine all names)
    (ap (λ (x : ℕ). operand_over exact x (parts ps)) m ∙ ap (as_sum (M / g)) (sum_total M g k cs over fine all once))
    (ap (λ (x : ℕ). is_marked (operand_over marked x (parts ps))) d ∙ no_mark (M / g) (parts ps) over.small)

-- ---- from what is not long

fine_by : (g : ℕ) (z : ℤ) → g ∣ unsigned_abs z → rows.is_long_over g z ≡ false → IsFine g z
fine_by g z d e = record { divides = d; small = below (unsigned_abs z / g) e }
  where
    below : (n : ℕ) → nat_le (2 ^ 63) n ≡ false → n < 2 ^ 63
    below n e = grind (arith, nat_tests)

fine_all : (g : ℕ) (cs : List (List ℕ × ℤ)) → DividesAll g (coefficients cs) → list_any (rows.is_long_over g) (coefficients cs) ≡ false → AreFine g cs
fine_all g [] d e = tt
fine_all g (c ∷ cs) d e = let both = or_parts (rows.is_long_over g c.1) (list_any (rows.is_long_over g) (coefficients cs)) e in (fine_by g c.1 d.0 both.0, fine_all g cs d.1 both.1)

nonzero_pos : (M : ℕ) → 0 < M → is_nonzero (pos M) ≡ true
nonzero_pos M h = ap not (not_zero (pos M) (λ e. absurd (omega (arith, ints, e, h))))

sum_worded : (M : ℕ) (k : ℤ) (cs : List (List ℕ × ℤ)) → 0 < M → HaveNames cs → AreOnce cs → is_long_argument (operand.Sum (record { parts = cs; constant = k; over = pos M })) ≡ false
    → IsWordedArgument (parts_text (pos M) k cs) (restored_operand (operand.Sum (record { parts = cs; constant = k; over = pos M })))
sum_worded M k cs some names once short =
    let zs = coefficients cs in
    let g = gcd_all (pos M ∷ k ∷ zs) in
    let turned : gcd_all (k ∷ pos M ∷ zs) ≡ g = ap (λ (x : ℕ). gcd_from x zs) (gcd_right 0 (unsigned_abs k) M) in
    let some_number : list_any is_nonzero (pos M ∷ zs) ≡ true = ap (λ (b : Bool). b || list_any is_nonzero zs) (nonzero_pos M some) in
    let none : list_any (rows.is_long_over g) (k ∷ pos M ∷ zs) ≡ false =
    ap (λ (x : ℕ). list_any (rows.is_long_over x) (k ∷ pos M ∷ zs)) (sym turned)
    ∙ found_long (list_any is_nonzero (pos M ∷ zs)) (list_any (rows.is_long_over (gcd_all (k ∷ pos M ∷ zs))) (k ∷ pos M ∷ zs)) some_number short in
    let d : DividesAll g (pos M ∷ k ∷ zs) = DividesAll-gcd_all (pos M ∷ k ∷ zs) in
    let one = or_parts (rows.is_long_over g k) (list_any (rows.is_long_over g) (pos M ∷ zs)) none in
    let two = or_parts (rows.is_long_over g (pos M)) (list_any (rows.is_long_over g) zs) one.1 in
    let over_fine : IsFine g (pos M) = fine_by g (pos M) d.0 two.0 in
    sum_argument M g k cs (sym (all_gcd_is M k zs)) (record { some = some; divides = d.0; small = over_fine.small }) (fine_by g k d.1.0 one.0) (fine_all g cs d.1.1 two.1) names once

pub operand_worded : (t : Operand) → HasWords IsName IsText t → IsPlainOperand t → is_long_argument t ≡ false → IsWordedArgument (operand_text t) (restored_operand t)
operand_worded (operand.Single x) words plain short = argument_by x (named x) (operand.Single x) (named_side x words) refl refl
operand_worded (operand.Quoted t) words plain short = argument_by _ (quoted t) (operand.Quoted t) (quoted_side t words) refl refl
operand_worded (operand.Sum t) words plain short = by t.over t.constant t.parts words plain.0 plain.1 short
  where
    by : (m k : ℤ) (cs : List (List ℕ × ℤ)) → HaveNames cs → pos 0 <ℤ m → AreOnce cs → is_long_argument (operand.Sum (record { parts = cs; constant = k; over = m })) ≡ false
        → IsWordedArgument (parts_text m k cs) (restored_operand (operand.Sum (record { parts = cs; constant = k; over = m })))
    by (pos M) k cs names some once short = sum_worded M k cs (omega (arith, ints, some)) names once short
    by (negsuc M) k cs names some once short = absurd (omega (arith, ints, some))
