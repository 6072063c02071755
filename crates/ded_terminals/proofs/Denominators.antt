-- What sums are over: at least 1, and as the reader finds it.
use Rattle.std.proofs.Common.{◌≡◌, ℕ, ◌≤◌, ◌<◌, ◌*◌, ◌/◌, Bool, true, false, ◌+◌, List, [], ◌∷◌, ◌++◌, length, drop, get_or, add-one, drop-cons, refl, sym, ap, subst, ◌∙◌, arith}
use Rattle.std.specs.Prelude.{◌^◌, ◌==◌, ◌||◌, nat_le, Option, Some, None, if◌then◌else◌}
use Rattle.std.specs.List.{AllByRecursion, list_any}
use Rattle.std.proofs.Math.Nat.{div-mul_cancel, pos_of_dvd_of_pos, mul-le-mul_left}
use Rattle.std.proofs.lemmas.Nat.{le-div}
use Rattle.std.proofs.lemmas.Nat.Gcd.{le_of_dvd}
use Rattle.std.proofs.lemmas.Bool.Decides.{nat_tests}
use Rattle.ded_num.specs.Gcd.{nat_gcd}
use Rattle.ded_num.proofs.Gcds.{IsGcd-nat_gcd}
use Rattle.ded_terminals.specs.Symbols.{number_of, decimal_power}
use Rattle.ded_terminals.specs.Literals.{Scalar, whole, quotient, decimal, Literal, literal, lcm, lcm_from, common, is_long_over, are_long_over, marked_by, marked_numerator, numerator_over, capped, capped_from}
use Rattle.ded_terminals.specs.Operands.{Product, scaled, constant, lone, ParsedSide, text, sum, Factor, factor, SignedFactor, add_factor, add_all, as_reading, single, reading_of, literals_of, literals, Sums, added, total_from}
use Rattle.ded_terminals.specs.declared.side.SignedFactor.{SignedFactor as ReadPart}
use Rattle.ded_terminals.specs.Views.{seen_literal, seen_part, seen_parts, AreSmall}
use Rattle.ded_terminals.proofs.Tests.{any_split}
use Rattle.std.proofs.lemmas.Bool.{or_parts}
use Rattle.ded_terminals.proofs.Decimals.{pow_some}

-- ---- literals

-- no denominator is 0
abbrev pub HaveDenominators : List Literal → Type 0
HaveDenominators ls = AllByRecursion (λ l. 0 < l.1) ls

-- a number divided by the greatest common divisor of it and another one
pub divided_some : (n d : ℕ) → 0 < d → 0 < d / nat_gcd n d
divided_some n d h =
    let g = IsGcd-nat_gcd n d in
    let below : 1 * nat_gcd n d ≤ d = omega (arith, le_of_dvd h g.1) in
    omega (arith, le-div 1 d (nat_gcd n d) (pos_of_dvd_of_pos g.1 h) below)

not_zero : (n : ℕ) → (n == 0) ≡ false → 0 < n
not_zero n h = grind (arith, nat_tests)

literal_some : (s : Scalar) → 0 < (literal (λ n. n) s).1
literal_some (whole d) = omega arith
literal_some (quotient d e z) = divided_some (number_of d) (number_of e) (not_zero (number_of e) z)
literal_some (decimal t) = divided_some _ (decimal_power t) (pow_some _)

factor_some : (p : Product) → 0 < (factor (λ n. n) p).0.1
factor_some (scaled s n) = literal_some s
factor_some (constant s) = literal_some s
factor_some (lone n) = omega arith

pushed : (a : List SignedFactor) (minus : Bool) (f : Factor) → HaveDenominators (literals_of a) → 0 < f.0.1 → HaveDenominators (literals_of (add_factor a minus f))
pushed [] minus f h k = (k, tt)
pushed (p ∷ ps) minus f h k = (h.0, pushed ps minus f h.1 k)

all_some : (a : List SignedFactor) (ps : List (Bool × Product)) → HaveDenominators (literals_of a) → HaveDenominators (literals_of (add_all (λ n. n) a ps))
all_some a [] h = h
all_some a (p ∷ ps) h = all_some (add_factor a p.0 (factor (λ n. n) p.1)) ps (pushed a p.0 (factor (λ n. n) p.1) h (factor_some p.1))

as_some : (o : Option (List ℕ)) (a : List SignedFactor) → HaveDenominators (literals_of a) → HaveDenominators (literals (as_reading o a))
as_some (Some n) a h = tt
as_some None a h = h

pub side_some : (s : ParsedSide) → HaveDenominators (literals (reading_of (λ n. n) s))
side_some (text t) = tt
side_some (sum minus p ps) =
    as_some (single (sum minus p ps)) (add_all (λ n. n) (add_factor [] minus (factor (λ n. n) p)) ps) (all_some (add_factor [] minus (factor (λ n. n) p)) ps (factor_some p, tt))

pub both_some : (ls ms : List Literal) → HaveDenominators ls → HaveDenominators ms → HaveDenominators (ls ++ ms)
both_some [] ms h k = k
both_some (l ∷ ls) ms h k = (h.0, both_some ls ms h.1 k)

-- ---- least common multiples

pub lcm_least : (m d : ℕ) → 0 < d → m ≤ lcm m d
lcm_least m d h =
    let g = IsGcd-nat_gcd m d in
    omega (arith, div-mul_cancel (nat_gcd m d) g.0, mul-le-mul_left (m / nat_gcd m d) (le_of_dvd h g.1))

pub lcm_from_least : (m : ℕ) (ls : List Literal) → HaveDenominators ls → m ≤ lcm_from m ls
lcm_from_least m [] h = omega arith
lcm_from_least m (l ∷ ls) h = omega (arith, lcm_least m l.1 h.0, lcm_from_least (lcm m l.1) ls h.1)

pub common_some : (ls : List Literal) → HaveDenominators ls → 0 < common ls
common_some ls h = omega (arith, lcm_from_least 1 ls h)

-- ---- as they are read

-- from the capped number or the number itself, the next is the same when it is capped
capped_lcm : (m d : ℕ) → 0 < d → capped (lcm (capped m) d) ≡ capped (lcm m d)
capped_lcm m d h = by (nat_le (2 ^ 63) m) refl
  where
    by : (b : Bool) → nat_le (2 ^ 63) m ≡ b → capped (lcm (capped m) d) ≡ capped (lcm m d)
    by true e =
        let high : 2 ^ 63 ≤ m = grind (arith, nat_tests) in
        let same : capped m ≡ 2 ^ 63 = omega (arith, high) in
        let first : 2 ^ 63 ≤ lcm (capped m) d = omega (arith, same, lcm_least (capped m) d h) in
        let second : 2 ^ 63 ≤ lcm m d = omega (arith, high, lcm_least m d h) in
        omega (arith, first, second)
    by false e =
        let same : capped m ≡ m = grind (arith, nat_tests) in
        ap (λ k. capped (lcm k d)) same

pub capped_is : (m : ℕ) (ls : List Literal) → HaveDenominators ls → capped_from (capped m) ls ≡ capped (lcm_from m ls)
capped_is m [] h = refl
capped_is m (l ∷ ls) h = ap (λ k. capped_from k ls) (capped_lcm m l.1 h.0) ∙ capped_is (lcm m l.1) ls h.1

marks_same : (m : ℕ) (ls : List Literal) → marked_by (capped m) ls ≡ marked_by m ls
marks_same m ls = by (nat_le (2 ^ 63) m) refl
  where
    by : (b : Bool) → nat_le (2 ^ 63) m ≡ b → marked_by (capped m) ls ≡ marked_by m ls
    by true e =
        let top : nat_le (2 ^ 63) (capped m) ≡ true = grind (arith, nat_tests) in
        ap (λ b. if b || list_any (is_long_over (capped m)) ls then 2 ^ 63 else capped m) top ∙ sym (ap (λ b. if b || list_any (is_long_over m) ls then 2 ^ 63 else m) e)
    by false e =
        let same : capped m ≡ m = grind (arith, nat_tests) in
        ap (λ k. marked_by k ls) same

-- the reader finds the marks of literals that are read as they are
pub denominators_same : (ls : List Literal) → HaveDenominators ls → marked_by (capped_from 1 ls) ls ≡ marked_by (common ls) ls
denominators_same ls h = ap (λ k. marked_by k ls) (capped_is 1 ls h) ∙ marks_same (common ls) ls

-- ---- two lists

pub capped_behind : (m : ℕ) (ls ms : List Literal) → capped_from m (ls ++ ms) ≡ capped_from (capped_from m ls) ms
capped_behind m [] ms = refl
capped_behind m (l ∷ ls) ms = capped_behind (capped (lcm m l.1)) ls ms

-- ---- numerators

pub small_mark : (ls : List Literal) → AreSmall (2 ^ 63) ls
small_mark [] = tt
small_mark (l ∷ ls) = (omega arith, small_mark ls)

small_one : (m : ℕ) (l : Literal) → nat_le (2 ^ 63) m ≡ false → is_long_over m l ≡ false → marked_numerator m l ≤ 2 ^ 96
small_one m l low e =
    let fits : numerator_over m l ≤ 2 ^ 96 = grind (arith, nat_tests) in
    subst (λ (b : Bool). (if b then 0 else numerator_over m l) ≤ 2 ^ 96) (sym low) fits

small_all : (m : ℕ) (ls : List Literal) → nat_le (2 ^ 63) m ≡ false → list_any (is_long_over m) ls ≡ false → AreSmall m ls
small_all m [] low e = tt
small_all m (l ∷ ls) low e = let both = or_parts _ _ e in (small_one m l low both.0, small_all m ls low both.1)

pub small_over : (m : ℕ) (ls ms : List Literal) → are_long_over m (ls ++ ms) ≡ false → AreSmall m ls × AreSmall m ms
small_over m ls ms e =
    let both = or_parts (nat_le (2 ^ 63) m) (list_any (is_long_over m) (ls ++ ms)) e in
    let parts = or_parts _ _ (sym (any_split (is_long_over m) ls ms) ∙ both.1) in
    (small_all m ls both.0 parts.0, small_all m ms both.0 parts.1)

-- ---- one part more

part_first : (ps : List ReadPart) (i : ℕ) (d : ReadPart) → i < length ps → drop i ps ≡ get_or ps i d ∷ drop (i + 1) ps
part_first ps i d lt = rw add-one (drop-cons ps i d lt)

pub total_on : (m i : ℕ) (ps : List ReadPart) (d : ReadPart) (a b : Sums) → i < length ps → b ≡ added marked_numerator m a (seen_part (get_or ps i d))
    → total_from marked_numerator m b (seen_parts (drop (i + 1) ps)) ≡ total_from marked_numerator m a (seen_parts (drop i ps))
total_on m i ps d a b lt is =
    ap (λ (c : Sums). total_from marked_numerator m c (seen_parts (drop (i + 1) ps))) is
    ∙ sym (ap (λ qs. total_from marked_numerator m a (seen_parts qs)) (part_first ps i d lt))

pub small_on : (m i : ℕ) (ps : List ReadPart) (d : ReadPart) → i < length ps → AreSmall m (literals_of (seen_parts (drop i ps)))
    → (marked_numerator m (seen_literal (get_or ps i d).factor.literal) ≤ 2 ^ 96) × AreSmall m (literals_of (seen_parts (drop (i + 1) ps)))
small_on m i ps d lt h = subst (λ qs. AreSmall m (literals_of (seen_parts qs))) (part_first ps i d lt) h
