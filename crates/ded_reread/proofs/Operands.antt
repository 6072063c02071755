-- The texts of arguments are worded as what is read back of them.
use Rattle.std.proofs.Common.{◌≡◌, ℕ, zero, suc, ◌/◌, ◌^◌, ◌<◌, ◌≤◌, List, [], ◌∷◌, ◌++◌, refl, sym, ap, subst, ◌∙◌, arith, Bool, true, false, append_assoc, append-nil}
use Rattle.std.specs.Prelude.{ℤ, pos, negsuc, int_lt, unsigned_abs, ◌==◌, Some, None, if◌then◌else◌}
use lib.IntN.{neg_ℤ}
use Rattle.std.specs.List.{AllByRecursion}
use Rattle.std.specs.Ordering.{int_eq}
use Rattle.std.proofs.Math.Nat.{div-mul_cancel, div-mul-le_self, mul-le-mul_left, pos_of_dvd_of_pos}
use Rattle.std.proofs.lemmas.Nat.{le-div}
use Rattle.std.proofs.lemmas.Nat.Gcd.{le_of_dvd}
use Prim.Native.Nat.{◌∣◌}
use Rattle.ded_num.specs.Gcd.{nat_gcd, gcd_from, gcd_all}
use Rattle.ded_num.proofs.Gcds.{IsGcd-nat_gcd}
use Rattle.ded_model.specs.LongRows.{coefficients}
use Rattle.ded_linear.proofs.Roots.{gcd_of_zero}
use Rattle.ded_print.specs.Numbers.{number_text, lowest_text}
use Rattle.ded_print.specs.Tuples as turned
use Rattle.ded_print.proofs.Signs.{plus}
use Rattle.ded_dump.specs.Operands.{number_over, magnitude, later_products_text, later_constant_text, parts_text}
use Rattle.ded_terminals.specs.Literals.{Literal, lowest}
use Rattle.ded_terminals.specs.Operands.{SignedFactor, parts, literals_of}
use Rattle.ded_reread.specs.ScriptWords.{IsName}
use Rattle.ded_reread.proofs.Lowest.{factor_pos, lowest_all, gcd_last, lowest_apart}
use Rattle.ded_reread.proofs.Products.{sign_codes, dash_codes, IsNumeral, numeral_by, IsMultiple, any_product, scaled_product, constant_product, AreMore, no_more, one_more, IsSide, sum_side}

-- ---- numbers over M

-- a number of a sum over M, divided by g
pub record IsFine (g : ℕ) (z : ℤ) : Type 0 where
  pub divides : g ∣ unsigned_abs z
  pub small : unsigned_abs z / g < 2 ^ 63

pub record IsOver (M g : ℕ) : Type 0 where
  pub some : 0 < M
  pub divides : g ∣ M
  pub small : M / g < 2 ^ 63

abbrev pub magnitude_text : ℕ → ℕ → List ℕ
magnitude_text A M = if M / nat_gcd A M == 1 then number_text (A / nat_gcd A M) else number_text (A / nat_gcd A M) ++ (47 ∷ number_text (M / nat_gcd A M))

less_by : (A g h : ℕ) → 0 < g → g ≤ h → A / h ≤ A / g
less_by A g h some le = le-div (A / h) A g some (omega (arith, div-mul-le_self A h, mul-le-mul_left (A / h) le))

numeral_of : (M g : ℕ) (z : ℤ) → IsOver M g → IsFine g z → IsNumeral (magnitude_text (unsigned_abs z) M) (lowest (unsigned_abs z) M)
numeral_of M g z over fine =
    let A : ℕ = unsigned_abs z in
    let h : ℕ = nat_gcd A M in
    let is = IsGcd-nat_gcd A M in
    let someg : 0 < g = pos_of_dvd_of_pos over.divides over.some in
    let someh : 0 < h = pos_of_dvd_of_pos is.1 over.some in
    let le : g ≤ h = le_of_dvd someh (is.2 g fine.divides over.divides) in
    numeral_by (A / h) (M / h) (M / h == 1) refl (factor_pos (M / h) h M (div-mul_cancel h is.1) over.some) (lowest_apart A M over.some)
    (omega (arith, less_by A g h someg le, fine.small)) (omega (arith, less_by M g h someg le, over.small))

neg_text : (k d : ℕ) → 0 < k → lowest_text (neg_ℤ (pos k)) (pos d) ≡ 45 ∷ (if d == 1 then number_text k else number_text k ++ (47 ∷ number_text d))
neg_text zero d h = absurd (omega (arith, h))
neg_text (suc k) d h = by (d == 1)
  where
    by : (b : Bool) → (if b then 45 ∷ number_text (suc k) else (45 ∷ number_text (suc k)) ++ (47 ∷ number_text d)) ≡ 45 ∷ (if b then number_text (suc k) else number_text (suc k) ++ (47 ∷ number_text d))
    by true = refl
    by false = refl

-- the sign and the magnitude
pub first_text : (M : ℕ) (a : ℤ) → number_over (pos M) a ≡ dash_codes (int_lt a (pos 0)) ++ magnitude_text (unsigned_abs a) M
first_text M (pos n) = ap (λ (b : Bool). dash_codes b ++ magnitude_text n M) (sym (plus n))
first_text M (negsuc n) =
    let g : ℕ = nat_gcd (suc n) M in
    neg_text (suc n / g) (M / g) (factor_pos (suc n / g) g (suc n) (div-mul_cancel g (IsGcd-nat_gcd (suc n) M).0) (omega arith))

-- the magnitude alone
magnitude_is : (a : ℤ) → magnitude a ≡ pos (unsigned_abs a)
magnitude_is (pos n) = ap (λ (b : Bool). turned.signed b (pos n)) (plus n)
magnitude_is (negsuc n) = refl

pub later_text : (M : ℕ) (a : ℤ) → number_over (pos M) (magnitude a) ≡ magnitude_text (unsigned_abs a) M
later_text M a = ap (number_over (pos M)) (magnitude_is a)

-- ---- the parts of a sum

abbrev pub part_over : ℕ → List ℕ × ℤ → SignedFactor
part_over M c = (int_lt c.1 (pos 0), (lowest (unsigned_abs c.1) M, Some c.0))

abbrev pub parts_over : ℕ → List (List ℕ × ℤ) → List SignedFactor
parts_over M [] = []
parts_over M (c ∷ cs) = part_over M c ∷ parts_over M cs

abbrev pub constant_part : ℕ → ℤ → SignedFactor
constant_part M k = (int_lt k (pos 0), (lowest (unsigned_abs k) M, None))

abbrev pub constant_parts : ℕ → ℤ → List SignedFactor
constant_parts M k = if int_eq k (pos 0) then [] else constant_part M k ∷ []

abbrev pub HaveNames : List (List ℕ × ℤ) → Type 0
HaveNames = AllByRecursion (λ (c : List ℕ × ℤ). IsName c.0)

abbrev pub AreFine : ℕ → List (List ℕ × ℤ) → Type 0
AreFine g = AllByRecursion (λ (c : List ℕ × ℤ). IsFine g c.1)

multiple_of : (M g : ℕ) (c : List ℕ × ℤ) → IsOver M g → IsFine g c.1 → IsName c.0 → IsMultiple (magnitude_text (unsigned_abs c.1) M ++ (42 ∷ c.0)) (lowest (unsigned_abs c.1) M, Some c.0)
multiple_of M g c over fine n = scaled_product (magnitude_text (unsigned_abs c.1) M) c.0 (lowest (unsigned_abs c.1) M) (numeral_of M g c.1 over fine) n

later_more : (M g : ℕ) (cs : List (List ℕ × ℤ)) (rest : List ℕ) (ps : List SignedFactor) → IsOver M g → AreFine g cs → HaveNames cs → AreMore rest ps → AreMore (later_products_text (pos M) cs ++ rest) (parts_over M cs ++ ps)
later_more M g [] rest ps over fine names m = m
later_more M g (c ∷ cs) rest ps over fine names m =
    let minus = int_lt c.1 (pos 0) in
    let p = magnitude_text (unsigned_abs c.1) M ++ (42 ∷ c.0) in
    let more = later_products_text (pos M) cs in
    let e : later_products_text (pos M) (c ∷ cs) ++ rest ≡ sign_codes minus ++ (p ++ (more ++ rest)) =
    ap (λ (t : List ℕ). ((sign_codes minus ++ (t ++ (42 ∷ c.0))) ++ more) ++ rest) (later_text M c.1)
    ∙ append_assoc (sign_codes minus ++ p) more rest
    ∙ append_assoc (sign_codes minus) p (more ++ rest) in
    subst (λ (t : List ℕ). AreMore t (parts_over M (c ∷ cs) ++ ps)) (sym e)
    (one_more minus p (more ++ rest) (lowest (unsigned_abs c.1) M, Some c.0) (parts_over M cs ++ ps) (any_product p _ (multiple_of M g c over fine.0 names.0)) (later_more M g cs rest ps over fine.1 names.1 m))

constant_more : (M g : ℕ) (k : ℤ) → IsOver M g → IsFine g k → AreMore (later_constant_text (pos M) k) (constant_parts M k)
constant_more M g k over fine = by (int_eq k (pos 0))
  where
    some : AreMore (sign_codes (int_lt k (pos 0)) ++ number_over (pos M) (magnitude k)) (constant_part M k ∷ [])
    some =
        subst (λ (t : List ℕ). AreMore (sign_codes (int_lt k (pos 0)) ++ t) (constant_part M k ∷ [])) (append-nil (magnitude_text (unsigned_abs k) M) ∙ sym (later_text M k))
        (one_more (int_lt k (pos 0)) (magnitude_text (unsigned_abs k) M) [] (lowest (unsigned_abs k) M, None) []
        (any_product (magnitude_text (unsigned_abs k) M) _ (constant_product (magnitude_text (unsigned_abs k) M) (lowest (unsigned_abs k) M) (numeral_of M g k over fine))) no_more)

    by : (b : Bool) → AreMore (if b then [] else sign_codes (int_lt k (pos 0)) ++ number_over (pos M) (magnitude k)) (if b then [] else constant_part M k ∷ [])
    by true = no_more
    by false = some

-- which parts are read
abbrev pub sum_parts : ℕ → ℤ → List (List ℕ × ℤ) → List SignedFactor
sum_parts M k [] = constant_part M k ∷ []
sum_parts M k (c ∷ cs) = parts_over M (c ∷ cs) ++ constant_parts M k

pub sum_of : (M g : ℕ) (k : ℤ) (cs : List (List ℕ × ℤ)) → IsOver M g → IsFine g k → AreFine g cs → HaveNames cs → IsSide (parts_text (pos M) k cs) (parts (sum_parts M k cs))
sum_of M g k [] over fine all names =
    let s = magnitude_text (unsigned_abs k) M in
    let e : number_over (pos M) k ≡ dash_codes (int_lt k (pos 0)) ++ (s ++ []) = first_text M k ∙ ap (λ (t : List ℕ). dash_codes (int_lt k (pos 0)) ++ t) (sym (append-nil s)) in
    subst (λ (t : List ℕ). IsSide t (parts (constant_part M k ∷ []))) (sym e)
    (sum_side (int_lt k (pos 0)) s [] (lowest (unsigned_abs k) M, None) [] (constant_product s (lowest (unsigned_abs k) M) (numeral_of M g k over fine)) no_more)
sum_of M g k (c ∷ cs) over fine all names =
    let minus = int_lt c.1 (pos 0) in
    let s = magnitude_text (unsigned_abs c.1) M in
    let more = later_products_text (pos M) cs ++ later_constant_text (pos M) k in
    let e : parts_text (pos M) k (c ∷ cs) ≡ dash_codes minus ++ ((s ++ (42 ∷ c.0)) ++ more) =
    ap (λ (t : List ℕ). (t ++ (42 ∷ c.0)) ++ more) (first_text M c.1)
    ∙ ap (λ (t : List ℕ). t ++ more) (append_assoc (dash_codes minus) s (42 ∷ c.0))
    ∙ append_assoc (dash_codes minus) (s ++ (42 ∷ c.0)) more in
    subst (λ (t : List ℕ). IsSide t (parts (sum_parts M k (c ∷ cs)))) (sym e)
    (sum_side minus (s ++ (42 ∷ c.0)) more (lowest (unsigned_abs c.1) M, Some c.0) (parts_over M cs ++ constant_parts M k) (multiple_of M g c over all.0 names.0)
    (later_more M g cs (later_constant_text (pos M) k) (constant_parts M k) over all.1 names.1 (constant_more M g k over fine)))

-- ---- what they are over

pub parts_literals : (M : ℕ) (cs : List (List ℕ × ℤ)) (ps : List SignedFactor) → literals_of (parts_over M cs ++ ps) ≡ lowest_all M (coefficients cs) ++ literals_of ps
parts_literals M [] ps = refl
parts_literals M (c ∷ cs) ps = ap (λ (ls : List Literal). lowest (unsigned_abs c.1) M ∷ ls) (parts_literals M cs ps)

-- all numbers of the sum
abbrev pub all_gcd : ℕ → ℤ → List ℤ → ℕ
all_gcd M k zs = nat_gcd (gcd_from M zs) (unsigned_abs k)

pub all_gcd_is : (M : ℕ) (k : ℤ) (zs : List ℤ) → gcd_all (pos M ∷ k ∷ zs) ≡ all_gcd M k zs
all_gcd_is M k zs = ap (λ (x : ℕ). gcd_from (nat_gcd x (unsigned_abs k)) zs) (gcd_of_zero M) ∙ gcd_last M (unsigned_abs k) zs
