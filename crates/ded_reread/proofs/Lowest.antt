-- Fractions over one number in lowest terms: what they are over together, and their numerators over that.
use Rattle.std.proofs.Common.{◌≡◌, ℕ, zero, suc, ◌*◌, ◌/◌, ◌<◌, List, [], ◌∷◌, ◌++◌, refl, sym, ap, subst, ◌∙◌, arith}
use Rattle.std.specs.Prelude.{ℤ, pos, unsigned_abs}
use Rattle.std.specs.Int.{IsGcd}
use Rattle.std.proofs.Math.Nat.{div-mul_cancel, mul-div_cancel, pos_of_dvd_of_pos, mul-dvd-mul_left, dvd_of_mul-dvd-mul_left, dvd-mul_right}
use Rattle.std.proofs.lemmas.Nat.Gcd.{dvd_refl, dvd-zero, dvd_trans, dvd_antisymm, same_from_IsGcd, IsGcd-swap}
use Prim.Native.Nat.{◌∣◌}
use Rattle.ded_num.specs.Gcd.{nat_gcd, gcd_from, gcd_all}
use Rattle.ded_num.proofs.Gcds.{IsGcd-nat_gcd, nat_gcd_is}
use Rattle.ded_linear.proofs.Roots.{gcd_of_zero}
use Rattle.ded_terminals.specs.Literals.{Literal, lowest, lcm, lcm_from, common, numerator_over}

-- ---- products and divisors

pub factor_pos : (a b c : ℕ) → a * b ≡ c → 0 < c → 0 < a
factor_pos zero b c e h = omega (arith, e, h)
factor_pos (suc a) b c e h = omega arith

-- the greatest common divisor of multiples
gcd_scale : (p a b g : ℕ) → 0 < p → IsGcd a b g → IsGcd (p * a) (p * b) (p * g)
gcd_scale p a b g some h =
    let d : ℕ = nat_gcd (p * a) (p * b) in
    let is : IsGcd (p * a) (p * b) d = IsGcd-nat_gcd (p * a) (p * b) in
    let in_d : p ∣ d = is.2 p (dvd-mul_right p a) (dvd-mul_right p b) in
    let q : ℕ = d / p in
    let e : q * p ≡ d = div-mul_cancel p in_d in
    let f : p * q ≡ d = omega (arith, e) in
    let qa : q ∣ a = dvd_of_mul-dvd-mul_left q some (subst (λ (x : ℕ). x ∣ p * a) (sym f) is.0) in
    let qb : q ∣ b = dvd_of_mul-dvd-mul_left q some (subst (λ (x : ℕ). x ∣ p * b) (sym f) is.1) in
    let below : d ∣ p * g = subst (λ (x : ℕ). x ∣ p * g) f (mul-dvd-mul_left q p (h.2 q qa qb)) in
    (mul-dvd-mul_left g p h.0, mul-dvd-mul_left g p h.1, λ x u v. dvd_trans x (is.2 x u v) below)

-- ---- least common multiples

-- of two parts of M, one is a part of the other
meet_again : (M G H K p q r : ℕ) → 0 < G → 0 < q → p * G ≡ M → q * H ≡ M → IsGcd G H K → IsGcd p q r → q * K ≡ G * r
meet_again M G H K p q r someG someq e f gk gr =
    let one : IsGcd (q * G) (q * H) (q * K) = gcd_scale q G H K someq gk in
    let two : IsGcd (G * p) (G * q) (G * r) = gcd_scale G p q r someG gr in
    let eG : G * p ≡ M = omega (arith, e) in
    let qG : G * q ≡ q * G = omega arith in
    same_from_IsGcd (q * G) M (q * K) (G * r) (subst (λ (x : ℕ). IsGcd (q * G) x (q * K)) f one)
    (IsGcd-swap M (q * G) (G * r) (subst (λ (x : ℕ). IsGcd x (q * G) (G * r)) eG (subst (λ (x : ℕ). IsGcd (G * p) x (G * r)) qG two)))

multiple_is : (M G K p q r s : ℕ) → 0 < K → p * G ≡ M → s * r ≡ p → q * K ≡ G * r → s * q ≡ M / K
multiple_is M G K p q r s some e f g =
    let a : s * (q * K) ≡ s * (G * r) = ap (λ (x : ℕ). s * x) g in
    let b : s * r * G ≡ p * G = ap (λ (x : ℕ). x * G) f in
    let c : s * q * K ≡ M = omega (arith, a, b, e) in
    sym (mul-div_cancel (s * q) some) ∙ ap (λ (x : ℕ). x / K) c

-- what divides G, a divisor of M, and A
with_gcd : (M G A : ℕ) → G ∣ M → IsGcd G (nat_gcd A M) (nat_gcd G A)
with_gcd M G A d =
    let h : IsGcd A M (nat_gcd A M) = IsGcd-nat_gcd A M in
    let k : IsGcd G A (nat_gcd G A) = IsGcd-nat_gcd G A in
    (k.0, h.2 (nat_gcd G A) k.1 (dvd_trans (nat_gcd G A) k.0 d), λ x u v. k.2 x u (dvd_trans x v h.0))

pub lcm_step : (M G A : ℕ) → 0 < M → G ∣ M → lcm (M / G) (M / nat_gcd A M) ≡ M / nat_gcd G A
lcm_step M G A some d =
    let H : ℕ = nat_gcd A M in
    let K : ℕ = nat_gcd G A in
    let p : ℕ = M / G in
    let q : ℕ = M / H in
    let r : ℕ = nat_gcd p q in
    let s : ℕ = p / r in
    let h : IsGcd A M H = IsGcd-nat_gcd A M in
    let someG : 0 < G = pos_of_dvd_of_pos d some in
    let e : p * G ≡ M = div-mul_cancel G d in
    let f : q * H ≡ M = div-mul_cancel H h.1 in
    let gr : IsGcd p q r = IsGcd-nat_gcd p q in
    let someK : 0 < K = pos_of_dvd_of_pos (IsGcd-nat_gcd G A).0 someG in
    multiple_is M G K p q r s someK e (div-mul_cancel r gr.0) (meet_again M G H K p q r someG (factor_pos q H M f some) e f (with_gcd M G A d) gr)

-- ---- lists

pub lcm_append : (m : ℕ) (ls ks : List Literal) → lcm_from m (ls ++ ks) ≡ lcm_from (lcm_from m ls) ks
lcm_append m [] ks = refl
lcm_append m (l ∷ ls) ks = lcm_append (lcm m l.1) ls ks

-- the numbers over M, in lowest terms
abbrev pub lowest_all : ℕ → List ℤ → List Literal
lowest_all M [] = []
lowest_all M (z ∷ zs) = lowest (unsigned_abs z) M ∷ lowest_all M zs

pub lcm_all : (M G : ℕ) (zs : List ℤ) → 0 < M → G ∣ M → lcm_from (M / G) (lowest_all M zs) ≡ M / gcd_from G zs
lcm_all M G [] some d = refl
lcm_all M G (z ∷ zs) some d =
    ap (λ (m : ℕ). lcm_from m (lowest_all M zs)) (lcm_step M G (unsigned_abs z) some d)
    ∙ lcm_all M (nat_gcd G (unsigned_abs z)) zs some (dvd_trans (nat_gcd G (unsigned_abs z)) (IsGcd-nat_gcd G (unsigned_abs z)).0 d)

self_over : (M : ℕ) → 0 < M → 1 ≡ M / M
self_over M some = let e : 1 * M ≡ M = omega arith in sym (mul-div_cancel 1 some) ∙ ap (λ (x : ℕ). x / M) e

pub common_all : (M : ℕ) (zs : List ℤ) → 0 < M → common (lowest_all M zs) ≡ M / gcd_from M zs
common_all M zs some = ap (λ (m : ℕ). lcm_from m (lowest_all M zs)) (self_over M some) ∙ lcm_all M M zs some (dvd_refl M)

-- ---- numerators

numerator_by : (A M g h a b c : ℕ) → 0 < g → 0 < b → a * h ≡ A → b * h ≡ M → c * g ≡ h → a * ((M / g) / b) ≡ A / g
numerator_by A M g h a b c someg someb e f k =
    let bc : c * b * g ≡ M = omega (arith, f, ap (λ (x : ℕ). b * x) k) in
    let ac : a * c * g ≡ A = omega (arith, e, ap (λ (x : ℕ). a * x) k) in
    let over : M / g ≡ c * b = ap (λ (x : ℕ). x / g) (sym bc) ∙ mul-div_cancel (c * b) someg in
    let inner : (M / g) / b ≡ c = ap (λ (x : ℕ). x / b) over ∙ mul-div_cancel c someb in
    ap (λ (x : ℕ). a * x) inner ∙ sym (mul-div_cancel (a * c) someg) ∙ ap (λ (x : ℕ). x / g) ac

-- the numerator of a number over M, over M / g
pub numerator_is : (A M g : ℕ) → 0 < M → g ∣ A → g ∣ M → numerator_over (M / g) (lowest A M) ≡ A / g
numerator_is A M g some da dm =
    let h : ℕ = nat_gcd A M in
    let is : IsGcd A M h = IsGcd-nat_gcd A M in
    let someg : 0 < g = pos_of_dvd_of_pos dm some in
    let f : M / h * h ≡ M = div-mul_cancel h is.1 in
    numerator_by A M g h (A / h) (M / h) (h / g) someg (factor_pos (M / h) h M f some) (div-mul_cancel h is.0) f (div-mul_cancel g (is.2 g da dm))

-- ---- orders of greatest common divisors

right_divides : (a b c : ℕ) → nat_gcd (nat_gcd a b) c ∣ nat_gcd (nat_gcd a c) b
right_divides a b c =
    let ab : IsGcd a b (nat_gcd a b) = IsGcd-nat_gcd a b in
    let abc : IsGcd (nat_gcd a b) c (nat_gcd (nat_gcd a b) c) = IsGcd-nat_gcd (nat_gcd a b) c in
    let d : ℕ = nat_gcd (nat_gcd a b) c in
    (IsGcd-nat_gcd (nat_gcd a c) b).2 d ((IsGcd-nat_gcd a c).2 d (dvd_trans d abc.0 ab.0) abc.1) (dvd_trans d abc.0 ab.1)

pub gcd_right : (a b c : ℕ) → nat_gcd (nat_gcd a b) c ≡ nat_gcd (nat_gcd a c) b
gcd_right a b c = dvd_antisymm (right_divides a b c) (right_divides a c b)

pub gcd_last : (g k : ℕ) (zs : List ℤ) → gcd_from (nat_gcd g k) zs ≡ nat_gcd (gcd_from g zs) k
gcd_last g k [] = refl
gcd_last g k (z ∷ zs) = ap (λ (x : ℕ). gcd_from x zs) (gcd_right g k (unsigned_abs z)) ∙ gcd_last (nat_gcd g (unsigned_abs z)) k zs

pub gcd_with_zero : (M : ℕ) → nat_gcd M 0 ≡ M
gcd_with_zero M = sym (nat_gcd_is M 0 M (dvd_refl M, dvd-zero M, λ d p q. p))

pub gcd_same : (M : ℕ) (zs : List ℤ) → gcd_all (pos M ∷ zs) ≡ gcd_from M zs
gcd_same M zs = ap (λ (x : ℕ). gcd_from x zs) (gcd_of_zero M)

-- ---- lowest terms

pub lowest_apart : (A M : ℕ) → 0 < M → nat_gcd (A / nat_gcd A M) (M / nat_gcd A M) ≡ 1
lowest_apart A M some =
    let h : ℕ = nat_gcd A M in
    let is : IsGcd A M h = IsGcd-nat_gcd A M in
    let someh : 0 < h = pos_of_dvd_of_pos is.1 some in
    let g : ℕ = nat_gcd (A / h) (M / h) in
    let e : h * (A / h) ≡ A = omega (arith, div-mul_cancel h is.0) in
    let f : h * (M / h) ≡ M = omega (arith, div-mul_cancel h is.1) in
    let scaled : IsGcd (h * (A / h)) (h * (M / h)) (h * g) = gcd_scale h (A / h) (M / h) g someh (IsGcd-nat_gcd (A / h) (M / h)) in
    let same : h * g ≡ h = same_from_IsGcd A M (h * g) h (subst (λ (x : ℕ). IsGcd A x (h * g)) f (subst (λ (x : ℕ). IsGcd x (h * (M / h)) (h * g)) e scaled)) is in
    one_of h g someh same
  where
    one_of : (h g : ℕ) → 0 < h → h * g ≡ h → g ≡ 1
    one_of h zero some e = absurd (omega (arith, e, some))
    one_of h (suc zero) some e = refl
    one_of h (suc (suc g)) some e = absurd (omega (arith, e, some))
