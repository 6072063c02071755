-- Identities of whole numbers of any length, by computing: an equation of expressions in variables holds at all numbers
-- where the polynomial of the difference of both sides has coefficients that are all 0. `Ring` of ded_num proves short ones
-- with less ado; here the number of variables and products does not matter.
use Rattle.std.proofs.Common.{◌≡◌, ℕ, zero, suc, ◌&&◌, Bool, true, false, cond, true≢false, List, [], ◌∷◌, refl, sym, ap, ap₂, ◌∙◌, arith}
use Rattle.std.specs.Prelude.{ℤ, pos, negsuc, nat_le, ◌+ℤ◌, ◌-ℤ◌, ◌*ℤ◌}
use Rattle.std.specs.Ordering.{int_eq}
use Rattle.std.specs.Str.{bytes_eq}
use Rattle.std.proofs.lemmas.Int.{ints}
use Rattle.std.proofs.lemmas.Bool.Decides.{Decides-int_eq}
use Rattle.std.proofs.lemmas.Slice.Eq.{bytes_eq-Decides}
use Rattle.ded_num.proofs.Ring.{parts, ring, ring_pos, diff_same}
use Rattle.ded_num.proofs.Signs.{from_no_gap, times_regroup, more_law, none_law}
use Rattle.ded_model.proofs.Points.{and_right}

-- an expression in numbered variables
pub data Expression : Type 0 where
  nought : Expression
  var : ℕ → Expression
  plus : Expression → Expression → Expression
  minus : Expression → Expression → Expression
  times : Expression → Expression → Expression

-- a product of variables, in ascending order
abbrev pub Product : Type 0
Product = List ℕ

-- a sum of products with coefficients
abbrev pub Polynomial : Type 0
Polynomial = List (ℤ × Product)

-- ---- what they come to

-- the number of a variable
abbrev pub number_in : List ℤ → ℕ → ℤ
number_in [] k = pos 0
number_in (z ∷ zs) zero = z
number_in (z ∷ zs) (suc k) = number_in zs k

abbrev pub expression_at : List ℤ → Expression → ℤ
expression_at zs nought = pos 0
expression_at zs (var k) = number_in zs k
expression_at zs (plus e f) = expression_at zs e +ℤ expression_at zs f
expression_at zs (minus e f) = expression_at zs e -ℤ expression_at zs f
expression_at zs (times e f) = expression_at zs e *ℤ expression_at zs f

abbrev pub product_at : List ℤ → Product → ℤ
product_at zs [] = pos 1
product_at zs (k ∷ ks) = number_in zs k *ℤ product_at zs ks

abbrev pub polynomial_at : List ℤ → Polynomial → ℤ
polynomial_at zs [] = pos 0
polynomial_at zs (t ∷ ts) = t.0 *ℤ product_at zs t.1 +ℤ polynomial_at zs ts

-- ---- the polynomial of an expression

abbrev pub with_variable : ℕ → Product → Product
with_variable k [] = k ∷ []
with_variable k (j ∷ js) = cond (nat_le k j) (k ∷ j ∷ js) (j ∷ with_variable k js)

abbrev pub product_of : Product → Product → Product
product_of [] ks = ks
product_of (j ∷ js) ks = with_variable j (product_of js ks)

abbrev pub with_term : ℤ → Product → Polynomial → Polynomial
with_term c m [] = (c, m) ∷ []
with_term c m (t ∷ ts) = cond (bytes_eq m t.1) ((c +ℤ t.0, t.1) ∷ ts) (t ∷ with_term c m ts)

-- c times the product times one polynomial, plus another one
abbrev pub with_terms : ℤ → Product → Polynomial → Polynomial → Polynomial
with_terms c m [] q = q
with_terms c m (t ∷ ts) q = with_term (c *ℤ t.0) (product_of m t.1) (with_terms c m ts q)

abbrev pub polynomial_times : Polynomial → Polynomial → Polynomial
polynomial_times [] q = []
polynomial_times (t ∷ ts) q = with_terms t.0 t.1 q (polynomial_times ts q)

abbrev pub polynomial_of : Expression → Polynomial
polynomial_of nought = []
polynomial_of (var k) = (pos 1, k ∷ []) ∷ []
polynomial_of (plus e f) = with_terms (pos 1) [] (polynomial_of e) (polynomial_of f)
polynomial_of (minus e f) = with_terms (negsuc 0) [] (polynomial_of f) (polynomial_of e)
polynomial_of (times e f) = polynomial_times (polynomial_of e) (polynomial_of f)

abbrev pub is_zero : Polynomial → Bool
is_zero [] = true
is_zero (t ∷ ts) = int_eq t.0 (pos 0) && is_zero ts

-- ---- it comes to the same

swapped : (a b c : ℤ) → b *ℤ (a *ℤ c) ≡ a *ℤ (b *ℤ c)
swapped a b c = rw (parts a, parts b, parts c) (simp ring (diff_same _ _ _ _ (omega arith)))

variable_step : (zs : List ℤ) (k j : ℕ) (js : Product) (b : Bool) → product_at zs (with_variable k js) ≡ number_in zs k *ℤ product_at zs js
    → product_at zs (cond b (k ∷ j ∷ js) (j ∷ with_variable k js)) ≡ number_in zs k *ℤ product_at zs (j ∷ js)
variable_step zs k j js true ih = refl
variable_step zs k j js false ih = ap (λ w. number_in zs j *ℤ w) ih ∙ swapped (number_in zs k) (number_in zs j) (product_at zs js)

product-with_variable : (zs : List ℤ) (k : ℕ) (js : Product) → product_at zs (with_variable k js) ≡ number_in zs k *ℤ product_at zs js
product-with_variable zs k [] = refl
product-with_variable zs k (j ∷ js) = variable_step zs k j js (nat_le k j) (product-with_variable zs k js)

one_times : (z : ℤ) → z ≡ pos 1 *ℤ z
one_times z = rw (parts z) (simp ring_pos (diff_same _ _ _ _ (omega arith)))

product-product_of : (zs : List ℤ) (js ks : Product) → product_at zs (product_of js ks) ≡ product_at zs js *ℤ product_at zs ks
product-product_of zs [] ks = one_times (product_at zs ks)
product-product_of zs (j ∷ js) ks =
    product-with_variable zs j (product_of js ks) ∙ ap (λ w. number_in zs j *ℤ w) (product-product_of zs js ks) ∙ times_regroup (number_in zs j) (product_at zs js) (product_at zs ks)

past : (a b r : ℤ) → a +ℤ (b +ℤ r) ≡ b +ℤ (a +ℤ r)
past a b r = omega (arith, ints)

term_step : (zs : List ℤ) (c : ℤ) (m : Product) (t : ℤ × Product) (ts : Polynomial) (b : Bool) → bytes_eq m t.1 ≡ b
    → polynomial_at zs (with_term c m ts) ≡ c *ℤ product_at zs m +ℤ polynomial_at zs ts
    → polynomial_at zs (cond b ((c +ℤ t.0, t.1) ∷ ts) (t ∷ with_term c m ts)) ≡ c *ℤ product_at zs m +ℤ polynomial_at zs (t ∷ ts)
term_step zs c m t ts true e ih =
    more_law c t.0 (product_at zs t.1) (polynomial_at zs ts) ∙ ap (λ k. c *ℤ product_at zs k +ℤ polynomial_at zs (t ∷ ts)) (sym ((bytes_eq-Decides m t.1).0 e))
term_step zs c m t ts false e ih =
    ap (λ w. t.0 *ℤ product_at zs t.1 +ℤ w) ih ∙ past (t.0 *ℤ product_at zs t.1) (c *ℤ product_at zs m) (polynomial_at zs ts)

polynomial-with_term : (zs : List ℤ) (c : ℤ) (m : Product) (p : Polynomial) → polynomial_at zs (with_term c m p) ≡ c *ℤ product_at zs m +ℤ polynomial_at zs p
polynomial-with_term zs c m [] = refl
polynomial-with_term zs c m (t ∷ ts) = term_step zs c m t ts (bytes_eq m t.1) refl (polynomial-with_term zs c m ts)

scaled : (c d m n p q : ℤ) → (c *ℤ d) *ℤ (m *ℤ n) +ℤ ((c *ℤ m) *ℤ p +ℤ q) ≡ (c *ℤ m) *ℤ (d *ℤ n +ℤ p) +ℤ q
scaled c d m n p q = rw (parts c, parts d, parts m, parts n, parts p, parts q) (simp ring (diff_same _ _ _ _ (omega arith)))

polynomial-with_terms : (zs : List ℤ) (c : ℤ) (m : Product) (p q : Polynomial)
    → polynomial_at zs (with_terms c m p q) ≡ (c *ℤ product_at zs m) *ℤ polynomial_at zs p +ℤ polynomial_at zs q
polynomial-with_terms zs c m [] q = none_law (c *ℤ product_at zs m) (polynomial_at zs q)
polynomial-with_terms zs c m (t ∷ ts) q =
    polynomial-with_term zs (c *ℤ t.0) (product_of m t.1) (with_terms c m ts q)
    ∙ ap₂ (λ u w. (c *ℤ t.0) *ℤ u +ℤ w) (product-product_of zs m t.1) (polynomial-with_terms zs c m ts q)
    ∙ scaled c t.0 (product_at zs m) (product_at zs t.1) (polynomial_at zs ts) (polynomial_at zs q)

shared : (c m p q : ℤ) → (c *ℤ m) *ℤ q +ℤ p *ℤ q ≡ (c *ℤ m +ℤ p) *ℤ q
shared c m p q = rw (parts c, parts m, parts p, parts q) (simp ring (diff_same _ _ _ _ (omega arith)))

zero_times : (z : ℤ) → pos 0 ≡ pos 0 *ℤ z
zero_times z = rw (parts z) (simp ring_pos (diff_same _ _ _ _ (omega arith)))

polynomial-times : (zs : List ℤ) (p q : Polynomial) → polynomial_at zs (polynomial_times p q) ≡ polynomial_at zs p *ℤ polynomial_at zs q
polynomial-times zs [] q = zero_times (polynomial_at zs q)
polynomial-times zs (t ∷ ts) q =
    polynomial-with_terms zs t.0 t.1 q (polynomial_times ts q)
    ∙ ap (λ w. (t.0 *ℤ product_at zs t.1) *ℤ polynomial_at zs q +ℤ w) (polynomial-times zs ts q)
    ∙ shared t.0 (product_at zs t.1) (polynomial_at zs ts) (polynomial_at zs q)

one_variable : (z : ℤ) → pos 1 *ℤ (z *ℤ pos 1) +ℤ pos 0 ≡ z
one_variable z = rw (parts z) (simp ring_pos (diff_same _ _ _ _ (omega arith)))

one_plus : (a b : ℤ) → (pos 1 *ℤ pos 1) *ℤ a +ℤ b ≡ a +ℤ b
one_plus a b = ap (λ w. w +ℤ b) (sym (one_times a))

minus_is : (a b : ℤ) → (negsuc 0 *ℤ pos 1) *ℤ b +ℤ a ≡ a -ℤ b
minus_is a b = omega (arith, ints)

pub polynomial-of : (zs : List ℤ) (e : Expression) → polynomial_at zs (polynomial_of e) ≡ expression_at zs e
polynomial-of zs nought = refl
polynomial-of zs (var k) = one_variable (number_in zs k)
polynomial-of zs (plus e f) =
    polynomial-with_terms zs (pos 1) [] (polynomial_of e) (polynomial_of f) ∙ one_plus (polynomial_at zs (polynomial_of e)) (polynomial_at zs (polynomial_of f))
    ∙ ap₂ (λ u w. u +ℤ w) (polynomial-of zs e) (polynomial-of zs f)
polynomial-of zs (minus e f) =
    polynomial-with_terms zs (negsuc 0) [] (polynomial_of f) (polynomial_of e) ∙ minus_is (polynomial_at zs (polynomial_of e)) (polynomial_at zs (polynomial_of f))
    ∙ ap₂ (λ u w. u -ℤ w) (polynomial-of zs e) (polynomial-of zs f)
polynomial-of zs (times e f) =
    polynomial-times zs (polynomial_of e) (polynomial_of f) ∙ ap₂ (λ u w. u *ℤ w) (polynomial-of zs e) (polynomial-of zs f)

-- coefficients that are all 0
zero_head : (z : ℤ) (b : Bool) → (int_eq z (pos 0) && b) ≡ true → z ≡ pos 0
zero_head z b h = (Decides-int_eq z (pos 0)).0 (left (int_eq z (pos 0)) b h)
  where
    left : (x y : Bool) → (x && y) ≡ true → x ≡ true
    left true y h = refl
    left false y h = absurd (true≢false (sym h))

gone : (m r : ℤ) → r ≡ pos 0 → pos 0 *ℤ m +ℤ r ≡ pos 0
gone m r h = rw h (rw (parts m) (simp ring_pos (diff_same _ _ _ _ (omega arith))))

polynomial-zero : (zs : List ℤ) (p : Polynomial) → is_zero p ≡ true → polynomial_at zs p ≡ pos 0
polynomial-zero zs [] h = refl
polynomial-zero zs (t ∷ ts) h =
    ap (λ c. c *ℤ product_at zs t.1 +ℤ polynomial_at zs ts) (zero_head t.0 (is_zero ts) h)
    ∙ gone (product_at zs t.1) (polynomial_at zs ts) (polynomial-zero zs ts (and_right (int_eq t.0 (pos 0)) (is_zero ts) h))

-- the equation holds where the difference of both sides computes to 0
pub identity : (zs : List ℤ) (e f : Expression) → is_zero (polynomial_of (minus e f)) ≡ true → expression_at zs e ≡ expression_at zs f
identity zs e f h = from_no_gap (expression_at zs e) (expression_at zs f) (sym (polynomial-of zs (minus e f)) ∙ polynomial-zero zs (polynomial_of (minus e f)) h)
