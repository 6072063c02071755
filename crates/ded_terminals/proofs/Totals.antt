-- How great totals can get, and one step of reading the parts of a sum.
use Rattle.std.proofs.Common.{◌≡◌, ℕ, zero, suc, ◌+◌, ◌≤◌, ◌<◌, Bool, true, false, List, [], ◌∷◌, ◌++◌, length, take, drop, set, get_or, refl, sym, ap, subst, ◌∙◌, arith, length-append}
use Rattle.std.specs.Prelude.{◌^◌, ℤ, pos, ◌+ℤ◌, unsigned_abs, Option, Some, None, if◌then◌else◌}
use Rattle.std.specs.List.{AllByRecursion}
use Rattle.std.specs.Str.{bytes_eq}
use Rattle.std.proofs.lemmas.Int.{ints}
use Rattle.ded_model.specs.Sum.{ArePartsWithin, IsSum}
use Rattle.ded_grammar.specs.Building.{◌>>=◌}
use Rattle.ded_terminals.specs.Symbols.{Symbol, Name, Plus, Minus, Times}
use Rattle.ded_terminals.specs.Literals.{Scalar, whole, quotient, decimal, spell_scalar}
use Rattle.ded_terminals.specs.Operands.{Product, scaled, constant, lone, spell_product, SignedFactor, Sums, Factor, signed, put, put_at, add_factor}
use Rattle.ded_terminals.specs.OperandReading.{product_at, sign_at, after_sign, more_at, all_parts}
use Rattle.ded_terminals.specs.Views.{IsBounded}
use Rattle.ded_terminals.proofs.OperandsSound.{product_sound}

-- ---- bounds

abbrev pub AreBounded : ℕ → List (List ℕ × ℤ) → Type 0
AreBounded n ps = AllByRecursion (λ c. unsigned_abs c.1 ≤ n) ps

weaker : (n m : ℕ) (ps : List (List ℕ × ℤ)) → n ≤ m → AreBounded n ps → AreBounded m ps
weaker n m [] le h = tt
weaker n m (p ∷ ps) le h = (omega (arith, le, h.0), weaker n m ps le h.1)

pub bounded_more : (n m : ℕ) (s : Sums) → n ≤ m → IsBounded n s → IsBounded m s
bounded_more n m s le h = (weaker n m s.0 le h.0, omega (arith, le, h.1))

pub signed_small : (minus : Bool) (k n : ℕ) → k ≤ n → unsigned_abs (signed minus k) ≤ n
signed_small true k n le = omega (arith, ints, le)
signed_small false k n le = omega (arith, ints, le)

put_bounded : (n k : ℕ) (ps : List (List ℕ × ℤ)) (name : List ℕ) (z : ℤ) → unsigned_abs z ≤ k → AreBounded n ps → AreBounded (n + k) (put ps name z)
put_bounded n k [] name z small h = (omega (arith, small), tt)
put_bounded n k (p ∷ ps) name z small h = either (bytes_eq p.0 name) (put_bounded n k ps name z small h.1)
  where
    either : (b : Bool) → AreBounded (n + k) (put ps name z) → AreBounded (n + k) (if b then (p.0, p.1 +ℤ z) ∷ ps else p ∷ put ps name z)
    either true m = (omega (arith, ints, small, h.0), weaker n (n + k) ps (omega arith) h.1)
    either false m = (omega (arith, h.0), m)

-- one more amount
pub add_bounded : (n k : ℕ) (s : Sums) (name : Option (List ℕ)) (z : ℤ) → unsigned_abs z ≤ k → IsBounded n s → IsBounded (n + k) (put_at s name z)
add_bounded n k s None z le h = (weaker n (n + k) s.0 (omega arith) h.0, omega (arith, ints, h.1, le))
add_bounded n k s (Some name) z le h = (put_bounded n k s.0 name z le h.0, omega (arith, h.1))

within : (ps : List (List ℕ × ℤ)) → AreBounded (2 ^ 111) ps → ArePartsWithin 112 ps
within [] h = tt
within (p ∷ ps) h = (omega (arith, h.0), within ps h.1)

pub is_sum : (m : ℕ) (s : Sums) → 0 < m → m < 2 ^ 64 → IsBounded (2 ^ 111) s → IsSum (record { parts = s.0; constant = s.1; over = pos m })
is_sum m s some low h = record { parts = within s.0 h.0; constant = omega (arith, h.1); over = omega (arith, low); positive = omega (arith, ints, some) }

-- ---- steps

scalar_long : (s : Scalar) → 0 < length (spell_scalar s)
scalar_long (whole d) = omega arith
scalar_long (quotient d e z) = omega arith
scalar_long (decimal t) = omega arith

product_long : (p : Product) → 0 < length (spell_product p)
product_long (scaled s n) = omega (arith, length-append (spell_scalar s) (Times ∷ Name n ∷ []))
product_long (constant s) = scalar_long s
product_long (lone n) = omega arith

product_short : (value : ℕ → ℕ) (ts : List Symbol) (x : Factor × List Symbol) → product_at value ts ≡ Some x → length x.1 < length ts
product_short value ts x e =
    let p = product_sound value ts x e in
    omega (arith, ap length p.1, length-append (spell_product p.0) x.1, product_long p.0)

sign_short : (ts : List Symbol) (x : Bool × List Symbol) → sign_at ts ≡ Some x → length x.1 < length ts
sign_short (Plus ∷ ts) x e = subst (λ (y : Bool × List Symbol). length y.1 < suc (length ts)) (same e) (omega arith)
  where
    same : {y : Bool × List Symbol} → Some y ≡ Some x → y ≡ x
    same e = cc
sign_short (Minus ∷ ts) x e = subst (λ (y : Bool × List Symbol). length y.1 < suc (length ts)) (same e) (omega arith)
  where
    same : {y : Bool × List Symbol} → Some y ≡ Some x → y ≡ x
    same e = cc
sign_short ts x e = absurd cc

module _ (k j : ℕ) (value : ℕ → ℕ) (again : (a : List SignedFactor) (ts : List Symbol) → length ts < k → length ts < j → more_at value k a ts ≡ more_at value j a ts) where
  products : (a : List SignedFactor) (s : Bool × List Symbol) → length s.1 ≤ k → length s.1 ≤ j → (o : Option (Factor × List Symbol)) → product_at value s.1 ≡ o → (o >>= λ p. more_at value k (add_factor a s.0 p.0) p.1) ≡ (o >>= λ p. more_at value j (add_factor a s.0 p.0) p.1)
  products a s short less None e = refl
  products a s short less (Some p) e = again (add_factor a s.0 p.0) p.1 (omega (arith, product_short value s.1 p e, short)) (omega (arith, product_short value s.1 p e, less))

  signs : (a : List SignedFactor) (ts : List Symbol) → length ts ≤ k → length ts ≤ j → (o : Option (Bool × List Symbol)) → sign_at ts ≡ o → after_sign value (more_at value k) a ts o ≡ after_sign value (more_at value j) a ts o
  signs a ts short less None e = refl
  signs a ts short less (Some s) e = products a s (omega (arith, sign_short ts s e, short)) (omega (arith, sign_short ts s e, less)) (product_at value s.1) refl

-- how many products are allowed is no matter, where it is more than there are symbols
more_enough : (k j : ℕ) (value : ℕ → ℕ) (a : List SignedFactor) (ts : List Symbol) → length ts < k → length ts < j → more_at value k a ts ≡ more_at value j a ts
more_enough zero j value a ts lt less = absurd (omega (arith, lt))
more_enough (suc k) zero value a ts lt less = absurd (omega (arith, less))
more_enough (suc k) (suc j) value a ts lt less = signs k j value (λ b us. more_enough k j value b us) a ts (omega (arith, lt)) (omega (arith, less)) (sign_at ts) refl

pub all_parts_off : (value : ℕ → ℕ) (a : List SignedFactor) (ts : List Symbol) → sign_at ts ≡ None → all_parts value a ts ≡ Some (a, ts)
all_parts_off value a ts e = ap (after_sign value (more_at value (length ts)) a ts) e

pub all_parts_on : (value : ℕ → ℕ) (a b : List SignedFactor) (ts : List Symbol) (s : Bool × List Symbol) (p : Factor × List Symbol) → sign_at ts ≡ Some s → product_at value s.1 ≡ Some p → b ≡ add_factor a s.0 p.0 → all_parts value a ts ≡ all_parts value b p.1
all_parts_on value a b ts s p e f g =
    ap (after_sign value (more_at value (length ts)) a ts) e
    ∙ ap (λ (o : Option (Factor × List Symbol)). o >>= λ p. more_at value (length ts) (add_factor a s.0 p.0) p.1) f
    ∙ more_enough (length ts) (suc (length p.1)) value (add_factor a s.0 p.0) p.1 (omega (arith, sign_short ts s e, product_short value s.1 p f)) (omega arith)
    ∙ ap (λ (c : List SignedFactor). all_parts value c p.1) (sym g)

pub all_parts_fails : (value : ℕ → ℕ) (a : List SignedFactor) (ts : List Symbol) (s : Bool × List Symbol) → sign_at ts ≡ Some s → product_at value s.1 ≡ None → all_parts value a ts ≡ None
all_parts_fails value a ts s e f =
    ap (after_sign value (more_at value (length ts)) a ts) e
    ∙ ap (λ (o : Option (Factor × List Symbol)). o >>= λ p. more_at value (length ts) (add_factor a s.0 p.0) p.1) f

-- ---- one place of a list

same_place : {A : Type 0} (ps : List A) (i : ℕ) (p q : A) → i < length ps → get_or ps i p ≡ get_or ps i q
same_place [] i p q lt = absurd (omega (arith, lt))
same_place (x ∷ ps) zero p q lt = refl
same_place (x ∷ ps) (suc i) p q lt = same_place ps i p q (omega (arith, lt))

-- what stands at one place is one
pub one_place : {A : Type 0} (ps : List A) (i : ℕ) (p q : A) → i < length ps → p ≡ get_or ps i p → q ≡ get_or ps i q → p ≡ q
one_place ps i p q lt e f = e ∙ same_place ps i p q lt ∙ sym f

pub bounded_at : (n : ℕ) (ps : List (List ℕ × ℤ)) (i : ℕ) (p : List ℕ × ℤ) → i < length ps → p ≡ get_or ps i p → AreBounded n ps → unsigned_abs p.1 ≤ n
bounded_at n ps i p lt e h = subst (λ (q : List ℕ × ℤ). unsigned_abs q.1 ≤ n) (sym e) (at ps i lt h)
  where
    at : (ps : List (List ℕ × ℤ)) (i : ℕ) → i < length ps → AreBounded n ps → unsigned_abs (get_or ps i p).1 ≤ n
    at [] i lt h = absurd (omega (arith, lt))
    at (x ∷ ps) zero lt h = h.0
    at (x ∷ ps) (suc i) lt h = at ps i (omega (arith, lt)) h.1

-- the amount is added where the name stands
pub put_here : (ps : List (List ℕ × ℤ)) (n : List ℕ) (z y : ℤ) (i : ℕ) (p : List ℕ × ℤ) → i < length ps → p ≡ get_or ps i p → bytes_eq p.0 n ≡ true → y ≡ p.1 +ℤ z → put ps n z ≡ take i ps ++ put (drop i ps) n z → set ps i (p.0, y) ≡ put ps n z
put_here ps n z y i p lt at same is before = sym (before ∙ here ps i lt at)
  where
    here : (ps : List (List ℕ × ℤ)) (i : ℕ) → i < length ps → p ≡ get_or ps i p → take i ps ++ put (drop i ps) n z ≡ set ps i (p.0, y)
    here [] i lt at = absurd (omega (arith, lt))
    here (x ∷ ps) zero lt at =
        ap (λ (q : List ℕ × ℤ). put (q ∷ ps) n z) (sym at)
        ∙ ap (λ (b : Bool). if b then (p.0, p.1 +ℤ z) ∷ ps else p ∷ put ps n z) same
        ∙ ap (λ (x : ℤ). (p.0, x) ∷ ps) (sym is)
    here (x ∷ ps) (suc i) lt at = ap (λ (l : List (List ℕ × ℤ)). x ∷ l) (here ps i (omega (arith, lt)) at)
