-- The order of atoms is transitive.
--
-- Of three values a, b and c the orders of a and b and of b and c decide that of a and c, unless they point in different
-- directions (`Chains`). Numbers chain, and what is ordered by one thing and then by another chains where both do. Two lists
-- of coefficients are ordered by the coefficients at any number that no slot of them is below, and then by what is left.
use Rattle.std.proofs.Common.{◌≡◌, ℕ, zero, suc, ◌+◌, ◌<◌, ◌≤◌, ◌==◌, Bool, true, false, cond, List, [], ◌∷◌, ◌⊎◌, inl, inr, length, min, arith, refl, sym, ap, subst, true≢false}
use Rattle.std.specs.Prelude.{ℤ, pos}
use Rattle.std.specs.declared.cmp.Ordering.{Ordering}
use Rattle.std.specs.declared.cmp.Ordering.TheVariants.{Less, Equal, Greater}
use Rattle.std.specs.Ordering.{ordering_then, nat_cmp, int_cmp}
use Rattle.std.specs.Cmp.Lexicographic.{slice_cmp}
use Rattle.std.proofs.lemmas.Bool.Decides.{nat_tests}
use Rattle.std.proofs.lemmas.Int.{ints}
use Rattle.ded_model.specs.declared.slot.Slot.{Slot}
use Rattle.ded_model.specs.declared.tuple.BothAtom.TheVariants.{First, Second}
use Rattle.ded_model.specs.declared.tuple.ThemeAtom.{ThemeAtom}
use Rattle.ded_model.specs.Constraint.{LinearConstraint}
use Rattle.ded_model.specs.Row.{Atom}
use Rattle.ded_model.specs.Normal.{coefs_order, op_place, row_order, first_slot, kind_place, quoted_text, second_number, theme_order, atom_order}

-- ---- chains

-- o orders a and b, p orders b and c, and q orders a and c
pub record Chains (o p q : Ordering) : Type 0 where
  pub less : o ≡ Less → p ≡ Less → q ≡ Less
  pub left : o ≡ Less → p ≡ Equal → q ≡ Less
  pub right : o ≡ Equal → p ≡ Less → q ≡ Less
  pub same : o ≡ Equal → p ≡ Equal → q ≡ Equal

abbrev is_less : Ordering → Bool
is_less Less = true
is_less Equal = false
is_less Greater = false

abbrev is_greater : Ordering → Bool
is_greater Less = false
is_greater Equal = false
is_greater Greater = true

pub less_equal : Less ≡ Equal → ⊥
less_equal e = true≢false (ap is_less e)

equal_less : Equal ≡ Less → ⊥
equal_less e = true≢false (ap is_less (sym e))

greater_less : Greater ≡ Less → ⊥
greater_less e = true≢false (ap is_greater e)

pub greater_equal : Greater ≡ Equal → ⊥
greater_equal e = true≢false (ap is_greater e)

-- where one of them points back, nothing is asked
greater_first : (p q : Ordering) → Chains Greater p q
greater_first p q = record { less = λ e f. absurd (greater_less e); left = λ e f. absurd (greater_less e); right = λ e f. absurd (greater_equal e); same = λ e f. absurd (greater_equal e) }

greater_second : (o q : Ordering) → Chains o Greater q
greater_second o q = record { less = λ e f. absurd (greater_less f); left = λ e f. absurd (greater_equal f); right = λ e f. absurd (greater_less f); same = λ e f. absurd (greater_equal f) }

first_less : (p : Ordering) → Chains Less p Less
first_less p = record { less = λ e f. refl; left = λ e f. refl; right = λ e f. refl; same = λ e f. absurd (less_equal e) }

second_less : (o : Ordering) → Chains o Less Less
second_less o = record { less = λ e f. refl; left = λ e f. refl; right = λ e f. refl; same = λ e f. absurd (less_equal f) }

all_equal : Chains Equal Equal Equal
all_equal = record { less = λ e f. e; left = λ e f. e; right = λ e f. f; same = λ e f. refl }

nat-chains : (a b c : ℕ) → Chains (nat_cmp a b) (nat_cmp b c) (nat_cmp a c)
nat-chains a b c = record { less = λ e f. grind (arith, nat_tests); left = λ e f. grind (arith, nat_tests); right = λ e f. grind (arith, nat_tests); same = λ e f. grind (arith, nat_tests) }

int-chains : (a b c : ℤ) → Chains (int_cmp a b) (int_cmp b c) (int_cmp a c)
int-chains a b c = record { less = λ e f. grind (arith, ints); left = λ e f. grind (arith, ints); right = λ e f. grind (arith, ints); same = λ e f. grind (arith, ints) }

-- one thing, and then another
then-chains : (o p q r s t : Ordering) → Chains o p q → Chains r s t → Chains (ordering_then o r) (ordering_then p s) (ordering_then q t)
then-chains Less Less q r s t h k = subst (λ x. Chains Less Less (ordering_then x t)) (sym (h.less refl refl)) (first_less Less)
then-chains Less Equal q r s t h k = subst (λ x. Chains Less s (ordering_then x t)) (sym (h.left refl refl)) (first_less s)
then-chains Less Greater q r s t h k = greater_second Less (ordering_then q t)
then-chains Equal Less q r s t h k = subst (λ x. Chains r Less (ordering_then x t)) (sym (h.right refl refl)) (second_less r)
then-chains Equal Equal q r s t h k = subst (λ x. Chains r s (ordering_then x t)) (sym (h.same refl refl)) k
then-chains Equal Greater q r s t h k = greater_second r (ordering_then q t)
then-chains Greater p q r s t h k = greater_first (ordering_then p s) (ordering_then q t)

-- ---- texts

text-chains : (x y z : List ℕ) → Chains (slice_cmp nat_cmp x y) (slice_cmp nat_cmp y z) (slice_cmp nat_cmp x z)
text-chains [] [] [] = all_equal
text-chains [] [] (c ∷ z) = second_less Equal
text-chains [] (b ∷ y) [] = greater_second Less Equal
text-chains [] (b ∷ y) (c ∷ z) = first_less (slice_cmp nat_cmp (b ∷ y) (c ∷ z))
text-chains (a ∷ x) [] z = greater_first (slice_cmp nat_cmp [] z) (slice_cmp nat_cmp (a ∷ x) z)
text-chains (a ∷ x) (b ∷ y) [] = greater_second (slice_cmp nat_cmp (a ∷ x) (b ∷ y)) Greater
text-chains (a ∷ x) (b ∷ y) (c ∷ z) = then-chains (nat_cmp a b) (nat_cmp b c) (nat_cmp a c) _ _ _ (nat-chains a b c) (text-chains x y z)

-- ---- coefficients

-- the coefficient at the number n, if it is that of the first slot, and what is left behind it
abbrev first_at : ℕ → List (Slot × ℤ) → ℤ
first_at n [] = pos 0
first_at n (c ∷ cs) = cond (n == c.0.number) c.1 (pos 0)

abbrev rest_at : ℕ → List (Slot × ℤ) → List (Slot × ℤ)
rest_at n [] = []
rest_at n (c ∷ cs) = cond (n == c.0.number) cs (c ∷ cs)

-- the first slot isn't below n
abbrev FirstFrom : ℕ → List (Slot × ℤ) → Type 0
FirstFrom n [] = Unit {0}
FirstFrom n (c ∷ cs) = n ≤ c.0.number

pub int-same : (z : ℤ) → int_cmp z z ≡ Equal
int-same z = grind (arith, ints)

cmp_same : (m n k : ℕ) → (k == m) ≡ true → (k == n) ≡ true → nat_cmp m n ≡ Equal
cmp_same m n k e f = grind (arith, nat_tests)

cmp_less : (m n k : ℕ) → (k == m) ≡ true → (k == n) ≡ false → k ≤ n → nat_cmp m n ≡ Less
cmp_less m n k e f h = grind (arith, nat_tests)

cmp_greater : (m n k : ℕ) → (k == m) ≡ false → (k == n) ≡ true → k ≤ m → nat_cmp m n ≡ Greater
cmp_greater m n k e f h = grind (arith, nat_tests)

-- an order after that of equals
skip : (z : ℤ) (o : Ordering) → o ≡ ordering_then (int_cmp z z) o
skip z o = sym (ap (λ p. ordering_then p o) (int-same z))

-- the order goes by the coefficients at n, and then by what is left
step : (n : ℕ) (xs ys : List (Slot × ℤ)) → FirstFrom n xs → FirstFrom n ys → coefs_order xs ys ≡ ordering_then (int_cmp (first_at n xs) (first_at n ys)) (coefs_order (rest_at n xs) (rest_at n ys))
step n [] [] h k = skip (pos 0) Equal
step n [] (d ∷ ds) h k = go (n == d.0.number)
  where
    go : (b : Bool) → coefs_order [] (d ∷ ds) ≡ ordering_then (int_cmp (pos 0) (cond b d.1 (pos 0))) (coefs_order [] (cond b ds (d ∷ ds)))
    go true = refl
    go false = skip (pos 0) (coefs_order [] (d ∷ ds))
step n (c ∷ cs) [] h k = go (n == c.0.number)
  where
    go : (b : Bool) → coefs_order (c ∷ cs) [] ≡ ordering_then (int_cmp (cond b c.1 (pos 0)) (pos 0)) (coefs_order (cond b cs (c ∷ cs)) [])
    go true = refl
    go false = skip (pos 0) (coefs_order (c ∷ cs) [])
step n (c ∷ cs) (d ∷ ds) h k = go (n == c.0.number) refl (n == d.0.number) refl
  where
    go : (b : Bool) → (n == c.0.number) ≡ b → (e : Bool) → (n == d.0.number) ≡ e
        → coefs_order (c ∷ cs) (d ∷ ds) ≡ ordering_then (int_cmp (cond b c.1 (pos 0)) (cond e d.1 (pos 0))) (coefs_order (cond b cs (c ∷ cs)) (cond e ds (d ∷ ds)))
    go true f true g = rw (cmp_same c.0.number d.0.number n f g) refl
    go true f false g = rw (cmp_less c.0.number d.0.number n f g k) refl
    go false f true g = rw (cmp_greater c.0.number d.0.number n f g h) refl
    go false f false g = skip (pos 0) (coefs_order (c ∷ cs) (d ∷ ds))

-- ---- three lists

-- the number of the first slot, or else d
abbrev first_or : List (Slot × ℤ) → ℕ → ℕ
first_or [] d = d
first_or (c ∷ cs) d = c.0.number

-- no first slot is above it
abbrev most : List (Slot × ℤ) → List (Slot × ℤ) → List (Slot × ℤ) → ℕ
most xs ys zs = first_or xs 0 + (first_or ys 0 + first_or zs 0)

-- the least number of a first slot
abbrev least : List (Slot × ℤ) → List (Slot × ℤ) → List (Slot × ℤ) → ℕ
least xs ys zs = let d = most xs ys zs in min (first_or xs d) (min (first_or ys d) (first_or zs d))

from_first : (n d : ℕ) (xs : List (Slot × ℤ)) → n ≤ first_or xs d → FirstFrom n xs
from_first n d [] h = tt
from_first n d (c ∷ cs) h = h

-- the first slot has the number n
abbrev Hits : ℕ → List (Slot × ℤ) → Type 0
Hits n [] = ⊥
Hits n (c ∷ cs) = n ≡ c.0.number

-- some list hits the least number, unless all are empty
some_hits : (xs ys zs : List (Slot × ℤ)) → (length xs + (length ys + length zs) ≡ 0) ⊎ (Hits (least xs ys zs) xs ⊎ (Hits (least xs ys zs) ys ⊎ Hits (least xs ys zs) zs))
some_hits [] [] [] = inl refl
some_hits (c ∷ cs) [] [] = inr (inl (omega arith))
some_hits [] (d ∷ ds) [] = inr (inr (inl (omega arith)))
some_hits [] [] (e ∷ es) = inr (inr (inr (omega arith)))
some_hits (c ∷ cs) (d ∷ ds) [] = inr (elim (which c.0.number d.0.number) [ inl h ↦ inl h | inr h ↦ inr (inl h) ])
  where
    which : (c d : ℕ) → (min c (min d (c + (d + 0))) ≡ c) ⊎ (min c (min d (c + (d + 0))) ≡ d)
    which c d = grind arith
some_hits (c ∷ cs) [] (e ∷ es) = inr (elim (which c.0.number e.0.number) [ inl h ↦ inl h | inr h ↦ inr (inr h) ])
  where
    which : (c d : ℕ) → (min c (min (c + (0 + d)) d) ≡ c) ⊎ (min c (min (c + (0 + d)) d) ≡ d)
    which c d = grind arith
some_hits [] (d ∷ ds) (e ∷ es) = inr (inr (which d.0.number e.0.number))
  where
    which : (c d : ℕ) → (min (0 + (c + d)) (min c d) ≡ c) ⊎ (min (0 + (c + d)) (min c d) ≡ d)
    which c d = grind arith
some_hits (c ∷ cs) (d ∷ ds) (e ∷ es) = inr (which c.0.number d.0.number e.0.number)
  where
    which : (a b c : ℕ) → (min a (min b c) ≡ a) ⊎ ((min a (min b c) ≡ b) ⊎ (min a (min b c) ≡ c))
    which a b c = grind arith

-- what is left is no longer, and shorter at a hit
rest-length : (n : ℕ) (xs : List (Slot × ℤ)) → length (rest_at n xs) ≤ length xs
rest-length n [] = omega arith
rest-length n (c ∷ cs) = go (n == c.0.number)
  where
    go : (b : Bool) → length (cond b cs (c ∷ cs)) ≤ length (c ∷ cs)
    go true = omega arith
    go false = omega arith

rest-shorter : (n : ℕ) (xs : List (Slot × ℤ)) → Hits n xs → length (rest_at n xs) < length xs
rest-shorter n [] h = absurd h
rest-shorter n (c ∷ cs) h = go (n == c.0.number) (equal n c.0.number h)
  where
    equal : (m n : ℕ) → m ≡ n → (m == n) ≡ true
    equal m n e = grind (arith, nat_tests)

    go : (b : Bool) → b ≡ true → length (cond b cs (c ∷ cs)) < length (c ∷ cs)
    go true e = omega arith
    go false e = absurd (true≢false (sym e))

-- so the lists together get shorter
shrinks : (k : ℕ) (xs ys zs : List (Slot × ℤ)) → length xs + (length ys + length zs) ≤ suc k
    → length (rest_at (least xs ys zs) xs) + (length (rest_at (least xs ys zs) ys) + length (rest_at (least xs ys zs) zs)) ≤ k
shrinks k xs ys zs h =
    let n = least xs ys zs in
    let a = rest-length n xs in
    let b = rest-length n ys in
    let c = rest-length n zs in
    elim (some_hits xs ys zs) [
      | inl e ↦ omega (arith, a, b, c, e)
      | inr e ↦ elim e [
        | inl f ↦ (let s = rest-shorter n xs f in omega (arith, b, c, s, h))
        | inr f ↦ elim f [
          | inl g ↦ (let s = rest-shorter n ys g in omega (arith, a, c, s, h))
          | inr g ↦ (let s = rest-shorter n zs g in omega (arith, a, b, s, h))
        ]
      ]
    ]

coefs-chains : (k : ℕ) (xs ys zs : List (Slot × ℤ)) → length xs + (length ys + length zs) ≤ k → Chains (coefs_order xs ys) (coefs_order ys zs) (coefs_order xs zs)
coefs-chains zero [] [] [] h = all_equal
coefs-chains zero (c ∷ cs) ys zs h = absurd (omega (arith, h))
coefs-chains zero [] (d ∷ ds) zs h = absurd (omega (arith, h))
coefs-chains zero [] [] (e ∷ es) h = absurd (omega (arith, h))
coefs-chains (suc k) xs ys zs h = go (coefs-chains k (rest_at (least xs ys zs) xs) (rest_at (least xs ys zs) ys) (rest_at (least xs ys zs) zs) (shrinks k xs ys zs h))
  where
    go : Chains (coefs_order (rest_at (least xs ys zs) xs) (rest_at (least xs ys zs) ys)) (coefs_order (rest_at (least xs ys zs) ys) (rest_at (least xs ys zs) zs)) (coefs_order (rest_at (least xs ys zs) xs) (rest_at (least xs ys zs) zs))
        → Chains (coefs_order xs ys) (coefs_order ys zs) (coefs_order xs zs)
    go ih =
        let n = least xs ys zs in
        let d = most xs ys zs in
        let fx = from_first n d xs (omega arith) in
        let fy = from_first n d ys (omega arith) in
        let fz = from_first n d zs (omega arith) in
        subst (λ o. Chains o (coefs_order ys zs) (coefs_order xs zs)) (sym (step n xs ys fx fy))
        (subst (λ p. Chains (ordering_then (int_cmp (first_at n xs) (first_at n ys)) (coefs_order (rest_at n xs) (rest_at n ys))) p (coefs_order xs zs)) (sym (step n ys zs fy fz))
        (subst (λ q. Chains (ordering_then (int_cmp (first_at n xs) (first_at n ys)) (coefs_order (rest_at n xs) (rest_at n ys))) (ordering_then (int_cmp (first_at n ys) (first_at n zs)) (coefs_order (rest_at n ys) (rest_at n zs))) q)
        (sym (step n xs zs fx fz))
        (then-chains _ _ _ _ _ _ (int-chains (first_at n xs) (first_at n ys) (first_at n zs)) ih)))

-- ---- atoms

row-chains : (a b c : LinearConstraint) → Chains (row_order a b) (row_order b c) (row_order a c)
unfolding row_order
row-chains a b c =
    then-chains (coefs_order a.coefs b.coefs) (coefs_order b.coefs c.coefs) (coefs_order a.coefs c.coefs) _ _ _ (coefs-chains _ a.coefs b.coefs c.coefs (same (length a.coefs + (length b.coefs + length c.coefs))))
    (then-chains (int_cmp a.constant b.constant) (int_cmp b.constant c.constant) (int_cmp a.constant c.constant) _ _ _ (int-chains a.constant b.constant c.constant)
    (nat-chains (op_place a.op) (op_place b.op) (op_place c.op)))
  where
    same : (n : ℕ) → n ≤ n
    same n = omega arith

theme-chains : (a b c : ThemeAtom) → Chains (theme_order a b) (theme_order b c) (theme_order a c)
unfolding theme_order
theme-chains a b c =
    then-chains (nat_cmp (first_slot a).number (first_slot b).number) (nat_cmp (first_slot b).number (first_slot c).number) (nat_cmp (first_slot a).number (first_slot c).number) _ _ _
    (nat-chains (first_slot a).number (first_slot b).number (first_slot c).number)
    (then-chains (nat_cmp (kind_place a) (kind_place b)) (nat_cmp (kind_place b) (kind_place c)) (nat_cmp (kind_place a) (kind_place c)) _ _ _ (nat-chains (kind_place a) (kind_place b) (kind_place c))
    (then-chains (slice_cmp nat_cmp (quoted_text a) (quoted_text b)) (slice_cmp nat_cmp (quoted_text b) (quoted_text c)) (slice_cmp nat_cmp (quoted_text a) (quoted_text c)) _ _ _
    (text-chains (quoted_text a) (quoted_text b) (quoted_text c)) (nat-chains (second_number a) (second_number b) (second_number c))))

pub atom-chains : (a b c : Atom) → Chains (atom_order a b) (atom_order b c) (atom_order a c)
atom-chains (Second a) (Second b) (Second c) = theme-chains a b c
atom-chains (Second a) (Second b) (First r) = second_less (theme_order a b)
atom-chains (Second a) (First q) (Second c) = greater_second Less (theme_order a c)
atom-chains (Second a) (First q) (First r) = first_less (row_order q r)
atom-chains (First r) (Second b) c = greater_first (atom_order (Second b) c) (atom_order (First r) c)
atom-chains (First r) (First q) (Second c) = greater_second (row_order r q) Greater
atom-chains (First r) (First q) (First s) = row-chains r q s
