-- Counting up digit by digit gives the digits that are written of a number.
use Rattle.std.proofs.Common.{◌≡◌, ℕ, zero, suc, ◌+◌, ◌<◌, ◌≤◌, ◌/◌, ◌%◌, List, [], ◌∷◌, ◌++◌, length, reverse, refl, sym, ap, ap₂, ◌∙◌, arith, append_assoc, append-nil, Bool, true, false, cond, ⊎_elim, take, drop, slice_set, get_or, subst}
use Rattle.std.specs.Prelude.{◌==◌, nat_lt}
use Rattle.std.specs.Fmt.{digit_glyph, digits_onto}
use Rattle.std.proofs.Math.Dec.{leb-suc-suc}
use Rattle.std.proofs.lemmas.Bool.{le-leb}
use Rattle.std.proofs.lemmas.Bool.Decides.{eqb_tells, leb_tells}
use Rattle.std.proofs.lemmas.List.{reverse-append}
use Rattle.ded_model.proofs.CoefLemmas.{less}
use Rattle.ded_print.specs.Counts.{added, carries, raised, raised_by}
use Rattle.ded_print.specs.Numbers.{count_text}
use Rattle.ded_print.proofs.Numerals.{glyph_is}

pub raised_both : (m n : ℕ) (bs : List ℕ) → raised_by (m + n) bs ≡ raised_by n (raised_by m bs)
raised_both zero n bs = ap (λ (k : ℕ). raised_by k bs) {x = 0 + n} {y = n} (omega arith)
raised_both (suc m) n bs = ap (λ (k : ℕ). raised_by k bs) {x = suc m + n} {y = suc (m + n)} (omega arith) ∙ raised_both m n (raised 64 bs)

-- a digit below 9 is the last one that changes
pub added_here : (bs : List ℕ) (i : ℕ) → i < length bs → get_or bs i 0 < 57 → slice_set bs i (get_or bs i 0 + 1) ≡ take i bs ++ added (drop i bs)
added_here [] i there h = absurd (omega (arith, there))
added_here (b ∷ bs) zero there h = sym (rw (less b 57 h) refl)
added_here (b ∷ bs) (suc i) there h = ap (λ xs. b ∷ xs) (added_here bs i (omega (arith, there)) h)

-- ---- the digits of a number, the ones first

-- at most this many
little : ℕ → ℕ → List ℕ
little zero n = []
little (suc k) n = digit_glyph false (n % 10) ∷ cond (n / 10 == 0) [] (little k (n / 10))

onto : (t : Bool) (d : ℕ) (xs acc ys : List ℕ) → ys ≡ reverse xs ++ (d ∷ acc) → cond t (d ∷ acc) ys ≡ reverse (d ∷ cond t [] xs) ++ acc
onto true d xs acc ys e = refl
onto false d xs acc ys e = e ∙ sym (append_assoc (reverse xs) (d ∷ []) acc) ∙ ap (λ z. z ++ acc) (sym (reverse-append (d ∷ []) xs))

written : (k n : ℕ) (acc : List ℕ) → digits_onto k 10 false n acc ≡ reverse (little k n) ++ acc
unfolding little
written zero n acc = refl
written (suc k) n acc =
    let d = digit_glyph false (n % 10) in
    onto (n / 10 == 0) d (little k (n / 10)) acc (digits_onto k 10 false (n / 10) (d ∷ acc)) (written k (n / 10) (d ∷ acc))

-- one more, where there is room for this many digits
more : ℕ → List ℕ → List ℕ
more zero bs = []
more (suc k) [] = 49 ∷ []
more (suc k) (b ∷ bs) = cond (nat_lt b 57) ((b + 1) ∷ bs) (48 ∷ more k bs)

nine : (m : ℕ) → m % 10 ≡ 9 → ((m + 1) % 10 ≡ 0) × ((m + 1) / 10 ≡ m / 10 + 1)
nine m e = (omega (arith, e), omega (arith, e))

lower : (m : ℕ) → m % 10 < 9 → ((m + 1) % 10 ≡ m % 10 + 1) × ((m + 1) / 10 ≡ m / 10)
lower m e = (omega (arith, e), omega (arith, e))

low_step : (g h : ℕ) (r s t : List ℕ) → g < 57 → g + 1 ≡ h → r ≡ s → cond (nat_lt g 57) ((g + 1) ∷ r) t ≡ h ∷ s
low_step g h r s t below e same = ap (λ b. cond b ((g + 1) ∷ r) t) (less g 57 below) ∙ ap₂ (λ x xs. x ∷ xs) e same

high_step : (g h : ℕ) (r s t : List ℕ) → g ≡ 57 → h ≡ 48 → t ≡ s → cond (nat_lt g 57) r (48 ∷ t) ≡ h ∷ s
high_step g h r s t e f same = ap (λ x. cond (nat_lt x 57) r (48 ∷ t)) e ∙ ap₂ (λ x xs. x ∷ xs) (sym f) same

first : (k : ℕ) → more k [] ≡ cond (0 + 1 == 0) [] (little k (0 + 1))
unfolding little more
first zero = refl
first (suc k) = refl

-- a digit is carried into the higher ones
carried : (k q : ℕ) → more k (little k q) ≡ little k (q + 1) → more k (cond (q == 0) [] (little k q)) ≡ cond (q + 1 == 0) [] (little k (q + 1))
carried k q is = ⊎_elim
    (λ e. ap (λ t. more k (cond t [] (little k q))) e.0 ∙ first k ∙ ap (λ z. cond (z + 1 == 0) [] (little k (z + 1))) (sym e.1))
    (λ e. ap (λ t. more k (cond t [] (little k q))) e.0 ∙ is ∙ some (q + 1) (omega arith))
    (eqb_tells q 0)
  where
    some : (p : ℕ) → 0 < p → little k p ≡ cond (p == 0) [] (little k p)
    some p h = ⊎_elim (λ e. absurd (omega (arith, h, e.1))) (λ e. ap (λ t. cond t [] (little k p)) (sym e.0)) (eqb_tells p 0)

more_little : (k n : ℕ) → more k (little k n) ≡ little k (n + 1)
unfolding little more
more_little zero n = refl
more_little (suc k) n = ⊎_elim
    (λ h. let l = lower n (omega (arith, h.1)) in
    low_step _ _ _ _ _ (subst (λ g. g < 57) (sym (glyph_is (n % 10) (omega arith))) (omega (arith, h.1)))
    (ap (λ g. g + 1) (glyph_is (n % 10) (omega arith)) ∙ omega (arith, l.0) ∙ sym (glyph_is ((n + 1) % 10) (omega arith)))
    (ap (λ q. cond (q == 0) [] (little k q)) (sym l.1)))
    (λ h. let m : n % 10 ≡ 9 = omega (arith, h.1) in let l = nine n m in
    high_step _ _ _ _ _ (ap (digit_glyph false) m) (ap (digit_glyph false) l.0)
    (carried k (n / 10) (more_little k (n / 10)) ∙ ap (λ q. cond (q == 0) [] (little k q)) (sym l.1)))
    (leb_tells (suc (n % 10)) 9)

pushed : (c t : Bool) (xs : List ℕ) → cond c (cond t (48 ∷ xs ++ 49 ∷ []) (48 ∷ xs)) (48 ∷ xs) ≡ 48 ∷ cond c (cond t (xs ++ 49 ∷ []) xs) xs
pushed true true xs = refl
pushed true false xs = refl
pushed false t xs = refl

first_raised : (s t : Bool) (c : Bool) (b : ℕ) (bs xs ys : List ℕ) → cond c (cond t (48 ∷ xs ++ 49 ∷ []) (48 ∷ xs)) (48 ∷ xs) ≡ 48 ∷ ys
    → cond (cond s false c) (cond t (cond s ((b + 1) ∷ bs) (48 ∷ xs) ++ 49 ∷ []) (cond s ((b + 1) ∷ bs) (48 ∷ xs))) (cond s ((b + 1) ∷ bs) (48 ∷ xs)) ≡ cond s ((b + 1) ∷ bs) (48 ∷ ys)
first_raised true t c b bs xs ys e = refl
first_raised false t c b bs xs ys e = e

raised_more : (k : ℕ) (bs : List ℕ) → length bs ≤ k → raised k bs ≡ more k bs
unfolding more
raised_more zero [] room = refl
raised_more (suc k) [] room = ap (λ t. cond t (49 ∷ []) []) (le-leb 1 (suc k) (omega arith))
raised_more zero (b ∷ bs) room = absurd (omega (arith, room))
raised_more (suc k) (b ∷ bs) room =
    first_raised (nat_lt b 57) (nat_lt (suc (length bs)) (suc k)) (carries bs) b bs (added bs) (more k bs)
    (ap (λ t. cond (carries bs) (cond t (48 ∷ added bs ++ 49 ∷ []) (48 ∷ added bs)) (48 ∷ added bs)) (leb-suc-suc (suc (length bs)) k)
    ∙ pushed (carries bs) (nat_lt (length bs) k) (added bs) ∙ ap (λ z. 48 ∷ z) (raised_more k bs (omega (arith, room))))

short : (k n : ℕ) → length (little k n) ≤ k
unfolding little
short zero n = omega arith
short (suc k) n = let h = chosen (n / 10 == 0) (little k (n / 10)) (short k (n / 10)) in omega (arith, h)
  where
    chosen : (t : Bool) (xs : List ℕ) → length xs ≤ k → length (cond t [] xs) ≤ k
    chosen true xs h = omega arith
    chosen false xs h = h

raised_little : (n m : ℕ) → raised_by n (little 64 m) ≡ little 64 (m + n)
raised_little zero m = ap (little 64) {x = m} {y = m + 0} (omega arith)
raised_little (suc n) m =
    ap (raised_by n) (raised_more 64 (little 64 m) (short 64 m) ∙ more_little 64 m) ∙ raised_little n (m + 1) ∙ ap (little 64) {x = m + 1 + n} {y = m + suc n} (omega arith)

-- the digits of as many as were counted
pub counted_text : (n : ℕ) → reverse (raised_by n (48 ∷ [])) ≡ count_text n
unfolding little count_text
counted_text n = ap reverse (raised_little n 0 ∙ ap (little 64) {x = 0 + n} {y = n} (omega arith)) ∙ sym (append-nil (reverse (little 64 n))) ∙ sym (written 64 n [])
