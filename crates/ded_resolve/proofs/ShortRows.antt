-- Where the row of a comparison by names has no long number, the normal row by slots has numbers of at most 63 digits.
--
-- Let g be the greatest common divisor of the numbers by names. Each of them is a multiple of g and below 2^63 times g, so
-- each number by slots is (`SlotNumbers`). Thus g divides the greatest common divisor of the numbers by slots, which is then
-- at least g, and each of them divided by it is below 2^63.
use Rattle.std.proofs.Common.{◌≡◌, ◌≢◌, ℕ, ◌+◌, ◌*◌, ◌/◌, ◌^◌, ◌<◌, ◌≤◌, nat_le, Bool, true, false, not, ◌||◌, ◌&&◌, List, [], ◌∷◌, map, ◌⊎◌, inl, inr, arith, refl, sym, ap, ◌∙◌, subst, true≢false}
use Rattle.std.specs.Prelude.{ℤ, pos, ◌*ℤ◌, ◌<ℤ◌, int_div, unsigned_abs}
use Rattle.std.specs.List.{list_any}
use Rattle.std.specs.Ordering.{int_eq}
use lib.IntN.{neg_ℤ}
use Prim.Native.Nat.{◌∣◌}
use Rattle.std.proofs.Math.Nat.{mul-le-mul_left}
use Rattle.std.proofs.lemmas.Bool.Decides.{nat_tests, Decides-int_eq}
use Rattle.std.proofs.lemmas.Int.{ints, unsigned_abs-mul}
use Rattle.std.proofs.lemmas.Nat.Gcd.{dvd-zero, le_of_dvd}
use Rattle.ded_num.specs.Gcd.{nat_gcd, gcd_from, gcd_all}
use Rattle.ded_num.specs.Length.{IsWithin}
use Rattle.ded_num.proofs.Gcds.{IsGcd-nat_gcd, DividesAll, DividesAll-gcd_all}
use Rattle.ded_num.proofs.Signs.{unsigned_abs-neg}
use Rattle.ded_model.specs.declared.slot.Slot.{Slot}
use Rattle.ded_model.specs.declared.row.RowOp.{RowOp}
use Rattle.ded_model.specs.declared.row.RowOp.TheVariants.{Zero, AtMost, Below}
use Rattle.ded_model.specs.declared.formula.CompareOp.{CompareOp}
use Rattle.ded_model.specs.declared.formula.CompareOp.TheVariants.{Less, LessEq, Equal, NotEqual, GreaterEq, Greater}
use Rattle.ded_model.specs.declared.formula.Operand.{Operand}
use Rattle.ded_model.specs.Coefs.{mixed}
use Rattle.ded_model.specs.Normal.{numbers, coefs_over, DivideWhole, divisor_of, normal_row}
use Rattle.ded_model.specs.LongRows.{denominator_of, row_coefs, row_constant, is_nonzero, is_long_over, is_long_row}
use Rattle.ded_model.specs.Plain.{ShareDenominator}
use Rattle.ded_model.specs.Slotted.{SlotScope, slot_sum, difference_row, comparison_row, is_text_operand}
use Rattle.ded_model.proofs.Divisors.{abs_divisor, positive_divisor, divisor-whole, divisor-whole_constant}
use Rattle.ded_model.proofs.LineCoefs.{AllNonzero, nonzero-nonzero}
use Rattle.ded_resolve.specs.Scope.{sum_over}
use Rattle.ded_resolve.proofs.Denominators.{plain_rows, plain_rows_turned}
use Rattle.ded_resolve.proofs.SlotNumbers.{AreNumbers, AllHave, side_row, row_has, turned_row_has, constant_has, turned_constant_has}
use Rattle.ded_model.proofs.Bools.{or_false_left, or_false_right}

-- ---- common divisors

-- a common divisor of the numbers divides their greatest one
divides_from : (d g : ℕ) (zs : List ℤ) → d ∣ g → DividesAll d zs → d ∣ gcd_from g zs
divides_from d g [] h k = h
divides_from d g (z ∷ zs) h k = divides_from d (nat_gcd g (unsigned_abs z)) zs ((IsGcd-nat_gcd g (unsigned_abs z)).2 d h k.0) k.1

divides_gcd : (d : ℕ) (zs : List ℤ) → DividesAll d zs → d ∣ gcd_all zs
divides_gcd d zs k = divides_from d 0 zs (dvd-zero d) k

-- ---- numbers that fit

-- a multiple of g that is below 2^63 times g in magnitude
pub record IsFit (g : ℕ) (z : ℤ) : Type 0 where
  pub divides : g ∣ unsigned_abs z
  pub below : unsigned_abs z < 2 ^ 63 * g

fit_zero : (g : ℕ) → 0 < g → IsFit g (pos 0)
fit_zero g h = record { divides = dvd-zero g; below = omega arith }

fit_turned : (g : ℕ) (z : ℤ) → IsFit g z → IsFit g (neg_ℤ z)
fit_turned g z h = record { divides = subst (λ n. g ∣ n) (sym (unsigned_abs-neg z)) h.divides; below = subst (λ n. n < 2 ^ 63 * g) (sym (unsigned_abs-neg z)) h.below }

-- what is below b times g after division by g
under : (n g b : ℕ) → 0 < g → n / g < b → n < b * g
under n g b h k = let m : g * (n / g + 1) ≤ g * b = mul-le-mul_left g (omega arith) in omega (arith, m)

pub quotient_below : (n : ℕ) → nat_le (2 ^ 63) n ≡ false → n < 2 ^ 63
quotient_below n e = grind (arith, nat_tests)

-- numbers that g divides, where none is long over g
all_fit : (g : ℕ) (zs : List ℤ) → 0 < g → DividesAll g zs → list_any (is_long_over g) zs ≡ false → AllHave (IsFit g) zs
all_fit g [] h d e = tt
all_fit g (z ∷ zs) h d e = (
  record { divides = d.0; below = under (unsigned_abs z) g (2 ^ 63) h (quotient_below (unsigned_abs z / g) (or_false_left (is_long_over g z) (list_any (is_long_over g) zs) e)) },
  all_fit g zs h d.1 (or_false_right (is_long_over g z) (list_any (is_long_over g) zs) e),
)

-- such numbers have the divisor g
fit_divides : (g : ℕ) (zs : List ℤ) → AllHave (IsFit g) zs → DividesAll g zs
fit_divides g [] h = tt
fit_divides g (z ∷ zs) h = (h.0.divides, fit_divides g zs h.1)

-- ---- some number isn't 0

abbrev IsZero : ℤ → Type 0
IsZero z = z ≡ pos 0

zero_turned : (z : ℤ) → IsZero z → IsZero (neg_ℤ z)
zero_turned z e = omega (arith, ints)

-- none is
all_zero : (zs : List ℤ) → list_any is_nonzero zs ≡ false → AllHave IsZero zs
all_zero [] e = tt
all_zero (z ∷ zs) e = ((Decides-int_eq z (pos 0)).0 (opposite (int_eq z (pos 0)) (or_false_left (is_nonzero z) (list_any is_nonzero zs) e)), all_zero zs (or_false_right (is_nonzero z) (list_any is_nonzero zs) e))
  where
    opposite : (b : Bool) → not b ≡ false → b ≡ true
    opposite true e = refl
    opposite false e = absurd (true≢false e)

-- one is, so what divides all isn't 0
above_zero : (g : ℕ) (zs : List ℤ) → DividesAll g zs → list_any is_nonzero zs ≡ true → 0 < g
above_zero g [] d e = absurd (true≢false (sym e))
above_zero g (z ∷ zs) d e = go (int_eq z (pos 0)) refl e (above_zero g zs d.1)
  where
    go : (b : Bool) → int_eq z (pos 0) ≡ b → (not b || list_any is_nonzero zs) ≡ true → (list_any is_nonzero zs ≡ true → 0 < g) → 0 < g
    go true i e rest = rest e
    go false i e rest = positive_divisor g z d.0 (λ k. true≢false (sym ((Decides-int_eq z (pos 0)).1 k) ∙ i))

-- ---- the normal row

-- numbers of at most 63 digits
abbrev pub AllShort : List ℤ → Type 0
AllShort zs = AllHave (IsWithin 63) zs

-- a quotient of a number below 2^63 times g by a divisor of at least g
quotient_within : (g d : ℕ) (k q z : ℤ) → 0 < d → g ≤ d → unsigned_abs k ≡ d → k *ℤ q ≡ z → unsigned_abs z < 2 ^ 63 * g → IsWithin 63 q
quotient_within g d k q z h l e f b =
    let product : d * unsigned_abs q ≡ unsigned_abs z = ap (λ n. n * unsigned_abs q) (sym e) ∙ sym (unsigned_abs-mul k q) ∙ ap unsigned_abs f in
    cancel d (unsigned_abs q) (2 ^ 63) (let m : 2 ^ 63 * g ≤ 2 ^ 63 * d = mul-le-mul_left (2 ^ 63) l in omega (arith, product, b, m))
  where
    below_or : (q b : ℕ) → (q < b) ⊎ (b ≤ q)
    below_or q b = grind arith

    cancel : (d q b : ℕ) → d * q < b * d → q < b
    cancel d q b h = elim (below_or q b) [ inl l ↦ l | inr l ↦ absurd (let m : d * b ≤ d * q = mul-le-mul_left d l in omega (arith, h, m)) ]

quotients_within : (g d : ℕ) (k : ℤ) (cs : List (Slot × ℤ)) → 0 < d → g ≤ d → unsigned_abs k ≡ d → DivideWhole k cs → AllHave (IsFit g) (map (λ c. c.1) cs) → AllShort (map (λ c. c.1) (coefs_over k cs))
quotients_within g d k [] h l e w f = tt
quotients_within g d k (c ∷ cs) h l e w f = (quotient_within g d k (int_div c.1 k) c.1 h l e w.0 f.0.below, quotients_within g d k cs h l e w.1 f.1)

module _ (g : ℕ) (op : RowOp) (m : ℤ) (positive : 0 < g) where
  -- of a row with coefficients
  divided_short : (c : Slot × ℤ) (cs : List (Slot × ℤ)) → c.1 ≢ pos 0 → IsFit g m → AllHave (IsFit g) (map (λ d. d.1) (c ∷ cs)) → AllShort (numbers (normal_row (record { coefs = c ∷ cs; constant = m; op = op })))
  unfolding normal_row
  divided_short c cs n f fs =
      let d = gcd_all (m ∷ map (λ d. d.1) (c ∷ cs)) in
      let k = divisor_of op m (c ∷ cs) in
      let all : DividesAll d (m ∷ map (λ d. d.1) (c ∷ cs)) = DividesAll-gcd_all (m ∷ map (λ d. d.1) (c ∷ cs)) in
      let above : 0 < d = positive_divisor d c.1 all.1.0 n in
      let most : g ≤ d = le_of_dvd above (divides_gcd g (m ∷ map (λ d. d.1) (c ∷ cs)) (f.divides, fit_divides g (map (λ d. d.1) (c ∷ cs)) fs)) in
      let is : unsigned_abs k ≡ d = abs_divisor op c.1 d in (
        quotient_within g d k (int_div m k) m above most is (divisor-whole_constant op m c cs) f.below,
        quotients_within g d k (c ∷ cs) above most is (divisor-whole op m (c ∷ cs)) fs,
      )

-- the true row and the false row have short numbers
pub constant_short : IsWithin 63 (pos 0)
constant_short = omega arith

-- a row by slots, whose numbers have what those by names have
module _ (coefs : List ℤ) (constant : ℤ) (op : RowOp) (m : ℤ) (short : is_long_row coefs constant ≡ false) where
  pub row_short : (cs : List (Slot × ℤ)) → AllNonzero cs → (AllHave IsZero coefs → AllHave IsZero (map (λ c. c.1) cs))
      → ((g : ℕ) → 0 < g → AllHave (IsFit g) (constant ∷ coefs) → AllHave (IsFit g) (m ∷ map (λ c. c.1) cs)) → AllShort (numbers (normal_row (record { coefs = cs; constant = m; op = op })))
  unfolding normal_row
  row_short [] n zeros fits = (constant_short, tt)
  row_short (c ∷ cs) n zeros fits = go (list_any is_nonzero coefs) refl
    where
      go : (b : Bool) → list_any is_nonzero coefs ≡ b → AllShort (numbers (normal_row (record { coefs = c ∷ cs; constant = m; op = op })))
      go true e =
          let g = gcd_all (constant ∷ coefs) in
          let all : DividesAll g (constant ∷ coefs) = DividesAll-gcd_all (constant ∷ coefs) in
          let above : 0 < g = above_zero g coefs all.1 e in
          let none : list_any (is_long_over g) (constant ∷ coefs) ≡ false = ap (λ b. b && list_any (is_long_over g) (constant ∷ coefs)) (sym e) ∙ short in
          let fit = fits g above (all_fit g (constant ∷ coefs) above all none) in
          divided_short g op m above c cs n.0 fit.0 fit.1
      go false e = absurd (n.0 ((zeros (all_zero coefs e)).0))

-- ---- rows of comparisons

-- both sides of a comparison are numbers, over its denominator
pub record IsNumeric (scope : SlotScope) (l r : Operand) : Type 0 where
  pub numbers : AreNumbers (denominator_of l r) scope l r
  pub positive : pos 0 <ℤ denominator_of l r
  pub shared : ShareDenominator l r
  pub left : is_text_operand scope l ≡ false
  pub right : is_text_operand scope r ≡ false

-- no coefficient of a row is 0
row_nonzero : (m : ℤ) (scope : SlotScope) (l r : Operand) (op : RowOp) → AllNonzero (side_row m scope l r op).coefs
row_nonzero m scope l r op = nonzero-nonzero (mixed (pos 1) (sum_over m scope l).coefs (neg_ℤ (pos 1)) (sum_over m scope r).coefs)

module _ (scope : SlotScope) (l r : Operand) (h : IsNumeric scope l r) (short : is_long_row (row_coefs l r) (row_constant l r) ≡ false) where
  straight : (op : RowOp) → AllShort (numbers (normal_row (difference_row (slot_sum scope l) (slot_sum scope r) op)))
  straight op =
      let m = denominator_of l r in
      let q = side_row m scope l r op in
      subst (λ k. AllShort (numbers k)) (plain_rows scope l r m h.positive refl h.shared h.left h.right op)
      (row_short (row_coefs l r) (row_constant l r) op q.constant short q.coefs (row_nonzero m scope l r op) (λ all. row_has m IsZero refl zero_turned scope l r op h.numbers all)
      (λ g above fit. (constant_has m (IsFit g) (fit_zero g above) (fit_turned g) scope l r op h.numbers fit.0, row_has m (IsFit g) (fit_zero g above) (fit_turned g) scope l r op h.numbers fit.1)))

  turned : (op : RowOp) → AllShort (numbers (normal_row (difference_row (slot_sum scope r) (slot_sum scope l) op)))
  turned op =
      let m = denominator_of l r in
      let q = side_row m scope r l op in
      subst (λ k. AllShort (numbers k)) (plain_rows_turned scope l r m h.positive refl h.shared h.left h.right op)
      (row_short (row_coefs l r) (row_constant l r) op q.constant short q.coefs (row_nonzero m scope r l op) (λ all. turned_row_has m IsZero refl zero_turned scope l r op h.numbers all)
      (λ g above fit. (turned_constant_has m (IsFit g) (fit_zero g above) (fit_turned g) scope l r op h.numbers fit.0, turned_row_has m (IsFit g) (fit_zero g above) (fit_turned g) scope l r op h.numbers fit.1)))

  -- the row of a comparison
  pub comparison_short : (op : CompareOp) → AllShort (numbers (normal_row (comparison_row (slot_sum scope l) op (slot_sum scope r))))
  comparison_short Less = straight Below
  comparison_short LessEq = straight AtMost
  comparison_short Equal = straight Zero
  comparison_short NotEqual = straight Zero
  comparison_short GreaterEq = turned AtMost
  comparison_short Greater = turned Below
