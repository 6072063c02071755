-- A sum in lowest numbers: all numbers of the sum are those of this one, times one number above 0.
--
-- So it has the same names, and the row of an argument is the same one: that of the sum is a multiple of it.
use Rattle.std.proofs.Common.{◌≡◌, ◌≢◌, ℕ, zero, suc, max, ◌*◌, ◌/◌, ◌^◌, ◌<◌, ◌≤◌, nat_lt, Bool, true, false, cond, ◌||◌, ◌&&◌, List, [], ◌∷◌, arith, refl, sym, ap, ap₂, ◌∙◌, subst, true≢false, bytes_eq, mul-pos, not}
use Rattle.std.specs.Prelude.{ℤ, pos, ◌+ℤ◌, ◌*ℤ◌, ◌<ℤ◌, int_le, int_div, unsigned_abs}
use Rattle.std.specs.List.{list_any}
use lib.IntN.{neg_ℤ}
use Prim.Native.Nat.{◌∣◌}
use Rattle.std.proofs.Math.Nat.{mul-div_cancel_left}
use Rattle.std.proofs.lemmas.Int.{ints, unsigned_abs-mul}
use Rattle.ded_num.specs.Gcd.{nat_gcd, gcd_from, gcd_all}
use Rattle.ded_num.specs.Length.{IsWithin}
use Rattle.ded_num.proofs.Gcds.{DividesAll, DividesAll-gcd_all, IsGcd-nat_gcd, nat_gcd_is}
use Rattle.ded_num.proofs.Ring.{parts, ring, diff_same}
use Rattle.ded_model.specs.declared.slot.Slot.{Slot}
use Rattle.ded_model.specs.declared.slot.Sort.TheVariants.{Rat}
use Rattle.ded_model.specs.declared.row.RowOp.TheVariants.{Zero, AtMost}
use Rattle.ded_model.specs.declared.formula.Operand.{Operand}
use Rattle.ded_model.specs.declared.formula.Operand.TheVariants.{Single, Sum, Quoted}
use Rattle.ded_model.specs.Constraint.{LinearConstraint}
use Rattle.ded_model.specs.Coefs.{put, put_all, nonzero}
use Rattle.ded_model.specs.LongRows.{coefficients, is_nonzero, is_long_over, is_long_argument}
use Rattle.ded_model.specs.Normal.{normal_row}
use Rattle.ded_model.specs.Plain.{AreOnce, IsPlainOperand}
use Rattle.ded_model.specs.Point.{same_slot}
use Rattle.ded_model.specs.Scanned.{argument_row, above_coefs}
use Rattle.ded_model.specs.Slotted.{SlotScope, slot_of, add_parts, slot_sum}
use Rattle.ded_model.specs.Sum.{SlotSum, denominator}
use Rattle.ded_model.specs.Sum as sum
use Rattle.ded_model.proofs.Bools.{or_false_left, or_false_right}
use Rattle.ded_model.proofs.CoefLemmas.{lesser_slot, not_zero}
use Rattle.ded_model.proofs.Divisors.{all_whole, positive_divisor}
use Rattle.ded_model.proofs.LineCoefs.{AllNonzero}
use Rattle.ded_model.proofs.Values.{denominator-positive}
use Rattle.ded_row.specs.Multiples.{coefs_times}
use Rattle.ded_row.proofs.MixedLines.{times-put, times-nonzero}
use Rattle.ded_model.proofs.Normals.{sign_meets-times}
use Rattle.ded_row.proofs.Scaling.{BeginsNonzero, normal_row-times, inner_law}
use Rattle.ded_row.proofs.Shared.{times_nonzero}
use Rattle.ded_linear.proofs.Roots.{gcd_of_zero}
use Rattle.ded_resolve.proofs.Ascending.{Ascend}
use Rattle.ded_resolve.proofs.Denominators.{nonzero_pos}
use Rattle.ded_reread.specs.Operands.{divisor_in, parts_by, lowest_sum, restored_operand}
use Rattle.ded_resolve.proofs.ShortRows.{AllShort, quotient_below}
use Rattle.ded_reread.proofs.Terms.{short_row}
use Rattle.ded_reread.proofs.Rows.{ascend-times, put_all-ascending}

-- ---- multiples of sums

abbrev pub sum_of : List (Slot × ℤ) → ℤ → ℤ → SlotSum
sum_of cs k m = record { coefs = cs; constant = k; over = m }

abbrev pub sum_times : ℤ → SlotSum → SlotSum
sum_times k u = sum_of (coefs_times k u.coefs) (k *ℤ u.constant) (k *ℤ u.over)

-- what divides a number without rest
whole_is : (g : ℕ) (z : ℤ) → g ∣ unsigned_abs z → pos g *ℤ int_div z (pos g) ≡ z
whole_is g z d = (all_whole (pos g) ((record { number = 0; sort = Rat }, z) ∷ []) (d, tt)).0

parts_multiple : (scope : SlotScope) (g : ℕ) (ps : List (List ℕ × ℤ)) → DividesAll g (coefficients ps) → add_parts scope ps ≡ coefs_times (pos g) (add_parts scope (parts_by (pos g) ps))
parts_multiple scope g [] d = refl
parts_multiple scope g (p ∷ ps) d =
    ap₂ (λ (z : ℤ) (cs : List (Slot × ℤ)). put (slot_of scope p.0) z cs) (sym (whole_is g p.1 d.0)) (parts_multiple scope g ps d.1)
    ∙ sym (times-put (pos g) (slot_of scope p.0) (int_div p.1 (pos g)) (add_parts scope (parts_by (pos g) ps)))

-- a factor above 0 of a number above 0 has another one above 0
positive_factor : (g : ℕ) (q z : ℤ) → 0 < g → pos g *ℤ q ≡ z → pos 0 <ℤ z → pos 0 <ℤ q
positive_factor zero q z i e h = absurd (omega (arith, i))
positive_factor (suc n) q z i e h = back q (sym (sign_meets-times AtMost n q) ∙ ap (λ w. int_le w (pos 0)) e ∙ above z h)
  where
    above : (z : ℤ) → pos 0 <ℤ z → int_le z (pos 0) ≡ false
    above z h = grind (arith, ints)

    back : (q : ℤ) → int_le q (pos 0) ≡ false → pos 0 <ℤ q
    back q e = grind (arith, ints)

-- the divisor of a sum
abbrev pub divisor : sum.Sum → ℕ
divisor t = gcd_all (t.over ∷ t.constant ∷ coefficients t.parts)

module _ (t : sum.Sum) (over : pos 0 <ℤ t.over) where
  divides : DividesAll (divisor t) (t.over ∷ t.constant ∷ coefficients t.parts)
  divides = DividesAll-gcd_all (t.over ∷ t.constant ∷ coefficients t.parts)

  pub divisor_positive : 0 < divisor t
  divisor_positive = positive_divisor (divisor t) t.over divides.0 (unequal t.over over)
    where
      unequal : (z : ℤ) → pos 0 <ℤ z → z ≢ pos 0
      unequal z h e = omega (arith, ints)

  pub lowest_over : pos 0 <ℤ (lowest_sum t).over
  lowest_over = positive_factor (divisor t) (lowest_sum t).over t.over divisor_positive (whole_is (divisor t) t.over divides.0) over

  pub sum_multiple : (scope : SlotScope) → slot_sum scope (Sum t) ≡ sum_times (pos (divisor t)) (slot_sum scope (Sum (lowest_sum t)))
  sum_multiple scope =
      let g = pos (divisor t) in
      ap₂ (λ cs k. sum_of cs k t.over)
      (ap nonzero (parts_multiple scope (divisor t) t.parts divides.1.1) ∙ sym (times-nonzero g (add_parts scope (parts_by g t.parts)) (nonzero_pos (divisor t) divisor_positive)))
      (sym (whole_is (divisor t) t.constant divides.1.0))
      ∙ ap (sum_of (coefs_times g (nonzero (add_parts scope (parts_by g t.parts)))) (g *ℤ int_div t.constant g)) (sym (whole_is (divisor t) t.over divides.0))

-- ---- names

-- a test of names
pub any_by : (test : List ℕ → Bool) (g : ℤ) (ps : List (List ℕ × ℤ)) → list_any (λ c. test c.0) (parts_by g ps) ≡ list_any (λ c. test c.0) ps
any_by test g [] = refl
any_by test g (p ∷ ps) = ap (λ b. test p.0 || b) (any_by test g ps)

pub once_by : (g : ℤ) (ps : List (List ℕ × ℤ)) → AreOnce ps → AreOnce (parts_by g ps)
once_by g [] h = tt
once_by g (p ∷ ps) h = (any_by (bytes_eq p.0) g ps ∙ h.0, once_by g ps h.1)

pub plain_operand : (t : Operand) → IsPlainOperand t → IsPlainOperand (restored_operand t)
plain_operand (Single x) h = tt
plain_operand (Sum t) h = (lowest_over t h.0, once_by (divisor_in t) t.parts h.1)
plain_operand (Quoted t) h = tt

-- ---- slots in order

pub above_times : (k : ℤ) (cs : List (Slot × ℤ)) → above_coefs (coefs_times k cs) ≡ above_coefs cs
above_times k [] = refl
above_times k (c ∷ cs) = ap (λ n. max (suc c.0.number) n) (above_times k cs)

-- ---- rows of arguments

swap_law : (j k z : ℤ) → j *ℤ (k *ℤ z) ≡ k *ℤ (j *ℤ z)
swap_law j k z = rw (parts j, parts k, parts z) (simp ring (diff_same _ _ _ _ (omega arith)))

times-swap : (j k : ℤ) (cs : List (Slot × ℤ)) → coefs_times j (coefs_times k cs) ≡ coefs_times k (coefs_times j cs)
times-swap j k [] = refl
times-swap j k (c ∷ cs) = ap₂ (λ (z : ℤ) (ds : List (Slot × ℤ)). (c.0, z) ∷ ds) (swap_law j k c.1) (times-swap j k cs)

-- the denominator of a multiple
pub denominator_times : (n : ℕ) (o : ℤ) → 0 < n → pos 0 <ℤ o → denominator (pos n *ℤ o) ≡ n * denominator o
unfolding denominator
denominator_times n o h i =
    ap (λ m. max 1 m) (unsigned_abs-mul (pos n) o) ∙ one_max (n * unsigned_abs o) (mul-pos h (size o i)) ∙ ap (λ m. n * m) (sym (one_max (unsigned_abs o) (size o i)))
  where
    one_max : (m : ℕ) → 0 < m → max 1 m ≡ m
    one_max m h = omega (arith, h)

    size : (z : ℤ) → pos 0 <ℤ z → 0 < unsigned_abs z
    size z h = omega (arith, ints, h)

abbrev tied : Slot → ℤ → List (Slot × ℤ) → ℤ → LinearConstraint
tied v d cs m = record { coefs = put v d cs; constant = m; op = Zero }

-- a number that isn't 0 at a slot behind all others
begins_put : (v : Slot) (d : ℤ) (cs : List (Slot × ℤ)) → d ≢ pos 0 → AllNonzero cs → above_coefs cs ≤ v.number → BeginsNonzero (put v d cs)
begins_put v d [] n h a = n
begins_put v d (c ∷ cs) n h a =
    go (same_slot c.0 v) (nat_lt v.number c.0.number) (lesser_slot c.0 v (first c.0.number (above_coefs cs) v.number a))
  where
    first : (m k n : ℕ) → max (suc m) k ≤ n → m < n
    first m k n h = omega (arith, h)

    go : (b e : Bool) → b ≡ false → BeginsNonzero (cond b ((c.0, d +ℤ c.1) ∷ cs) (cond e ((v, d) ∷ c ∷ cs) (c ∷ put v d cs)))
    go true e i = absurd (true≢false i)
    go false true i = n
    go false false i = h.0

-- the argument's row is that of a multiple
pub argument_multiple : (v : Slot) (n : ℕ) (u : SlotSum) → 0 < n → pos 0 <ℤ u.over → Ascend u.coefs → AllNonzero u.coefs → above_coefs u.coefs ≤ v.number
    → argument_row v (sum_times (pos n) u) ≡ argument_row v u
argument_multiple v n u h o a z l =
    let k = pos n in
    let minus = neg_ℤ (pos 1) in
    let d = pos (denominator u.over) in
    let cs = put_all minus u.coefs [] in
    let same : cs ≡ coefs_times minus u.coefs = put_all-ascending minus u.coefs a in
    let turned : put_all minus (coefs_times k u.coefs) [] ≡ coefs_times k cs =
    put_all-ascending minus (coefs_times k u.coefs) (ascend-times k u.coefs a) ∙ times-swap minus k u.coefs ∙ ap (coefs_times k) (sym same) in
    let over : pos (denominator (k *ℤ u.over)) ≡ k *ℤ d = ap pos (denominator_times n u.over h o) in
    ap₂ (λ e m. normal_row (tied v e (put_all minus (coefs_times k u.coefs) []) m)) over (inner_law k u.constant)
    ∙ ap (λ ds. normal_row (record { coefs = ds; constant = k *ℤ neg_ℤ u.constant; op = Zero })) (ap (put v (k *ℤ d)) turned ∙ sym (times-put k v d cs))
    ∙ normal_row-times k (tied v d cs (neg_ℤ u.constant)) (record { nonzero = nonzero_pos n h; sign = tt })
    (begins_put v d cs (nonzero_pos (denominator u.over) (denominator-positive u.over)) (subst AllNonzero (sym same) (times_nonzero minus u.coefs minus_one z)) (subst (λ m. m ≤ v.number) (sym (ap above_coefs same ∙ above_times minus u.coefs)) l))
  where
    minus_one : neg_ℤ (pos 1) ≢ pos 0
    minus_one e = absurd (omega (arith, ints))

-- ---- short numbers

gcd_swap : (a b : ℕ) → nat_gcd a b ≡ nat_gcd b a
gcd_swap a b = let g = IsGcd-nat_gcd a b in nat_gcd_is b a (nat_gcd a b) (g.1, g.0, λ d h k. g.2 d k h)

-- the order of the first two doesn't matter
gcd_turned : (y z : ℤ) (zs : List ℤ) → gcd_all (y ∷ z ∷ zs) ≡ gcd_all (z ∷ y ∷ zs)
gcd_turned y z zs =
    ap (λ g. gcd_from (nat_gcd g (unsigned_abs z)) zs) (gcd_of_zero (unsigned_abs y)) ∙ ap (λ g. gcd_from g zs) (gcd_swap (unsigned_abs y) (unsigned_abs z)) ∙ ap (λ g. gcd_from (nat_gcd g (unsigned_abs y)) zs) (sym (gcd_of_zero (unsigned_abs z)))

-- a quotient that isn't long
short_divided : (g : ℕ) (z : ℤ) → 0 < g → g ∣ unsigned_abs z → is_long_over g z ≡ false → IsWithin 63 (int_div z (pos g))
short_divided g z h d e =
    let product : g * unsigned_abs (int_div z (pos g)) ≡ unsigned_abs z = sym (unsigned_abs-mul (pos g) (int_div z (pos g))) ∙ ap unsigned_abs (whole_is g z d) in
    subst (λ n. n < 2 ^ 63) (ap (λ n. n / g) (sym product) ∙ mul-div_cancel_left (unsigned_abs (int_div z (pos g))) h) (quotient_below (unsigned_abs z / g) e)

short_parts : (g : ℕ) (ps : List (List ℕ × ℤ)) → 0 < g → DividesAll g (coefficients ps) → list_any (is_long_over g) (coefficients ps) ≡ false → AllShort (coefficients (parts_by (pos g) ps))
short_parts g [] h d e = tt
short_parts g (p ∷ ps) h d e = (short_divided g p.1 h d.0 (or_false_left _ _ e), short_parts g ps h d.1 (or_false_right (is_long_over g p.1) _ e))

-- a long number is found
pub found_long : (a b : Bool) → a ≡ true → (a && b) ≡ false → b ≡ false
found_long true b e h = h
found_long false b e h = absurd (true≢false (sym e))

pub short_argument : (t : Operand) → IsPlainOperand t → is_long_argument t ≡ false → is_long_argument (restored_operand t) ≡ false
short_argument (Single x) h e = refl
short_argument (Sum t) h e =
    let zs = coefficients t.parts in
    let g = divisor t in
    let i = divisor_positive t h.0 in
    let d = DividesAll-gcd_all (t.over ∷ t.constant ∷ zs) in
    let none : list_any (is_long_over (gcd_all (t.constant ∷ t.over ∷ zs))) (t.constant ∷ t.over ∷ zs) ≡ false =
    found_long (list_any is_nonzero (t.over ∷ zs)) _ (ap (λ b. b || list_any is_nonzero zs) (is_nonzero_above t.over h.0)) e in
    let each : list_any (is_long_over g) (t.constant ∷ t.over ∷ zs) ≡ false = ap (λ m. list_any (is_long_over m) (t.constant ∷ t.over ∷ zs)) (gcd_turned t.over t.constant zs) ∙ none in
    let rest = or_false_right (is_long_over g t.constant) _ each in
    short_row ((lowest_sum t).over ∷ coefficients (lowest_sum t).parts) (lowest_sum t).constant (
      short_divided g t.constant i d.1.0 (or_false_left _ _ each),
      (short_divided g t.over i d.0 (or_false_left _ _ rest), short_parts g t.parts i d.1.1 (or_false_right (is_long_over g t.over) _ rest)),
    )
  where
    is_nonzero_above : (z : ℤ) → pos 0 <ℤ z → is_nonzero z ≡ true
    is_nonzero_above z l = ap not (not_zero z (unequal z l))
      where
        unequal : (z : ℤ) → pos 0 <ℤ z → z ≢ pos 0
        unequal z h e = omega (arith, ints)
short_argument (Quoted t) h e = refl
