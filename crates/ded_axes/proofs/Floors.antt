-- Whole numbers around fractions, and spans of them.
use Rattle.std.proofs.Common.{◌≡◌, ◌<◌, ◌≤◌, ℕ, zero, suc, ◌+◌, ◌*◌, Bool, true, false, refl, sym, ap₂, ◌∙◌, subst, arith, to_z, of_z}
use Rattle.std.specs.Prelude.{ℤ, pos, negsuc, ◌+ℤ◌, ◌*ℤ◌, ◌<ℤ◌, ◌≤ℤ◌, neg_ℤ, int_le, unsigned_abs, if◌then◌else◌}
use Rattle.std.specs.Int.{w128, int_rem_euclid}
use Rattle.std.proofs.lemmas.Int.{ints}
use Rattle.std.proofs.Math.Nat.{lt_of_mul-lt-mul_right}
use Rattle.ded_num.specs.Length.{IsWithin}
use Rattle.ded_num.proofs.Fractions.{whole_and_rest_is}
use Rattle.ded_num.proofs.Signs.{short_in_code}
use Rattle.ded_model.proofs.CoefLemmas.{is_lesser}
use Rattle.ded_axes.specs.Spans.{IsSpan}
use Rattle.ded_axes.specs.Around.{floor, ceiling, is_near, least, greatest}

rest_below : (n d : ℤ) → pos 0 <ℤ d → pos (unsigned_abs (int_rem_euclid n d)) <ℤ d
rest_below (pos a) (pos b) h = omega (arith, ints, h)
rest_below (negsuc a) (pos b) h = omega (arith, ints, h)
rest_below n (negsuc b) h = absurd (omega (arith, ints, h))

-- the whole quotient of w by n, above 0
pub record IsFloor (w : ℤ) (n : ℕ) (q : ℤ) : Type 0 where
  pub rest : ℕ
  pub less : rest < n
  pub is : w ≡ q *ℤ pos n +ℤ pos rest

pub is_floor : (w : ℤ) (n : ℕ) → 0 < n → IsFloor w n (floor w (pos n))
is_floor w n some =
    let positive : pos 0 <ℤ pos n = omega (arith, ints, some) in
    record {
      rest = unsigned_abs (int_rem_euclid w (pos n));
      less = let h = rest_below w (pos n) positive in omega (arith, ints, h);
      is = whole_and_rest_is w (pos n) positive;
    }

-- a quotient is about as short as it should be
quotient_near : (w q : ℤ) (n k r : ℕ) → r < n → w ≡ q *ℤ pos n +ℤ pos r → unsigned_abs w < k * n → unsigned_abs q ≤ k
quotient_near w (pos a) n k r less is near =
    let below : a * n < k * n = omega (arith, ints, is, near) in
    let h : a < k = lt_of_mul-lt-mul_right n below in
    omega (arith, h)
quotient_near w (negsuc a) n k r less is near =
    let below : a * n < k * n = omega (arith, ints, is, near, less) in
    let h : a < k = lt_of_mul-lt-mul_right n below in
    omega (arith, h)

-- ---- the whole units around w / d, where that is below 2 ^ 60 in size
module _ (w : ℤ) (n : ℕ) (some : 0 < n) (near : unsigned_abs w < 1152921504606846976 * n) where
  floor_within : IsWithin 61 (floor w (pos n))
  floor_within = let f = is_floor w n some in let h = quotient_near w (floor w (pos n)) n 1152921504606846976 f.rest f.less f.is near in omega (arith, h)

  negative_near : unsigned_abs (neg_ℤ w) < 1152921504606846976 * n
  negative_near = omega (arith, ints, near)

  ceiling_within : IsWithin 61 (ceiling w (pos n))
  ceiling_within =
      let f = is_floor (neg_ℤ w) n some in
      let h = quotient_near (neg_ℤ w) (floor (neg_ℤ w) (pos n)) n 1152921504606846976 f.rest f.less f.is negative_near in
      same_size (floor (neg_ℤ w) (pos n)) h
    where
      same_size : (q : ℤ) → unsigned_abs q ≤ 1152921504606846976 → IsWithin 61 (neg_ℤ q)
      same_size q h = omega (arith, ints, h)

-- p n is at most w, and q n at most -w
in_order : (w p q : ℤ) (n r s : ℕ) → 0 < n → w ≡ p *ℤ pos n +ℤ pos r → neg_ℤ w ≡ q *ℤ pos n +ℤ pos s → p ≤ℤ neg_ℤ q
in_order w (pos a) (pos zero) n r s some e f =
    let h : a * n < 1 * n = omega (arith, ints, e, f, some) in
    let k : a < 1 = lt_of_mul-lt-mul_right n h in
    omega (arith, ints, k)
in_order w (pos a) (pos (suc b)) n r s some e f = absurd (let h : suc b * n ≡ n + b * n = omega arith in omega (arith, ints, e, f, some, h))
in_order w (pos a) (negsuc b) n r s some e f =
    let h : a * n < (suc b + 1) * n = omega (arith, ints, e, f, some) in
    let k : a < suc b + 1 = lt_of_mul-lt-mul_right n h in
    omega (arith, ints, k)
in_order w (negsuc a) (pos b) n r s some e f =
    let h : b * n < (suc a + 1) * n = omega (arith, ints, e, f, some) in
    let k : b < suc a + 1 = lt_of_mul-lt-mul_right n h in
    omega (arith, ints, k)
in_order w (negsuc a) (negsuc b) n r s some e f = omega (arith, ints)

pub floor_ceiling : (w : ℤ) (n : ℕ) → 0 < n → floor w (pos n) ≤ℤ ceiling w (pos n)
floor_ceiling w n some =
    let f = is_floor w n some in
    let g = is_floor (neg_ℤ w) n some in
    in_order w (floor w (pos n)) (floor (neg_ℤ w) (pos n)) n f.rest g.rest some f.is g.is

-- the span of whole units
pub around_span : (w d : ℤ) → pos 0 <ℤ d → unsigned_abs w < 1152921504606846976 * unsigned_abs d → IsSpan (record { low = floor w d; high = ceiling w d })
around_span w (pos n) positive near =
    let some : 0 < n = omega (arith, ints, positive) in
    record { low = floor_within w n some near; high = ceiling_within w n some near; order = floor_ceiling w n some }
around_span w (negsuc n) positive near = absurd (omega (arith, ints, positive))

-- as it is read
pub span_read : (l h : ℤ) → IsSpan (record { low = l; high = h }) → IsSpan (record { low = to_z w128 (of_z w128 l); high = to_z w128 (of_z w128 h) })
span_read l h s =
    let low = s.low in
    let high = s.high in
    subst (λ x. IsSpan (record { low = x; high = to_z w128 (of_z w128 h) })) (sym (short_in_code l (omega (arith, low))))
    (subst (λ x. IsSpan (record { low = l; high = x })) (sym (short_in_code h (omega (arith, high)))) s)

-- ---- two spans
is_one : (P : ℤ → Type 0) (b : Bool) (x y : ℤ) → P x → P y → P (if b then x else y)
is_one P true x y p q = p
is_one P false x y p q = q

le_true : (a b : ℤ) → int_le a b ≡ true → a ≤ℤ b
le_true a b e = grind (arith, ints, e)

le_false : (a b : ℤ) → int_le a b ≡ false → b ≤ℤ a
le_false a b e = grind (arith, ints, e)

pub least_left : (a b : ℤ) → least a b ≤ℤ a
least_left a b = by (int_le a b) refl
  where
    by : (t : Bool) → int_le a b ≡ t → (if t then a else b) ≤ℤ a
    by true e = omega (arith, ints)
    by false e = le_false a b e

pub least_right : (a b : ℤ) → least a b ≤ℤ b
least_right a b = by (int_le a b) refl
  where
    by : (t : Bool) → int_le a b ≡ t → (if t then a else b) ≤ℤ b
    by true e = le_true a b e
    by false e = omega (arith, ints)

pub greatest_left : (a b : ℤ) → a ≤ℤ greatest a b
greatest_left a b = by (int_le a b) refl
  where
    by : (t : Bool) → int_le a b ≡ t → a ≤ℤ (if t then b else a)
    by true e = le_true a b e
    by false e = omega (arith, ints)

pub greatest_right : (a b : ℤ) → b ≤ℤ greatest a b
greatest_right a b = by (int_le a b) refl
  where
    by : (t : Bool) → int_le a b ≡ t → b ≤ℤ (if t then b else a)
    by true e = omega (arith, ints)
    by false e = le_false a b e

pub chain : (a b c d : ℤ) → a ≤ℤ b → b ≤ℤ c → c ≤ℤ d → a ≤ℤ d
chain a b c d h k l = omega (arith, ints, h, k, l)

pub joined_spans : (a b c d : ℤ) → IsSpan (record { low = a; high = b }) → IsSpan (record { low = c; high = d }) → IsSpan (record { low = least a c; high = greatest b d })
joined_spans a b c d s t = record {
  low = is_one (IsWithin 61) (int_le a c) a c s.low t.low;
  high = is_one (IsWithin 61) (int_le b d) d b t.high s.high;
  order = chain (least a c) a b (greatest b d) (least_left a c) s.order (greatest_left b d);
}

-- as they are read
pub joined_read : (a b c d l g : ℤ) → IsSpan (record { low = a; high = b }) → IsSpan (record { low = c; high = d })
    → l ≡ least (to_z w128 (of_z w128 a)) (to_z w128 (of_z w128 c)) → g ≡ greatest (to_z w128 (of_z w128 b)) (to_z w128 (of_z w128 d))
    → IsSpan (record { low = to_z w128 (of_z w128 l); high = to_z w128 (of_z w128 g) })
joined_read a b c d l g s t e f =
    let p = s.low in
    let q = s.high in
    let u = t.low in
    let v = t.high in
    span_read l g
    (subst (λ x. IsSpan (record { low = x; high = g })) (sym (e ∙ ap₂ least (short_in_code a (omega (arith, p))) (short_in_code c (omega (arith, u)))))
    (subst (λ y. IsSpan (record { low = least a c; high = y })) (sym (f ∙ ap₂ greatest (short_in_code b (omega (arith, q))) (short_in_code d (omega (arith, v))))) (joined_spans a b c d s t)))

-- the span of a number that is near
pub found_span : (den z d w f g : ℤ) → IsWithin 30 den → IsWithin 94 z → IsWithin 63 d → pos 0 <ℤ d → is_near den z d ≡ true → w ≡ to_z w128 (of_z w128 z) *ℤ to_z w128 (of_z w128 den)
    → f ≡ floor (to_z w128 (of_z w128 w)) (to_z w128 (of_z w128 d)) → g ≡ ceiling (to_z w128 (of_z w128 w)) (to_z w128 (of_z w128 d)) → IsSpan (record { low = to_z w128 (of_z w128 f); high = to_z w128 (of_z w128 g) })
found_span den z d w f g hden hz hd positive near is_w is_f is_g =
    let w_is : w ≡ z *ℤ den = is_w ∙ ap₂ (λ (x y : ℤ). x *ℤ y) (short_in_code z (omega (arith, hz))) (short_in_code den (omega (arith, hden))) in
    let close : unsigned_abs (z *ℤ den) < 1152921504606846976 * unsigned_abs d = is_lesser (unsigned_abs (z *ℤ den)) (1152921504606846976 * unsigned_abs d) near in
    let close_w : unsigned_abs w < 1152921504606846976 * unsigned_abs d = subst (λ x. unsigned_abs x < 1152921504606846976 * unsigned_abs d) (sym w_is) close in
    let same_w = short_in_code w (omega (arith, close_w, hd)) in
    let same_d = short_in_code d (omega (arith, hd)) in
    span_read f g
    (subst (λ x. IsSpan (record { low = x; high = g })) (sym (is_f ∙ ap₂ floor same_w same_d))
    (subst (λ y. IsSpan (record { low = floor w d; high = y })) (sym (is_g ∙ ap₂ ceiling same_w same_d)) (around_span w d positive close_w)))
