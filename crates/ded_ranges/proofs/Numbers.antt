-- Numbers that are kept as far as 127 binary digits go, and products with signs.
use Rattle.std.proofs.Common.{◌≡◌, ℕ, suc, ◌-◌, ◌^◌, ◌<◌, ◌≤◌, Bool, true, false, cond, Option, Some, None, arith, refl, sym, ap, ◌∙◌, subst, true≢false, ◌⊎◌, inl, inr, SFits}
use Rattle.std.specs.Prelude.{ℤ, pos, negsuc, ◌+ℤ◌, ◌*ℤ◌, ◌≤ℤ◌, ◌<ℤ◌, int_lt, int_le, neg_ℤ, unsigned_abs}
use Rattle.std.specs.Int.{w128}
use Rattle.std.specs.Option.{SomeIff}
use Rattle.ded_num.specs.Length.{IsShort}
use Rattle.std.proofs.lemmas.Int.{ints}
use Rattle.std.proofs.Math.IntN.{*ℤ-zero}
use Rattle.ded_num.proofs.Signs.{unsigned_abs-neg}
use Rattle.ded_ranges.specs.Reaches.{NotAbove}
use Rattle.ded_ranges.specs.Limits.{kept, turned, is_same_sign, beyond}
use Rattle.ded_ranges.specs.Scaling.{lt_true, lt_false, of_lt_true, of_le_true, of_lt_false, le_self, times_up, times_neg}

-- ---- what is kept

-- below n, from both sides
abbrev cut : ℕ → ℤ → Option ℤ
cut n z = cond (int_lt (neg_ℤ (pos n)) z) (cond (int_lt z (pos n)) (Some z) (Some (pos (n - 1)))) None

cut_same : (n : ℕ) (z : ℤ) → neg_ℤ (pos n) <ℤ z → z <ℤ pos n → cut n z ≡ Some z
cut_same n z h k = rw (lt_true (neg_ℤ (pos n)) z h, lt_true z (pos n) k) refl

above_negative : (n : ℕ) (z : ℤ) → 0 < n → pos n ≤ℤ z → neg_ℤ (pos n) <ℤ z
above_negative n z p h = omega (arith, ints)

cut_high : (n : ℕ) (z : ℤ) → 0 < n → pos n ≤ℤ z → cut n z ≡ Some (pos (n - 1))
cut_high n z p h = rw (lt_true (neg_ℤ (pos n)) z (above_negative n z p h), lt_false z (pos n) h) refl

cut_low : (n : ℕ) (z : ℤ) → z ≤ℤ neg_ℤ (pos n) → cut n z ≡ None
cut_low n z h = rw (lt_false (neg_ℤ (pos n)) z h) refl

-- at most the number
abbrev pub UpTo : Option ℤ → ℤ → Type 0
UpTo None z = Unit {0}
UpTo (Some k) z = k ≤ℤ z

one_less : (n : ℕ) (z : ℤ) → pos n ≤ℤ z → pos (n - 1) ≤ℤ z
one_less n z h = omega (arith, ints)

cut_under : (n : ℕ) (z : ℤ) → UpTo (cut n z) z
cut_under n z = by (int_lt (neg_ℤ (pos n)) z) (int_lt z (pos n)) refl
  where
    by : (b c : Bool) → int_lt z (pos n) ≡ c → UpTo (cond b (cond c (Some z) (Some (pos (n - 1)))) None) z
    by false c e = tt
    by true true e = le_self z
    by true false e = one_less n z (of_lt_false z (pos n) e)

below_high : (n : ℕ) (x : ℤ) → x <ℤ pos n → x ≤ℤ pos (n - 1)
below_high n x h = omega (arith, ints)

too_high : (n : ℕ) (x y : ℤ) → x ≤ℤ y → pos n ≤ℤ x → y <ℤ pos n → ⊥
too_high n x y h k l = omega (arith, ints)

lt_le : (a x y : ℤ) → a <ℤ x → x ≤ℤ y → a <ℤ y
lt_le a x y h k = omega (arith, ints)

cut_mono : (n : ℕ) (x y : ℤ) → x ≤ℤ y → NotAbove (cut n x) (cut n y)
cut_mono n x y h = by (int_lt (neg_ℤ (pos n)) x) (int_lt x (pos n)) (int_lt (neg_ℤ (pos n)) y) (int_lt y (pos n)) refl refl refl refl
  where
    by : (a b c d : Bool) → int_lt (neg_ℤ (pos n)) x ≡ a → int_lt x (pos n) ≡ b → int_lt (neg_ℤ (pos n)) y ≡ c → int_lt y (pos n) ≡ d
        → NotAbove (cond a (cond b (Some x) (Some (pos (n - 1)))) None) (cond c (cond d (Some y) (Some (pos (n - 1)))) None)
    by false b c d e f g i = tt
    by true b false d e f g i = absurd (true≢false (sym (lt_true (neg_ℤ (pos n)) y (lt_le (neg_ℤ (pos n)) x y (of_lt_true (neg_ℤ (pos n)) x e) h)) ∙ g))
    by true true true true e f g i = h
    by true true true false e f g i = below_high n x (of_lt_true x (pos n) f)
    by true false true true e f g i = absurd (too_high n x y h (of_lt_false x (pos n) f) (of_lt_true y (pos n) i))
    by true false true false e f g i = le_self (pos (n - 1))

pub kept_same : (z : ℤ) → neg_ℤ (pos (2 ^ 127)) <ℤ z → z <ℤ pos (2 ^ 127) → kept z ≡ Some z
unfolding kept
kept_same z h k = cut_same (2 ^ 127) z h k

pub kept_high : (z : ℤ) → pos (2 ^ 127) ≤ℤ z → kept z ≡ Some (pos (2 ^ 127 - 1))
unfolding kept
kept_high z h = cut_high (2 ^ 127) z (omega arith) h

pub kept_low : (z : ℤ) → z ≤ℤ neg_ℤ (pos (2 ^ 127)) → kept z ≡ None
unfolding kept
kept_low z h = cut_low (2 ^ 127) z h

pub kept_under : (z : ℤ) → UpTo (kept z) z
unfolding kept
kept_under z = cut_under (2 ^ 127) z

pub kept_mono : (x y : ℤ) → x ≤ℤ y → NotAbove (kept x) (kept y)
unfolding kept
kept_mono x y h = cut_mono (2 ^ 127) x y h

-- ---- products

pub times_down : (k x y : ℤ) → k ≤ℤ pos 0 → x ≤ℤ y → (k *ℤ y) ≤ℤ (k *ℤ x)
times_down k x y h l =
    let u = times_up (neg_ℤ k) x y (omega (arith, ints)) l in
    turn (k *ℤ x) (k *ℤ y) (neg_ℤ k *ℤ x) (neg_ℤ k *ℤ y) (times_neg k x) (times_neg k y) u
  where
    turn : (a b c d : ℤ) → c ≡ neg_ℤ a → d ≡ neg_ℤ b → c ≤ℤ d → b ≤ℤ a
    turn a b c d e f h = omega (arith, ints)

-- ---- what is short, and what isn't

nat_ranks : (n k : ℕ) → n ≤ k ⊎ k < n
nat_ranks n k = grind arith

pub short_low : (n : ℕ) (z : ℤ) → unsigned_abs z < n → neg_ℤ (pos n) <ℤ z
short_low n (pos k) h = omega (arith, ints)
short_low n (negsuc k) h = omega (arith, ints)

pub short_high : (n : ℕ) (z : ℤ) → unsigned_abs z < n → z <ℤ pos n
short_high n (pos k) h = omega (arith, ints)
short_high n (negsuc k) h = omega (arith, ints)

long_high : (n : ℕ) (z : ℤ) → (unsigned_abs z < n → ⊥) → neg_ℤ (pos n) <ℤ z → pos n ≤ℤ z
long_high n (pos k) h l = at_least (nat_ranks n k)
  where
    at_least : n ≤ k ⊎ k < n → pos n ≤ℤ pos k
    at_least (inl e) = omega (arith, ints)
    at_least (inr e) = absurd (h e)
long_high n (negsuc k) h l = absurd (h (inside n k l))
  where
    inside : (n k : ℕ) → neg_ℤ (pos n) <ℤ negsuc k → suc k < n
    inside n k l = omega (arith, ints)

long_low : (n : ℕ) (z : ℤ) → (unsigned_abs z < n → ⊥) → z <ℤ pos n → z ≤ℤ neg_ℤ (pos n)
long_low n (pos k) h l = absurd (h (inside n k l))
  where
    inside : (n k : ℕ) → pos k <ℤ pos n → k < n
    inside n k l = omega (arith, ints)
long_low n (negsuc k) h l = at_least (nat_ranks n (suc k))
  where
    at_least : n ≤ suc k ⊎ suc k < n → negsuc k ≤ℤ neg_ℤ (pos n)
    at_least (inl e) = omega (arith, ints)
    at_least (inr e) = absurd (h e)

negative_low : (n : ℕ) (z : ℤ) → 0 < n → pos 0 ≤ℤ z → neg_ℤ (pos n) <ℤ z
negative_low n z p h = omega (arith, ints)

negative_high : (n : ℕ) (z : ℤ) → 0 < n → z ≤ℤ pos 0 → z <ℤ pos n
negative_high n z p h = omega (arith, ints)

turned_up : (n : ℕ) (z : ℤ) → pos n ≤ℤ z → neg_ℤ z ≤ℤ neg_ℤ (pos n)
turned_up n z h = omega (arith, ints)

turned_down : (n : ℕ) (z : ℤ) → z ≤ℤ neg_ℤ (pos n) → pos n ≤ℤ neg_ℤ z
turned_down n z h = omega (arith, ints)

short_turned : (b : Bool) (z : ℤ) → IsShort z → IsShort (turned b z)
short_turned true z h = subst (λ k. k < 2 ^ 127) (sym (unsigned_abs-neg z)) h
short_turned false z h = h

pub kept_short : (z : ℤ) → IsShort z → kept z ≡ Some z
kept_short z h = kept_same z (short_low (2 ^ 127) z h) (short_high (2 ^ 127) z h)

turned_times : (b : Bool) (x y : ℤ) → turned b x *ℤ y ≡ turned b (x *ℤ y)
turned_times true x y = times_neg x y
turned_times false x y = refl

-- ---- what the program computes

pub product_short : (b : Bool) (x y p r : ℤ) (o : Option ℤ) → SomeIff o (IsShort (x *ℤ y)) (x *ℤ y) → o ≡ Some p → r ≡ turned b p → Some r ≡ kept (turned b x *ℤ y)
product_short b x y p r o h e f =
    let s = subst (λ o. SomeIff o (IsShort (x *ℤ y)) (x *ℤ y)) e h in
    ap Some (f ∙ ap (turned b) s.1) ∙ sym (ap kept (turned_times b x y) ∙ kept_short (turned b (x *ℤ y)) (short_turned b (x *ℤ y) s.0))

-- the sign of a product
zero_times : (k : ℤ) → k *ℤ pos 0 ≡ pos 0
zero_times k = *ℤ-zero k

sign_up : (x y : ℤ) → is_same_sign x y ≡ true → pos 0 ≤ℤ (x *ℤ y)
sign_up x y h = by (int_lt x (pos 0)) refl h
  where
    weak : (x : ℤ) → x <ℤ pos 0 → x ≤ℤ pos 0
    weak x h = omega (arith, ints)

    by : (b : Bool) → int_lt x (pos 0) ≡ b → cond b (int_lt y (pos 0)) (int_le (pos 0) y) ≡ true → pos 0 ≤ℤ (x *ℤ y)
    by true e h = subst (λ z. z ≤ℤ (x *ℤ y)) (zero_times x) (times_down x y (pos 0) (weak x (of_lt_true x (pos 0) e)) (weak y (of_lt_true y (pos 0) h)))
    by false e h = subst (λ z. z ≤ℤ (x *ℤ y)) (zero_times x) (times_up x (pos 0) y (of_lt_false x (pos 0) e) (of_le_true (pos 0) y h))

sign_down : (x y : ℤ) → is_same_sign x y ≡ false → (x *ℤ y) ≤ℤ pos 0
sign_down x y h = by (int_lt x (pos 0)) refl h
  where
    weak : (x : ℤ) → x <ℤ pos 0 → x ≤ℤ pos 0
    weak x h = omega (arith, ints)

    of_not_le : (y : ℤ) → int_le (pos 0) y ≡ false → y ≤ℤ pos 0
    of_not_le y h = grind (arith, ints)

    by : (b : Bool) → int_lt x (pos 0) ≡ b → cond b (int_lt y (pos 0)) (int_le (pos 0) y) ≡ false → (x *ℤ y) ≤ℤ pos 0
    by true e h = subst (λ z. (x *ℤ y) ≤ℤ z) (zero_times x) (times_down x (pos 0) y (weak x (of_lt_true x (pos 0) e)) (of_lt_false y (pos 0) h))
    by false e h = subst (λ z. (x *ℤ y) ≤ℤ z) (zero_times x) (times_up x y (pos 0) (of_lt_false x (pos 0) e) (of_not_le y h))

some_count : 0 < 2 ^ 127
some_count = omega arith

-- a number that is too long, on the one side or on the other
beyond_above : (b : Bool) (z : ℤ) → (IsShort z → ⊥) → neg_ℤ (pos (2 ^ 127)) <ℤ z → beyond true b ≡ kept (turned b z)
beyond_above true z h l = sym (kept_low (neg_ℤ z) (turned_up (2 ^ 127) z (long_high (2 ^ 127) z h l)))
beyond_above false z h l = sym (kept_high z (long_high (2 ^ 127) z h l))

beyond_below : (b : Bool) (z : ℤ) → (IsShort z → ⊥) → z <ℤ pos (2 ^ 127) → beyond false b ≡ kept (turned b z)
beyond_below true z h l = sym (kept_high (neg_ℤ z) (turned_down (2 ^ 127) z (long_low (2 ^ 127) z h l)))
beyond_below false z h l = sym (kept_low z (long_low (2 ^ 127) z h l))

pub product_long : (b : Bool) (x y : ℤ) (o : Option ℤ) → SomeIff o (IsShort (x *ℤ y)) (x *ℤ y) → o ≡ None → beyond (is_same_sign x y) b ≡ kept (turned b x *ℤ y)
product_long b x y o h e = by (is_same_sign x y) refl ∙ sym (ap kept (turned_times b x y))
  where
    long : IsShort (x *ℤ y) → ⊥
    long = subst (λ o. SomeIff o (IsShort (x *ℤ y)) (x *ℤ y)) e h

    by : (s : Bool) → is_same_sign x y ≡ s → beyond s b ≡ kept (turned b (x *ℤ y))
    by true f = beyond_above b (x *ℤ y) long (negative_low (2 ^ 127) (x *ℤ y) some_count (sign_up x y f))
    by false f = beyond_below b (x *ℤ y) long (negative_high (2 ^ 127) (x *ℤ y) some_count (sign_down x y f))

pub sum_short : (z p : ℤ) (o : Option ℤ) → SomeIff o (IsShort z) z → o ≡ Some p → Some p ≡ kept z
sum_short z p o h e =
    let s = subst (λ o. SomeIff o (IsShort z) z) e h in
    ap Some s.1 ∙ sym (kept_short z s.0)

pub sum_long : (x y : ℤ) (o : Option ℤ) → SFits w128 x → SFits w128 y → SomeIff o (IsShort (x +ℤ y)) (x +ℤ y) → o ≡ None → beyond (int_lt (pos 0) x) false ≡ kept (x +ℤ y)
sum_long x y o fx fy h e = by (int_lt (pos 0) x) refl
  where
    long : IsShort (x +ℤ y) → ⊥
    long = subst (λ o. SomeIff o (IsShort (x +ℤ y)) (x +ℤ y)) e h

    least_above : (n : ℕ) (x y : ℤ) → pos 0 <ℤ x → neg_ℤ (pos n) ≤ℤ y → neg_ℤ (pos n) <ℤ (x +ℤ y)
    least_above n x y h k = omega (arith, ints)

    most_below : (n : ℕ) (x y : ℤ) → x ≤ℤ pos 0 → y <ℤ pos n → (x +ℤ y) <ℤ pos n
    most_below n x y h k = omega (arith, ints)

    fits_low : (y : ℤ) → SFits w128 y → neg_ℤ (pos (2 ^ 127)) ≤ℤ y
    fits_low y f = omega (arith, ints)

    fits_high : (y : ℤ) → SFits w128 y → y <ℤ pos (2 ^ 127)
    fits_high y f = omega (arith, ints)

    by : (s : Bool) → int_lt (pos 0) x ≡ s → beyond s false ≡ kept (x +ℤ y)
    by true f = beyond_above false (x +ℤ y) long (least_above (2 ^ 127) x y (of_lt_true (pos 0) x f) (fits_low y fy))
    by false f = beyond_below false (x +ℤ y) long (most_below (2 ^ 127) x y (of_lt_false (pos 0) x f) (fits_high y fy))
