-- Codes of ends: they stand in the order of their units, and give them back.
use Rattle.std.proofs.Common.{◌≡◌, ℕ, ◌<◌, ◌^◌, Bool, true, false, cond, Option, Some, None, arith, refl, sym, ap, ◌∙◌, subst, SFits}
use Rattle.std.specs.Prelude.{ℤ, pos, ◌+ℤ◌, ◌-ℤ◌, ◌*ℤ◌, ◌≤ℤ◌, ◌<ℤ◌, int_lt, int_le, neg_ℤ}
use Rattle.std.specs.Int.{int_div_euclid, w64}
use Rattle.std.specs.Ordering.{int_eq}
use Rattle.std.proofs.lemmas.Int.{ints}
use Rattle.std.proofs.lemmas.Bool.Decides.{Decides-int_eq}
use Rattle.ded_num.proofs.Ring.{parts, diff_same, ring}
use Rattle.ded_ranges.specs.Codes.{fine, edge, shift, lowest, units_of, code_of, end_of, code_at, turned, is_lower, is_up_to}
use Rattle.ded_ranges.specs.Scaling.{lt_true, lt_false, of_lt_true, of_lt_false, le_self, le_unscale, lt_unscale, times_lt, quotient_next, quotient_up_to}

-- ---- sums

positive : (f : ℕ) → 0 < f → pos 0 <ℤ pos f
positive f h = omega (arith, ints)

below_shifted : (c e s : ℤ) → c <ℤ neg_ℤ e → (c +ℤ s) <ℤ neg_ℤ (e -ℤ s)
below_shifted c e s h = omega (arith, ints)

above_shifted : (c e s : ℤ) → e <ℤ c → (e -ℤ s) <ℤ (c -ℤ s)
above_shifted c e s h = omega (arith, ints)

shifted_below : (q e s : ℤ) → q <ℤ neg_ℤ (e -ℤ s) → (q -ℤ s) <ℤ neg_ℤ e
shifted_below q e s h = omega (arith, ints)

shifted_above : (q e s : ℤ) → (e -ℤ s) <ℤ (q +ℤ pos 1) → e ≤ℤ (q +ℤ s)
shifted_above q e s h = omega (arith, ints)

times_turned : (k x : ℤ) → k *ℤ neg_ℤ x ≡ neg_ℤ (k *ℤ x)
times_turned k x = rw (parts k, parts x) (simp ring (diff_same _ _ _ _ (omega arith)))

lt_as : (a b c : ℤ) → a <ℤ b → b ≡ c → a <ℤ c
lt_as a b c h e = omega (arith, ints)

as_lt : (a b c : ℤ) → a ≡ b → b <ℤ c → a <ℤ c
as_lt a b c e h = omega (arith, ints)

as_le : (a b c : ℤ) → a ≡ b → b ≤ℤ c → a ≤ℤ c
as_le a b c e h = omega (arith, ints)

lt_le : (a b c : ℤ) → a <ℤ b → b ≤ℤ c → a <ℤ c
lt_le a b c h k = omega (arith, ints)

le_lt : (a b c : ℤ) → a ≤ℤ b → b <ℤ c → a <ℤ c
le_lt a b c h k = omega (arith, ints)

lt_trans : (a b c : ℤ) → a <ℤ b → b <ℤ c → a <ℤ c
lt_trans a b c h k = omega (arith, ints)

lt_weak : (a b : ℤ) → a <ℤ b → a ≤ℤ b
lt_weak a b h = omega (arith, ints)

apart : (a b : ℤ) → a <ℤ b → b ≤ℤ a → ⊥
apart a b h k = omega (arith, ints)

sides : (e : ℤ) → pos 0 ≤ℤ e → neg_ℤ e ≤ℤ e
sides e h = omega (arith, ints)

plus_minus : (c s : ℤ) → (c +ℤ s) -ℤ s ≡ c
plus_minus c s = omega (arith, ints)

minus_plus : (c s : ℤ) → (c -ℤ s) +ℤ s ≡ c
minus_plus c s = omega (arith, ints)

le_same : (a b : ℤ) → a ≤ℤ b → b ≤ℤ a → a ≡ b
le_same a b h k = omega (arith, ints)

next_le : (a b : ℤ) → a <ℤ (b +ℤ pos 1) → a ≤ℤ b
next_le a b h = omega (arith, ints)

-- the quotient of a multiple
quotient_of : (w : ℤ) (f : ℕ) → 0 < f → int_div_euclid (pos f *ℤ w) (pos f) ≡ w
quotient_of w f p =
    le_same (int_div_euclid (pos f *ℤ w) (pos f)) w (le_unscale (pos f) (int_div_euclid (pos f *ℤ w) (pos f)) w (positive f p) (quotient_up_to (pos f *ℤ w) f p))
    (next_le w (int_div_euclid (pos f *ℤ w) (pos f)) (lt_unscale (pos f) w (int_div_euclid (pos f *ℤ w) (pos f) +ℤ pos 1) (positive f p) (quotient_next (pos f *ℤ w) f p)))

-- ---- codes: whole numbers begin behind e, their codes are s from them, and f units are 1

module _ (e s : ℤ) (f : ℕ) (p : 0 < f) (side : pos 0 ≤ℤ e) (join : e ≡ pos f *ℤ (e -ℤ s)) where
  abbrev piece : Bool → Bool → ℤ → ℤ
  piece low high c = cond low (pos f *ℤ (c +ℤ s)) (cond high (pos f *ℤ (c -ℤ s)) c)

  abbrev wide : ℤ → ℤ
  wide c = piece (int_lt c (neg_ℤ e)) (int_lt e c) c

  abbrev narrow : ℤ → ℤ
  narrow k = cond (int_lt k (neg_ℤ e)) (int_div_euclid k (pos f) -ℤ s) (cond (int_lt e k) (int_div_euclid k (pos f) +ℤ s) k)

  join_turned : pos f *ℤ neg_ℤ (e -ℤ s) ≡ neg_ℤ e
  join_turned = times_turned (pos f) (e -ℤ s) ∙ ap neg_ℤ (sym join)

  low_out : (c : ℤ) → c <ℤ neg_ℤ e → (pos f *ℤ (c +ℤ s)) <ℤ neg_ℤ e
  low_out c h = lt_as (pos f *ℤ (c +ℤ s)) (pos f *ℤ neg_ℤ (e -ℤ s)) (neg_ℤ e) (times_lt (pos f) (c +ℤ s) (neg_ℤ (e -ℤ s)) (positive f p) (below_shifted c e s h)) join_turned

  high_out : (c : ℤ) → e <ℤ c → e <ℤ (pos f *ℤ (c -ℤ s))
  high_out c h = as_lt e (pos f *ℤ (e -ℤ s)) (pos f *ℤ (c -ℤ s)) join (times_lt (pos f) (e -ℤ s) (c -ℤ s) (positive f p) (above_shifted c e s h))

  -- in order
  wide_lt : (a b : ℤ) → a <ℤ b → wide a <ℤ wide b
  wide_lt a b h = by (int_lt a (neg_ℤ e)) (int_lt e a) (int_lt b (neg_ℤ e)) (int_lt e b) refl refl refl refl
    where
      shifted : (a b s : ℤ) → a <ℤ b → (a +ℤ s) <ℤ (b +ℤ s)
      shifted a b s h = omega (arith, ints)

      by : (i j k l : Bool) → int_lt a (neg_ℤ e) ≡ i → int_lt e a ≡ j → int_lt b (neg_ℤ e) ≡ k → int_lt e b ≡ l → piece i j a <ℤ piece k l b
      by true j true l q r t u = times_lt (pos f) (a +ℤ s) (b +ℤ s) (positive f p) (shifted a b s h)
      by true j false false q r t u = lt_le (pos f *ℤ (a +ℤ s)) (neg_ℤ e) b (low_out a (of_lt_true a (neg_ℤ e) q)) (of_lt_false b (neg_ℤ e) t)
      by true j false true q r t u = lt_trans (pos f *ℤ (a +ℤ s)) e (pos f *ℤ (b -ℤ s)) (lt_le (pos f *ℤ (a +ℤ s)) (neg_ℤ e) e (low_out a (of_lt_true a (neg_ℤ e) q)) (sides e side)) (high_out b (of_lt_true e b u))
      by false j true l q r t u = absurd (apart b (neg_ℤ e) (of_lt_true b (neg_ℤ e) t) (lt_weak (neg_ℤ e) b (le_lt (neg_ℤ e) a b (of_lt_false a (neg_ℤ e) q) h)))
      by false false false false q r t u = h
      by false false false true q r t u = le_lt a e (pos f *ℤ (b -ℤ s)) (of_lt_false e a r) (high_out b (of_lt_true e b u))
      by false true false false q r t u = absurd (apart e b (lt_trans e a b (of_lt_true e a r) h) (of_lt_false e b u))
      by false true false true q r t u = times_lt (pos f) (a -ℤ s) (b -ℤ s) (positive f p) (above_shifted b a s h)

  wide_le : (a b : ℤ) → a ≤ℤ b → wide a ≤ℤ wide b
  wide_le a b h = by (int_lt a b) refl
    where
      by : (i : Bool) → int_lt a b ≡ i → wide a ≤ℤ wide b
      by true q = lt_weak (wide a) (wide b) (wide_lt a b (of_lt_true a b q))
      by false q = subst (λ x. wide a ≤ℤ wide x) (le_same a b h (of_lt_false a b q)) (le_self (wide a))

  wide_order : (a b : ℤ) → int_lt (wide a) (wide b) ≡ int_lt a b
  wide_order a b = by (int_lt a b) refl
    where
      by : (i : Bool) → int_lt a b ≡ i → int_lt (wide a) (wide b) ≡ i
      by true q = lt_true (wide a) (wide b) (wide_lt a b (of_lt_true a b q))
      by false q = lt_false (wide a) (wide b) (wide_le b a (of_lt_false a b q))

  -- back
  wide_back : (c : ℤ) → narrow (wide c) ≡ c
  wide_back c = by (int_lt c (neg_ℤ e)) (int_lt e c) refl refl
    where
      by : (i j : Bool) → int_lt c (neg_ℤ e) ≡ i → int_lt e c ≡ j → narrow (piece i j c) ≡ c
      by true j q r =
          rw (lt_true (pos f *ℤ (c +ℤ s)) (neg_ℤ e) (low_out c (of_lt_true c (neg_ℤ e) q)))
          (ap (λ x. x -ℤ s) (quotient_of (c +ℤ s) f p) ∙ plus_minus c s)
      by false true q r =
          let out = high_out c (of_lt_true e c r) in
          rw (lt_false (pos f *ℤ (c -ℤ s)) (neg_ℤ e) (lt_weak (neg_ℤ e) (pos f *ℤ (c -ℤ s)) (le_lt (neg_ℤ e) e (pos f *ℤ (c -ℤ s)) (sides e side) out)), lt_true e (pos f *ℤ (c -ℤ s)) out)
          (ap (λ x. x +ℤ s) (quotient_of (c -ℤ s) f p) ∙ minus_plus c s)
      by false false q r = rw (q, r) refl

  -- at most
  narrow_under : (k : ℤ) → wide (narrow k) ≤ℤ k
  narrow_under k = by (int_lt k (neg_ℤ e)) (int_lt e k) refl refl
    where
      q : ℤ
      q = int_div_euclid k (pos f)

      low : k <ℤ neg_ℤ e → (q -ℤ s) <ℤ neg_ℤ e
      low h = shifted_below q e s (lt_unscale (pos f) q (neg_ℤ (e -ℤ s)) (positive f p) (lt_as (pos f *ℤ q) (neg_ℤ e) (pos f *ℤ neg_ℤ (e -ℤ s)) (le_lt (pos f *ℤ q) k (neg_ℤ e) (quotient_up_to k f p) h) (sym join_turned)))

      high : e <ℤ k → e ≤ℤ (q +ℤ s)
      high h = shifted_above q e s (lt_unscale (pos f) (e -ℤ s) (q +ℤ pos 1) (positive f p) (as_lt (pos f *ℤ (e -ℤ s)) e (pos f *ℤ (q +ℤ pos 1)) (sym join) (lt_trans e k (pos f *ℤ (q +ℤ pos 1)) h (quotient_next k f p))))

      end : (j : Bool) → int_lt e (q +ℤ s) ≡ j → e <ℤ k → cond j (pos f *ℤ ((q +ℤ s) -ℤ s)) (q +ℤ s) ≤ℤ k
      end true r h = as_le (pos f *ℤ ((q +ℤ s) -ℤ s)) (pos f *ℤ q) k (ap (λ x. pos f *ℤ x) (plus_minus q s)) (quotient_up_to k f p)
      end false r h = lt_weak (q +ℤ s) k (le_lt (q +ℤ s) e k (of_lt_false e (q +ℤ s) r) h)

      by : (i j : Bool) → int_lt k (neg_ℤ e) ≡ i → int_lt e k ≡ j → wide (cond i (q -ℤ s) (cond j (q +ℤ s) k)) ≤ℤ k
      by true j t u =
          rw (lt_true (q -ℤ s) (neg_ℤ e) (low (of_lt_true k (neg_ℤ e) t)))
          (as_le (pos f *ℤ ((q -ℤ s) +ℤ s)) (pos f *ℤ q) k (ap (λ x. pos f *ℤ x) (minus_plus q s)) (quotient_up_to k f p))
      by false true t u =
          let h = of_lt_true e k u in
          let inside : neg_ℤ e ≤ℤ (q +ℤ s) = le_le (neg_ℤ e) e (q +ℤ s) (sides e side) (high h) in
          rw (lt_false (q +ℤ s) (neg_ℤ e) inside) (end (int_lt e (q +ℤ s)) refl h)
        where
          le_le : (a b c : ℤ) → a ≤ℤ b → b ≤ℤ c → a ≤ℤ c
          le_le a b c h k = omega (arith, ints)
      by false false t u = rw (t, u) (le_self k)

  -- turned
  wide_turned : (c : ℤ) → wide (neg_ℤ c) ≡ neg_ℤ (wide c)
  wide_turned c = by (int_lt c (neg_ℤ e)) (int_lt e c) refl refl
    where
      turned_low : (c e : ℤ) → c <ℤ neg_ℤ e → e <ℤ neg_ℤ c
      turned_low c e h = omega (arith, ints)

      turned_high : (c e : ℤ) → e <ℤ c → neg_ℤ c <ℤ neg_ℤ e
      turned_high c e h = omega (arith, ints)

      turned_in : (c e : ℤ) → neg_ℤ e ≤ℤ c → neg_ℤ c ≤ℤ e
      turned_in c e h = omega (arith, ints)

      turned_on : (c e : ℤ) → c ≤ℤ e → neg_ℤ e ≤ℤ neg_ℤ c
      turned_on c e h = omega (arith, ints)

      low_law : (f c s : ℤ) → f *ℤ (neg_ℤ c -ℤ s) ≡ neg_ℤ (f *ℤ (c +ℤ s))
      low_law f c s = rw (parts f, parts c, parts s) (simp ring (diff_same _ _ _ _ (omega arith)))

      high_law : (f c s : ℤ) → f *ℤ (neg_ℤ c +ℤ s) ≡ neg_ℤ (f *ℤ (c -ℤ s))
      high_law f c s = rw (parts f, parts c, parts s) (simp ring (diff_same _ _ _ _ (omega arith)))

      by : (i j : Bool) → int_lt c (neg_ℤ e) ≡ i → int_lt e c ≡ j → wide (neg_ℤ c) ≡ neg_ℤ (piece i j c)
      by true j t u =
          let out = turned_low c e (of_lt_true c (neg_ℤ e) t) in
          rw (lt_false (neg_ℤ c) (neg_ℤ e) (lt_weak (neg_ℤ e) (neg_ℤ c) (le_lt (neg_ℤ e) e (neg_ℤ c) (sides e side) out)), lt_true e (neg_ℤ c) out) (low_law (pos f) c s)
      by false true t u = rw (lt_true (neg_ℤ c) (neg_ℤ e) (turned_high c e (of_lt_true e c u))) (high_law (pos f) c s)
      by false false t u = rw (lt_false (neg_ℤ c) (neg_ℤ e) (turned_on c e (of_lt_false e c u)), lt_false e (neg_ℤ c) (turned_in c e (of_lt_false c (neg_ℤ e) t))) refl

-- ---- the codes of ends

some_unit : 0 < fine
some_unit = omega arith

edge_side : pos 0 ≤ℤ edge
edge_side = omega (arith, ints)

edge_join : edge ≡ pos fine *ℤ (edge -ℤ shift)
edge_join = refl

units_order : (a b : ℤ) → int_lt (units_of a) (units_of b) ≡ int_lt a b
unfolding units_of
units_order a b = wide_order edge shift fine some_unit edge_side edge_join a b

units_back : (c : ℤ) → code_of (units_of c) ≡ c
unfolding units_of code_of
units_back c = wide_back edge shift fine some_unit edge_side edge_join c

-- the code of a number of units never stands for more units than these
pub code_under : (k : ℤ) → units_of (code_of k) ≤ℤ k
unfolding units_of code_of
code_under k = narrow_under edge shift fine some_unit edge_side edge_join k

-- the negative of a code stands for the negative of its units
pub units_turned : (c : ℤ) → units_of (neg_ℤ c) ≡ neg_ℤ (units_of c)
unfolding units_of
units_turned c = wide_turned edge shift fine some_unit edge_side edge_join c

-- an end gives its code back
pub code_back : (c : ℤ) → code_at (end_of c) ≡ c
code_back c = by (int_eq c lowest) refl
  where
    by : (i : Bool) → int_eq c lowest ≡ i → code_at (cond i None (Some (units_of c))) ≡ c
    by true h = sym ((Decides-int_eq c lowest).0 h)
    by false h = units_back c

-- the order of ends is that of their codes
pub lower_is : (a b : ℤ) → lowest ≤ℤ a → lowest ≤ℤ b → int_lt a b ≡ is_lower (end_of a) (end_of b)
lower_is a b la lb = by (int_eq a lowest) (int_eq b lowest) refl refl
  where
    other : (l b : ℤ) → l ≤ℤ b → int_eq b l ≡ false → l <ℤ b
    other l b h k = grind (arith, ints)

    same : (l a : ℤ) → int_eq a l ≡ true → a ≡ l
    same l a h = (Decides-int_eq a l).0 h

    by : (i j : Bool) → int_eq a lowest ≡ i → int_eq b lowest ≡ j → int_lt a b ≡ is_lower (cond i None (Some (units_of a))) (cond j None (Some (units_of b)))
    by true true h k = lt_false a b (as_le b lowest a (same lowest b k) la)
    by true false h k = lt_true a b (as_lt a lowest b (same lowest a h) (other lowest b lb k))
    by false true h k = lt_false a b (as_le b lowest a (same lowest b k) la)
    by false false h k = sym (units_order a b)

-- a low end is at or below a high end where its code is: that of no low end is at most each
pub up_to_is : (a b : ℤ) (o p : Option ℤ) → lowest ≤ℤ a → lowest ≤ℤ b → int_eq b lowest ≡ false → end_of a ≡ o → end_of b ≡ p → int_le a b ≡ is_up_to o p
up_to_is a b o p la lb some e f = by (int_eq a lowest) refl ∙ ap (λ h. is_up_to (end_of a) h) (ap (λ i. cond i None (Some (units_of b))) (sym some) ∙ f) ∙ ap (λ l. is_up_to l p) e
  where
    least : (l a b : ℤ) → int_eq a l ≡ true → l ≤ℤ b → int_le a b ≡ true
    least l a b h k = grind (arith, ints)

    turn_order : (a b c d : ℤ) → int_lt d c ≡ int_lt b a → int_le a b ≡ int_le c d
    turn_order a b c d h = choose (int_lt b a) refl h
      where
        le : (a b : ℤ) → int_lt b a ≡ false → int_le a b ≡ true
        le a b h = grind (arith, ints)

        above : (a b : ℤ) → int_lt b a ≡ true → int_le a b ≡ false
        above a b h = grind (arith, ints)

        choose : (i : Bool) → int_lt b a ≡ i → int_lt d c ≡ i → int_le a b ≡ int_le c d
        choose true h k = above a b h ∙ sym (above c d k)
        choose false h k = le a b h ∙ sym (le c d k)

    by : (i : Bool) → int_eq a lowest ≡ i → int_le a b ≡ is_up_to (cond i None (Some (units_of a))) (Some (units_of b))
    by true h = least lowest a b h lb
    by false h = turn_order a b (units_of a) (units_of b) (units_order b a)

-- the lowest code stands for no end, which is its own negative
pub turned_none : (c : ℤ) (o : Option ℤ) → int_eq c lowest ≡ true → end_of c ≡ o → o ≡ turned o
turned_none c o h e = by o (sym e ∙ ap (λ i. cond i None (Some (units_of c))) h)
  where
    by : (o : Option ℤ) → o ≡ None → o ≡ turned o
    by o e = e ∙ sym (ap turned e)

-- the negative of a code that stands for an end, and is below 2 to the power of 63, stands for the negative of that end
pub turned_some : (c d : ℤ) (o : Option ℤ) → int_eq c lowest ≡ false → c <ℤ pos (2 ^ 63) → d ≡ neg_ℤ c → end_of c ≡ o → end_of d ≡ turned o
turned_some c d o h l f e =
    ap (λ i. cond i None (Some (units_of d))) (other (2 ^ 63) c d l f) ∙ ap Some (ap units_of f ∙ units_turned c) ∙ ap turned (sym (ap (λ i. cond i None (Some (units_of c))) h) ∙ e)
  where
    other : (n : ℕ) (c d : ℤ) → c <ℤ pos n → d ≡ neg_ℤ c → int_eq d (neg_ℤ (pos n)) ≡ false
    other n c d l f = grind (arith, ints)

-- a code of 64 binary digits with its sign is at least the lowest one
pub fits_low : (c : ℤ) → SFits w64 c → lowest ≤ℤ c
fits_low c h = omega (arith, ints)

-- a code of 64 binary digits with its sign is below 2 to the power of 63
pub fits_high : (c : ℤ) → SFits w64 c → c <ℤ pos (2 ^ 63)
fits_high c h = omega (arith, ints)

-- 0 less a number is its negative
pub from_zero : (c : ℤ) → pos 0 -ℤ c ≡ neg_ℤ c
from_zero c = omega (arith, ints)

-- a code below the negative of the edge stands for the units of the whole number that is the shift above it
pub units_low : (c x : ℤ) → x ≡ c → x <ℤ neg_ℤ edge → pos fine *ℤ (x +ℤ shift) ≡ units_of c
unfolding units_of
units_low c x e h =
    ap (λ i. cond i (pos fine *ℤ (x +ℤ shift)) (cond (int_lt edge x) (pos fine *ℤ (x -ℤ shift)) x)) (sym (lt_true x (neg_ℤ edge) h)) ∙ ap units_of e

-- a code above the edge stands for the units of the whole number that is the shift below it
pub units_high : (c x : ℤ) → x ≡ c → neg_ℤ edge ≤ℤ x → edge <ℤ x → pos fine *ℤ (x -ℤ shift) ≡ units_of c
unfolding units_of
units_high c x e h k =
    ap (λ i. cond i (pos fine *ℤ (x -ℤ shift)) x) (sym (lt_true edge x k)) ∙ ap (λ i. cond i (pos fine *ℤ (x +ℤ shift)) (cond (int_lt edge x) (pos fine *ℤ (x -ℤ shift)) x)) (sym (lt_false x (neg_ℤ edge) h)) ∙ ap units_of e

-- a code from the negative of the edge to the edge stands for as many units as itself
pub units_own : (c x : ℤ) → x ≡ c → neg_ℤ edge ≤ℤ x → x ≤ℤ edge → x ≡ units_of c
unfolding units_of
units_own c x e h k =
    ap (λ i. cond i (pos fine *ℤ (x -ℤ shift)) x) (sym (lt_false edge x k)) ∙ ap (λ i. cond i (pos fine *ℤ (x +ℤ shift)) (cond (int_lt edge x) (pos fine *ℤ (x -ℤ shift)) x)) (sym (lt_false x (neg_ℤ edge) h)) ∙ ap units_of e

-- the code of units below the negative of the edge is the shift below the whole number at or below them
pub code_low : (k q : ℤ) → q ≡ int_div_euclid k (pos fine) → k <ℤ neg_ℤ edge → q -ℤ shift ≡ code_of k
unfolding code_of
code_low k q e h =
    ap (λ x. x -ℤ shift) e ∙ ap (λ i. cond i (int_div_euclid k (pos fine) -ℤ shift) (cond (int_lt edge k) (int_div_euclid k (pos fine) +ℤ shift) k)) (sym (lt_true k (neg_ℤ edge) h))

-- the code of units above the edge is the shift above the whole number at or below them
pub code_high : (k q : ℤ) → q ≡ int_div_euclid k (pos fine) → neg_ℤ edge ≤ℤ k → edge <ℤ k → q +ℤ shift ≡ code_of k
unfolding code_of
code_high k q e h l =
    ap (λ x. x +ℤ shift) e ∙ ap (λ i. cond i (int_div_euclid k (pos fine) +ℤ shift) k) (sym (lt_true edge k l)) ∙ ap (λ i. cond i (int_div_euclid k (pos fine) -ℤ shift) (cond (int_lt edge k) (int_div_euclid k (pos fine) +ℤ shift) k)) (sym (lt_false k (neg_ℤ edge) h))

-- units from the negative of the edge to the edge are their own code
pub code_own : (k : ℤ) → neg_ℤ edge ≤ℤ k → k ≤ℤ edge → k ≡ code_of k
unfolding code_of
code_own k h l =
    ap (λ i. cond i (int_div_euclid k (pos fine) +ℤ shift) k) (sym (lt_false edge k l)) ∙ ap (λ i. cond i (int_div_euclid k (pos fine) -ℤ shift) (cond (int_lt edge k) (int_div_euclid k (pos fine) +ℤ shift) k)) (sym (lt_false k (neg_ℤ edge) h))
