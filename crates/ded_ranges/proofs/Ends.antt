-- Ends of reaches: rounded outward, and those that contain both.
use Rattle.std.proofs.Common.{◌≡◌, ℕ, Bool, true, false, cond, Option, Some, None, arith, refl, sym, ap, ◌∙◌, subst}
use Rattle.std.specs.Prelude.{ℤ, pos, ◌^◌, ◌+ℤ◌, ◌-ℤ◌, ◌*ℤ◌, ◌≤ℤ◌, ◌<ℤ◌, int_lt, neg_ℤ}
use Rattle.std.specs.Option.{IfSome, SomeIff}
use Rattle.std.specs.Int.{int_div_euclid}
use Rattle.std.specs.Ordering.{int_eq}
use Rattle.std.proofs.lemmas.Int.{ints, by_lt_z}
use borrow.Author.Differences.{up}
use Rattle.ded_num.specs.Length.{IsShort}
use Rattle.ded_num.proofs.Ring.{parts, diff_same, ring}
use Rattle.ded_model.specs.declared.bound.Bound.{Bound}
use Rattle.ded_model.specs.declared.bound.Bound.TheVariants.{Included}
use Rattle.ded_model.specs.Bound.{Fraction}
use Rattle.ded_ranges.specs.declared.reach.Range.{Range}
use Rattle.ded_ranges.specs.Codes.{fine, edge, shift, lowest, units_of, code_of, end_of, IsShortEnd, is_none, is_lower}
use Rattle.ded_ranges.specs.Coding.{code_under, units_low, units_high, units_own}
use Rattle.ded_ranges.specs.Reaches.{IsAbove, IsBelow, IsFloor, IsCeil, NotAbove, NotBelow, lower_of, higher_of, both_low, both_high, IsPart, joined, everywhere}
use Rattle.ded_ranges.specs.Scaling.{times_up, times_neg, le_self, of_lt_true, of_lt_false, le_unscale, not_negative, commute, quotient_at_most}
use Rattle.ded_ranges.proofs.Sums.{le_trans, not_above_self}

-- ---- rounding

chain : (a b c d e f : ℤ) → a ≡ b → b ≤ℤ c → c ≡ d → d ≤ℤ e → e ≡ f → a ≤ℤ f
chain a b c d e f p h q k r = omega (arith, ints)

-- k is at most f, and f at most the value
units_below : (u k fn fd n d : ℤ) → pos 0 ≤ℤ u → pos 0 <ℤ fd → pos 0 ≤ℤ d → (k *ℤ fd) ≤ℤ (fn *ℤ u) → (fn *ℤ d) ≤ℤ (n *ℤ fd) → (k *ℤ d) ≤ℤ (n *ℤ u)
units_below u k fn fd n d up pf pd h l =
    le_unscale fd (k *ℤ d) (n *ℤ u) pf
    (chain (fd *ℤ (k *ℤ d)) (d *ℤ (k *ℤ fd)) (d *ℤ (fn *ℤ u)) (u *ℤ (fn *ℤ d)) (u *ℤ (n *ℤ fd)) (fd *ℤ (n *ℤ u)) (turn fd k d) (times_up d (k *ℤ fd) (fn *ℤ u) pd h) (turn d fn u) (times_up u (fn *ℤ d) (n *ℤ fd) up l) (turn u n fd))
  where
    turn : (a b c : ℤ) → a *ℤ (b *ℤ c) ≡ c *ℤ (b *ℤ a)
    turn a b c = rw (parts a, parts b, parts c) (simp ring (diff_same _ _ _ _ (omega arith)))

pub floor_is : (o : Option ℤ) (f : Fraction) → pos 0 <ℤ f.den → IfSome o (λ k. (k *ℤ f.den) ≤ℤ (f.num *ℤ pos fine)) → IsFloor (Included f) o
floor_is None f p h = λ n d out. tt
floor_is (Some k) f p h = λ n d out. units_below (pos fine) k f.num f.den n (pos d) (not_negative fine) p (not_negative d) h (of_lt_false (n *ℤ f.den) (f.num *ℤ pos d) out)

ceil_at : (k u : ℤ) (f : Fraction) → pos 0 <ℤ f.den → (u *ℤ f.den) ≤ℤ (neg_ℤ f.num *ℤ pos fine) → k ≡ neg_ℤ u → IsCeil (Included f) (Some k)
ceil_at k u f p h e = λ n d out.
    let low : (u *ℤ pos d) ≤ℤ (neg_ℤ n *ℤ pos fine) = units_below (pos fine) u (neg_ℤ f.num) f.den (neg_ℤ n) (pos d) (not_negative fine) p (not_negative d) h
    (negatives (f.num *ℤ pos d) (n *ℤ f.den) (neg_ℤ f.num *ℤ pos d) (neg_ℤ n *ℤ f.den) (times_neg f.num (pos d)) (times_neg n f.den) (of_lt_false (f.num *ℤ pos d) (n *ℤ f.den) out)) in
    back (n *ℤ pos fine) (neg_ℤ n *ℤ pos fine) (u *ℤ pos d) (k *ℤ pos d) (times_neg n (pos fine)) (ap (λ x. x *ℤ pos d) e ∙ times_neg u (pos d)) low
  where
    negatives : (a b a' b' : ℤ) → a' ≡ neg_ℤ a → b' ≡ neg_ℤ b → b ≤ℤ a → a' ≤ℤ b'
    negatives a b a' b' e f h = omega (arith, ints)

    back : (a a' b b' : ℤ) → a' ≡ neg_ℤ a → b' ≡ neg_ℤ b → b ≤ℤ a' → a ≤ℤ b'
    back a a' b b' e f h = omega (arith, ints)

pub ceil_is : (o : Option ℤ) (u : ℤ) (f : Fraction) → pos 0 <ℤ f.den → (u *ℤ f.den) ≤ℤ (neg_ℤ f.num *ℤ pos fine) → IfSome o (λ k. k ≡ neg_ℤ u) → IsCeil (Included f) o
ceil_is None u f p h e = λ n d out. tt
ceil_is (Some k) u f p h e = ceil_at k u f p h e

-- what the program computes
pub whole_is : (u q n d : ℤ) (o : Option ℤ) → SomeIff o (IsShort (n *ℤ pos fine)) (n *ℤ pos fine) → o ≡ Some u → q ≡ int_div_euclid u d → pos 0 <ℤ d → (q *ℤ d) ≤ℤ (n *ℤ pos fine)
whole_is u q n d o h e f p =
    let s = subst (λ o. SomeIff o (IsShort (n *ℤ pos fine)) (n *ℤ pos fine)) e h in
    subst (λ x. (x *ℤ d) ≤ℤ (n *ℤ pos fine)) (sym f) (subst (λ x. (int_div_euclid u d *ℤ d) ≤ℤ x) s.1 (quotient_at_most u d p))

pub whole_short : (u n : ℤ) (o : Option ℤ) → SomeIff o (IsShort (n *ℤ pos fine)) (n *ℤ pos fine) → o ≡ Some u → IsShort (n *ℤ pos fine)
whole_short u n o h e = (subst (λ o. SomeIff o (IsShort (n *ℤ pos fine)) (n *ℤ pos fine)) e h).0

pub units_are : (o : Option ℤ) (u d r m : ℤ) → IfSome o (λ k. (k *ℤ d) ≤ℤ (r *ℤ pos fine)) → o ≡ Some u → r ≡ m → (u *ℤ d) ≤ℤ (m *ℤ pos fine)
units_are o u d r m h e f = subst (λ x. (u *ℤ d) ≤ℤ (x *ℤ pos fine)) f (subst (λ o. IfSome o (λ k. (k *ℤ d) ≤ℤ (r *ℤ pos fine))) e h)

-- ---- further out

pub times_den : (a b : ℤ) (d : ℕ) → a ≤ℤ b → (a *ℤ pos d) ≤ℤ (b *ℤ pos d)
times_den a b d h = turn (pos d *ℤ a) (a *ℤ pos d) (pos d *ℤ b) (b *ℤ pos d) (commute (pos d) a) (commute (pos d) b) (times_up (pos d) a b (not_negative d) h)
  where
    turn : (a b c d : ℤ) → a ≡ b → c ≡ d → a ≤ℤ c → b ≤ℤ d
    turn a b c d e f h = omega (arith, ints)

pub above_lower : (p o : Option ℤ) (n : ℤ) (d : ℕ) → NotAbove p o → IsAbove o n d → IsAbove p n d
above_lower None o n d h k = tt
above_lower (Some a) None n d h k = absurd h
above_lower (Some a) (Some b) n d h k = le_trans (a *ℤ pos d) (b *ℤ pos d) (n *ℤ pos fine) (times_den a b d h) k

pub below_higher : (p o : Option ℤ) (n : ℤ) (d : ℕ) → NotBelow p o → IsBelow o n d → IsBelow p n d
below_higher None o n d h k = tt
below_higher (Some a) None n d h k = absurd h
below_higher (Some a) (Some b) n d h k = le_trans (n *ℤ pos fine) (b *ℤ pos d) (a *ℤ pos d) k (times_den b a d h)

pub floor_lower : (b : Bound) (p o : Option ℤ) → NotAbove p o → IsFloor b o → IsFloor b p
floor_lower b p o h k = λ n d out. above_lower p o n d h (k n d out)

pub ceil_higher : (b : Bound) (p o : Option ℤ) → NotBelow p o → IsCeil b o → IsCeil b p
ceil_higher b p o h k = λ n d out. below_higher p o n d h (k n d out)

-- the end of a code that is rounded down
pub down_is : (c k : ℤ) → c ≡ code_of k → NotAbove (end_of c) (Some k)
down_is c k e = by (int_eq c lowest)
  where
    by : (i : Bool) → NotAbove (cond i None (Some (units_of c))) (Some k)
    by true = tt
    by false = subst (λ x. x ≤ℤ k) (ap units_of (sym e)) (code_under k)

-- ---- by the order of ends

pub both_low_is : (a b : Option ℤ) (i : Bool) → is_lower a b ≡ i → cond i b a ≡ both_low a b
both_low_is a b i h = ap (λ i. cond i b a) (sym h) ∙ by a b
  where
    by : (a b : Option ℤ) → cond (is_lower a b) b a ≡ both_low a b
    by None None = refl
    by None (Some b) = refl
    by (Some a) None = refl
    by (Some a) (Some b) = refl

pub lower_of_is : (a b : Option ℤ) (i : Bool) → is_lower b a ≡ i → cond i b a ≡ lower_of a b
lower_of_is a b i h = ap (λ i. cond i b a) (sym h) ∙ by a b
  where
    by : (a b : Option ℤ) → cond (is_lower b a) b a ≡ lower_of a b
    by None None = refl
    by None (Some b) = refl
    by (Some a) None = refl
    by (Some a) (Some b) = refl

pub both_high_is : (a b : Option ℤ) (i j k : Bool) → is_none a ≡ i → is_none b ≡ j → is_lower b a ≡ k → cond i b (cond j a (cond k b a)) ≡ both_high a b
both_high_is a b i j k h l m = ap (λ i. cond i b (cond j a (cond k b a))) (sym h) ∙ ap (λ j. cond (is_none a) b (cond j a (cond k b a))) (sym l) ∙ ap (λ k. cond (is_none a) b (cond (is_none b) a (cond k b a))) (sym m) ∙ by a b
  where
    by : (a b : Option ℤ) → cond (is_none a) b (cond (is_none b) a (cond (is_lower b a) b a)) ≡ both_high a b
    by None None = refl
    by None (Some b) = refl
    by (Some a) None = refl
    by (Some a) (Some b) = refl

pub higher_of_is : (a b : Option ℤ) (i j k : Bool) → is_none a ≡ i → is_none b ≡ j → is_lower a b ≡ k → cond i a (cond j b (cond k b a)) ≡ higher_of a b
higher_of_is a b i j k h l m = ap (λ i. cond i a (cond j b (cond k b a))) (sym h) ∙ ap (λ j. cond (is_none a) a (cond j b (cond k b a))) (sym l) ∙ ap (λ k. cond (is_none a) a (cond (is_none b) b (cond k b a))) (sym m) ∙ by a b
  where
    by : (a b : Option ℤ) → cond (is_none a) a (cond (is_none b) b (cond (is_lower a b) b a)) ≡ higher_of a b
    by None None = refl
    by None (Some b) = refl
    by (Some a) None = refl
    by (Some a) (Some b) = refl

-- ---- ends that contain both

weak : (a b : ℤ) → a <ℤ b → a ≤ℤ b
weak a b h = omega (arith, ints)

lower_first : (o p : Option ℤ) → NotAbove (lower_of o p) o
lower_first None p = tt
lower_first (Some a) None = tt
lower_first (Some a) (Some b) = by (int_lt b a) refl
  where
    by : (c : Bool) → int_lt b a ≡ c → NotAbove (cond c (Some b) (Some a)) (Some a)
    by true e = weak b a (of_lt_true b a e)
    by false e = le_self a

lower_second : (o p : Option ℤ) → NotAbove (lower_of o p) p
lower_second None p = tt
lower_second (Some a) None = tt
lower_second (Some a) (Some b) = by (int_lt b a) refl
  where
    by : (c : Bool) → int_lt b a ≡ c → NotAbove (cond c (Some b) (Some a)) (Some b)
    by true e = le_self b
    by false e = of_lt_false b a e

higher_first : (o p : Option ℤ) → NotBelow (higher_of o p) o
higher_first None p = tt
higher_first (Some a) None = tt
higher_first (Some a) (Some b) = by (int_lt a b) refl
  where
    by : (c : Bool) → int_lt a b ≡ c → NotBelow (cond c (Some b) (Some a)) (Some a)
    by true e = weak a b (of_lt_true a b e)
    by false e = le_self a

higher_second : (o p : Option ℤ) → NotBelow (higher_of o p) p
higher_second None p = tt
higher_second (Some a) None = tt
higher_second (Some a) (Some b) = by (int_lt a b) refl
  where
    by : (c : Bool) → int_lt a b ≡ c → NotBelow (cond c (Some b) (Some a)) (Some b)
    by true e = le_self b
    by false e = of_lt_false a b e

pub part_first : (r s : Range) → IsPart r (joined r s)
part_first r s = record { low = lower_first r.low s.low; high = higher_first r.high s.high }

pub part_second : (r s : Range) → IsPart s (joined r s)
part_second r s = record { low = lower_second r.low s.low; high = higher_second r.high s.high }

above_trans : (o p q : Option ℤ) → NotAbove p o → NotAbove q p → NotAbove q o
above_trans o p None h k = tt
above_trans o None (Some c) h k = absurd k
above_trans None (Some b) (Some c) h k = absurd h
above_trans (Some a) (Some b) (Some c) h k = le_trans c b a k h

below_trans : (o p q : Option ℤ) → NotBelow p o → NotBelow q p → NotBelow q o
below_trans o p None h k = tt
below_trans o None (Some c) h k = absurd k
below_trans None (Some b) (Some c) h k = absurd h
below_trans (Some a) (Some b) (Some c) h k = le_trans a b c h k

pub part_trans : (r s t : Range) → IsPart r s → IsPart s t → IsPart r t
part_trans r s t h k = record { low = above_trans r.low s.low t.low h.low k.low; high = below_trans r.high s.high t.high h.high k.high }

below_self : (o : Option ℤ) → NotBelow o o
below_self None = tt
below_self (Some a) = le_self a

pub part_self : (r : Range) → IsPart r r
part_self r = record { low = not_above_self r.low; high = below_self r.high }

pub part_everywhere : (r : Range) → IsPart r everywhere
part_everywhere r = record { low = tt; high = tt }

-- ---- how far ends lie from 0

pub units_short : (c : ℤ) → lowest ≤ℤ c → c <ℤ pos (2 ^ 63) → IsShortEnd (units_of c)
units_short c low high = by_lt_z c (neg_ℤ edge)
    (λ h. subst IsShortEnd (units_low c c refl h) (record { low = far_low c low; high = near_low c h }))
    (λ h. by_lt_z edge c (λ k. subst IsShortEnd (units_high c c refl h k) (record { low = near_high c k; high = far_high c high })) (λ k. subst IsShortEnd (units_own c c refl h k) (record { low = own_low c h; high = own_high c k })))
  where
    far_low : (c : ℤ) → lowest ≤ℤ c → neg_ℤ (pos (2 ^ 96)) ≤ℤ (pos fine *ℤ (c +ℤ shift))
    far_low c l = omega (arith, ints)

    near_low : (c : ℤ) → c <ℤ neg_ℤ edge → (pos fine *ℤ (c +ℤ shift)) ≤ℤ pos (2 ^ 96)
    near_low c l = omega (arith, ints)

    near_high : (c : ℤ) → edge <ℤ c → neg_ℤ (pos (2 ^ 96)) ≤ℤ (pos fine *ℤ (c -ℤ shift))
    near_high c l = omega (arith, ints)

    far_high : (c : ℤ) → c <ℤ pos (2 ^ 63) → (pos fine *ℤ (c -ℤ shift)) ≤ℤ pos (2 ^ 96)
    far_high c l = omega (arith, ints)

    own_low : (c : ℤ) → neg_ℤ edge ≤ℤ c → neg_ℤ (pos (2 ^ 96)) ≤ℤ c
    own_low c l = omega (arith, ints)

    own_high : (c : ℤ) → c ≤ℤ edge → c ≤ℤ pos (2 ^ 96)
    own_high c l = omega (arith, ints)
