-- Boxes of limits of one term: they overlap each reach in which the limits may hold.
use Rattle.std.proofs.Common.{◌≡◌, ℕ, zero, suc, ◌-◌, ◌^◌, ◌<◌, ◌≤◌, ◌==◌, Bool, true, false, cond, ◌&&◌, Option, Some, None, List, [], ◌∷◌, length, drop, min, arith, refl, sym, ap, ◌∙◌, subst}
use Rattle.std.specs.Prelude.{ℤ, pos, ◌+ℤ◌, ◌*ℤ◌, ◌≤ℤ◌, ◌<ℤ◌, int_lt, int_le, neg_ℤ}
use Rattle.std.specs.List.{list_all}
use Rattle.std.specs.Option.{IfSome}
use Rattle.std.proofs.lemmas.Int.{ints}
use Rattle.ded_num.specs.Length.{IsShort}
use Rattle.ded_num.proofs.Ring.{parts, diff_same, ring, ring_pos}
use Rattle.ded_num.proofs.Tests.{both}
use Rattle.ded_model.specs.declared.row.RowOp.{RowOp}
use Rattle.ded_model.specs.declared.row.RowOp.TheVariants.{Zero, AtMost, Below}
use Rattle.ded_model.proofs.Rows.{or_right}
use Rattle.ded_model.proofs.Points.{and_right, and_left}
use Rattle.ded_ranges.specs.declared.reach.Range.{Range}
use Rattle.ded_ranges.specs.declared.limit.Limit.{Limit}
use Rattle.ded_ranges.specs.Codes.{fine, is_up_to}
use Rattle.ded_ranges.specs.Reaches.{NotAbove, NotBelow, everywhere, range_at, both_low, both_high, met, narrowed, all_values}
use Rattle.ded_ranges.specs.Limits.{Term, kept, plus, times, at_most_zero, below_zero, may_be, may_meet, may_hold}
use Rattle.ded_ranges.specs.Boxes.{overlap, overlaps, least_with, IsRangeAround, StaysAround, may_pass, IsAround}
use Rattle.ded_ranges.specs.Scaling.{lt_true, le_true, of_lt_true, of_le_true, of_lt_false, times_up, times_neg, le_unscale, lt_unscale, commute}
use Rattle.ded_ranges.proofs.Numbers.{kept_same, kept_high, kept_short, short_low, short_high}
use Rattle.ded_ranges.proofs.Sums.{le_trans}

-- ---- what is kept tells the sign of a sum

-- a number of which what is kept is at most 0
of_kept : (z : ℤ) → at_most_zero (kept z) ≡ true → z ≤ℤ pos 0
of_kept z h = by (int_lt (neg_ℤ (pos (2 ^ 127))) z) (int_lt z (pos (2 ^ 127))) refl refl
  where
    negative : (n : ℕ) (z : ℤ) → z ≤ℤ neg_ℤ (pos n) → z ≤ℤ pos 0
    negative n z h = omega (arith, ints)

    not_high : (n : ℕ) → 1 < n → int_le (pos (n - 1)) (pos 0) ≡ true → ⊥
    not_high n p h = grind (arith, ints)

    by : (i j : Bool) → int_lt (neg_ℤ (pos (2 ^ 127))) z ≡ i → int_lt z (pos (2 ^ 127)) ≡ j → z ≤ℤ pos 0
    by false j e f = negative (2 ^ 127) z (of_lt_false (neg_ℤ (pos (2 ^ 127))) z e)
    by true true e f = of_le_true z (pos 0) (subst (λ o. at_most_zero o ≡ true) (kept_same z (of_lt_true (neg_ℤ (pos (2 ^ 127))) z e) (of_lt_true z (pos (2 ^ 127)) f)) h)
    by true false e f = absurd (not_high (2 ^ 127) (omega arith) (subst (λ o. at_most_zero o ≡ true) (kept_high z (of_lt_false z (pos (2 ^ 127)) f)) h))

-- a multiple of a number of units that is above the lowest is above it by as many units
above_by : (c : ℤ) (f e : ℕ) → pos 0 <ℤ pos f → neg_ℤ (pos f *ℤ pos e) <ℤ (c *ℤ pos f) → (neg_ℤ (pos f *ℤ pos e) +ℤ pos f) ≤ℤ (c *ℤ pos f)
above_by c f e p h =
    turn (pos f *ℤ (neg_ℤ (pos e) +ℤ pos 1)) (neg_ℤ (pos f *ℤ pos e) +ℤ pos f) (pos f *ℤ c) (c *ℤ pos f) (law (pos f) (pos e)) (commute (pos f) c)
    (times_up (pos f) (neg_ℤ (pos e) +ℤ pos 1) c (weak f) (next (neg_ℤ (pos e)) c
    (lt_unscale (pos f) (neg_ℤ (pos e)) c p (lt_turn (neg_ℤ (pos f *ℤ pos e)) (pos f *ℤ neg_ℤ (pos e)) (c *ℤ pos f) (pos f *ℤ c) (turned (pos f) (pos e)) (commute c (pos f)) h))))
  where
    law : (f e : ℤ) → f *ℤ (neg_ℤ e +ℤ pos 1) ≡ neg_ℤ (f *ℤ e) +ℤ f
    law f e = rw (parts f, parts e) (simp ring_pos (diff_same _ _ _ _ (omega arith)))

    turned : (f e : ℤ) → neg_ℤ (f *ℤ e) ≡ f *ℤ neg_ℤ e
    turned f e = rw (parts f, parts e) (simp ring (diff_same _ _ _ _ (omega arith)))

    turn : (a b c d : ℤ) → a ≡ b → c ≡ d → a ≤ℤ c → b ≤ℤ d
    turn a b c d e f h = omega (arith, ints)

    lt_turn : (a b c d : ℤ) → a ≡ b → c ≡ d → a <ℤ c → b <ℤ d
    lt_turn a b c d e f h = omega (arith, ints)

    next : (a b : ℤ) → a <ℤ b → (a +ℤ pos 1) ≤ℤ b
    next a b h = omega (arith, ints)

    weak : (f : ℕ) → pos 0 ≤ℤ pos f
    weak f = omega (arith, ints)

-- a constant in units that is short, with another number
sum_low : (c t : ℤ) → IsShort (c *ℤ pos fine) → at_most_zero (plus (kept (c *ℤ pos fine)) (kept t)) ≡ true → (c *ℤ pos fine +ℤ t) ≤ℤ pos 0
sum_low c t s h = by (int_lt (neg_ℤ (pos (2 ^ 127))) t) (int_lt t (pos (2 ^ 127))) refl refl (subst (λ o. at_most_zero (plus o (kept t)) ≡ true) (kept_short (c *ℤ pos fine) s) h)
  where
    far_below : (n : ℕ) (s t : ℤ) → s <ℤ pos n → t ≤ℤ neg_ℤ (pos n) → (s +ℤ t) ≤ℤ pos 0
    far_below n s t h k = omega (arith, ints)

    not_above : (n f : ℕ) (s : ℤ) → 1 < f → (neg_ℤ (pos n) +ℤ pos f) ≤ℤ s → (s +ℤ pos (n - 1)) ≤ℤ pos 0 → ⊥
    not_above n f s p h k = omega (arith, ints)

    positive : (f : ℕ) → 1 < f → pos 0 <ℤ pos f
    positive f h = omega (arith, ints)

    units : 1 < fine
    units = omega arith

    by : (i j : Bool) → int_lt (neg_ℤ (pos (2 ^ 127))) t ≡ i → int_lt t (pos (2 ^ 127)) ≡ j → at_most_zero (plus (Some (c *ℤ pos fine)) (kept t)) ≡ true → (c *ℤ pos fine +ℤ t) ≤ℤ pos 0
    by false j e f k = far_below (2 ^ 127) (c *ℤ pos fine) t (short_high (2 ^ 127) (c *ℤ pos fine) s) (of_lt_false (neg_ℤ (pos (2 ^ 127))) t e)
    by true true e f k =
        of_kept (c *ℤ pos fine +ℤ t) (subst (λ o. at_most_zero (plus (Some (c *ℤ pos fine)) o) ≡ true) (kept_same t (of_lt_true (neg_ℤ (pos (2 ^ 127))) t e) (of_lt_true t (pos (2 ^ 127)) f)) k)
    by true false e f k =
        absurd (not_above (2 ^ 127) fine (c *ℤ pos fine) units (above_by c fine (2 ^ 95) (positive fine units) (short_low (2 ^ 127) (c *ℤ pos fine) s))
        (of_kept (c *ℤ pos fine +ℤ pos (2 ^ 127 - 1)) (subst (λ o. at_most_zero (plus (Some (c *ℤ pos fine)) o) ≡ true) (kept_high t (of_lt_false t (pos (2 ^ 127)) f)) k)))

-- ---- one end

high_end : (a c k e : ℤ) → pos 0 <ℤ a → (neg_ℤ k *ℤ a) ≤ℤ c → (c +ℤ a *ℤ e) ≤ℤ pos 0 → e ≤ℤ k
high_end a c k e p g h = le_unscale a e k p (join (a *ℤ e) c (neg_ℤ k *ℤ a) (a *ℤ k) h g (law a k))
  where
    law : (a k : ℤ) → neg_ℤ (neg_ℤ k *ℤ a) ≡ a *ℤ k
    law a k = rw (parts a, parts k) (simp ring (diff_same _ _ _ _ (omega arith)))

    join : (x s q y : ℤ) → (s +ℤ x) ≤ℤ pos 0 → q ≤ℤ s → neg_ℤ q ≡ y → x ≤ℤ y
    join x s q y h g e = omega (arith, ints)

low_end : (a c k e : ℤ) → a <ℤ pos 0 → (k *ℤ neg_ℤ a) ≤ℤ c → (c +ℤ a *ℤ e) ≤ℤ pos 0 → k ≤ℤ e
low_end a c k e p g h = le_unscale (neg_ℤ a) k e (turned a p) (join (k *ℤ neg_ℤ a) (neg_ℤ a *ℤ k) c (a *ℤ e) (neg_ℤ a *ℤ e) (commute k (neg_ℤ a)) g h (times_neg a e))
  where
    turned : (a : ℤ) → a <ℤ pos 0 → pos 0 <ℤ neg_ℤ a
    turned a p = omega (arith, ints)

    join : (q x s t y : ℤ) → q ≡ x → q ≤ℤ s → (s +ℤ t) ≤ℤ pos 0 → y ≡ neg_ℤ t → x ≤ℤ y
    join q x s t y e g h f = omega (arith, ints)

up_to_none : (l : Option ℤ) → is_up_to l None ≡ true
up_to_none None = refl
up_to_none (Some l) = refl

-- the ends that are kept may be further out
pub high_around : (z p o : Option ℤ) (a c : ℤ) → z ≡ None → NotBelow p o → pos 0 <ℤ a → IfSome o (λ k. (neg_ℤ k *ℤ a) ≤ℤ (c *ℤ pos fine)) → IfSome o (λ k. IsShort (c *ℤ pos fine))
    → (r : Range) → at_most_zero (least_with a c r) ≡ true → overlap (record { low = z; high = p }) r ≡ true
high_around z p o a c e f pa g s r m =
    both (is_up_to z r.high) (is_up_to r.low p) (ap (λ z. is_up_to z r.high) e)
    (by r.low p o f g s (subst (λ b. at_most_zero (plus (kept (c *ℤ pos fine)) (times a (cond b r.low r.high))) ≡ true) (lt_true (pos 0) a pa) m))
  where
    by : (l p o : Option ℤ) → NotBelow p o → IfSome o (λ k. (neg_ℤ k *ℤ a) ≤ℤ (c *ℤ pos fine)) → IfSome o (λ k. IsShort (c *ℤ pos fine)) → at_most_zero (plus (kept (c *ℤ pos fine)) (times a l)) ≡ true → is_up_to l p ≡ true
    by None p o f g s m = refl
    by (Some e) None o f g s m = refl
    by (Some e) (Some h) None f g s m = absurd f
    by (Some e) (Some h) (Some k) f g s m = le_true e h (le_trans e k h (high_end a (c *ℤ pos fine) k e pa g (sum_low c (a *ℤ e) s m)) f)

pub low_around : (z p o : Option ℤ) (a c : ℤ) → z ≡ None → NotAbove p o → a <ℤ pos 0 → IfSome o (λ k. (k *ℤ neg_ℤ a) ≤ℤ (c *ℤ pos fine)) → IfSome o (λ k. IsShort (c *ℤ pos fine))
    → (r : Range) → at_most_zero (least_with a c r) ≡ true → overlap (record { low = p; high = z }) r ≡ true
low_around z p o a c e f pa g s r m =
    both (is_up_to p r.high) (is_up_to r.low z)
    (by r.high p o f g s (subst (λ b. at_most_zero (plus (kept (c *ℤ pos fine)) (times a (cond b r.low r.high))) ≡ true) (not_positive a pa) m))
    (ap (λ z. is_up_to r.low z) e ∙ up_to_none r.low)
  where
    not_positive : (a : ℤ) → a <ℤ pos 0 → int_lt (pos 0) a ≡ false
    not_positive a h = grind (arith, ints)

    by : (h p o : Option ℤ) → NotAbove p o → IfSome o (λ k. (k *ℤ neg_ℤ a) ≤ℤ (c *ℤ pos fine)) → IfSome o (λ k. IsShort (c *ℤ pos fine)) → at_most_zero (plus (kept (c *ℤ pos fine)) (times a h)) ≡ true → is_up_to p h ≡ true
    by h None o f g s m = refl
    by None (Some l) o f g s m = refl
    by (Some e) (Some l) None f g s m = absurd f
    by (Some e) (Some l) (Some k) f g s m = le_true l e (le_trans l k e f (low_end a (c *ℤ pos fine) k e pa g (sum_low c (a *ℤ e) s m)))

pub everywhere_around : (r : Range) → overlap everywhere r ≡ true
everywhere_around r = up_to_none r.low

-- at least 0 is at most 0 for the negatives
pub negatives_around : (a c a' c' : ℤ) (r : Range) → a' ≡ neg_ℤ a → c' ≡ neg_ℤ c → at_most_zero (least_with (neg_ℤ a) (neg_ℤ c) r) ≡ true → at_most_zero (least_with a' c' r) ≡ true
negatives_around a c a' c' r e f h = subst (λ x. at_most_zero (least_with x c' r) ≡ true) (sym e) (subst (λ y. at_most_zero (least_with (neg_ℤ a) y r) ≡ true) (sym f) h)

-- ---- both ends

low_met : (o p h : Option ℤ) → is_up_to o h ≡ true → is_up_to p h ≡ true → is_up_to (both_low o p) h ≡ true
low_met None p h e f = f
low_met (Some a) None h e f = e
low_met (Some a) (Some b) h e f = by (int_lt a b)
  where
    by : (i : Bool) → is_up_to (cond i (Some b) (Some a)) h ≡ true
    by true = f
    by false = e

high_met : (o p l : Option ℤ) → is_up_to l o ≡ true → is_up_to l p ≡ true → is_up_to l (both_high o p) ≡ true
high_met None p l e f = f
high_met (Some a) None l e f = e
high_met (Some a) (Some b) l e f = by (int_lt b a)
  where
    by : (i : Bool) → is_up_to l (cond i (Some b) (Some a)) ≡ true
    by true = f
    by false = e

overlap_met : (r s t : Range) → overlap r t ≡ true → overlap s t ≡ true → overlap (met r s) t ≡ true
overlap_met r s t h k =
    both (is_up_to (both_low r.low s.low) t.high) (is_up_to t.low (both_high r.high s.high))
    (low_met r.low s.low t.high (and_left (is_up_to r.low t.high) (is_up_to t.low r.high) h) (and_left (is_up_to s.low t.high) (is_up_to t.low s.high) k))
    (high_met r.high s.high t.low (and_right (is_up_to r.low t.high) (is_up_to t.low r.high) h) (and_right (is_up_to s.low t.high) (is_up_to t.low s.high) k))

-- by ops
below_at_most : (o : Option ℤ) → below_zero o ≡ true → at_most_zero o ≡ true
below_at_most None h = refl
below_at_most (Some z) h = weak z h
  where
    weak : (z : ℤ) → int_lt z (pos 0) ≡ true → int_le z (pos 0) ≡ true
    weak z h = grind (arith, ints)

pub zero_around : (r s : Range) (a c : ℤ) → ((t : Range) → at_most_zero (least_with a c t) ≡ true → overlap r t ≡ true) → ((t : Range) → at_most_zero (least_with (neg_ℤ a) (neg_ℤ c) t) ≡ true → overlap s t ≡ true) → IsRangeAround (met r s) a c Zero
zero_around r s a c h k = λ t m.
    overlap_met r s t (h t (and_left (at_most_zero (least_with a c t)) (at_most_zero (least_with (neg_ℤ a) (neg_ℤ c) t)) m)) (k t (and_right (at_most_zero (least_with a c t)) (at_most_zero (least_with (neg_ℤ a) (neg_ℤ c) t)) m))

pub at_most_around : (r : Range) (a c : ℤ) → ((t : Range) → at_most_zero (least_with a c t) ≡ true → overlap r t ≡ true) → IsRangeAround r a c AtMost
at_most_around r a c h = λ t m. h t m

pub below_around : (r : Range) (a c : ℤ) → ((t : Range) → at_most_zero (least_with a c t) ≡ true → overlap r t ≡ true) → IsRangeAround r a c Below
below_around r a c h = λ t m. h t (below_at_most (least_with a c t) m)

-- ---- boxes

overlaps_narrowed : (rs ss : List Range) (p : ℕ) (r : Range) → overlaps rs ss ≡ true → overlap r (range_at ss p) ≡ true → overlaps (narrowed rs p r) ss ≡ true
overlaps_narrowed [] ss p r h k = refl
overlaps_narrowed (x ∷ rs) [] zero r h k = refl
overlaps_narrowed (x ∷ rs) [] (suc p) r h k = refl
overlaps_narrowed (x ∷ rs) (s ∷ ss) zero r h k = both (overlap (met x r) s) (overlaps rs ss) (overlap_met x r s (and_left (overlap x s) (overlaps rs ss) h) k) (and_right (overlap x s) (overlaps rs ss) h)
overlaps_narrowed (x ∷ rs) (s ∷ ss) (suc p) r h k =
    both (overlap x s) (overlaps (narrowed rs p r) ss) (and_left (overlap x s) (overlaps rs ss) h) (overlaps_narrowed rs ss p r (and_right (overlap x s) (overlaps rs ss) h) k)

-- narrowed to a range around a term
pub stays_around : (old new : List Range) (p : ℕ) (r : Range) (a c : ℤ) (op : RowOp) → new ≡ narrowed old p r → IsRangeAround r a c op → StaysAround (λ rs. may_be rs ((p, a) ∷ []) c op) old new
stays_around old new p r a c op e h = λ rs o m. subst (λ (xs : List Range). overlaps xs rs ≡ true) (sym e) (overlaps_narrowed old rs p r o (h (range_at rs p) m))

-- the terms are one
pub one_may_be : (rs : List Range) (ts : List Term) (t : Term) (c : ℤ) (op : RowOp) → ts ≡ t ∷ [] → may_be rs ts c op ≡ true → may_be rs ((t.0, t.1) ∷ []) c op ≡ true
one_may_be rs ts t c op e m = subst (λ (ts : List Term). may_be rs ts c op ≡ true) e m

pub all_values_around : (n : ℕ) (rs : List Range) → overlaps (all_values n) rs ≡ true
all_values_around zero rs = refl
all_values_around (suc n) [] = refl
all_values_around (suc n) (r ∷ rs) = both (overlap everywhere r) (overlaps (all_values n) rs) (everywhere_around r) (all_values_around n rs)

pub is_around : (n : ℕ) (old new : List Range) (ls : List Limit) → old ≡ all_values n → StaysAround (λ rs. may_hold rs ls) old new → IsAround new ls
is_around n old new ls e h = λ rs m. h rs (subst (λ (xs : List Range). overlaps xs rs ≡ true) (sym e) (all_values_around n rs)) m

-- what may hold passes as far as the box and the limits of several terms tell
pub passes : (b rs : List Range) (ls : List Limit) → IsAround b ls → may_hold rs ls ≡ true → (overlaps b rs && list_all (may_pass rs) ls) ≡ true
passes b rs ls h m = both (overlaps b rs) (list_all (may_pass rs) ls) (h rs m) (each ls m)
  where
    each : (ls : List Limit) → may_hold rs ls ≡ true → list_all (may_pass rs) ls ≡ true
    each [] m = refl
    each (l ∷ ls) m =
        both (may_pass rs l) (list_all (may_pass rs) ls) (or_right (length l.terms.items == 1) (may_meet rs l) (and_left (may_meet rs l) (may_hold rs ls) m)) (each ls (and_right (may_meet rs l) (may_hold rs ls) m))

-- ---- what the program computes

-- a test that passes wherever the other does is no further test
pub no_further : (o m : Bool) → (m ≡ true → o ≡ true) → (o && m) ≡ m
no_further o true h = ap (λ b. b && true) (h refl)
no_further true false h = refl
no_further false false h = refl

none_left : (rs : List Range) → overlaps rs [] ≡ true
none_left [] = refl
none_left (r ∷ rs) = refl

-- no place more
pub overlaps_all : (rs ss : List Range) (i : ℕ) → min (length rs) (length ss) ≤ i → overlaps (drop i rs) (drop i ss) ≡ true
overlaps_all [] ss zero h = refl
overlaps_all [] ss (suc i) h = refl
overlaps_all (r ∷ rs) [] zero h = refl
overlaps_all (r ∷ rs) [] (suc i) h = none_left (drop i rs)
overlaps_all (r ∷ rs) (s ∷ ss) zero h = absurd (omega (arith, h))
overlaps_all (r ∷ rs) (s ∷ ss) (suc i) h = overlaps_all rs ss i (omega (arith, h))
