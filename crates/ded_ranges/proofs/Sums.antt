-- The least sum of a limit in a reach: at most the sum at all values of the reach, and no higher in a wider reach.
use Rattle.std.proofs.Common.{◌≡◌, ℕ, ◌<◌, Bool, true, false, cond, List, [], ◌∷◌, Option, Some, None, arith, refl, sym, ap, subst}
use Rattle.std.specs.Prelude.{ℤ, pos, ◌+ℤ◌, ◌*ℤ◌, ◌≤ℤ◌, ◌<ℤ◌, int_lt, neg_ℤ}
use Rattle.std.specs.Ordering.{int_eq}
use Rattle.std.proofs.lemmas.Int.{ints}
use Rattle.ded_num.proofs.Ring.{parts, diff_same, ring, add-mul_ℤ, mul_assoc_ℤ}
use Rattle.ded_num.proofs.Tests.{both}
use Rattle.ded_num.proofs.Signs.{above_pos}
use Rattle.ded_model.specs.declared.row.RowOp.{RowOp}
use Rattle.ded_model.specs.declared.row.RowOp.TheVariants.{Zero, AtMost, Below}
use Rattle.ded_model.specs.Row.{sign_meets}
use Rattle.ded_model.proofs.Core.{Meets, meets_scale, meets_unscale}
use Rattle.ded_model.proofs.Points.{and_right, and_left}
use Rattle.ded_ranges.specs.declared.reach.Range.{Range}
use Rattle.ded_ranges.specs.declared.limit.Limit.{Limit}
use Rattle.ded_ranges.specs.Codes.{fine}
use Rattle.ded_ranges.specs.Reaches.{IsAbove, IsBelow, IsIn, Lies, range_at, NotAbove, NotBelow, IsPart, IsWithin}
use Rattle.ded_ranges.specs.Limits.{Term, sum_of, is_met, are_met, kept, plus, times, least_end, least, turned, turn, least_of, at_most_zero, below_zero, may_stand, may_be, may_meet, may_hold}
use Rattle.ded_ranges.proofs.Numbers.{UpTo, kept_under, kept_mono, times_down}
use Rattle.ded_ranges.specs.Scaling.{times_up, times_neg, lt_true, le_true, of_lt_true, of_le_true, of_lt_false, le_self, not_negative, commute}

-- ---- sums at values

-- at most z over the denominator
abbrev Under : ℕ → Option ℤ → ℤ → Type 0
Under d None z = Unit {0}
Under d (Some k) z = (k *ℤ pos d) ≤ℤ z

pub le_trans : (a b c : ℤ) → a ≤ℤ b → b ≤ℤ c → a ≤ℤ c
le_trans a b c h k = omega (arith, ints)

le_same : (a b c d : ℤ) → a ≡ b → c ≡ d → a ≤ℤ c → b ≤ℤ d
le_same a b c d e f h = omega (arith, ints)

le_plus : (a b c d : ℤ) → a ≤ℤ c → b ≤ℤ d → (a +ℤ b) ≤ℤ (c +ℤ d)
le_plus a b c d h k = omega (arith, ints)

-- what is kept of a number that is under is under
kept_stays : (d : ℕ) (x z : ℤ) → (x *ℤ pos d) ≤ℤ z → Under d (kept x) z
kept_stays d x z h = by (kept x) (kept_under x)
  where
    by : (o : Option ℤ) → UpTo o x → Under d o z
    by None u = tt
    by (Some k) u = le_trans (k *ℤ pos d) (x *ℤ pos d) z (le_same (pos d *ℤ k) (k *ℤ pos d) (pos d *ℤ x) (x *ℤ pos d) (commute (pos d) k) (commute (pos d) x) (times_up (pos d) k x (not_negative d) u)) h

plus_under : (d : ℕ) (s t : Option ℤ) (y z : ℤ) → Under d s y → Under d t z → Under d (plus s t) (y +ℤ z)
plus_under d None t y z h k = tt
plus_under d (Some s) None y z h k = tt
plus_under d (Some s) (Some t) y z h k = kept_stays d (s +ℤ t) (y +ℤ z) (le_same (s *ℤ pos d +ℤ t *ℤ pos d) ((s +ℤ t) *ℤ pos d) (y +ℤ z) (y +ℤ z) (sym (add-mul_ℤ s t (pos d))) refl (le_plus (s *ℤ pos d) (t *ℤ pos d) y z h k))

-- a multiple of a value, at the end at which it is least
times_under : (d : ℕ) (a n : ℤ) (r : Range) → IsIn r n d → Under d (times a (least_end a r)) ((a *ℤ n) *ℤ pos fine)
times_under d a n r h = by (int_lt (pos 0) a) refl
  where
    low : (o : Option ℤ) → pos 0 <ℤ a → IsAbove o n d → Under d (times a o) ((a *ℤ n) *ℤ pos fine)
    low None p k = tt
    low (Some e) p k = kept_stays d (a *ℤ e) ((a *ℤ n) *ℤ pos fine) (le_same (a *ℤ (e *ℤ pos d)) ((a *ℤ e) *ℤ pos d) (a *ℤ (n *ℤ pos fine)) ((a *ℤ n) *ℤ pos fine) (sym (mul_assoc_ℤ a e (pos d))) (sym (mul_assoc_ℤ a n (pos fine))) (times_up a (e *ℤ pos d) (n *ℤ pos fine) (weak a p) k))
      where
        weak : (a : ℤ) → pos 0 <ℤ a → pos 0 ≤ℤ a
        weak a p = omega (arith, ints)

    high : (o : Option ℤ) → a ≤ℤ pos 0 → IsBelow o n d → Under d (times a o) ((a *ℤ n) *ℤ pos fine)
    high None p k = tt
    high (Some e) p k = kept_stays d (a *ℤ e) ((a *ℤ n) *ℤ pos fine) (le_same (a *ℤ (e *ℤ pos d)) ((a *ℤ e) *ℤ pos d) (a *ℤ (n *ℤ pos fine)) ((a *ℤ n) *ℤ pos fine) (sym (mul_assoc_ℤ a e (pos d))) (sym (mul_assoc_ℤ a n (pos fine))) (times_down a (n *ℤ pos fine) (e *ℤ pos d) p k))

    by : (b : Bool) → int_lt (pos 0) a ≡ b → Under d (times a (cond b r.low r.high)) ((a *ℤ n) *ℤ pos fine)
    by true e = low r.low (of_lt_true (pos 0) a e) h.low
    by false e = high r.high (of_lt_false (pos 0) a e) h.high

zero_first : (z : ℤ) → z ≡ pos 0 +ℤ z
zero_first z = omega (arith, ints)

regroup : (a b c : ℤ) → b +ℤ (c +ℤ a) ≡ (a +ℤ b) +ℤ c
regroup a b c = omega (arith, ints)

least_under : (rs : List Range) (v : ℕ → ℤ) (d : ℕ) → Lies rs v d → (ts : List Term) (s : Option ℤ) (z : ℤ) → Under d s (z *ℤ pos fine) → Under d (least rs ts s) ((sum_of ts v +ℤ z) *ℤ pos fine)
least_under rs v d l [] s z h = subst (λ y. Under d s (y *ℤ pos fine)) (zero_first z) h
least_under rs v d l (t ∷ ts) s z h =
    let n : ℤ = v t.0 in
    let step = plus_under d s (times t.1 (least_end t.1 (range_at rs t.0))) (z *ℤ pos fine) ((t.1 *ℤ n) *ℤ pos fine) h (times_under d t.1 n (range_at rs t.0) (l t.0)) in
    subst (λ y. Under d (least rs ts (plus s (times t.1 (least_end t.1 (range_at rs t.0))))) (y *ℤ pos fine)) (regroup (t.1 *ℤ n) (sum_of ts v) z)
    (least_under rs v d l ts (plus s (times t.1 (least_end t.1 (range_at rs t.0)))) (z +ℤ t.1 *ℤ n) (subst (λ y. Under d (plus s (times t.1 (least_end t.1 (range_at rs t.0)))) y) (sym (add-mul_ℤ z (t.1 *ℤ n) (pos fine))) step))

-- ---- the limit and its negative

turned_sum : (b : Bool) (ts : List Term) (v : ℕ → ℤ) → sum_of (turn b ts) v ≡ turned b (sum_of ts v)
turned_sum b [] v = none b
  where
    none : (b : Bool) → pos 0 ≡ turned b (pos 0)
    none true = refl
    none false = refl
turned_sum b (t ∷ ts) v = more b t.1 (v t.0) (sum_of ts v) (sum_of (turn b ts) v) (turned_sum b ts v)
  where
    more_negative : (a n s s' : ℤ) → s' ≡ neg_ℤ s → neg_ℤ a *ℤ n ≡ neg_ℤ (a *ℤ n) → neg_ℤ a *ℤ n +ℤ s' ≡ neg_ℤ (a *ℤ n +ℤ s)
    more_negative a n s s' e f = omega (arith, ints)

    more : (b : Bool) (a n s s' : ℤ) → s' ≡ turned b s → turned b a *ℤ n +ℤ s' ≡ turned b (a *ℤ n +ℤ s)
    more true a n s s' e = more_negative a n s s' e (times_neg a n)
    more false a n s s' e = ap (λ x. a *ℤ n +ℤ x) e

constant_under : (d : ℕ) (c : ℤ) → Under d (kept (c *ℤ pos fine)) ((c *ℤ pos d) *ℤ pos fine)
constant_under d c = kept_stays d (c *ℤ pos fine) ((c *ℤ pos d) *ℤ pos fine) (same c (pos d) (pos fine))
  where
    swapped : (a b c : ℤ) → (a *ℤ c) *ℤ b ≡ (a *ℤ b) *ℤ c
    swapped a b c = rw (parts a, parts b, parts c) (simp ring (diff_same _ _ _ _ (omega arith)))

    le_of : (a b : ℤ) → a ≡ b → a ≤ℤ b
    le_of a b e = omega (arith, ints)

    same : (a b c : ℤ) → ((a *ℤ c) *ℤ b) ≤ℤ ((a *ℤ b) *ℤ c)
    same a b c = le_of ((a *ℤ c) *ℤ b) ((a *ℤ b) *ℤ c) (swapped a b c)

least_of_under : (rs : List Range) (v : ℕ → ℤ) (d : ℕ) (ts : List Term) (c : ℤ) (b : Bool) → Lies rs v d → Under d (least_of rs ts c b) (turned b (sum_of ts v +ℤ c *ℤ pos d) *ℤ pos fine)
least_of_under rs v d ts c b h =
    subst (λ y. Under d (least_of rs ts c b) (y *ℤ pos fine)) (whole b (sum_of ts v) (sum_of (turn b ts) v) c (pos d) (turned_sum b ts v))
    (least_under rs v d h (turn b ts) (kept (turned b c *ℤ pos fine)) (turned b c *ℤ pos d) (constant_under d (turned b c)))
  where
    negative : (s s' c k : ℤ) → s' ≡ neg_ℤ s → c ≡ neg_ℤ k → s' +ℤ c ≡ neg_ℤ (s +ℤ k)
    negative s s' c k e f = omega (arith, ints)

    whole : (b : Bool) (s s' c d : ℤ) → s' ≡ turned b s → s' +ℤ turned b c *ℤ d ≡ turned b (s +ℤ c *ℤ d)
    whole true s s' c d e = negative s s' (neg_ℤ c *ℤ d) (c *ℤ d) e (times_neg c d)
    whole false s s' c d e = ap (λ x. x +ℤ c *ℤ d) e

-- ---- no values are lost

fine_positive : pos 0 <ℤ pos fine
fine_positive = above_pos fine (omega arith)

pub lt_le : (a b c : ℤ) → a ≤ℤ b → b <ℤ c → a <ℤ c
lt_le a b c h k = omega (arith, ints)

-- a sum that is at most 0 is seen so
may_be_at_most : (d : ℕ) (o : Option ℤ) (z : ℤ) → 0 < d → Under d o (z *ℤ pos fine) → z ≤ℤ pos 0 → at_most_zero o ≡ true
may_be_at_most d None z p u h = refl
may_be_at_most d (Some k) z p u h =
    let low : Meets AtMost (z *ℤ pos fine) = subst (Meets AtMost) (commute (pos fine) z) (meets_scale AtMost (pos fine) z fine_positive h) in
    let own : Meets AtMost (pos d *ℤ k) = subst (Meets AtMost) (commute k (pos d)) (le_trans (k *ℤ pos d) (z *ℤ pos fine) (pos 0) u low) in
    le_true k (pos 0) (meets_unscale AtMost (pos d) k (above_pos d p) own)

may_be_below : (d : ℕ) (o : Option ℤ) (z : ℤ) → 0 < d → Under d o (z *ℤ pos fine) → z <ℤ pos 0 → below_zero o ≡ true
may_be_below d None z p u h = refl
may_be_below d (Some k) z p u h =
    let low : Meets Below (z *ℤ pos fine) = subst (Meets Below) (commute (pos fine) z) (meets_scale Below (pos fine) z fine_positive h) in
    let own : Meets Below (pos d *ℤ k) = subst (Meets Below) (commute k (pos d)) (lt_le (k *ℤ pos d) (z *ℤ pos fine) (pos 0) u low) in
    lt_true k (pos 0) (meets_unscale Below (pos d) k (above_pos d p) own)

pub zero_from : (z : ℤ) → int_eq z (pos 0) ≡ true → z ≡ pos 0
zero_from z e = grind (arith, ints)

-- a sum that stands to 0 as the op says at values of the reach
pub may_be_sound : (rs : List Range) (v : ℕ → ℤ) (d : ℕ) (ts : List Term) (c : ℤ) (op : RowOp) → 0 < d → Lies rs v d → sign_meets op (sum_of ts v +ℤ c *ℤ pos d) ≡ true → may_be rs ts c op ≡ true
may_be_sound rs v d ts c op p h m = by op (sum_of ts v +ℤ c *ℤ pos d) m (least_of rs ts c false) (least_of rs ts c true) (least_of_under rs v d ts c false h) (least_of_under rs v d ts c true h)
  where
    zero_is : (z : ℤ) → int_eq z (pos 0) ≡ true → z ≡ pos 0
    zero_is z e = zero_from z e

    zero_low : (z : ℤ) → z ≡ pos 0 → z ≤ℤ pos 0
    zero_low z e = omega (arith, ints)

    zero_turned : (z : ℤ) → z ≡ pos 0 → neg_ℤ z ≤ℤ pos 0
    zero_turned z e = omega (arith, ints)

    by : (op : RowOp) (z : ℤ) → sign_meets op z ≡ true → (o n : Option ℤ) → Under d o (z *ℤ pos fine) → Under d n (neg_ℤ z *ℤ pos fine) → may_stand op o n ≡ true
    by Zero z m o n u v = both (at_most_zero o) (at_most_zero n) (may_be_at_most d o z p u (zero_low z (zero_is z m))) (may_be_at_most d n (neg_ℤ z) p v (zero_turned z (zero_is z m)))
    by AtMost z m o n u v = may_be_at_most d o z p u (of_le_true z (pos 0) m)
    by Below z m o n u v = may_be_below d o z p u (of_lt_true z (pos 0) m)

pub may_hold_sound : (rs : List Range) (v : ℕ → ℤ) (d : ℕ) (ls : List Limit) → 0 < d → Lies rs v d → are_met v d ls ≡ true → may_hold rs ls ≡ true
may_hold_sound rs v d [] p h m = refl
may_hold_sound rs v d (l ∷ ls) p h m = both (may_meet rs l) (may_hold rs ls)
    (may_be_sound rs v d l.terms.items l.constant l.op p h (and_left (is_met v d l) (are_met v d ls) m)) (may_hold_sound rs v d ls p h (and_right (is_met v d l) (are_met v d ls) m))

-- ---- a wider reach

times_wider : (a : ℤ) (r s : Range) → IsPart r s → NotAbove (times a (least_end a s)) (times a (least_end a r))
times_wider a r s h = by (int_lt (pos 0) a) refl
  where
    weak : (a : ℤ) → pos 0 <ℤ a → pos 0 ≤ℤ a
    weak a p = omega (arith, ints)

    low : (o p : Option ℤ) → pos 0 ≤ℤ a → NotAbove o p → NotAbove (times a o) (times a p)
    low None p l n = tt
    low (Some x) None l n = absurd n
    low (Some x) (Some y) l n = kept_mono (a *ℤ x) (a *ℤ y) (times_up a x y l n)

    high : (o p : Option ℤ) → a ≤ℤ pos 0 → NotBelow o p → NotAbove (times a o) (times a p)
    high None p l n = tt
    high (Some x) None l n = absurd n
    high (Some x) (Some y) l n = kept_mono (a *ℤ x) (a *ℤ y) (times_down a y x l n)

    by : (b : Bool) → int_lt (pos 0) a ≡ b → NotAbove (times a (cond b s.low s.high)) (times a (cond b r.low r.high))
    by true e = low s.low r.low (weak a (of_lt_true (pos 0) a e)) h.low
    by false e = high s.high r.high (of_lt_false (pos 0) a e) h.high

plus_wider : (s s' t t' : Option ℤ) → NotAbove s' s → NotAbove t' t → NotAbove (plus s' t') (plus s t)
plus_wider s None t t' h k = tt
plus_wider s (Some x) t None h k = tt
plus_wider None (Some x) t (Some y) h k = absurd h
plus_wider (Some u) (Some x) None (Some y) h k = absurd k
plus_wider (Some u) (Some x) (Some v) (Some y) h k = kept_mono (x +ℤ y) (u +ℤ v) (le_plus x y u v h k)

least_wider : (rs ss : List Range) → IsWithin rs ss → (ts : List Term) (s s' : Option ℤ) → NotAbove s' s → NotAbove (least ss ts s') (least rs ts s)
least_wider rs ss w [] s s' h = h
least_wider rs ss w (t ∷ ts) s s' h = least_wider rs ss w ts (plus s (times t.1 (least_end t.1 (range_at rs t.0)))) (plus s' (times t.1 (least_end t.1 (range_at ss t.0))))
    (plus_wider s s' (times t.1 (least_end t.1 (range_at rs t.0))) (times t.1 (least_end t.1 (range_at ss t.0))) h (times_wider t.1 (range_at rs t.0) (range_at ss t.0) (w t.0)))

pub not_above_self : (o : Option ℤ) → NotAbove o o
not_above_self None = tt
not_above_self (Some k) = le_self k

lower_at_most : (o n : Option ℤ) → NotAbove n o → at_most_zero o ≡ true → at_most_zero n ≡ true
lower_at_most o None h e = refl
lower_at_most None (Some k) h e = absurd h
lower_at_most (Some j) (Some k) h e = le_true k (pos 0) (le_trans k j (pos 0) h (of_le_true j (pos 0) e))

lower_below : (o n : Option ℤ) → NotAbove n o → below_zero o ≡ true → below_zero n ≡ true
lower_below o None h e = refl
lower_below None (Some k) h e = absurd h
lower_below (Some j) (Some k) h e = lt_true k (pos 0) (lt_le k j (pos 0) h (of_lt_true j (pos 0) e))

may_stand_wider : (op : RowOp) (o n o' n' : Option ℤ) → NotAbove o' o → NotAbove n' n → may_stand op o n ≡ true → may_stand op o' n' ≡ true
may_stand_wider Zero o n o' n' h k e = both (at_most_zero o') (at_most_zero n') (lower_at_most o o' h (and_left (at_most_zero o) (at_most_zero n) e)) (lower_at_most n n' k (and_right (at_most_zero o) (at_most_zero n) e))
may_stand_wider AtMost o n o' n' h k e = lower_at_most o o' h e
may_stand_wider Below o n o' n' h k e = lower_below o o' h e

least_of_wider : (rs ss : List Range) (ts : List Term) (c : ℤ) (b : Bool) → IsWithin rs ss → NotAbove (least_of ss ts c b) (least_of rs ts c b)
least_of_wider rs ss ts c b w = least_wider rs ss w (turn b ts) (kept (turned b c *ℤ pos fine)) (kept (turned b c *ℤ pos fine)) (not_above_self (kept (turned b c *ℤ pos fine)))

may_meet_wider : (rs ss : List Range) (l : Limit) → IsWithin rs ss → may_meet rs l ≡ true → may_meet ss l ≡ true
may_meet_wider rs ss l w e =
    let ts = l.terms.items in
    let c = l.constant in
    may_stand_wider l.op (least_of rs ts c false) (least_of rs ts c true) (least_of ss ts c false) (least_of ss ts c true) (least_of_wider rs ss ts c false w) (least_of_wider rs ss ts c true w) e

-- what may hold in a reach may hold in a wider one
pub may_hold_wider : (rs ss : List Range) (ls : List Limit) → IsWithin rs ss → may_hold rs ls ≡ true → may_hold ss ls ≡ true
may_hold_wider rs ss [] w e = refl
may_hold_wider rs ss (l ∷ ls) w e = both (may_meet ss l) (may_hold ss ls) (may_meet_wider rs ss l w (and_left (may_meet rs l) (may_hold rs ls) e)) (may_hold_wider rs ss ls w (and_right (may_meet rs l) (may_hold rs ls) e))
