-- The default window has each corner in it that counts.
use Rattle.std.proofs.Common.{◌≡◌, ◌<◌, ◌≤◌, ◌^◌, ℕ, zero, suc, ◌*◌, Bool, true, false, List, [], ◌∷◌, Option, Some, None, inl, inr, refl, sym, subst, arith}
use Rattle.std.specs.Prelude.{nat_le, ℤ, pos, negsuc, ◌+ℤ◌, ◌-ℤ◌, ◌*ℤ◌, ◌<ℤ◌, ◌≤ℤ◌, neg_ℤ, unsigned_abs, if◌then◌else◌}
use Rattle.std.proofs.lemmas.Bool.Decides.{nat_tests}
use Rattle.std.proofs.lemmas.Int.{ints, unsigned_abs-mul}
use Rattle.std.proofs.lemmas.Nat.{mul-le}
use Rattle.std.proofs.Math.Nat.{pow-le-pow_right}
use Rattle.ded_polygon.specs.Plane.{HalfPlane, Spot, In, level}
use Rattle.ded_polygon.specs.Vertices.{LiesIn}
use Rattle.ded_polygon.specs.Windows.{window_planes}
use Rattle.ded_axes.specs.Spans.{Span}
use Rattle.ded_axes.specs.declared.span.Reaches.{Reaches}
use Rattle.ded_axes.specs.Around.{is_near, counts, floor, ceiling, least, greatest, span_of, spans_of, joined_with, reached, spans_from, spans, is_far_span, is_far, exponent_from, exponent_at, exponent, margin, framed, widened_if_some, frame_around}
use Rattle.ded_axes.proofs.Floors.{is_floor, least_left, least_right, greatest_left, greatest_right}
use Rattle.ded_axes.proofs.Exponents.{exponent_most}
use Rattle.ded_num.proofs.Ring.{parts, diff_same, ring_pos}
use Rattle.ded_num.proofs.Tests.{both}
use Rattle.ded_num.proofs.Signs.{once}
use Rattle.ded_model.proofs.CoefLemmas.{less}
use Rattle.ded_model.proofs.Bools.{or_false_left, or_false_right}
use Rattle.ded_ranges.proofs.Ends.{times_den}
use Rattle.ded_ranges.proofs.Sums.{le_trans}

-- ---- spans that have others in them
pub record Covers (s t : Span) : Type 0 where
  pub low : s.low ≤ℤ t.low
  pub high : t.high ≤ℤ s.high

pub record CoversBoth (s t : Reaches) : Type 0 where
  pub x : Covers s.x t.x
  pub y : Covers s.y t.y

abbrev pub CoversIn : Option Reaches → Reaches → Type 0
CoversIn None t = ⊥
CoversIn (Some s) t = CoversBoth s t

same : (a : ℤ) → a ≤ℤ a
same a = omega (arith, ints)

joined_left : (a b c d l h : ℤ) → a ≤ℤ l → h ≤ℤ b → Covers (record { low = least a c; high = greatest b d }) (record { low = l; high = h })
joined_left a b c d l h p q = record { low = le_trans _ _ _ (least_left a c) p; high = le_trans _ _ _ q (greatest_left b d) }

joined_right : (a b c d : ℤ) → Covers (record { low = least a c; high = greatest b d }) (record { low = c; high = d })
joined_right a b c d = record { low = least_right a c; high = greatest_right b d }

stays : (den : ℤ) (found : Option Reaches) (c : Spot) (t : Reaches) → CoversIn found t → CoversIn (reached den found c) t
stays den None c t h = absurd h
stays den (Some s) c t h = by (counts den c)
  where
    by : (b : Bool) → CoversIn (if b then Some (joined_with (Some s) (spans_of den c)) else Some s) t
    by true = record {
      x = joined_left s.x.low s.x.high (spans_of den c).x.low (spans_of den c).x.high t.x.low t.x.high h.x.low h.x.high;
      y = joined_left s.y.low s.y.high (spans_of den c).y.low (spans_of den c).y.high t.y.low t.y.high h.y.low h.y.high;
    }
    by false = h

stay : (den : ℤ) (cs : List Spot) (found : Option Reaches) (t : Reaches) → CoversIn found t → CoversIn (spans_from den found cs) t
stay den [] found t h = h
stay den (c ∷ cs) found t h = stay den cs (reached den found c) t (stays den found c t h)

joined_has : (found : Option Reaches) (t : Reaches) → CoversBoth (joined_with found t) t
joined_has None t = record { x = record { low = same t.x.low; high = same t.x.high }; y = record { low = same t.y.low; high = same t.y.high } }
joined_has (Some s) t = record { x = joined_right s.x.low s.x.high t.x.low t.x.high; y = joined_right s.y.low s.y.high t.y.low t.y.high }

met : (den : ℤ) (found : Option Reaches) (c : Spot) → counts den c ≡ true → CoversIn (reached den found c) (spans_of den c)
met den found c e = subst (λ (b : Bool). CoversIn (if b then Some (joined_with found (spans_of den c)) else found) (spans_of den c)) (sym e) (joined_has found (spans_of den c))

covers_from : (den : ℤ) (cs : List Spot) (found : Option Reaches) (c : Spot) → In c cs → counts den c ≡ true → CoversIn (spans_from den found cs) (spans_of den c)
covers_from den [] found c i e = absurd i
covers_from den (b ∷ cs) found c (inl p) e = stay den cs (reached den found b) (spans_of den c) (subst (λ x. CoversIn (reached den found x) (spans_of den c)) p (met den found c e))
covers_from den (b ∷ cs) found c (inr i) e = covers_from den cs (reached den found b) c i e

-- ---- products of numbers in order
-- a number that is at most the floor of w / n is so often n at most w
low_times : (w l : ℤ) (n : ℕ) → 0 < n → l ≤ℤ floor w (pos n) → (l *ℤ pos n) ≤ℤ w
low_times w l n some h =
    let f = is_floor w n some in
    let k = times_den l (floor w (pos n)) n h in
    by (floor w (pos n)) f.rest k f.is
  where
    by : (q : ℤ) (r : ℕ) → (l *ℤ pos n) ≤ℤ (q *ℤ pos n) → w ≡ q *ℤ pos n +ℤ pos r → (l *ℤ pos n) ≤ℤ w
    by q r k is = step (l *ℤ pos n) (q *ℤ pos n) w r k is
      where
        step : (a b w : ℤ) (r : ℕ) → a ≤ℤ b → w ≡ b +ℤ pos r → a ≤ℤ w
        step a b w r k is = omega (arith, ints, k, is)

negative_times : (a : ℤ) (n : ℕ) → neg_ℤ a *ℤ pos n ≡ neg_ℤ (a *ℤ pos n)
negative_times (pos zero) n = omega (arith, ints)
negative_times (pos (suc a)) n = omega (arith, ints)
negative_times (negsuc a) n = omega (arith, ints)

high_times : (w h : ℤ) (n : ℕ) → 0 < n → ceiling w (pos n) ≤ℤ h → w ≤ℤ (h *ℤ pos n)
high_times w h n some k =
    let p = low_times (neg_ℤ w) (neg_ℤ h) n some (turned (floor (neg_ℤ w) (pos n)) h k) in
    back (h *ℤ pos n) w (subst (λ x. x ≤ℤ neg_ℤ w) (negative_times h n) p)
  where
    turned : (q h : ℤ) → neg_ℤ q ≤ℤ h → neg_ℤ h ≤ℤ q
    turned q h k = omega (arith, ints, k)

    back : (a b : ℤ) → neg_ℤ a ≤ℤ neg_ℤ b → b ≤ℤ a
    back a b k = omega (arith, ints, k)

-- ---- at the chosen denominator each corner counts that counts at 1
not_far : (z : ℤ) → nat_le 1073741824 (unsigned_abs z) ≡ false → (neg_ℤ (pos 1073741823) ≤ℤ z) × (z ≤ℤ pos 1073741823)
not_far (pos n) e = let h : n < 1073741824 = grind (arith, nat_tests, e) in (omega (arith, ints, h), omega (arith, ints, h))
not_far (negsuc n) e = let h : suc n < 1073741824 = grind (arith, nat_tests, e) in (omega (arith, ints, h), omega (arith, ints, h))

small : (w : ℤ) (n : ℕ) → (neg_ℤ (pos 1073741823) *ℤ pos n) ≤ℤ w → w ≤ℤ (pos 1073741823 *ℤ pos n) → unsigned_abs w ≤ 1073741823 * n
small w n h k = omega (arith, ints, h, k)

scaled_below : (z n p : ℕ) → 0 < n → p ≤ 1000000000 → z ≤ 1073741823 * n → z * p < 1152921504606846976 * n
scaled_below z n p some h k = let l = mul-le z p (1073741823 * n) 1000000000 k h in omega (arith, l, some)

power_most : (k : ℕ) → k ≤ 9 → 10 ^ k ≤ 1000000000
power_most k h = pow-le-pow_right (omega arith) h

near_still : (s : Span) (z : ℤ) (n k : ℕ) → 0 < n → k ≤ 9 → is_far_span s ≡ false → Covers s (span_of (pos 1) z (pos n)) → is_near (pos (10 ^ k)) z (pos n) ≡ true
near_still s z n k some most near h =
    let low = not_far s.low (or_false_left _ (nat_le 1073741824 (unsigned_abs s.high)) near) in
    let high = not_far s.high (or_false_right (nat_le 1073741824 (unsigned_abs s.low)) _ near) in
    let w = z *ℤ pos 1 in
    let l = low_times w (neg_ℤ (pos 1073741823)) n some (le_trans _ _ _ low.0 h.low) in
    let u = high_times w (pos 1073741823) n some (le_trans _ _ _ h.high high.1) in
    let size : unsigned_abs z ≤ 1073741823 * n = subst (λ x. unsigned_abs x ≤ 1073741823 * n) (once z) (small w n l u) in
    less (unsigned_abs (z *ℤ pos (10 ^ k))) (1152921504606846976 * n)
    (subst (λ x. x < 1152921504606846976 * n) (sym (unsigned_abs-mul z (pos (10 ^ k)))) (scaled_below (unsigned_abs z) n (10 ^ k) some (power_most k most) size))

-- ---- the window
level_left : (d l x y e : ℤ) → level (record { a = neg_ℤ d; b = pos 0; c = l }) (record { x = x; y = y; den = e }) ≡ l *ℤ e -ℤ x *ℤ d
unfolding level
level_left d l x y e = rw (parts d, parts l, parts x, parts y, parts e) (simp ring_pos (diff_same _ _ _ _ (omega arith)))

level_right : (d r x y e : ℤ) → level (record { a = d; b = pos 0; c = neg_ℤ r }) (record { x = x; y = y; den = e }) ≡ x *ℤ d -ℤ r *ℤ e
unfolding level
level_right d r x y e = rw (parts d, parts r, parts x, parts y, parts e) (simp ring_pos (diff_same _ _ _ _ (omega arith)))

level_bottom : (d l x y e : ℤ) → level (record { a = pos 0; b = neg_ℤ d; c = l }) (record { x = x; y = y; den = e }) ≡ l *ℤ e -ℤ y *ℤ d
unfolding level
level_bottom d l x y e = rw (parts d, parts l, parts x, parts y, parts e) (simp ring_pos (diff_same _ _ _ _ (omega arith)))

level_top : (d r x y e : ℤ) → level (record { a = pos 0; b = d; c = neg_ℤ r }) (record { x = x; y = y; den = e }) ≡ y *ℤ d -ℤ r *ℤ e
unfolding level
level_top d r x y e = rw (parts d, parts r, parts x, parts y, parts e) (simp ring_pos (diff_same _ _ _ _ (omega arith)))

not_above : (a b : ℤ) → a ≤ℤ b → (a -ℤ b) ≤ℤ pos 0
not_above a b h = omega (arith, ints, h)

lower : (a b : ℤ) (m : ℕ) → a ≤ℤ b → (a -ℤ pos m) ≤ℤ b
lower a b m h = omega (arith, ints, h)

higher : (a b : ℤ) (m : ℕ) → a ≤ℤ b → a ≤ℤ (b +ℤ pos m)
higher a b m h = omega (arith, ints, h)

is_low : (s : Span) (den z : ℤ) (n m : ℕ) → 0 < n → Covers s (span_of den z (pos n)) → ((s.low -ℤ pos m) *ℤ pos n -ℤ z *ℤ den) ≤ℤ pos 0
is_low s den z n m some h = not_above _ _ (low_times (z *ℤ den) (s.low -ℤ pos m) n some (lower s.low _ m h.low))

is_high : (s : Span) (den z : ℤ) (n m : ℕ) → 0 < n → Covers s (span_of den z (pos n)) → (z *ℤ den -ℤ (s.high +ℤ pos m) *ℤ pos n) ≤ℤ pos 0
is_high s den z n m some h = not_above _ _ (high_times (z *ℤ den) (s.high +ℤ pos m) n some (higher _ s.high m h.high))

module _ (den x y : ℤ) (n m : ℕ) (some : 0 < n) (s : Reaches) (h : CoversBoth s (spans_of den (record { x = x; y = y; den = pos n }))) where
  lies_within : LiesIn (window_planes (framed den (pos m) s)) (record { x = x; y = y; den = pos n })
  lies_within t (inl e) =
      subst (λ (p : HalfPlane). level p (record { x = x; y = y; den = pos n }) ≤ℤ pos 0) (sym e)
      (subst (λ (z : ℤ). z ≤ℤ pos 0) (sym (level_left den (s.x.low -ℤ pos m) x y (pos n))) (is_low s.x den x n m some h.x))
  lies_within t (inr (inl e)) =
      subst (λ (p : HalfPlane). level p (record { x = x; y = y; den = pos n }) ≤ℤ pos 0) (sym e)
      (subst (λ (z : ℤ). z ≤ℤ pos 0) (sym (level_right den (s.x.high +ℤ pos m) x y (pos n))) (is_high s.x den x n m some h.x))
  lies_within t (inr (inr (inl e))) =
      subst (λ (p : HalfPlane). level p (record { x = x; y = y; den = pos n }) ≤ℤ pos 0) (sym e)
      (subst (λ (z : ℤ). z ≤ℤ pos 0) (sym (level_bottom den (s.y.low -ℤ pos m) x y (pos n))) (is_low s.y den y n m some h.y))
  lies_within t (inr (inr (inr (inl e)))) =
      subst (λ (p : HalfPlane). level p (record { x = x; y = y; den = pos n }) ≤ℤ pos 0) (sym e)
      (subst (λ (z : ℤ). z ≤ℤ pos 0) (sym (level_top den (s.y.high +ℤ pos m) x y (pos n))) (is_high s.y den y n m some h.y))
  lies_within t (inr (inr (inr (inr e)))) = absurd e

module _ (cs : List Spot) (x y : ℤ) (n : ℕ) (some : 0 < n) (e : counts (pos 1) (record { x = x; y = y; den = pos n }) ≡ true) where
  at_power : (s : Reaches) (b : Bool) → is_far s ≡ b → CoversBoth s (spans_of (pos 1) (record { x = x; y = y; den = pos n })) → counts (pos (10 ^ (if b then 0 else exponent_from 10 cs))) (record { x = x; y = y; den = pos n }) ≡ true
  at_power s true f h = e
  at_power s false f h =
      let k = exponent_from 10 cs in
      let most = exponent_most 10 cs in
      both (is_near (pos (10 ^ k)) x (pos n)) (is_near (pos (10 ^ k)) y (pos n))
      (near_still s.x x n k some most (or_false_left (is_far_span s.x) (is_far_span s.y) f) h.x)
      (near_still s.y y n k some most (or_false_right (is_far_span s.x) (is_far_span s.y) f) h.y)

  still_counts : (o : Option Reaches) → CoversIn o (spans_of (pos 1) (record { x = x; y = y; den = pos n })) → counts (pos (10 ^ exponent_at o cs)) (record { x = x; y = y; den = pos n }) ≡ true
  still_counts None h = absurd h
  still_counts (Some s) h = at_power s (is_far s) refl h

  in_some : (den : ℤ) (o : Option Reaches) → CoversIn o (spans_of den (record { x = x; y = y; den = pos n })) → LiesIn (window_planes (widened_if_some den o)) (record { x = x; y = y; den = pos n })
  in_some den None h = absurd h
  in_some den (Some s) h = lies_within den x y n (margin s) some s h

  lies_around : In (record { x = x; y = y; den = pos n }) cs → LiesIn (window_planes (frame_around cs)) (record { x = x; y = y; den = pos n })
  lies_around i =
      let c : Spot = record { x = x; y = y; den = pos n } in
      let den = pos (10 ^ exponent cs) in
      in_some den (spans den cs) (covers_from den cs None c i (still_counts (spans (pos 1) cs) (covers_from (pos 1) cs None c i e)))

by_parts : (cs : List Spot) (x y d : ℤ) → In (record { x = x; y = y; den = d }) cs → counts (pos 1) (record { x = x; y = y; den = d }) ≡ true → pos 0 <ℤ d → LiesIn (window_planes (frame_around cs)) (record { x = x; y = y; den = d })
by_parts cs x y (pos n) i e some = lies_around cs x y n (omega (arith, ints, some)) e i
by_parts cs x y (negsuc n) i e some = absurd (omega (arith, ints, some))

pub contains : (cs : List Spot) (c : Spot) → In c cs → counts (pos 1) c ≡ true → pos 0 <ℤ c.den → LiesIn (window_planes (frame_around cs)) c
contains cs c i e some = by_parts cs c.x c.y c.den i e some
