-- Where a border crosses between two spots of another one, and what parts the ways up to there and from there on.
use Rattle.std.proofs.Common.{◌≡◌, ℕ, ◌<◌, Bool, true, false, ◌&&◌, ◌||◌, ◌⊎◌, inl, inr, refl, sym, ap, ap₂, ◌∙◌, subst, true≢false, arith}
use Rattle.std.specs.Prelude.{ℤ, pos, negsuc, ◌+ℤ◌, ◌*ℤ◌, ◌<ℤ◌, ◌≤ℤ◌, unsigned_abs, int_lt}
use Rattle.std.proofs.lemmas.Bool.Decides.{nat_tests}
use Rattle.std.proofs.lemmas.Int.{ints, by_lt_z}
use lib.IntN.{neg_ℤ}
use Rattle.ded_num.proofs.Ring.{parts, ring_pos, diff_same}
use Rattle.ded_num.proofs.Signs.{abs_above, is_positive, product_above, abs_below}
use Rattle.ded_model.proofs.Core.{zero_scale}
use Rattle.ded_polygon.specs.Plane.{HalfPlane, Spot, IsSameSpot, level, bend, crossing}
use Rattle.ded_polygon.proofs.Signs.{above_above, above_below, above_most}
use Rattle.ded_polygon.proofs.Identities.{crossing_den, crossing_on_first, crossing_on_second, bend_swap}
use Rattle.ded_polygon.proofs.Sameness.{same_by, zero_same, below_same}
use Rattle.ded_polygon.proofs.RowPlanes.{level_opposite}
use Rattle.ded_polygon.specs.Rows.{opposite}
use Rattle.ded_strokes.specs.Strokes.{between, parts_levels}
use Rattle.ded_strokes.specs.Bounds.{PlaneLimit}
use Rattle.ded_strokes.specs.Cuts.{LiesBetween, IsCut}
use Rattle.ded_strokes.proofs.Soon.{SameSign, both_below, both_none, both_above}
use Rattle.ded_strokes.proofs.Between.{level_is, between_positive, parted_up, parted_down}

-- ---- opposite signs
-- one is below 0, and the other above it
abbrev pub AreOpposite : ℤ → ℤ → Type 0
AreOpposite z y = ((z <ℤ pos 0) × (pos 0 <ℤ y)) ⊎ ((pos 0 <ℤ z) × (y <ℤ pos 0))

below_true : (z : ℤ) → int_lt z (pos 0) ≡ true → z <ℤ pos 0
below_true (pos n) h = absurd (true≢false (sym h ∙ not_below n))
  where
    not_below : (n : ℕ) → int_lt (pos n) (pos 0) ≡ false
    not_below n = grind (arith, nat_tests)
below_true (negsuc n) h = omega (arith, ints)

pub opposite_of : (z y : ℤ) → parts_levels z y ≡ true → AreOpposite z y
opposite_of z y h = split (int_lt z (pos 0)) (int_lt (pos 0) y) (int_lt (pos 0) z) (int_lt y (pos 0)) refl refl refl refl h
  where
    split : (a b c d : Bool) → int_lt z (pos 0) ≡ a → int_lt (pos 0) y ≡ b → int_lt (pos 0) z ≡ c → int_lt y (pos 0) ≡ d → ((a && b) || (c && d)) ≡ true → AreOpposite z y
    split true true c d ea eb ec ed g = inl (below_true z ea, is_positive y eb)
    split true false true true ea eb ec ed g = inr (is_positive z ec, below_true y ed)
    split true false true false ea eb ec ed g = absurd (true≢false (sym g))
    split true false false d ea eb ec ed g = absurd (true≢false (sym g))
    split false b true true ea eb ec ed g = inr (is_positive z ec, below_true y ed)
    split false b true false ea eb ec ed g = absurd (true≢false (sym g))
    split false b false d ea eb ec ed g = absurd (true≢false (sym g))

pub of_opposite : (z y : ℤ) → AreOpposite z y → parts_levels z y ≡ true
of_opposite z y (inl h) = parted_up z y h.0 h.1
of_opposite z y (inr h) = parted_down z y h.0 h.1

-- ---- the levels of one point
pub sign_same : (s : HalfPlane) (p q : Spot) → pos 0 <ℤ p.den → pos 0 <ℤ q.den → IsSameSpot p q → SameSign (level s p) (level s q)
sign_same s p q hp hq e =
    by_lt_z (level s p) (pos 0)
    (λ b. both_below b (below_same s p q hp hq e b))
    (λ b. by_lt_z (pos 0) (level s p)
    (λ a.
    (let f = level_opposite s p in
    let g = level_opposite s q in
    let h = below_same (opposite s) p q hp hq e (omega (arith, ints)) in
    both_above a (omega (arith, ints))))
    (λ a. (let o : level s p ≡ pos 0 = omega (arith, ints) in both_none o (zero_same s p q hp e o))))

-- ---- weights that make a sum nothing
balanced : (z y : ℤ) → AreOpposite z y → pos (unsigned_abs y) *ℤ z +ℤ pos (unsigned_abs z) *ℤ y ≡ pos 0
balanced z y (inl h) =
    let e : pos (unsigned_abs y) ≡ y = abs_above y h.1 in
    let f : pos (unsigned_abs z) ≡ neg_ℤ z = abs_below z h.0 in
    ap₂ (λ a b. a *ℤ z +ℤ b *ℤ y) e f ∙ law z y
  where
    law : (z y : ℤ) → y *ℤ z +ℤ neg_ℤ z *ℤ y ≡ pos 0
    law z y = rw (parts z, parts y) (simp ring_pos (diff_same _ _ _ _ (omega arith)))
balanced z y (inr h) =
    let e : pos (unsigned_abs y) ≡ neg_ℤ y = abs_below y h.1 in
    let f : pos (unsigned_abs z) ≡ z = abs_above z h.0 in
    ap₂ (λ a b. a *ℤ z +ℤ b *ℤ y) e f ∙ law z y
  where
    law : (z y : ℤ) → neg_ℤ y *ℤ z +ℤ z *ℤ y ≡ pos 0
    law z y = rw (parts z, parts y) (simp ring_pos (diff_same _ _ _ _ (omega arith)))

above_size : (z y : ℤ) → AreOpposite z y → 0 < unsigned_abs z
above_size z y (inl h) = let g = h.0 in omega (arith, ints)
above_size z y (inr h) = let g = h.0 in omega (arith, ints)

other_way : (z y : ℤ) → AreOpposite z y → AreOpposite y z
other_way z y (inl h) = inr (h.1, h.0)
other_way z y (inr h) = inl (h.1, h.0)

no_sum : (i j z y : ℤ) → z ≡ pos 0 → y ≡ pos 0 → i *ℤ z +ℤ j *ℤ y ≡ pos 0
no_sum i j z y h k = let e = zero_scale i z h in let f = zero_scale j y k in omega (arith, ints)

-- ---- where a border crosses
pub crosses : (s t : HalfPlane) (p q c : Spot) → level s p ≡ pos 0 → level s q ≡ pos 0 → level s c ≡ pos 0 → level t c ≡ pos 0 → (pos 0 <ℤ bend s t) ⊎ (pos 0 <ℤ bend t s)
    → AreOpposite (level t p) (level t q) → LiesBetween p q c
crosses s t p q c sp sq sc tc bent far =
    let i = unsigned_abs (level t q) in
    let j = unsigned_abs (level t p) in
    let sm : level s (between p q i j) ≡ pos 0 = level_is s p q i j ∙ no_sum (pos i) (pos j) (level s p) (level s q) sp sq in
    let tm : level t (between p q i j) ≡ pos 0 = level_is t p q i j ∙ balanced (level t p) (level t q) far in
    record {
      i = i;
      j = j;
      some_i = above_size (level t q) (level t p) (other_way (level t p) (level t q) far);
      some_j = above_size (level t p) (level t q) far;
      is = elim bent [ inl h ↦ same_by s t c (between p q i j) h sc tc sm tm | inr h ↦ same_by t s c (between p q i j) h tc sc tm sm ];
    }

-- ---- what parts a part of a way parts the whole
most_sum : (i j : ℕ) (z y : ℤ) → 0 < i → 0 < j → z <ℤ pos 0 → y ≤ℤ pos 0 → (pos i *ℤ z +ℤ pos j *ℤ y) <ℤ pos 0
most_sum i j z y hi hj h k = let a = above_below (pos i) z (omega (arith, ints)) h in let b = above_most (pos j) y (omega (arith, ints)) k in omega (arith, ints)

least_sum : (i j : ℕ) (z y : ℤ) → 0 < i → 0 < j → pos 0 <ℤ z → pos 0 ≤ℤ y → pos 0 <ℤ (pos i *ℤ z +ℤ pos j *ℤ y)
least_sum i j z y hi hj h k = let a = above_above (pos i) z (omega (arith, ints)) h in let b = product_above (pos j) y (omega (arith, ints)) k in omega (arith, ints)

second_above : (i j : ℕ) (z y : ℤ) → 0 < i → 0 < j → z <ℤ pos 0 → pos 0 <ℤ (pos i *ℤ z +ℤ pos j *ℤ y) → pos 0 <ℤ y
second_above i j z y hi hj h k = by_lt_z (pos 0) y (λ a. a) (λ a. (let m = most_sum i j z y hi hj h a in absurd (omega (arith, ints))))

second_below : (i j : ℕ) (z y : ℤ) → 0 < i → 0 < j → pos 0 <ℤ z → (pos i *ℤ z +ℤ pos j *ℤ y) <ℤ pos 0 → y <ℤ pos 0
second_below i j z y hi hj h k = by_lt_z y (pos 0) (λ a. a) (λ a. (let m = least_sum i j z y hi hj h a in absurd (omega (arith, ints))))

swapped : (i j : ℕ) (z y : ℤ) → pos i *ℤ z +ℤ pos j *ℤ y ≡ pos j *ℤ y +ℤ pos i *ℤ z
swapped i j z y = omega (arith, ints)

same_opposite : (z v w : ℤ) → SameSign v w → AreOpposite z v → AreOpposite z w
same_opposite z v w (both_below h k) (inl o) = (let a = o.1 in absurd (omega (arith, ints)))
same_opposite z v w (both_below h k) (inr o) = inr (o.0, k)
same_opposite z v w (both_none h k) (inl o) = (let a = o.1 in absurd (omega (arith, ints)))
same_opposite z v w (both_none h k) (inr o) = (let a = o.1 in absurd (omega (arith, ints)))
same_opposite z v w (both_above h k) (inl o) = inl (o.0, k)
same_opposite z v w (both_above h k) (inr o) = (let a = o.1 in absurd (omega (arith, ints)))

module _ (r : HalfPlane) (p q c : Spot) (hp : pos 0 <ℤ p.den) (hq : pos 0 <ℤ q.den) (hc : pos 0 <ℤ c.den) (b : LiesBetween p q c) where
  sum_sign : SameSign (level r c) (pos b.i *ℤ level r p +ℤ pos b.j *ℤ level r q)
  sum_sign = subst (SameSign (level r c)) (level_is r p q b.i b.j) (sign_same r c (between p q b.i b.j) hc (between_positive p q b.i b.j hp hq b.some_i b.some_j) b.is)

  wider_left : AreOpposite (level r p) (level r c) → AreOpposite (level r p) (level r q)
  wider_left o = elim (same_opposite (level r p) (level r c) _ sum_sign o) [
    | inl h ↦ inl (h.0, second_above b.i b.j (level r p) (level r q) b.some_i b.some_j h.0 h.1)
    | inr h ↦ inr (h.0, second_below b.i b.j (level r p) (level r q) b.some_i b.some_j h.0 h.1)
  ]

  wider_right : AreOpposite (level r c) (level r q) → AreOpposite (level r p) (level r q)
  wider_right o = elim (same_opposite (level r q) (level r c) _ sum_sign (other_way (level r c) (level r q) o)) [
    | inl h ↦ inr (second_above b.j b.i (level r q) (level r p) b.some_j b.some_i h.0 (subst (λ z. pos 0 <ℤ z) (swapped b.i b.j (level r p) (level r q)) h.1), h.0)
    | inr h ↦ inl (second_below b.j b.i (level r q) (level r p) b.some_j b.some_i h.0 (subst (λ z. z <ℤ pos 0) (swapped b.i b.j (level r p) (level r q)) h.1), h.0)
  ]

  pub apart_left : parts_levels (level r p) (level r q) ≡ false → parts_levels (level r p) (level r c) ≡ false
  apart_left h = by (parts_levels (level r p) (level r c)) refl
    where
      by : (t : Bool) → parts_levels (level r p) (level r c) ≡ t → parts_levels (level r p) (level r c) ≡ false
      by true e = absurd (true≢false (sym (of_opposite (level r p) (level r q) (wider_left (opposite_of (level r p) (level r c) e))) ∙ h))
      by false e = e

  pub apart_right : parts_levels (level r p) (level r q) ≡ false → parts_levels (level r c) (level r q) ≡ false
  apart_right h = by (parts_levels (level r c) (level r q)) refl
    where
      by : (t : Bool) → parts_levels (level r c) (level r q) ≡ t → parts_levels (level r c) (level r q) ≡ false
      by true e = absurd (true≢false (sym (of_opposite (level r p) (level r q) (wider_right (opposite_of (level r c) (level r q) e))) ∙ h))
      by false e = e

-- ---- cuts
pub is_cut : (side other : PlaneLimit) (p q c : Spot) → pos 0 <ℤ p.den → pos 0 <ℤ q.den → pos 0 <ℤ c.den → level side.plane p ≡ pos 0 → level side.plane q ≡ pos 0
    → level side.plane c ≡ pos 0 → level other.plane c ≡ pos 0 → (pos 0 <ℤ bend side.plane other.plane) ⊎ (pos 0 <ℤ bend other.plane side.plane)
    → parts_levels (level other.plane p) (level other.plane q) ≡ true → IsCut side other p q c
is_cut side other p q c hp hq hc sp sq sc oc bent h =
    let b = crosses side.plane other.plane p q c sp sq sc oc bent (opposite_of (level other.plane p) (level other.plane q) h) in
    record {
      on_side = sc;
      on_other = oc;
      inside = b;
      before = λ r e. apart_left r.plane p q c hp hq hc b e;
      behind = λ r e. apart_right r.plane p q c hp hq hc b e;
    }

-- at the crossing of the one with the other
pub cut_first : (side other : PlaneLimit) (p q c : Spot) → pos 0 <ℤ p.den → pos 0 <ℤ q.den → level side.plane p ≡ pos 0 → level side.plane q ≡ pos 0
    → (c ≡ crossing side.plane other.plane) × (pos 0 <ℤ bend side.plane other.plane) → parts_levels (level other.plane p) (level other.plane q) ≡ true → IsCut side other p q c
cut_first side other p q c hp hq sp sq h k =
    is_cut side other p q c hp hq (subst (λ (d : Spot). pos 0 <ℤ d.den) (sym h.0) (subst (λ z. pos 0 <ℤ z) (sym (crossing_den side.plane other.plane)) h.1)) sp sq
    (ap (level side.plane) h.0 ∙ crossing_on_first side.plane other.plane)
    (ap (level other.plane) h.0 ∙ crossing_on_second side.plane other.plane)
    (inl h.1)
    k

pub cut_second : (side other : PlaneLimit) (p q c : Spot) → pos 0 <ℤ p.den → pos 0 <ℤ q.den → level side.plane p ≡ pos 0 → level side.plane q ≡ pos 0
    → (c ≡ crossing other.plane side.plane) × (pos 0 <ℤ bend other.plane side.plane) → parts_levels (level other.plane p) (level other.plane q) ≡ true → IsCut side other p q c
cut_second side other p q c hp hq sp sq h k =
    is_cut side other p q c hp hq (subst (λ (d : Spot). pos 0 <ℤ d.den) (sym h.0) (subst (λ z. pos 0 <ℤ z) (sym (crossing_den other.plane side.plane)) h.1)) sp sq
    (ap (level side.plane) h.0 ∙ crossing_on_second other.plane side.plane)
    (ap (level other.plane) h.0 ∙ crossing_on_first other.plane side.plane)
    (inr h.1)
    k

-- and if none is above 0
pub no_bend : (side other : PlaneLimit) → bend side.plane other.plane ≤ℤ pos 0 → bend other.plane side.plane ≤ℤ pos 0 → bend side.plane other.plane ≡ pos 0
no_bend side other h k = let e = bend_swap side.plane other.plane in omega (arith, ints)
