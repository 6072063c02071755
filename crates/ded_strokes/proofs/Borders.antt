-- The borders that cross a side, and those that cross the parts of it.
use Rattle.std.proofs.Common.{◌≡◌, ◌<◌, ◌≤◌, Bool, true, false, ◌||◌, inl, inr, List, [], ◌∷◌, length, refl, sym, ap, ap₂, ◌∙◌, subst, true≢false, arith}
use Rattle.std.specs.Prelude.{ℤ, pos, ◌+ℤ◌, ◌-ℤ◌, ◌*ℤ◌, ◌<ℤ◌, if◌then◌else◌}
use Rattle.std.specs.List.{list_any}
use Rattle.std.proofs.lemmas.Int.{ints}
use Rattle.ded_num.proofs.Signs.{zero_times}
use Rattle.ded_model.proofs.Core.{zero_scale}
use Rattle.ded_polygon.specs.Plane.{HalfPlane, Spot, In, level, bend}
use Rattle.ded_polygon.proofs.Polynomials.{plus, minus, times, var, identity}
use Rattle.ded_polygon.proofs.Signs.{above_above, above_below, unscale_zero}
use Rattle.ded_polygon.proofs.RowPlanes.{in_left, in_right, in_either}
use Rattle.ded_strokes.specs.Bounds.{PlaneLimit}
use Rattle.ded_strokes.specs.Strokes.{parts_levels, is_parted}
use Rattle.ded_strokes.specs.Stretches.{IsProper, crossed, all_crossed, AreBorders}
use Rattle.ded_strokes.proofs.Cuts.{AreOpposite, opposite_of}

-- ---- a border along the side
-- two numbers of opposite signs are no multiples of two positive ones by one factor, unless that is 0
below_factor : (a z y k d e : ℤ) → pos 0 <ℤ d → pos 0 <ℤ e → a *ℤ z ≡ k *ℤ d → a *ℤ y ≡ k *ℤ e → z <ℤ pos 0 → pos 0 <ℤ y → a ≡ pos 0
below_factor a z y k d e hd he hz hy below above =
    let u = above_above d y hd above in
    let v = above_below e z he below in
    unscale_zero (d *ℤ y -ℤ e *ℤ z) a (omega (arith, ints)) (spread a z y d e ∙ ap₂ (λ m n. d *ℤ m -ℤ e *ℤ n) hy hz ∙ evened k d e)
  where
    spread : (a z y d e : ℤ) → (d *ℤ y -ℤ e *ℤ z) *ℤ a ≡ d *ℤ (a *ℤ y) -ℤ e *ℤ (a *ℤ z)
    spread a z y d e =
        identity (a ∷ z ∷ y ∷ d ∷ e ∷ [])
        (times (minus (times (var 3) (var 2)) (times (var 4) (var 1))) (var 0))
        (minus (times (var 3) (times (var 0) (var 2))) (times (var 4) (times (var 0) (var 1))))
        refl

    evened : (k d e : ℤ) → d *ℤ (k *ℤ e) -ℤ e *ℤ (k *ℤ d) ≡ pos 0
    evened k d e =
        identity (k ∷ d ∷ e ∷ []) (minus (times (var 1) (times (var 0) (var 2))) (times (var 2) (times (var 0) (var 1)))) (minus (var 0) (var 0)) refl
        ∙ nought k
      where
        nought : (k : ℤ) → k -ℤ k ≡ pos 0
        nought k = omega (arith, ints)

no_factor : (a z y k d e : ℤ) → pos 0 <ℤ d → pos 0 <ℤ e → a *ℤ z ≡ k *ℤ d → a *ℤ y ≡ k *ℤ e → AreOpposite z y → a ≡ pos 0
no_factor a z y k d e hd he hz hy (inl o) = below_factor a z y k d e hd he hz hy o.0 o.1
no_factor a z y k d e hd he hz hy (inr o) = below_factor a y z k e d he hd hy hz o.1 o.0

-- the level of t, where s is 0 and both run alike
along_a : (s t : HalfPlane) (p : Spot) → s.a *ℤ level t p ≡ (t.a *ℤ level s p +ℤ bend s t *ℤ p.y) +ℤ (s.a *ℤ t.c -ℤ s.c *ℤ t.a) *ℤ p.den
unfolding level bend
along_a s t p =
    identity (s.a ∷ s.b ∷ s.c ∷ t.a ∷ t.b ∷ t.c ∷ p.x ∷ p.y ∷ p.den ∷ [])
    (times (var 0) (plus (plus (times (var 3) (var 6)) (times (var 4) (var 7))) (times (var 5) (var 8))))
    (plus
    (plus
    (times (var 3) (plus (plus (times (var 0) (var 6)) (times (var 1) (var 7))) (times (var 2) (var 8))))
    (times (minus (times (var 0) (var 4)) (times (var 1) (var 3))) (var 7)))
    (times (minus (times (var 0) (var 5)) (times (var 2) (var 3))) (var 8)))
    refl

along_b : (s t : HalfPlane) (p : Spot) → s.b *ℤ level t p +ℤ bend s t *ℤ p.x ≡ t.b *ℤ level s p +ℤ (s.b *ℤ t.c -ℤ s.c *ℤ t.b) *ℤ p.den
unfolding level bend
along_b s t p =
    identity (s.a ∷ s.b ∷ s.c ∷ t.a ∷ t.b ∷ t.c ∷ p.x ∷ p.y ∷ p.den ∷ [])
    (plus
    (times (var 1) (plus (plus (times (var 3) (var 6)) (times (var 4) (var 7))) (times (var 5) (var 8))))
    (times (minus (times (var 0) (var 4)) (times (var 1) (var 3))) (var 6)))
    (plus
    (times (var 4) (plus (plus (times (var 0) (var 6)) (times (var 1) (var 7))) (times (var 2) (var 8))))
    (times (minus (times (var 1) (var 5)) (times (var 2) (var 4))) (var 8)))
    refl

module _ (s t : HalfPlane) (level_along : bend s t ≡ pos 0) where
  by_a : (p : Spot) → level s p ≡ pos 0 → s.a *ℤ level t p ≡ (s.a *ℤ t.c -ℤ s.c *ℤ t.a) *ℤ p.den
  by_a p on =
      let e = along_a s t p in
      let f = zero_scale t.a (level s p) on in
      let g = zero_times (bend s t) p.y level_along in
      omega (arith, ints)

  by_b : (p : Spot) → level s p ≡ pos 0 → s.b *ℤ level t p ≡ (s.b *ℤ t.c -ℤ s.c *ℤ t.b) *ℤ p.den
  by_b p on =
      let e = along_b s t p in
      let f = zero_scale t.b (level s p) on in
      let g = zero_times (bend s t) p.x level_along in
      omega (arith, ints)

  -- it is crossed between no two of its spots
  pub alike : (p q : Spot) → IsProper s → pos 0 <ℤ p.den → pos 0 <ℤ q.den → level s p ≡ pos 0 → level s q ≡ pos 0 → parts_levels (level t p) (level t q) ≡ true → ⊥
  alike p q proper hp hq sp sq h =
      let o = opposite_of (level t p) (level t q) h in
      proper
      (no_factor s.a (level t p) (level t q) (s.a *ℤ t.c -ℤ s.c *ℤ t.a) p.den q.den hp hq (by_a p sp) (by_a q sq) o)
      (no_factor s.b (level t p) (level t q) (s.b *ℤ t.c -ℤ s.c *ℤ t.b) p.den q.den hp hq (by_b p sp) (by_b q sq) o)

-- ---- those of a list
module _ (p q : Spot) where
  in_crossed : (bs : List PlaneLimit) (b : PlaneLimit) → In b bs → parts_levels (level b.plane p) (level b.plane q) ≡ true → In b (crossed p q bs)
  in_crossed [] b i h = i
  in_crossed (d ∷ bs) b (inl e) h = first (parts_levels (level d.plane p) (level d.plane q)) (ap (λ (l : PlaneLimit). parts_levels (level l.plane p) (level l.plane q)) (sym e) ∙ h)
    where
      first : (t : Bool) → t ≡ true → In b (if t then d ∷ crossed p q bs else crossed p q bs)
      first true k = inl e
      first false k = absurd (true≢false (sym k))
  in_crossed (d ∷ bs) b (inr i) h = later (parts_levels (level d.plane p) (level d.plane q)) (in_crossed bs b i h)
    where
      later : (t : Bool) → In b (crossed p q bs) → In b (if t then d ∷ crossed p q bs else crossed p q bs)
      later true k = inr k
      later false k = k

  of_crossed : (bs : List PlaneLimit) (b : PlaneLimit) → In b (crossed p q bs) → In b bs × (parts_levels (level b.plane p) (level b.plane q) ≡ true)
  of_crossed [] b i = absurd i
  of_crossed (d ∷ bs) b i = by (parts_levels (level d.plane p) (level d.plane q)) refl i (λ j. of_crossed bs b j)
    where
      by : (t : Bool) → parts_levels (level d.plane p) (level d.plane q) ≡ t → In b (if t then d ∷ crossed p q bs else crossed p q bs)
          → (In b (crossed p q bs) → In b bs × (parts_levels (level b.plane p) (level b.plane q) ≡ true)) → In b (d ∷ bs) × (parts_levels (level b.plane p) (level b.plane q) ≡ true)
      by true e (inl j) k = (inl j, ap (λ (l : PlaneLimit). parts_levels (level l.plane p) (level l.plane q)) j ∙ e)
      by true e (inr j) k = (inr (k j).0, (k j).1)
      by false e j k = (inr (k j).0, (k j).1)

  most_crossed : (bs : List PlaneLimit) → length (crossed p q bs) ≤ length bs
  most_crossed [] = omega arith
  most_crossed (d ∷ bs) = by (parts_levels (level d.plane p) (level d.plane q)) (most_crossed bs)
    where
      by : (t : Bool) → length (crossed p q bs) ≤ length bs → length (if t then d ∷ crossed p q bs else crossed p q bs) ≤ length (d ∷ bs)
      by true h = omega (arith, h)
      by false h = omega (arith, h)

  -- fewer, where one of them is not crossed
  pub fewer_crossed : (bs : List PlaneLimit) (b : PlaneLimit) → In b bs → parts_levels (level b.plane p) (level b.plane q) ≡ false → length (crossed p q bs) < length bs
  fewer_crossed [] b i h = absurd i
  fewer_crossed (d ∷ bs) b (inl e) h = by (parts_levels (level d.plane p) (level d.plane q)) (ap (λ (l : PlaneLimit). parts_levels (level l.plane p) (level l.plane q)) (sym e) ∙ h)
    where
      by : (t : Bool) → t ≡ false → length (if t then d ∷ crossed p q bs else crossed p q bs) < length (d ∷ bs)
      by true k = absurd (true≢false k)
      by false k = let m = most_crossed bs in omega (arith, m)
  fewer_crossed (d ∷ bs) b (inr i) h = by (parts_levels (level d.plane p) (level d.plane q)) (fewer_crossed bs b i h)
    where
      by : (t : Bool) → length (crossed p q bs) < length bs → length (if t then d ∷ crossed p q bs else crossed p q bs) < length (d ∷ bs)
      by true k = omega (arith, k)
      by false k = omega (arith, k)

-- ---- those of pieces
pub are_borders : (p q : Spot) (pieces : List (List PlaneLimit)) → AreBorders pieces p q (all_crossed p q pieces)
are_borders p q pieces = record { crossed = is pieces; all = has pieces }
  where
    is : (ps : List (List PlaneLimit)) (b : PlaneLimit) → In b (all_crossed p q ps) → parts_levels (level b.plane p) (level b.plane q) ≡ true
    is [] b i = absurd i
    is (bs ∷ ps) b i = elim (in_either b (crossed p q bs) (all_crossed p q ps) i) [ inl j ↦ (of_crossed p q bs b j).1 | inr j ↦ is ps b j ]

    has : (ps : List (List PlaneLimit)) (bs : List PlaneLimit) → In bs ps → (b : PlaneLimit) → In b bs → parts_levels (level b.plane p) (level b.plane q) ≡ true → In b (all_crossed p q ps)
    has [] bs i b j h = absurd i
    has (cs ∷ ps) bs (inl e) b j h = in_left b (crossed p q cs) (all_crossed p q ps) (in_crossed p q cs b (subst (In b) e j) h)
    has (cs ∷ ps) bs (inr i) b j h = in_right b (crossed p q cs) (all_crossed p q ps) (has ps bs i b j h)

-- of a part of the way, where a border that is not crossed on the way is not crossed either
pub part_borders : (pieces : List (List PlaneLimit)) (p q u v : Spot) (borders : List PlaneLimit) → AreBorders pieces p q borders
    → ((r : PlaneLimit) → parts_levels (level r.plane p) (level r.plane q) ≡ false → parts_levels (level r.plane u) (level r.plane v) ≡ false) → AreBorders pieces u v (crossed u v borders)
part_borders pieces p q u v borders are narrow = record {
  crossed = λ b i. (of_crossed u v borders b i).1;
  all = λ bs i b j h. in_crossed u v borders b (are.all bs i b j (wide b h (parts_levels (level b.plane p) (level b.plane q)) refl)) h;
}
  where
    wide : (b : PlaneLimit) → parts_levels (level b.plane u) (level b.plane v) ≡ true → (t : Bool) → parts_levels (level b.plane p) (level b.plane q) ≡ t → parts_levels (level b.plane p) (level b.plane q) ≡ true
    wide b h true e = e
    wide b h false e = absurd (true≢false (sym h ∙ narrow b e))

-- without borders nothing is crossed
pub not_parted : (pieces : List (List PlaneLimit)) (p q : Spot) → AreBorders pieces p q [] → is_parted pieces p q ≡ false
not_parted pieces p q are = by pieces (λ bs i b j h. are.all bs i b j h)
  where
    within : (bs : List PlaneLimit) → ((b : PlaneLimit) → In b bs → parts_levels (level b.plane p) (level b.plane q) ≡ true → ⊥) → list_any (λ b. parts_levels (level b.plane p) (level b.plane q)) bs ≡ false
    within [] h = refl
    within (b ∷ bs) h = ap₂ (λ x y. x || y) (not_so (parts_levels (level b.plane p) (level b.plane q)) (h b (inl refl))) (within bs (λ d i. h d (inr i)))
      where
        not_so : (t : Bool) → (t ≡ true → ⊥) → t ≡ false
        not_so true k = absurd (k refl)
        not_so false k = refl

    by : (ps : List (List PlaneLimit)) → ((bs : List PlaneLimit) → In bs ps → (b : PlaneLimit) → In b bs → parts_levels (level b.plane p) (level b.plane q) ≡ true → ⊥) → is_parted ps p q ≡ false
    by [] h = refl
    by (bs ∷ ps) h = ap₂ (λ x y. x || y) (within bs (h bs (inl refl))) (by ps (λ cs i. h cs (inr i)))

-- a border through the spot is not crossed between it and another one
starts_on : (z y : ℤ) → y ≡ pos 0 → parts_levels z y ≡ false
starts_on z y h = ap (parts_levels z) h ∙ never z
  where
    never : (z : ℤ) → parts_levels z (pos 0) ≡ false
    never z = grind (arith, ints)

ends_on : (z y : ℤ) → z ≡ pos 0 → parts_levels z y ≡ false
ends_on z y h = ap (λ x. parts_levels x y) h

pub fewer_before : (p d : Spot) (bs : List PlaneLimit) (b : PlaneLimit) → In b bs → level b.plane d ≡ pos 0 → length (crossed p d bs) < length bs
fewer_before p d bs b i h = fewer_crossed p d bs b i (starts_on (level b.plane p) (level b.plane d) h)

pub fewer_behind : (q d : Spot) (bs : List PlaneLimit) (b : PlaneLimit) → In b bs → level b.plane d ≡ pos 0 → length (crossed d q bs) < length bs
fewer_behind q d bs b i h = fewer_crossed d q bs b i (ends_on (level b.plane d) (level b.plane q) h)
