-- What holds at the points between two spots that no border parts.
use Rattle.std.proofs.Common.{◌≡◌, ℕ, ◌<◌, true, false, ◌&&◌, ◌||◌, List, [], ◌∷◌, refl, sym, ap, ap₂, ◌∙◌, subst, true≢false, arith}
use Rattle.std.specs.Prelude.{ℤ, pos, ◌+ℤ◌, ◌*ℤ◌, ◌<ℤ◌, ◌≤ℤ◌, int_lt}
use Rattle.std.specs.List.{list_all, list_any}
use Rattle.std.specs.Ordering.{int_eq}
use Rattle.std.proofs.lemmas.Int.{ints, by_lt_z}
use Rattle.ded_num.proofs.Tests.{and_false}
use Rattle.ded_num.proofs.Signs.{above_test, product_above}
use Rattle.ded_model.specs.Row.{sign_meets}
use Rattle.ded_model.proofs.Bools.{or_false_left, or_false_right}
use Rattle.ded_model.proofs.Rows.{or_right}
use Rattle.ded_model.proofs.Core.{zero_scale}
use Rattle.ded_polygon.specs.Plane.{HalfPlane, Spot, level}
use Rattle.ded_polygon.proofs.Polynomials.{plus, times, var, identity}
use Rattle.ded_polygon.proofs.Signs.{above_above, above_below, above_most}
use Rattle.ded_strokes.specs.Bounds.{PlaneLimit, piece_holds, union_holds}
use Rattle.ded_strokes.specs.Near.{Direction, Near, turned, growth, soon, piece_soon}
use Rattle.ded_strokes.specs.Strokes.{between, IsSeam, HasStroke, HaveStroke, parts_levels, is_parted, first_level, level_between, union_between, union_soon}
use Rattle.ded_strokes.specs.declared.stretch.Stroke.TheVariants.{Seam, Solid, Dashed}
use Rattle.ded_strokes.proofs.Soon.{SameSign, both_below, both_none, both_above, same_meets, same_soon, lt_below, eq_below, eq_above}
use Rattle.ded_strokes.proofs.Unions.{near_of, of_near, union_settles}

-- ---- levels between
pub level_is : (s : HalfPlane) (p q : Spot) (i j : ℕ) → level s (between p q i j) ≡ pos i *ℤ level s p +ℤ pos j *ℤ level s q
unfolding level between
level_is s p q i j = law s.a s.b s.c p.x p.y p.den q.x q.y q.den (pos i) (pos j)
  where
    law : (a b c x y e u v f i j : ℤ) → a *ℤ (i *ℤ x +ℤ j *ℤ u) +ℤ b *ℤ (i *ℤ y +ℤ j *ℤ v) +ℤ c *ℤ (i *ℤ e +ℤ j *ℤ f) ≡ i *ℤ (a *ℤ x +ℤ b *ℤ y +ℤ c *ℤ e) +ℤ j *ℤ (a *ℤ u +ℤ b *ℤ v +ℤ c *ℤ f)
    law a b c x y e u v f i j =
        identity (a ∷ b ∷ c ∷ x ∷ y ∷ e ∷ u ∷ v ∷ f ∷ i ∷ j ∷ [])
        (plus
        (plus (times (var 0) (plus (times (var 9) (var 3)) (times (var 10) (var 6)))) (times (var 1) (plus (times (var 9) (var 4)) (times (var 10) (var 7)))))
        (times (var 2) (plus (times (var 9) (var 5)) (times (var 10) (var 8)))))
        (plus
        (times (var 9) (plus (plus (times (var 0) (var 3)) (times (var 1) (var 4))) (times (var 2) (var 5))))
        (times (var 10) (plus (plus (times (var 0) (var 6)) (times (var 1) (var 7))) (times (var 2) (var 8)))))
        refl

pub between_positive : (p q : Spot) (i j : ℕ) → pos 0 <ℤ p.den → pos 0 <ℤ q.den → 0 < i → 0 < j → pos 0 <ℤ (between p q i j).den
unfolding between
between_positive p q i j hp hq hi hj =
    let a = above_above (pos i) p.den (omega (arith, ints)) hp in
    let b = above_above (pos j) q.den (omega (arith, ints)) hq in
    omega (arith, ints)

-- ---- signs between
-- z is not 0
first_is : (z y : ℤ) → int_eq z (pos 0) ≡ false → first_level z y ≡ z
first_is z y h = rw h refl

second_is : (z y : ℤ) → z ≡ pos 0 → first_level z y ≡ y
second_is z y h = rw h refl

pub parted_up : (z y : ℤ) → z <ℤ pos 0 → pos 0 <ℤ y → parts_levels z y ≡ true
parted_up z y h k = ap₂ (λ a b. (a && b) || (int_lt (pos 0) z && int_lt y (pos 0))) (lt_below z h) (above_test y k)

pub parted_down : (z y : ℤ) → pos 0 <ℤ z → y <ℤ pos 0 → parts_levels z y ≡ true
parted_down z y h k = or_right (int_lt z (pos 0) && int_lt (pos 0) y) (int_lt (pos 0) z && int_lt y (pos 0)) (ap₂ (λ a b. a && b) (above_test z h) (lt_below y k))

module _ (i j : ℕ) (hi : 0 < i) (hj : 0 < j) where
  pi : pos 0 <ℤ pos i
  pi = omega (arith, ints)

  pj : pos 0 <ℤ pos j
  pj = omega (arith, ints)

  -- of the second number alone
  of_second : (x y : ℤ) → x ≡ pos 0 → SameSign (x +ℤ pos j *ℤ y) y
  of_second x y m =
      by_lt_z y (pos 0)
      (λ b. (let n = above_below (pos j) y pj b in both_below (omega (arith, ints)) b))
      (λ b. by_lt_z (pos 0) y
      (λ a. (let n = above_above (pos j) y pj a in both_above (omega (arith, ints)) a))
      (λ a. (let o : y ≡ pos 0 = omega (arith, ints) in let n = zero_scale (pos j) y o in both_none (omega (arith, ints)) o)))

  sign_is : (z y : ℤ) → parts_levels z y ≡ false → SameSign (pos i *ℤ z +ℤ pos j *ℤ y) (first_level z y)
  sign_is z y apart =
      by_lt_z z (pos 0)
      (λ b. by_lt_z (pos 0) y
      (λ k. absurd (true≢false (sym (parted_up z y b k) ∙ apart)))
      (λ k. kept (first_is z y (eq_below z b)) (both_below (sum_below b k) b)))
      (λ b. by_lt_z (pos 0) z
      (λ a. by_lt_z y (pos 0)
      (λ k. absurd (true≢false (sym (parted_down z y a k) ∙ apart)))
      (λ k. kept (first_is z y (eq_above z a)) (both_above (sum_above a k) a)))
      (λ a.
      (let o : z ≡ pos 0 = omega (arith, ints) in
      kept (second_is z y o) (of_second (pos i *ℤ z) y (zero_scale (pos i) z o)))))
    where
      kept : {y' : ℤ} → first_level z y ≡ y' → SameSign (pos i *ℤ z +ℤ pos j *ℤ y) y' → SameSign (pos i *ℤ z +ℤ pos j *ℤ y) (first_level z y)
      kept e h = subst (SameSign (pos i *ℤ z +ℤ pos j *ℤ y)) (sym e) h

      sum_below : z <ℤ pos 0 → y ≤ℤ pos 0 → (pos i *ℤ z +ℤ pos j *ℤ y) <ℤ pos 0
      sum_below b k = let m = above_below (pos i) z pi b in let n = above_most (pos j) y pj k in omega (arith, ints)

      sum_above : pos 0 <ℤ z → pos 0 ≤ℤ y → pos 0 <ℤ (pos i *ℤ z +ℤ pos j *ℤ y)
      sum_above b k = let m = above_above (pos i) z pi b in let n = product_above (pos j) y pj k in omega (arith, ints)

  module _ (p q : Spot) where
    pub limit_sign : (b : PlaneLimit) → parts_levels (level b.plane p) (level b.plane q) ≡ false → SameSign (level b.plane (between p q i j)) (level_between b p q)
    limit_sign b h = subst (λ z. SameSign z (level_between b p q)) (sym (level_is b.plane p q i j)) (sign_is (level b.plane p) (level b.plane q) h)

    -- the tests are the same
    piece_is : (bs : List PlaneLimit) → list_any (λ b. parts_levels (level b.plane p) (level b.plane q)) bs ≡ false
        → piece_holds bs (between p q i j) ≡ list_all (λ b. sign_meets b.op (level_between b p q)) bs
    piece_is [] h = refl
    piece_is (b ∷ bs) h =
        let here = or_false_left (parts_levels (level b.plane p) (level b.plane q)) (list_any (λ d. parts_levels (level d.plane p) (level d.plane q)) bs) h in
        let rest = or_false_right (parts_levels (level b.plane p) (level b.plane q)) (list_any (λ d. parts_levels (level d.plane p) (level d.plane q)) bs) h in
        ap₂ (λ x y. x && y) (same_meets b.op (level b.plane (between p q i j)) (level_between b p q) (limit_sign b here)) (piece_is bs rest)

    piece_soon_is : (w : Direction) (bs : List PlaneLimit) → list_any (λ b. parts_levels (level b.plane p) (level b.plane q)) bs ≡ false
        → piece_soon bs (between p q i j) w ≡ list_all (λ b. soon b.op (level_between b p q) (growth b.plane w)) bs
    piece_soon_is w [] h = refl
    piece_soon_is w (b ∷ bs) h =
        let here = or_false_left (parts_levels (level b.plane p) (level b.plane q)) (list_any (λ d. parts_levels (level d.plane p) (level d.plane q)) bs) h in
        let rest = or_false_right (parts_levels (level b.plane p) (level b.plane q)) (list_any (λ d. parts_levels (level d.plane p) (level d.plane q)) bs) h in
        ap₂ (λ x y. x && y) (same_soon b.op (level b.plane (between p q i j)) (level_between b p q) (growth b.plane w) (limit_sign b here)) (piece_soon_is w bs rest)

    union_is : (pieces : List (List PlaneLimit)) → is_parted pieces p q ≡ false → union_holds pieces (between p q i j) ≡ union_between pieces p q
    union_is [] h = refl
    union_is (bs ∷ pieces) h =
        let here = or_false_left (list_any (λ b. parts_levels (level b.plane p) (level b.plane q)) bs) (is_parted pieces p q) h in
        let rest = or_false_right (list_any (λ b. parts_levels (level b.plane p) (level b.plane q)) bs) (is_parted pieces p q) h in
        ap₂ (λ x y. x || y) (piece_is bs here) (union_is pieces rest)

    union_soon_is : (w : Direction) (pieces : List (List PlaneLimit)) → is_parted pieces p q ≡ false
        → list_any (λ bs. piece_soon bs (between p q i j) w) pieces ≡ union_soon pieces p q w
    union_soon_is w [] h = refl
    union_soon_is w (bs ∷ pieces) h =
        let here = or_false_left (list_any (λ b. parts_levels (level b.plane p) (level b.plane q)) bs) (is_parted pieces p q) h in
        let rest = or_false_right (list_any (λ b. parts_levels (level b.plane p) (level b.plane q)) bs) (is_parted pieces p q) h in
        ap₂ (λ x y. x || y) (piece_soon_is w bs here) (union_soon_is w pieces rest)

    module _ (hp : pos 0 <ℤ p.den) (hq : pos 0 <ℤ q.den) (pieces : List (List PlaneLimit)) (whole : is_parted pieces p q ≡ false) where
      near_is : (w : Direction) → union_soon pieces p q w ≡ true → Near (union_holds pieces) (between p q i j) w
      near_is w h =
          near_of (union_holds pieces) (list_any (λ bs. piece_soon bs (between p q i j) w) pieces) (between p q i j) w
          (union_settles (between p q i j) w (between_positive p q i j hp hq hi hj) pieces)
          (union_soon_is w pieces whole ∙ h)

      is_near : (w : Direction) → Near (union_holds pieces) (between p q i j) w → union_soon pieces p q w ≡ true
      is_near w h =
          sym (union_soon_is w pieces whole)
          ∙ of_near (union_holds pieces) (list_any (λ bs. piece_soon bs (between p q i j) w) pieces) (between p q i j) w
          (union_settles (between p q i j) w (between_positive p q i j hp hq hi hj) pieces)
          h

      seam_is : (w : Direction) → union_between pieces p q ≡ true → union_soon pieces p q w ≡ true → union_soon pieces p q (turned w) ≡ true → IsSeam pieces w (between p q i j)
      seam_is w h a b = record { holds = union_is pieces whole ∙ h; ahead = near_is w a; behind = near_is (turned w) b }

      solid_is : (w : Direction) → union_between pieces p q ≡ true → (union_soon pieces p q w && union_soon pieces p q (turned w)) ≡ false → HasStroke pieces w (between p q i j) Solid
      solid_is w h n = (
        union_is pieces whole ∙ h,
        λ s. true≢false (sym (ap₂ (λ a b. a && b) (is_near w s.ahead) (is_near (turned w) s.behind)) ∙ n),
      )

      dashed_is : union_between pieces p q ≡ false → union_holds pieces (between p q i j) ≡ false
      dashed_is h = union_is pieces whole ∙ h

-- ---- whole stretches
module _ (pieces : List (List PlaneLimit)) (w : Direction) (p q : Spot) (hp : pos 0 <ℤ p.den) (hq : pos 0 <ℤ q.den) (whole : is_parted pieces p q ≡ false) where
  pub all_seam : union_between pieces p q ≡ true → union_soon pieces p q w ≡ true → union_soon pieces p q (turned w) ≡ true → HaveStroke pieces w p q Seam
  all_seam h a b = λ i j hi hj. seam_is i j hi hj p q hp hq pieces whole w h a b

  pub solid_ahead : union_between pieces p q ≡ true → union_soon pieces p q w ≡ false → HaveStroke pieces w p q Solid
  solid_ahead h n = λ i j hi hj. solid_is i j hi hj p q hp hq pieces whole w h (ap (λ b. b && union_soon pieces p q (turned w)) n)

  pub solid_behind : union_between pieces p q ≡ true → union_soon pieces p q (turned w) ≡ false → HaveStroke pieces w p q Solid
  solid_behind h n = λ i j hi hj. solid_is i j hi hj p q hp hq pieces whole w h (and_false (union_soon pieces p q w) (union_soon pieces p q (turned w)) n)

  pub all_dashed : union_between pieces p q ≡ false → HaveStroke pieces w p q Dashed
  all_dashed h = λ i j hi hj. dashed_is i j hi hj p q hp hq pieces whole h
