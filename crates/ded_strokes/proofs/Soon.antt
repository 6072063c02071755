-- What holds soon: the sign of a level, and where that is 0 of its growth, tells the signs of the levels as near as one likes.
use Rattle.std.proofs.Common.{◌≡◌, ℕ, zero, suc, ◌+◌, ◌*◌, ◌<◌, ◌≤◌, true, false, ◌&&◌, ◌||◌, refl, sym, ap, ap₂, ◌∙◌, [], ◌∷◌, arith}
use Rattle.std.specs.Prelude.{ℤ, pos, negsuc, ◌+ℤ◌, ◌*ℤ◌, ◌<ℤ◌, ◌≤ℤ◌, unsigned_abs, int_lt, int_le}
use Rattle.std.specs.Ordering.{int_eq}
use Rattle.std.proofs.lemmas.Bool.Decides.{nat_tests}
use Rattle.std.proofs.lemmas.Int.{ints, by_lt_z, unsigned_abs-mul}
use lib.IntN.{neg_ℤ}
use Rattle.ded_num.proofs.Ring.{parts, ring, ring_pos, diff_same}
use Rattle.ded_num.proofs.Signs.{zero_times}
use Rattle.ded_model.specs.declared.row.RowOp.{RowOp}
use Rattle.ded_model.specs.declared.row.RowOp.TheVariants.{Zero, AtMost, Below}
use Rattle.ded_model.specs.Row.{sign_meets}
use Rattle.ded_model.proofs.Core.{meets_scale, zero_scale}
use Rattle.ded_polygon.specs.Plane.{HalfPlane, Spot, level}
use Rattle.ded_polygon.proofs.Polynomials.{plus, times, var, identity}
use Rattle.ded_polygon.proofs.Signs.{above_above, above_below}
use Rattle.ded_strokes.specs.Bounds.{PlaneLimit, limit_holds}
use Rattle.ded_strokes.specs.Near.{Direction, moved, growth, soon, limit_soon}

-- ---- signs as tests
-- both numbers are below, equal to or above 0
pub data SameSign (z y : ℤ) : Type 0 where
  both_below : z <ℤ pos 0 → y <ℤ pos 0 → SameSign z y
  both_none : z ≡ pos 0 → y ≡ pos 0 → SameSign z y
  both_above : pos 0 <ℤ z → pos 0 <ℤ y → SameSign z y

pub lt_below : (z : ℤ) → z <ℤ pos 0 → int_lt z (pos 0) ≡ true
lt_below (pos n) h = absurd (omega (arith, ints))
lt_below (negsuc n) h = refl

pub lt_above : (z : ℤ) → pos 0 <ℤ z → int_lt z (pos 0) ≡ false
lt_above (pos n) h = grind (arith, nat_tests)
lt_above (negsuc n) h = absurd (omega (arith, ints))

pub eq_below : (z : ℤ) → z <ℤ pos 0 → int_eq z (pos 0) ≡ false
eq_below (pos n) h = absurd (omega (arith, ints))
eq_below (negsuc n) h = refl

pub eq_above : (z : ℤ) → pos 0 <ℤ z → int_eq z (pos 0) ≡ false
eq_above (pos zero) h = absurd (omega (arith, ints))
eq_above (pos (suc n)) h = grind (arith, nat_tests)
eq_above (negsuc n) h = absurd (omega (arith, ints))

pub le_below : (z : ℤ) → z <ℤ pos 0 → int_le z (pos 0) ≡ true
le_below (pos n) h = absurd (omega (arith, ints))
le_below (negsuc n) h = refl

pub le_above : (z : ℤ) → pos 0 <ℤ z → int_le z (pos 0) ≡ false
le_above (pos zero) h = absurd (omega (arith, ints))
le_above (pos (suc n)) h = grind (arith, nat_tests)
le_above (negsuc n) h = absurd (omega (arith, ints))

-- the tests see signs alone
pub same_meets : (op : RowOp) (z y : ℤ) → SameSign z y → sign_meets op z ≡ sign_meets op y
same_meets Zero z y (both_below h k) = eq_below z h ∙ sym (eq_below y k)
same_meets AtMost z y (both_below h k) = le_below z h ∙ sym (le_below y k)
same_meets Below z y (both_below h k) = lt_below z h ∙ sym (lt_below y k)
same_meets op z y (both_none h k) = ap (sign_meets op) (h ∙ sym k)
same_meets Zero z y (both_above h k) = eq_above z h ∙ sym (eq_above y k)
same_meets AtMost z y (both_above h k) = le_above z h ∙ sym (le_above y k)
same_meets Below z y (both_above h k) = lt_above z h ∙ sym (lt_above y k)

soon_below : (op : RowOp) (z g : ℤ) → z <ℤ pos 0 → soon op z g ≡ sign_meets op z
soon_below Zero z g h = ap (λ b. b && int_eq g (pos 0)) (eq_below z h) ∙ sym (eq_below z h)
soon_below AtMost z g h = ap (λ b. b || (int_eq z (pos 0) && int_le g (pos 0))) (lt_below z h) ∙ sym (le_below z h)
soon_below Below z g h = ap (λ b. b || (int_eq z (pos 0) && int_lt g (pos 0))) (lt_below z h) ∙ sym (lt_below z h)

soon_none : (op : RowOp) (z g : ℤ) → z ≡ pos 0 → soon op z g ≡ sign_meets op g
soon_none Zero z g h = rw h refl
soon_none AtMost z g h = rw h refl
soon_none Below z g h = rw h refl

soon_above : (op : RowOp) (z g : ℤ) → pos 0 <ℤ z → soon op z g ≡ sign_meets op z
soon_above Zero z g h = ap (λ b. b && int_eq g (pos 0)) (eq_above z h) ∙ sym (eq_above z h)
soon_above AtMost z g h = ap₂ (λ b d. b || (d && int_le g (pos 0))) (lt_above z h) (eq_above z h) ∙ sym (le_above z h)
soon_above Below z g h = ap₂ (λ b d. b || (d && int_lt g (pos 0))) (lt_above z h) (eq_above z h) ∙ sym (lt_above z h)

pub same_soon : (op : RowOp) (z y g : ℤ) → SameSign z y → soon op z g ≡ soon op y g
same_soon op z y g (both_below h k) = soon_below op z g h ∙ same_meets op z y (both_below h k) ∙ sym (soon_below op y g k)
same_soon op z y g (both_none h k) = soon_none op z g h ∙ sym (soon_none op y g k)
same_soon op z y g (both_above h k) = soon_above op z g h ∙ same_meets op z y (both_above h k) ∙ sym (soon_above op y g k)

-- ---- sizes
-- a product by a natural is at most the magnitudes
product_most : (n : ℕ) (h : ℤ) → (pos n *ℤ h) ≤ℤ pos (n * unsigned_abs h)
product_most n h = let e : unsigned_abs (pos n *ℤ h) ≡ n * unsigned_abs h = unsigned_abs-mul (pos n) h in omega (arith, ints)

product_least : (n : ℕ) (h : ℤ) → neg_ℤ (pos (n * unsigned_abs h)) ≤ℤ (pos n *ℤ h)
product_least n h = let e : unsigned_abs (pos n *ℤ h) ≡ n * unsigned_abs h = unsigned_abs-mul (pos n) h in omega (arith, ints)

-- the magnitude stays below the reach
few : (n k a : ℕ) → 0 < n → n * (a + 1) ≤ k → n * a < k
few n k a h l = omega (arith, h, l)

positive_k : (n k a : ℕ) → 0 < n → n * (a + 1) ≤ k → 0 < k
positive_k n k a h l = let e = few n k a h l in omega arith

below_times : (z : ℤ) (k : ℕ) → 0 < k → z <ℤ pos 0 → (z *ℤ pos k) ≤ℤ neg_ℤ (pos k)
below_times z k h b =
    let m : (pos k *ℤ (z +ℤ pos 1)) ≤ℤ pos 0 = meets_scale AtMost (pos k) (z +ℤ pos 1) (omega (arith, ints)) (omega (arith, ints)) in
    let e = law z (pos k) in
    omega (arith, ints)
  where
    law : (z k : ℤ) → k *ℤ (z +ℤ pos 1) ≡ z *ℤ k +ℤ k
    law z k = rw (parts z, parts k) (simp ring_pos (diff_same _ _ _ _ (omega arith)))

above_times : (z : ℤ) (k : ℕ) → 0 < k → pos 0 <ℤ z → pos k ≤ℤ (z *ℤ pos k)
above_times z k h b =
    let m : (pos k *ℤ (pos 1 +ℤ neg_ℤ z)) ≤ℤ pos 0 = meets_scale AtMost (pos k) (pos 1 +ℤ neg_ℤ z) (omega (arith, ints)) (omega (arith, ints)) in
    let e = law z (pos k) in
    omega (arith, ints)
  where
    law : (z k : ℤ) → k *ℤ (pos 1 +ℤ neg_ℤ z) +ℤ z *ℤ k ≡ k
    law z k = rw (parts z, parts k) (simp ring_pos (diff_same _ _ _ _ (omega arith)))

-- a level below 0 stays there, and one above 0
stays_below : (z h : ℤ) (n k : ℕ) → z <ℤ pos 0 → 0 < n → n * (unsigned_abs h + 1) ≤ k → (z *ℤ pos k +ℤ pos n *ℤ h) <ℤ pos 0
stays_below z h n k b p l =
    let s = few n k (unsigned_abs h) p l in
    let t = below_times z k (positive_k n k (unsigned_abs h) p l) b in
    let u = product_most n h in
    omega (arith, ints)

stays_above : (z h : ℤ) (n k : ℕ) → pos 0 <ℤ z → 0 < n → n * (unsigned_abs h + 1) ≤ k → pos 0 <ℤ (z *ℤ pos k +ℤ pos n *ℤ h)
stays_above z h n k b p l =
    let s = few n k (unsigned_abs h) p l in
    let t = above_times z k (positive_k n k (unsigned_abs h) p l) b in
    let u = product_least n h in
    omega (arith, ints)

-- a sum of nothing and a number
nothing_more : (x y z : ℤ) → x ≡ pos 0 → z ≡ y → x +ℤ z ≡ y
nothing_more x y z h e = omega (arith, ints)

-- a positive multiple has the sign
scaled_sign : (n : ℕ) (g e : ℤ) → 0 < n → pos 0 <ℤ e → SameSign (pos n *ℤ (g *ℤ e)) g
scaled_sign n g e p q =
    by_lt_z g (pos 0)
    (λ b. both_below (rw (law n g e) (above_below (pos n *ℤ e) g f b)) b)
    (λ b. by_lt_z (pos 0) g
    (λ a. both_above (rw (law n g e) (above_above (pos n *ℤ e) g f a)) a)
    (λ a. (let z : g ≡ pos 0 = omega (arith, ints) in both_none (law n g e ∙ zero_scale (pos n *ℤ e) g z) z)))
  where
    f : pos 0 <ℤ (pos n *ℤ e)
    f = above_above (pos n) e (omega (arith, ints)) q

    law : (n : ℕ) (g e : ℤ) → pos n *ℤ (g *ℤ e) ≡ (pos n *ℤ e) *ℤ g
    law n g e = rw (parts (pos n), parts g, parts e) (simp ring (diff_same _ _ _ _ (omega arith)))

-- ---- what is soon so
pub soon_is : (op : RowOp) (z g e : ℤ) (n k : ℕ) → pos 0 <ℤ e → 0 < n → n * (unsigned_abs (g *ℤ e) + 1) ≤ k → sign_meets op (z *ℤ pos k +ℤ pos n *ℤ (g *ℤ e)) ≡ soon op z g
soon_is op z g e n k q p l =
    by_lt_z z (pos 0)
    (λ b. same_meets op _ z (both_below (stays_below z (g *ℤ e) n k b p l) b) ∙ sym (soon_below op z g b))
    (λ b. by_lt_z (pos 0) z
    (λ a. same_meets op _ z (both_above (stays_above z (g *ℤ e) n k a p l) a) ∙ sym (soon_above op z g a))
    (λ a.
    (let o : z ≡ pos 0 = omega (arith, ints) in
    ap (sign_meets op) (nothing_more (z *ℤ pos k) (pos n *ℤ (g *ℤ e)) (pos n *ℤ (g *ℤ e)) (zero_times z (pos k) o) refl)
    ∙ same_meets op _ g (scaled_sign n g e p q)
    ∙ sym (soon_none op z g o))))

-- ---- levels where one moves
level_moved : (s : HalfPlane) (p : Spot) (w : Direction) (n k : ℕ) → level s (moved p w n k) ≡ level s p *ℤ pos k +ℤ pos n *ℤ (growth s w *ℤ p.den)
unfolding level moved growth
level_moved s p w n k = law s.a s.b s.c p.x p.y p.den w.u w.v (pos n) (pos k)
  where
    law : (a b c x y e u v n k : ℤ) → a *ℤ (x *ℤ k +ℤ (n *ℤ u) *ℤ e) +ℤ b *ℤ (y *ℤ k +ℤ (n *ℤ v) *ℤ e) +ℤ c *ℤ (e *ℤ k) ≡ (a *ℤ x +ℤ b *ℤ y +ℤ c *ℤ e) *ℤ k +ℤ n *ℤ ((a *ℤ u +ℤ b *ℤ v) *ℤ e)
    law a b c x y e u v n k =
        identity (a ∷ b ∷ c ∷ x ∷ y ∷ e ∷ u ∷ v ∷ n ∷ k ∷ [])
        (plus
        (plus (times (var 0) (plus (times (var 3) (var 9)) (times (times (var 8) (var 6)) (var 5)))) (times (var 1) (plus (times (var 4) (var 9)) (times (times (var 8) (var 7)) (var 5)))))
        (times (var 2) (times (var 5) (var 9))))
        (plus
        (times (plus (plus (times (var 0) (var 3)) (times (var 1) (var 4))) (times (var 2) (var 5))) (var 9))
        (times (var 8) (times (plus (times (var 0) (var 6)) (times (var 1) (var 7))) (var 5))))
        refl

-- a limit holds near exactly where it does soon
pub limit_is : (b : PlaneLimit) (p : Spot) (w : Direction) (n k : ℕ) → pos 0 <ℤ p.den → 0 < n → n * (unsigned_abs (growth b.plane w *ℤ p.den) + 1) ≤ k
    → limit_holds b (moved p w n k) ≡ limit_soon b p w
limit_is b p w n k q h l = ap (sign_meets b.op) (level_moved b.plane p w n k) ∙ soon_is b.op (level b.plane p) (growth b.plane w) p.den n k q h l
