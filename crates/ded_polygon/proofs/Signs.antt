-- Signs of products, and factors that are taken away.
use Rattle.std.proofs.Common.{◌≡◌, zero, suc, arith, refl}
use Rattle.std.specs.Prelude.{ℤ, pos, negsuc, ◌-ℤ◌, ◌*ℤ◌, ◌<ℤ◌, ◌≤ℤ◌}
use Rattle.std.proofs.lemmas.Int.{ints}
use lib.IntN.{neg_ℤ}
use Rattle.ded_num.proofs.Ring.{parts, ring, diff_same}
use Rattle.ded_num.proofs.Signs.{neg_times_first, zero_times}
use Rattle.ded_model.specs.declared.row.RowOp.TheVariants.{Zero, AtMost, Below}
use Rattle.ded_model.proofs.Core.{pos_mul, times_neg, meets_scale, meets_unscale}

-- ---- products
pub above_above : (a b : ℤ) → pos 0 <ℤ a → pos 0 <ℤ b → pos 0 <ℤ (a *ℤ b)
above_above a b p q = pos_mul a b p q

pub above_below : (a b : ℤ) → pos 0 <ℤ a → b <ℤ pos 0 → (a *ℤ b) <ℤ pos 0
above_below a b p q = meets_scale Below a b p q

pub below_below : (a b : ℤ) → a <ℤ pos 0 → b <ℤ pos 0 → pos 0 <ℤ (a *ℤ b)
below_below a b p q =
    let h : pos 0 <ℤ (neg_ℤ a *ℤ neg_ℤ b) = pos_mul (neg_ℤ a) (neg_ℤ b) (omega (arith, ints)) (omega (arith, ints)) in
    let e = neg_times_first a (neg_ℤ b) in
    let f = times_neg a b in
    omega (arith, ints)

pub above_most : (a b : ℤ) → pos 0 <ℤ a → b ≤ℤ pos 0 → (a *ℤ b) ≤ℤ pos 0
above_most a b p q = meets_scale AtMost a b p q

pub least_most : (a b : ℤ) → pos 0 ≤ℤ a → b ≤ℤ pos 0 → (a *ℤ b) ≤ℤ pos 0
least_most (pos zero) b p q = let e = zero_times (pos 0) b refl in omega (arith, ints)
least_most (pos (suc a)) b p q = meets_scale AtMost (pos (suc a)) b (omega (arith, ints)) q
least_most (negsuc a) b p q = absurd (omega (arith, ints))

pub most_most : (a b : ℤ) → a ≤ℤ pos 0 → b ≤ℤ pos 0 → pos 0 ≤ℤ (a *ℤ b)
most_most a b p q =
    let h : (neg_ℤ a *ℤ b) ≤ℤ pos 0 = least_most (neg_ℤ a) b (omega (arith, ints)) q in
    let e = neg_times_first a b in
    omega (arith, ints)

-- ---- a positive factor that is taken away
pub unscale_zero : (k z : ℤ) → pos 0 <ℤ k → k *ℤ z ≡ pos 0 → z ≡ pos 0
unscale_zero k z p h = meets_unscale Zero k z p h

pub unscale_most : (k z : ℤ) → pos 0 <ℤ k → (k *ℤ z) ≤ℤ pos 0 → z ≤ℤ pos 0
unscale_most k z p h = meets_unscale AtMost k z p h

pub unscale_below : (k z : ℤ) → pos 0 <ℤ k → (k *ℤ z) <ℤ pos 0 → z <ℤ pos 0
unscale_below k z p h = meets_unscale Below k z p h

pub unscale_above : (k z : ℤ) → pos 0 <ℤ k → pos 0 <ℤ (k *ℤ z) → pos 0 <ℤ z
unscale_above k z p h =
    let f = times_neg k z in
    let q : neg_ℤ z <ℤ pos 0 = meets_unscale Below k (neg_ℤ z) p (omega (arith, ints)) in
    omega (arith, ints)

pub unscale_least : (k z : ℤ) → pos 0 <ℤ k → pos 0 ≤ℤ (k *ℤ z) → pos 0 ≤ℤ z
unscale_least k z p h =
    let f = times_neg k z in
    let q : neg_ℤ z ≤ℤ pos 0 = meets_unscale AtMost k (neg_ℤ z) p (omega (arith, ints)) in
    omega (arith, ints)

-- a factor below 0 turns the sign
pub unscale_under : (k z : ℤ) → k <ℤ pos 0 → pos 0 ≤ℤ (k *ℤ z) → z ≤ℤ pos 0
unscale_under k z p h =
    let f = neg_times_first k z in
    meets_unscale AtMost (neg_ℤ k) z (omega (arith, ints)) (omega (arith, ints))

-- equal products with an equal positive factor
pub cancel : (k x y : ℤ) → pos 0 <ℤ k → k *ℤ x ≡ k *ℤ y → x ≡ y
cancel k x y p h =
    let e = less k x y in
    let z : x -ℤ y ≡ pos 0 = unscale_zero k (x -ℤ y) p (omega (arith, ints)) in
    omega (arith, ints)
  where
    less : (k x y : ℤ) → k *ℤ (x -ℤ y) ≡ k *ℤ x -ℤ k *ℤ y
    less k x y = rw (parts k, parts x, parts y) (simp ring (diff_same _ _ _ _ (omega arith)))
