-- What a row says of a slot at a point, in parts: its coefficient of the slot, and its rest. What a combination says of the rests.
use Rattle.std.proofs.Common.{◌≡◌, ◌≢◌, zero, suc, ◌<◌, Bool, true, false, cond, List, [], ◌∷◌, arith, refl, sym, ap, ap₂, ◌∙◌, subst}
use Rattle.std.specs.Prelude.{ℤ, pos, negsuc, ◌+ℤ◌, ◌*ℤ◌, ◌<ℤ◌, int_lt, unsigned_abs}
use Rattle.std.specs.Ordering.{int_eq}
use lib.IntN.{neg_ℤ, +ℤ_idl}
use Rattle.std.proofs.lemmas.Int.{ints, by_lt_z}
use Rattle.std.proofs.lemmas.Bool.Decides.{Decides-int_eq}
use Rattle.ded_num.proofs.Ring.{parts, ring_pos, diff_same}
use Rattle.ded_model.specs.declared.slot.Slot.{Slot}
use Rattle.ded_model.specs.declared.row.RowOp.{RowOp}
use Rattle.ded_model.specs.declared.row.RowOp.TheVariants.{Zero, AtMost, Below}
use Rattle.ded_model.specs.Constraint.{LinearConstraint}
use Rattle.ded_model.specs.Point.{slot, same_slot, Point, number_at}
use Rattle.ded_model.specs.Coefs.{coef_at, cut}
use Rattle.ded_model.specs.Row.{sum_at, row_at, sign_meets, row_holds}
use Rattle.ded_model.proofs.Atoms.{row_keys}
use Rattle.ded_model.proofs.Core.{Meets, join, mixed, meets_scale, size, against, no_slot}
use Rattle.ded_model.proofs.Eliminating.{meets-decides, coef_of, rest_of, row_cut, EqualHolds, join_zero}
use Rattle.ded_model.proofs.Numbers.{coef, drop_key}
use Rattle.ded_model.proofs.Terms.{keys_at}
use Rattle.ded_row.specs.Mixing.{factor, join_op, mixed_row, mix_of}
use Rattle.ded_row.proofs.Mixes.{factors, cancels, sum_at-cut, row_at-mixed}
use Rattle.ded_model.proofs.Normals.{normal_row-holds}
use Rattle.ded_elimination.specs.Equalities.{settled_row}
use Rattle.ded_elimination.proofs.Remains.{under_0}
use Rattle.std.proofs.Math.IntN.{neg_ℤ-neg_ℤ}
use Rattle.ded_num.proofs.Signs.{abs_above, above_test, is_positive, abs_below}

-- ---- the parts of a row

-- the coefficient, over keys
pub coef-is : (cs : List (Slot × ℤ)) (s : Slot) → coef (slot s) (row_keys cs) ≡ coef_at cs s
coef-is [] s = refl
coef-is (c ∷ cs) s = go (same_slot c.0 s) (coef-is cs s)
  where
    go : (b : Bool) → coef (slot s) (row_keys cs) ≡ coef_at cs s → cond b (c.1 +ℤ coef (slot s) (row_keys cs)) (coef (slot s) (row_keys cs)) ≡ cond b c.1 (pos 0) +ℤ coef_at cs s
    go true h = ap (λ z. c.1 +ℤ z) h
    go false h = h ∙ sym (+ℤ_idl (coef_at cs s))

-- the sum of the others
drop-is : (cs : List (Slot × ℤ)) (s : Slot) (p : Point) → keys_at (drop_key (slot s) (row_keys cs)) p ≡ sum_at (cut s cs) p
drop-is [] s p = refl
drop-is (c ∷ cs) s p = go (same_slot c.0 s) (drop-is cs s p)
  where
    go : (b : Bool) → keys_at (drop_key (slot s) (row_keys cs)) p ≡ sum_at (cut s cs) p
        → keys_at (cond b (drop_key (slot s) (row_keys cs)) ((slot c.0, c.1) ∷ drop_key (slot s) (row_keys cs))) p ≡ sum_at (cond b (cut s cs) (c ∷ cut s cs)) p
    go true h = h
    go false h = ap (λ z. c.1 *ℤ number_at p (slot c.0) +ℤ z) h

parted_law : (x a n y z : ℤ) → x +ℤ a *ℤ n ≡ y → y +ℤ z ≡ a *ℤ n +ℤ (x +ℤ z)
parted_law x a n y z e = ap (λ w. w +ℤ z) (sym e) ∙ law x (a *ℤ n) z
  where
    law : (x w z : ℤ) → (x +ℤ w) +ℤ z ≡ w +ℤ (x +ℤ z)
    law x w z = omega (arith, ints)

-- the row's sum is the coefficient times the slot's number, and the rest
parted : (s : Slot) (r : LinearConstraint) (p : Point) → row_at r p ≡ coef_at r.coefs s *ℤ number_at p (slot s) +ℤ rest_of s p r
parted s r p =
    parted_law (sum_at (cut s r.coefs) p) (coef_at r.coefs s) (number_at p (slot s)) (sum_at r.coefs p) (r.constant *ℤ pos p.den) (sum_at-cut s r.coefs p)
    ∙ ap (λ z. coef_at r.coefs s *ℤ number_at p (slot s) +ℤ (z +ℤ r.constant *ℤ pos p.den)) (sym (drop-is r.coefs s p))

-- so a row without the slot is its rest
pub level_meets : (s : Slot) (r : LinearConstraint) (p : Point) → coef_at r.coefs s ≡ pos 0 → row_holds r p ≡ true → Meets r.op (rest_of s p r)
unfolding row_holds
level_meets s r p z h =
    subst (Meets r.op) (parted s r p ∙ no_slot (coef_at r.coefs s) (number_at p (slot s)) (rest_of s p r) z) ((meets-decides r.op (row_at r p)).0 h)

-- ---- combinations

pub join_same : (o u : RowOp) → join_op o u ≡ join o u
join_same Zero u = refl
join_same AtMost Zero = refl
join_same AtMost AtMost = refl
join_same AtMost Below = refl
join_same Below u = refl

rests_law : (k a x m b y n : ℤ) → k *ℤ a +ℤ m *ℤ b ≡ pos 0 → k *ℤ (a *ℤ n +ℤ x) +ℤ m *ℤ (b *ℤ n +ℤ y) ≡ k *ℤ x +ℤ m *ℤ y
rests_law k a x m b y n e = law k a x m b y n ∙ no_slot (k *ℤ a +ℤ m *ℤ b) n (k *ℤ x +ℤ m *ℤ y) e
  where
    law : (k a x m b y n : ℤ) → k *ℤ (a *ℤ n +ℤ x) +ℤ m *ℤ (b *ℤ n +ℤ y) ≡ (k *ℤ a +ℤ m *ℤ b) *ℤ n +ℤ (k *ℤ x +ℤ m *ℤ y)
    law k a x m b y n = rw (parts k, parts a, parts x, parts m, parts b, parts y, parts n) (simp ring_pos (diff_same _ _ _ _ (omega arith)))

-- a combination holds where the combination of the rests meets its op
pub mix_meets : (s : Slot) (q r : LinearConstraint) (p : Point) (k m : ℤ) → 0 < p.den → coef_at q.coefs s ≢ pos 0 → coef_at r.coefs s ≢ pos 0
    → factor (coef_at q.coefs s) (coef_at r.coefs s) ≡ k → factor (neg_ℤ (coef_at r.coefs s)) (coef_at q.coefs s) ≡ m
    → row_holds (mix_of s q r) p ≡ true → Meets (join q.op r.op) (k *ℤ rest_of s p q +ℤ m *ℤ rest_of s p r)
unfolding row_holds
mix_meets s q r p k m h nq nr ek em i =
    let a = coef_at q.coefs s in
    let b = coef_at r.coefs s in
    let n = number_at p (slot s) in
    let k' = factor a b in
    let m' = factor (neg_ℤ b) a in
    let pair = factors a b nq nr in
    let sum : row_at (mixed_row s k' q m' r) p ≡ k *ℤ rest_of s p q +ℤ m *ℤ rest_of s p r =
    row_at-mixed s k' q m' r p pair
    ∙ ap₂ (λ x y. k' *ℤ x +ℤ m' *ℤ y) (parted s q p) (parted s r p)
    ∙ rests_law k' a (rest_of s p q) m' b (rest_of s p r) n (cancels a b k' m' pair)
    ∙ ap₂ (λ x y. x *ℤ rest_of s p q +ℤ y *ℤ rest_of s p r) ek em in
    let whole : sign_meets (join_op q.op r.op) (row_at (mixed_row s k' q m' r) p) ≡ true = sym (normal_row-holds (mixed_row s k' q m' r) p h) ∙ i in
    subst (λ o. Meets o (k *ℤ rest_of s p q +ℤ m *ℤ rest_of s p r)) (join_same q.op r.op)
    (subst (Meets (join_op q.op r.op)) sum ((meets-decides (join_op q.op r.op) (row_at (mixed_row s k' q m' r) p)).0 whole))

-- ---- factors

factor_above : (a b : ℤ) → pos 0 <ℤ a → factor a b ≡ pos (unsigned_abs b)
factor_above a b h = ap (λ t. cond t (pos (unsigned_abs b)) (neg_ℤ (pos (unsigned_abs b)))) (above_test a h)

factor_below : (a b : ℤ) → a <ℤ pos 0 → factor a b ≡ neg_ℤ (pos (unsigned_abs b))
factor_below a b h = ap (λ t. cond t (pos (unsigned_abs b)) (neg_ℤ (pos (unsigned_abs b)))) (fails a h)
  where
    fails : (a : ℤ) → a <ℤ pos 0 → int_lt (pos 0) a ≡ false
    fails a h = grind (arith, ints)

turned_up : (a : ℤ) → a <ℤ pos 0 → pos 0 <ℤ neg_ℤ a
turned_up a h = omega (arith, ints)

turned_down : (a : ℤ) → pos 0 <ℤ a → neg_ℤ a <ℤ pos 0
turned_down a h = omega (arith, ints)

above_some : (a : ℤ) → pos 0 <ℤ a → a ≢ pos 0
above_some a h e = absurd (omega (arith, ints))

below_some : (a : ℤ) → a <ℤ pos 0 → a ≢ pos 0
below_some a h e = absurd (omega (arith, ints))

size_is : (a : ℤ) → size a ≡ pos (unsigned_abs a)
size_is (pos n) = refl
size_is (negsuc n) = refl

pub size_above : (a : ℤ) → a ≢ pos 0 → pos 0 <ℤ size a
size_above (pos zero) n = absurd (n refl)
size_above (pos (suc k)) n = omega (arith, ints)
size_above (negsuc k) n = omega (arith, ints)

against_above : (a b : ℤ) → pos 0 <ℤ a → against a b ≡ neg_ℤ b
against_above (pos n) b h = refl
against_above (negsuc n) b h = absurd (omega (arith, ints))

against_below : (a b : ℤ) → a <ℤ pos 0 → against a b ≡ b
against_below (pos n) b h = absurd (omega (arith, ints))
against_below (negsuc n) b h = refl

-- the factor that cancels, with the coefficient a in the equality
against_up : (a b : ℤ) → a ≢ pos 0 → pos 0 <ℤ b → factor (neg_ℤ a) b ≡ against a b
against_up a b n h =
    by_lt_z a (pos 0) (λ l. factor_above (neg_ℤ a) b (turned_up a l) ∙ abs_above b h ∙ sym (against_below a b l))
    (λ g. by_lt_z (pos 0) a (λ l. factor_below (neg_ℤ a) b (turned_down a l) ∙ ap neg_ℤ (abs_above b h) ∙ sym (against_above a b l)) (λ k. absurd (n (omega (arith, ints)))))

against_down : (a b : ℤ) → a ≢ pos 0 → b <ℤ pos 0 → factor a b ≡ against a b
against_down a b n h =
    by_lt_z a (pos 0) (λ l. factor_below a b l ∙ ap neg_ℤ (abs_below b h) ∙ neg_ℤ-neg_ℤ b ∙ sym (against_below a b l))
    (λ g. by_lt_z (pos 0) a (λ l. factor_above a b l ∙ abs_below b h ∙ sym (against_above a b l)) (λ k. absurd (n (omega (arith, ints)))))

-- ---- pairs

pub pair_meets : (s : Slot) (u l : LinearConstraint) (p : Point) → 0 < p.den → pos 0 <ℤ coef_at u.coefs s → coef_at l.coefs s <ℤ pos 0 → row_holds (mix_of s u l) p ≡ true
    → Meets (join u.op l.op) (mixed (row_cut s p u) (row_cut s p l))
pair_meets s u l p h up lo i =
    let a = coef_at u.coefs s in
    let b = coef_at l.coefs s in
    mix_meets s u l p (neg_ℤ (coef_of s l)) (coef_of s u) h (above_some a up) (below_some b lo)
    (factor_above a b up ∙ abs_below b lo ∙ ap neg_ℤ (sym (coef-is l.coefs s)))
    (factor_above (neg_ℤ b) a (turned_up b lo) ∙ abs_above a up ∙ sym (coef-is u.coefs s)) i

-- ---- equalities

pub swapped : (x y : ℤ) → x +ℤ y ≡ y +ℤ x
swapped x y = omega (arith, ints)

gone_law : (k x m w : ℤ) → m ≡ pos 0 → k *ℤ x ≡ k *ℤ x +ℤ m *ℤ w
gone_law k x m w e = rw e (rw (parts k, parts x, parts w) (simp ring_pos (diff_same _ _ _ _ (omega arith))))

against_none : (a b : ℤ) → b ≡ pos 0 → against a b ≡ pos 0
against_none (pos n) b e = ap neg_ℤ e
against_none (negsuc n) b e = e

module _ (s : Slot) (e : LinearConstraint) (p : Point) (h : 0 < p.den) (op : e.op ≡ Zero) (some : coef_at e.coefs s ≢ pos 0) where
  some_of : coef_of s e ≢ pos 0
  some_of z = some (sym (coef-is e.coefs s) ∙ z)

  -- by the coefficients, as the code has them
  to_keys : (r : LinearConstraint) → Meets r.op (size (coef_at e.coefs s) *ℤ rest_of s p r +ℤ against (coef_at e.coefs s) (coef_at r.coefs s) *ℤ rest_of s p e) → EqualHolds s p e r
  to_keys r m = subst (λ a. Meets r.op (size a *ℤ rest_of s p r +ℤ against a (coef_of s r) *ℤ rest_of s p e)) (sym (coef-is e.coefs s))
      (subst (λ b. Meets r.op (size (coef_at e.coefs s) *ℤ rest_of s p r +ℤ against (coef_at e.coefs s) b *ℤ rest_of s p e)) (sym (coef-is r.coefs s)) m)

  equal_level : (r : LinearConstraint) → coef_at r.coefs s ≡ pos 0 → row_holds r p ≡ true → EqualHolds s p e r
  equal_level r z i =
      let a = coef_at e.coefs s in
      to_keys r (subst (Meets r.op) (gone_law (size a) (rest_of s p r) (against a (coef_at r.coefs s)) (rest_of s p e) (against_none a (coef_at r.coefs s) z))
      (meets_scale r.op (size a) (rest_of s p r) (size_above a some) (level_meets s r p z i)))

  equal_upper : (r : LinearConstraint) → pos 0 <ℤ coef_at r.coefs s → row_holds (mix_of s r e) p ≡ true → EqualHolds s p e r
  equal_upper r up i =
      let a = coef_at e.coefs s in
      let b = coef_at r.coefs s in
      to_keys r (subst (λ o. Meets o (size a *ℤ rest_of s p r +ℤ against a b *ℤ rest_of s p e)) (ap (join r.op) op ∙ join_zero r.op)
      (mix_meets s r e p (size a) (against a b) h (above_some b up) some (factor_above b a up ∙ sym (size_is a)) (against_up a b some up) i))

  equal_lower : (r : LinearConstraint) → coef_at r.coefs s <ℤ pos 0 → row_holds (mix_of s e r) p ≡ true → EqualHolds s p e r
  equal_lower r lo i =
      let a = coef_at e.coefs s in
      let b = coef_at r.coefs s in
      to_keys r (subst (Meets r.op) (swapped (against a b *ℤ rest_of s p e) (size a *ℤ rest_of s p r))
      (subst (λ o. Meets (join o r.op) (against a b *ℤ rest_of s p e +ℤ size a *ℤ rest_of s p r)) op
      (mix_meets s e r p (against a b) (size a) h some (below_some b lo) (against_down a b some lo) (factor_above (neg_ℤ b) a (turned_up b lo) ∙ sym (size_is a)) i)))

  settled_by : (r : LinearConstraint) (b d : Bool) → int_eq (coef_at r.coefs s) (pos 0) ≡ b → int_lt (pos 0) (coef_at r.coefs s) ≡ d
      → row_holds (cond b r (cond d (mix_of s r e) (mix_of s e r))) p ≡ true → EqualHolds s p e r
  settled_by r true d z l i = equal_level r ((Decides-int_eq (coef_at r.coefs s) (pos 0)).0 z) i
  settled_by r false true z l i = equal_upper r (is_positive (coef_at r.coefs s) l) i
  settled_by r false false z l i = equal_lower r (under_0 (coef_at r.coefs s) z l) i

  -- what the equality leaves of a row
  pub settled_meets : (r : LinearConstraint) → row_holds (settled_row s e r) p ≡ true → EqualHolds s p e r
  settled_meets r i = settled_by r (int_eq (coef_at r.coefs s) (pos 0)) (int_lt (pos 0) (coef_at r.coefs s)) refl refl i

  itself_law : (a w : ℤ) → size a *ℤ w +ℤ against a a *ℤ w ≡ pos 0
  itself_law (pos n) w = let z = pos n in flat z w
    where
      flat : (z w : ℤ) → z *ℤ w +ℤ neg_ℤ z *ℤ w ≡ pos 0
      flat z w = rw (parts z, parts w) (simp ring_pos (diff_same _ _ _ _ (omega arith)))
  itself_law (negsuc n) w = flat (negsuc n) w
    where
      flat : (z w : ℤ) → neg_ℤ z *ℤ w +ℤ z *ℤ w ≡ pos 0
      flat z w = rw (parts z, parts w) (simp ring_pos (diff_same _ _ _ _ (omega arith)))

  -- the equality itself
  pub itself_meets : EqualHolds s p e e
  itself_meets = subst (λ o. Meets o (size (coef_of s e) *ℤ rest_of s p e +ℤ against (coef_of s e) (coef_of s e) *ℤ rest_of s p e)) (sym op) (itself_law (coef_of s e) (rest_of s p e))
