-- The core of eliminating a rational slot, on numbers alone, after Fourier and Motzkin.
--
-- What is left of a row at a point is its coefficient a at the slot, its rest r and its op: the row holds at the value m / e
-- of the slot where a * m + r * e stands to 0 as the op says. A row with a positive coefficient bounds the value from above,
-- one with a negative coefficient from below. Sound: a combination with positive factors that cancels the slot holds
-- wherever both rows do. Exact: where every upper row mixed with every lower one holds, take the tightest upper and the
-- tightest lower row; the middle between their bounds satisfies all rows, strict ones too. With bounds on one side only a
-- value one beyond the tightest does, with none 0 does. An equality that mentions the slot gives the value itself.
use Rattle.std.proofs.Common.{◌≡◌, ℕ, zero, suc, ◌+◌, ◌*◌, ◌≤◌, List, [], ◌∷◌, get_or, arith, refl, sym, subst, ◌∙◌, inl, inr, ⊎_elim}
use Rattle.std.proofs.lemmas.Int.{ints, by_lt_z}
use Rattle.std.proofs.lemmas.List.Elements.{All-nil, All-cons, All-weaker, All-contains}
use Rattle.std.specs.List.{All, Contains}
use lib.IntN.{ℤ, pos, negsuc, ◌+ℤ◌, ◌-ℤ◌, ◌*ℤ◌, neg_ℤ}
use lib.Signed.{◌<ℤ◌, ◌≤ℤ◌}
use borrow.Author.Differences.{up, down, lt_out, le_out}
use mathlib.Core.Logic.{◌⊎◌}
use Rattle.ded_num.proofs.Ring.{parts, diff_same, ring_pos}
use Rattle.ded_model.specs.declared.row.RowOp.{RowOp}
use Rattle.ded_model.specs.declared.row.RowOp.TheVariants.{Zero, AtMost, Below}

-- z stands to 0 as the op says
abbrev pub Meets : RowOp → ℤ → Type 0
Meets Zero z = z ≡ pos 0
Meets AtMost z = z ≤ℤ pos 0
Meets Below z = z <ℤ pos 0

-- the op of a sum of two rows
abbrev pub join : RowOp → RowOp → RowOp
join Zero o = o
join AtMost Zero = AtMost
join AtMost AtMost = AtMost
join AtMost Below = Below
join Below o = Below

abbrev pub Strictable : RowOp → Type 0
Strictable Zero = ⊥
Strictable AtMost = Unit {0}
Strictable Below = Unit {0}

-- ---- signs
-- what a positive factor does, on naturals
times_le : (k x y : ℕ) → x ≤ y → suc k * x ≤ suc k * y
times_le k x y h = grind arith

pub meets_scale : (op : RowOp) (k z : ℤ) → pos 0 <ℤ k → Meets op z → Meets op (k *ℤ z)
meets_scale op (negsuc n) z h p = absurd (omega (arith, ints))
meets_scale op (pos zero) z h p = absurd (omega (arith, ints))
meets_scale Zero (pos (suc n)) z h p = rw p (omega (arith, ints))
meets_scale AtMost (pos (suc n)) z h p = let q = le_out z (pos 0) p in omega (arith, ints, times_le n (up z) (down z) (omega arith))
meets_scale Below (pos (suc n)) z h p = let q = lt_out z (pos 0) p in omega (arith, ints, times_le n (up z + 1) (down z) (omega arith))

pub meets_add : (o1 o2 : RowOp) (x y : ℤ) → Meets o1 x → Meets o2 y → Meets (join o1 o2) (x +ℤ y)
meets_add Zero Zero x y p q = omega (arith, ints)
meets_add Zero AtMost x y p q = omega (arith, ints)
meets_add Zero Below x y p q = omega (arith, ints)
meets_add AtMost Zero x y p q = omega (arith, ints)
meets_add AtMost AtMost x y p q = omega (arith, ints)
meets_add AtMost Below x y p q = omega (arith, ints)
meets_add Below Zero x y p q = omega (arith, ints)
meets_add Below AtMost x y p q = omega (arith, ints)
meets_add Below Below x y p q = omega (arith, ints)

pub times_neg : (k z : ℤ) → k *ℤ neg_ℤ z ≡ neg_ℤ (k *ℤ z)
times_neg k z = rw (parts k, parts z) (simp ring_pos (diff_same _ _ _ _ (omega arith)))

-- what is below 0 is at most 0
pub below_at_most : (z : ℤ) → Meets Below z → Meets AtMost z
below_at_most z h = omega (arith, ints)

-- a positive factor may be taken away
pub meets_unscale : (op : RowOp) (k z : ℤ) → pos 0 <ℤ k → Meets op (k *ℤ z) → Meets op z
meets_unscale op (negsuc n) z h p = absurd (omega (arith, ints))
meets_unscale op (pos zero) z h p = absurd (omega (arith, ints))
meets_unscale Zero (pos (suc n)) z h p = by_lt_z z (pos 0)
    (λ b. let q = meets_scale Below (pos (suc n)) z h b in absurd (omega (arith, ints)))
    (λ b. by_lt_z (pos 0) z
    (λ g. let q = meets_scale Below (pos (suc n)) (neg_ℤ z) h (omega (arith, ints)) in let e = times_neg (pos (suc n)) z in absurd (omega (arith, ints)))
    (λ g. omega (arith, ints)))
meets_unscale AtMost (pos (suc n)) z h p = by_lt_z (pos 0) z
    (λ g. let q = meets_scale Below (pos (suc n)) (neg_ℤ z) h (omega (arith, ints)) in let e = times_neg (pos (suc n)) z in absurd (omega (arith, ints)))
    (λ g. g)
meets_unscale Below (pos (suc n)) z h p = by_lt_z z (pos 0) (λ b. b)
    (λ b. let q = meets_scale AtMost (pos (suc n)) (neg_ℤ z) h (omega (arith, ints)) in let e = times_neg (pos (suc n)) z in absurd (omega (arith, ints)))

-- ---- what is left of a row at a point: its coefficient at the slot, its rest and its op
pub record Cut : Type 0 where
  pub a : ℤ
  pub r : ℤ
  pub op : RowOp

abbrev pub CutHolds : ℤ → ℤ → Cut → Type 0
CutHolds m e c = Meets c.op (c.a *ℤ m +ℤ c.r *ℤ e)

-- the sum of an upper row u and a lower row l
abbrev pub mixed : Cut → Cut → ℤ
mixed u l = neg_ℤ l.a *ℤ u.r +ℤ u.a *ℤ l.r

-- an op that is no equality holds of what stands strictly below, and of what meets a join with it
below_meets : (op : RowOp) (z : ℤ) → Strictable op → z <ℤ pos 0 → Meets op z
below_meets Zero z s h = absurd s
below_meets AtMost z s h = omega (arith, ints)
below_meets Below z s h = h

left_meets : (o1 o2 : RowOp) (z : ℤ) → Strictable o1 → Strictable o2 → Meets (join o1 o2) z → Meets o1 z
left_meets Zero o z s t h = absurd s
left_meets AtMost Zero z s t h = absurd t
left_meets AtMost AtMost z s t h = h
left_meets AtMost Below z s t h = omega (arith, ints)
left_meets Below Zero z s t h = absurd t
left_meets Below AtMost z s t h = h
left_meets Below Below z s t h = h

right_meets : (o1 o2 : RowOp) (z : ℤ) → Strictable o1 → Strictable o2 → Meets (join o1 o2) z → Meets o2 z
right_meets o Zero z s t h = absurd t
right_meets Zero o z s t h = absurd s
right_meets AtMost AtMost z s t h = h
right_meets AtMost Below z s t h = h
right_meets Below AtMost z s t h = omega (arith, ints)
right_meets Below Below z s t h = h

join_weak : (o : RowOp) (z : ℤ) → Strictable o → Meets (join o AtMost) z → Meets o z
join_weak Zero z s h = absurd s
join_weak AtMost z s h = h
join_weak Below z s h = h

-- ---- the tightest row of one side: g is the coefficient, positive on that side
module _ (g : Cut → ℤ) where
  abbrev pub Loose : Cut → Cut → Type 0
  Loose t x = pos 0 <ℤ g x → Meets AtMost (x.r *ℤ g t -ℤ g x *ℤ t.r)

  pub record Tightest (xs : List Cut) : Type 0 where
    pub cut : Cut
    pub inside : Contains xs cut
    pub side : pos 0 <ℤ g cut
    pub least : All (λ x. Loose cut x) xs

  abbrev pub None : List Cut → Type 0
  None xs = All (λ x. g x ≤ℤ pos 0) xs

  loose_self : (x : Cut) → Loose x x
  loose_self x h = let e : x.r *ℤ g x -ℤ g x *ℤ x.r ≡ pos 0 = zero_gap x.r (g x) in omega (arith, ints)
    where
      zero_gap : (r a : ℤ) → r *ℤ a -ℤ a *ℤ r ≡ pos 0
      zero_gap r a = rw (parts r, parts a) (simp ring_pos (diff_same _ _ _ _ (omega arith)))

  -- t is at most x at their side, and t is the tightest so far
  chain : (ri ai rt at' rx ax : ℤ) → at' *ℤ (ri *ℤ ax -ℤ ai *ℤ rx) ≡ ax *ℤ (ri *ℤ at' -ℤ ai *ℤ rt) +ℤ ai *ℤ (rt *ℤ ax -ℤ at' *ℤ rx)
  chain ri ai rt at' rx ax = rw (parts ri, parts ai, parts rt, parts at', parts rx, parts ax) (simp ring_pos (diff_same _ _ _ _ (omega arith)))

  loose_trans : (t x i : Cut) → pos 0 <ℤ g t → pos 0 <ℤ g x → Loose x t → Loose t i → Loose x i
  loose_trans t x i pt px tx ti h =
      meets_unscale AtMost (g t) _ pt
      (subst (Meets AtMost) (sym (chain i.r (g i) t.r (g t) x.r (g x)))
      (meets_add AtMost AtMost _ _ (meets_scale AtMost (g x) _ px (ti h)) (meets_scale AtMost (g i) _ h (tx pt))))

  flip_gap : (rx ax rt at' : ℤ) → rt *ℤ ax -ℤ at' *ℤ rx ≡ neg_ℤ (rx *ℤ at' -ℤ ax *ℤ rt)
  flip_gap rx ax rt at' = rw (parts rx, parts ax, parts rt, parts at') (simp ring_pos (diff_same _ _ _ _ (omega arith)))

  pub tightest : (xs : List Cut) → None xs ⊎ Tightest xs
  tightest [] = inl (All-nil (λ (x : Cut). g x ≤ℤ pos 0))
  tightest (x ∷ xs) = ⊎_elim
      (λ (none : None xs). by_lt_z (pos 0) (g x)
      (λ p. inr (record {
        cut = x;
        inside = (0, omega arith, refl);
        side = p;
        least = All-cons (Loose x) x xs (loose_self x) (All-weaker (λ y. g y ≤ℤ pos 0) (Loose x) (λ y n q. absurd (omega (arith, ints))) xs none);
      }))
      (λ p. inl (All-cons (λ (y : Cut). g y ≤ℤ pos 0) x xs p none)))
      (λ (t : Tightest xs). by_lt_z (pos 0) (g x)
      (λ p. by_lt_z (pos 0) (x.r *ℤ g t.cut -ℤ g x *ℤ t.cut.r)
      (λ l. inr (record {
        cut = x;
        inside = (0, omega arith, refl);
        side = p;
        least = All-cons (Loose x) x xs (loose_self x)
            (All-weaker (Loose t.cut) (Loose x) (λ y. loose_trans t.cut x y t.side p (λ q. let e = flip_gap x.r (g x) t.cut.r (g t.cut) in omega (arith, ints))) xs t.least);
      }))
      (λ l. inr (further x xs t (λ q. l))))
      (λ p. inr (further x xs t (λ q. absurd (omega (arith, ints))))))
      (tightest xs)
    where
      further : (x : Cut) (xs : List Cut) (t : Tightest xs) → Loose t.cut x → Tightest (x ∷ xs)
      further x xs t h = record {
        cut = t.cut;
        inside = (suc t.inside.0, omega (arith, t.inside.1), t.inside.2);
        side = t.side;
        least = All-cons (Loose t.cut) x xs h t.least;
      }

-- ---- exact: where all pairs hold, some value satisfies all
mid_up : (ai ri aU rU bL rL : ℤ) → ai *ℤ (rL *ℤ aU -ℤ rU *ℤ bL) +ℤ ri *ℤ (pos 2 *ℤ (bL *ℤ aU)) ≡ aU *ℤ (bL *ℤ ri +ℤ ai *ℤ rL) +ℤ bL *ℤ (ri *ℤ aU -ℤ ai *ℤ rU)
mid_up ai ri aU rU bL rL = rw (parts ai, parts ri, parts aU, parts rU, parts bL, parts rL) (simp ring_pos (diff_same _ _ _ _ (omega arith)))

mid_low : (ai ri aU rU bL rL : ℤ) → ai *ℤ (rL *ℤ aU -ℤ rU *ℤ bL) +ℤ ri *ℤ (pos 2 *ℤ (bL *ℤ aU)) ≡ bL *ℤ (neg_ℤ ai *ℤ rU +ℤ aU *ℤ ri) +ℤ aU *ℤ (ri *ℤ bL -ℤ neg_ℤ ai *ℤ rL)
mid_low ai ri aU rU bL rL = rw (parts ai, parts ri, parts aU, parts rU, parts bL, parts rL) (simp ring_pos (diff_same _ _ _ _ (omega arith)))

under : (ai ri aU rU : ℤ) → ai *ℤ (neg_ℤ rU -ℤ aU) +ℤ ri *ℤ aU ≡ (ri *ℤ aU -ℤ ai *ℤ rU) +ℤ ai *ℤ neg_ℤ aU
under ai ri aU rU = rw (parts ai, parts ri, parts aU, parts rU) (simp ring_pos (diff_same _ _ _ _ (omega arith)))

over : (ai ri bL rL : ℤ) → ai *ℤ (rL +ℤ bL) +ℤ ri *ℤ bL ≡ (ri *ℤ bL -ℤ neg_ℤ ai *ℤ rL) +ℤ neg_ℤ ai *ℤ neg_ℤ bL
over ai ri bL rL = rw (parts ai, parts ri, parts bL, parts rL) (simp ring_pos (diff_same _ _ _ _ (omega arith)))

level : (a r m e : ℤ) → a ≡ pos 0 → a *ℤ m +ℤ r *ℤ e ≡ e *ℤ r
level a r m e h = rw h (rw (parts r, parts m, parts e) (simp ring_pos (diff_same _ _ _ _ (omega arith))))

pub pos_mul : (a b : ℤ) → pos 0 <ℤ a → pos 0 <ℤ b → pos 0 <ℤ (a *ℤ b)
pos_mul a b p q =
    let h = meets_scale Below a (neg_ℤ b) p (omega (arith, ints)) in
    let e = times_neg a b in
    omega (arith, ints)

abbrev pub IsUpper : Cut → Type 0
IsUpper c = pos 0 <ℤ c.a

abbrev pub IsLower : Cut → Type 0
IsLower c = pos 0 <ℤ neg_ℤ c.a

-- the rows without the slot hold, no equality mentions the slot, and every upper row mixed with every lower row holds
pub record AllMixed (xs : List Cut) : Type 0 where
  pub level : All (λ c. c.a ≡ pos 0 → Meets c.op c.r) xs
  pub strictable : All (λ c. ¬ (c.a ≡ pos 0) → Strictable c.op) xs
  pub pairs : All (λ u. IsUpper u → All (λ l. IsLower l → Meets (join u.op l.op) (mixed u l)) xs) xs

pub record Value (xs : List Cut) : Type 0 where
  pub num : ℤ
  pub den : ℤ
  pub positive : pos 0 <ℤ den
  pub all : All (CutHolds num den) xs

-- by the sign of the coefficient
by_sign : (xs : List Cut) (m e : ℤ) → pos 0 <ℤ e → AllMixed xs
    → All (λ x. IsUpper x → Strictable x.op → CutHolds m e x) xs → All (λ x. IsLower x → Strictable x.op → CutHolds m e x) xs → Value xs
by_sign xs m e pe mixes ups lows = record {
  num = m;
  den = e;
  positive = pe;
  all = λ k d lt. each _ (mixes.level k d lt) (mixes.strictable k d lt) (ups k d lt) (lows k d lt);
}
  where
    each : (x : Cut) → (x.a ≡ pos 0 → Meets x.op x.r) → (¬ (x.a ≡ pos 0) → Strictable x.op) → (IsUpper x → Strictable x.op → CutHolds m e x) → (IsLower x → Strictable x.op → CutHolds m e x) → CutHolds m e x
    each x h s u l = by_lt_z (pos 0) x.a
        (λ p. u p (s (λ z. absurd (omega (arith, ints)))))
        (λ p. by_lt_z x.a (pos 0)
        (λ q. l (omega (arith, ints)) (s (λ z. absurd (omega (arith, ints)))))
        (λ q. let z : x.a ≡ pos 0 = omega (arith, ints) in subst (Meets x.op) (sym (level x.a x.r m e z)) (meets_scale x.op e x.r pe (h z))))

abbrev up_of : Cut → ℤ
up_of c = c.a

abbrev low_of : Cut → ℤ
low_of c = neg_ℤ c.a

-- the value under every upper bound, and over every lower one
up_under : (x u : Cut) → Strictable x.op → IsUpper x → IsUpper u → Meets AtMost (x.r *ℤ u.a -ℤ x.a *ℤ u.r) → CutHolds (neg_ℤ u.r -ℤ u.a) u.a x
up_under x u s p q h = let z : Meets Below (x.a *ℤ neg_ℤ u.a) = meets_scale Below x.a (neg_ℤ u.a) p (omega (arith, ints)) in
    below_meets x.op _ s (subst (Meets Below) (sym (under x.a x.r u.a u.r)) (meets_add AtMost Below _ _ h z))

low_over : (x l : Cut) → Strictable x.op → IsLower x → IsLower l → Meets AtMost (x.r *ℤ neg_ℤ l.a -ℤ neg_ℤ x.a *ℤ l.r) → CutHolds (l.r +ℤ neg_ℤ l.a) (neg_ℤ l.a) x
low_over x l s p q h = let z : Meets Below (neg_ℤ x.a *ℤ neg_ℤ (neg_ℤ l.a)) = meets_scale Below (neg_ℤ x.a) (neg_ℤ (neg_ℤ l.a)) p (omega (arith, ints)) in
    below_meets x.op _ s (subst (Meets Below) (sym (over x.a x.r (neg_ℤ l.a) l.r)) (meets_add AtMost Below _ _ h z))

up_mid : (x u l : Cut) → Strictable x.op → Strictable l.op → IsUpper u → IsLower l → Meets AtMost (x.r *ℤ u.a -ℤ x.a *ℤ u.r) → Meets (join x.op l.op) (mixed x l)
    → CutHolds (l.r *ℤ u.a -ℤ u.r *ℤ neg_ℤ l.a) (pos 2 *ℤ (neg_ℤ l.a *ℤ u.a)) x
up_mid x u l s t pu pl gap mix =
    subst (Meets x.op) (sym (mid_up x.a x.r u.a u.r (neg_ℤ l.a) l.r))
    (join_weak x.op _ s (meets_add x.op AtMost _ _ (meets_scale x.op u.a _ pu (left_meets x.op l.op _ s t mix)) (meets_scale AtMost (neg_ℤ l.a) _ pl gap)))

low_mid : (x u l : Cut) → Strictable x.op → Strictable u.op → IsUpper u → IsLower l → Meets AtMost (x.r *ℤ neg_ℤ l.a -ℤ neg_ℤ x.a *ℤ l.r) → Meets (join u.op x.op) (mixed u x)
    → CutHolds (l.r *ℤ u.a -ℤ u.r *ℤ neg_ℤ l.a) (pos 2 *ℤ (neg_ℤ l.a *ℤ u.a)) x
low_mid x u l s t pu pl gap mix =
    subst (Meets x.op) (sym (mid_low x.a x.r u.a u.r (neg_ℤ l.a) l.r))
    (join_weak x.op _ s (meets_add x.op AtMost _ _ (meets_scale x.op (neg_ℤ l.a) _ pl (right_meets u.op x.op _ t s mix)) (meets_scale AtMost u.a _ pu gap)))

strict_in : (xs : List Cut) → AllMixed xs → (c : Cut) → Contains xs c → ¬ (c.a ≡ pos 0) → Strictable c.op
strict_in xs h c inside = All-contains (λ (c : Cut). ¬ (c.a ≡ pos 0) → Strictable c.op) xs c h.strictable inside

pub exact : (xs : List Cut) → AllMixed xs → Value xs
exact xs h = ⊎_elim
    (λ (no_up : None up_of xs). ⊎_elim (neither no_up) (only_low no_up) (tightest low_of xs))
    (λ (u : Tightest up_of xs). ⊎_elim (only_up u) (both u) (tightest low_of xs))
    (tightest up_of xs)
  where
    neither : None up_of xs → None low_of xs → Value xs
    neither nu nl = by_sign xs (pos 0) (pos 1) (omega (arith, ints)) h
        (λ k d lt p. absurd (let q = nu k d lt in omega (arith, ints)))
        (λ k d lt p. absurd (let q = nl k d lt in omega (arith, ints)))

    only_low : None up_of xs → Tightest low_of xs → Value xs
    only_low nu l = by_sign xs (l.cut.r +ℤ neg_ℤ l.cut.a) (neg_ℤ l.cut.a) l.side h
        (λ k d lt p. absurd (let q = nu k d lt in omega (arith, ints)))
        (λ k d lt p s. low_over _ l.cut s p l.side (l.least k d lt p))

    only_up : Tightest up_of xs → None low_of xs → Value xs
    only_up u nl = by_sign xs (neg_ℤ u.cut.r -ℤ u.cut.a) u.cut.a u.side h
        (λ k d lt p s. up_under _ u.cut s p u.side (u.least k d lt p))
        (λ k d lt p. absurd (let q = nl k d lt in omega (arith, ints)))

    both : Tightest up_of xs → Tightest low_of xs → Value xs
    both u l = let su = strict_in xs h u.cut u.inside (λ z. let q = u.side in omega (arith, ints)) in
        let sl = strict_in xs h l.cut l.inside (λ z. let q = l.side in omega (arith, ints)) in
        by_sign xs (l.cut.r *ℤ u.cut.a -ℤ u.cut.r *ℤ neg_ℤ l.cut.a) (pos 2 *ℤ (neg_ℤ l.cut.a *ℤ u.cut.a))
        (pos_mul (pos 2) (neg_ℤ l.cut.a *ℤ u.cut.a) (omega (arith, ints)) (pos_mul (neg_ℤ l.cut.a) u.cut.a l.side u.side)) h
        (λ k d lt p s. up_mid _ u.cut l.cut s sl u.side l.side (u.least k d lt p)
        (All-contains (λ (y : Cut). IsLower y → Meets (join (get_or xs k d).op y.op) (mixed (get_or xs k d) y)) xs l.cut (h.pairs k d lt p) l.inside l.side))
        (λ k d lt p s. low_mid _ u.cut l.cut s su u.side l.side (l.least k d lt p)
        (All-contains (λ (y : Cut). IsUpper y → All (λ z. IsLower z → Meets (join y.op z.op) (mixed y z)) xs) xs u.cut h.pairs u.inside u.side k d lt p))

-- ---- sound: a combination k1 * u + k2 * l that cancels the slot
combined : (ku au ru kl al rl m e : ℤ) → ku *ℤ (au *ℤ m +ℤ ru *ℤ e) +ℤ kl *ℤ (al *ℤ m +ℤ rl *ℤ e) ≡ (ku *ℤ au +ℤ kl *ℤ al) *ℤ m +ℤ e *ℤ (ku *ℤ ru +ℤ kl *ℤ rl)
combined ku au ru kl al rl m e = rw (parts ku, parts au, parts ru, parts kl, parts al, parts rl, parts m, parts e) (simp ring_pos (diff_same _ _ _ _ (omega arith)))

pub no_slot : (z m y : ℤ) → z ≡ pos 0 → z *ℤ m +ℤ y ≡ y
no_slot z m y h = rw h (rw (parts m, parts y) (simp ring_pos (diff_same _ _ _ _ (omega arith))))

-- a factor that may multiply a row: positive, or any for an equality
abbrev pub MayScale : RowOp → ℤ → Type 0
MayScale op k = (pos 0 <ℤ k) ⊎ (op ≡ Zero)

pub zero_scale : (k z : ℤ) → z ≡ pos 0 → k *ℤ z ≡ pos 0
zero_scale k z h = rw h (rw (parts k) (simp ring_pos (diff_same _ _ _ _ (omega arith))))

pub may_scale : (op : RowOp) (k z : ℤ) → MayScale op k → Meets op z → Meets op (k *ℤ z)
may_scale op k z h p = ⊎_elim (λ q. meets_scale op k z q p) (λ q. subst (λ o. Meets o (k *ℤ z)) (sym q) (zero_scale k z (subst (λ o. Meets o z) q p))) h

-- the combination holds wherever both rows do
pub sound : (u l : Cut) (ku kl m e : ℤ) → pos 0 <ℤ e → MayScale u.op ku → MayScale l.op kl → ku *ℤ u.a +ℤ kl *ℤ l.a ≡ pos 0
    → CutHolds m e u → CutHolds m e l → Meets (join u.op l.op) (ku *ℤ u.r +ℤ kl *ℤ l.r)
sound u l ku kl m e pe su sl cancel hu hl =
    meets_unscale (join u.op l.op) e _ pe
    (subst (Meets (join u.op l.op)) (combined ku u.a u.r kl l.a l.r m e ∙ no_slot _ m _ cancel)
    (meets_add u.op l.op _ _ (may_scale u.op ku _ su hu) (may_scale l.op kl _ sl hl)))

-- the size of a coefficient, and the factor that cancels it
abbrev pub size : ℤ → ℤ
size (pos n) = pos n
size (negsuc n) = pos (suc n)

abbrev pub against : ℤ → ℤ → ℤ
against (pos n) a = neg_ℤ a
against (negsuc n) a = a

-- ---- an equality q that mentions the slot with a positive coefficient: every row is mixed with it, and its value does
at_equality : (a r qa qr : ℤ) → a *ℤ neg_ℤ qr +ℤ r *ℤ qa ≡ qa *ℤ r +ℤ neg_ℤ a *ℤ qr
at_equality a r qa qr = rw (parts a, parts r, parts qa, parts qr) (simp ring_pos (diff_same _ _ _ _ (omega arith)))

-- with a negative one
at_equality' : (a r qa qr : ℤ) → a *ℤ qr +ℤ r *ℤ neg_ℤ qa ≡ neg_ℤ qa *ℤ r +ℤ a *ℤ qr
at_equality' a r qa qr = rw (parts a, parts r, parts qa, parts qr) (simp ring_pos (diff_same _ _ _ _ (omega arith)))

pub exact_equal : (xs : List Cut) (qa qr : ℤ) → ¬ (qa ≡ pos 0) → All (λ x. Meets x.op (size qa *ℤ x.r +ℤ against qa x.a *ℤ qr)) xs → Value xs
exact_equal xs (pos zero) qr n h = absurd (n refl)
exact_equal xs (pos (suc k)) qr n h = record {
  num = neg_ℤ qr;
  den = pos (suc k);
  positive = omega (arith, ints);
  all = λ i d lt. subst (Meets (get_or xs i d).op) (sym (at_equality (get_or xs i d).a (get_or xs i d).r (pos (suc k)) qr)) (h i d lt);
}
exact_equal xs (negsuc k) qr n h = record {
  num = qr;
  den = pos (suc k);
  positive = omega (arith, ints);
  all = λ i d lt. subst (Meets (get_or xs i d).op) (sym (at_equality' (get_or xs i d).a (get_or xs i d).r (negsuc k) qr)) (h i d lt);
}
