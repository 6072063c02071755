-- Rows with one slot or none: each is an interval of the slot's values, with an end in lowest terms.
--
-- With the coefficient a and the constant c, a row compares `a * m + c * e` with 0 at the value m / e. That sum is the
-- difference of the value and the row's root, times the denominators, up to sign.
use Rattle.std.proofs.Common.{◌≡◌, ◌≢◌, ℕ, Bool, true, false, cond, arith, refl, sym, subst, ◌∙◌, ap, true≢false, inl, inr, List, [], ◌∷◌}
use Rattle.std.specs.Prelude.{ℤ, pos, ◌+ℤ◌, ◌-ℤ◌, ◌*ℤ◌, ◌<ℤ◌, int_lt, unsigned_abs, IsTrue}
use Rattle.std.specs.Ordering.{int_eq}
use Rattle.std.proofs.lemmas.Bool.Decides.{Decides-int_eq}
use Rattle.std.proofs.Math.IntN.{zero-*ℤ}
use Rattle.std.proofs.lemmas.Nat.Gcd.{IsGcd-from_zero, IsGcd-swap}
use lib.IntN.{neg_ℤ}
use Rattle.std.proofs.lemmas.Int.{ints, by_lt_z}
use Rattle.ded_num.specs.Gcd.{nat_gcd}
use Rattle.ded_num.proofs.Gcds.{nat_gcd_is}
use Rattle.ded_num.proofs.Ring.{parts, ring_pos, diff_same, diff-pos, add-mul_ℤ}
use Rattle.ded_num.proofs.Signs.{unsigned_abs-neg}
use Rattle.ded_model.specs.declared.slot.Slot.{Slot}
use Rattle.ded_model.specs.declared.row.RowOp.{RowOp}
use Rattle.ded_model.specs.declared.row.RowOp.TheVariants.{Zero, AtMost, Below}
use Rattle.ded_model.specs.declared.bound.Bound.{Bound}
use Rattle.ded_model.specs.declared.bound.Bound.TheVariants.{Infinite, Excluded, Included}
use Rattle.ded_model.specs.Constraint.{LinearConstraint}
use Rattle.ded_model.specs.Coefs.{AreCoefs, coef_at}
use Rattle.ded_model.specs.Normal.{normal_row}
use Rattle.ded_model.specs.Point.{slot, Point, IsPoint, same_slot, number_at}
use Rattle.ded_model.specs.Row.{sum_at, row_at, sign_meets, row_holds}
use Rattle.ded_model.specs.Bound.{Fraction, End, lower, upper, value_at, IsLowest}
use Rattle.ded_model.proofs.Core.{Meets, meets_scale, meets_unscale}
use Rattle.ded_model.proofs.CoefLemmas.{coef_at-here, coef_at-past, not_zero}
use Rattle.ded_model.proofs.LineSlots.{has_slot}
use Rattle.ded_model.proofs.Members.{or_split}
use Rattle.ded_model.proofs.Points.{same_slot_is, same_slot_refl}
use Rattle.ded_model.proofs.Rows.{or_left, or_right}
use Rattle.ded_row.proofs.Pieces.{normal_gcd}
use Rattle.ded_elimination.specs.LinearAtoms.{IsLinearAtom}
use Rattle.ded_box.specs.Intervals.{HasPositive, IsPositive, OnFraction}
use Rattle.ded_linear.specs.Intervals.{root_of, faces, bound_by, row_bound}
use Rattle.ded_box.proofs.Gaps.{gap}
use Rattle.ded_box.proofs.Insides.{Inside}
use Rattle.ded_model.proofs.Eliminating.{meets-decides}

-- one coefficient or none
abbrev pub IsSingle : List (Slot × ℤ) → Type 0
IsSingle [] = Unit {0}
IsSingle (c ∷ []) = Unit {0}
IsSingle (c ∷ d ∷ cs) = ⊥

-- the coefficients are of the slot alone
abbrev pub AtAlone : Slot → List (Slot × ℤ) → Type 0
AtAlone s cs = (t : Slot) → has_slot cs t ≡ true → same_slot t s ≡ true

-- a coefficient that counts at the slot is the slot's
is_slot : (s : Slot) (c : Slot × ℤ) → coef_at (c ∷ []) s ≢ pos 0 → same_slot c.0 s ≡ true
is_slot s c n = go (same_slot c.0 s) refl
  where
    go : (b : Bool) → same_slot c.0 s ≡ b → same_slot c.0 s ≡ true
    go true e = e
    go false e = absurd (n (coef_at-past s c [] e))

pub at_alone : (s : Slot) (cs : List (Slot × ℤ)) → IsSingle cs → coef_at cs s ≢ pos 0 → AtAlone s cs
at_alone s [] h n t m = absurd (n refl)
at_alone s (c ∷ []) h n t m = elim (or_split (same_slot c.0 t) false m) [
  | inl e ↦ subst (λ u. same_slot u s ≡ true) (same_slot_is c.0 t e) (is_slot s c n)
  | inr e ↦ absurd (true≢false (sym e))
]
at_alone s (c ∷ d ∷ cs) h n t m = absurd h

-- ---- the sum at a value
sum_alone : (s : Slot) (cs : List (Slot × ℤ)) (p : Point) → AtAlone s cs → sum_at cs p ≡ coef_at cs s *ℤ number_at p (slot s)
sum_alone s [] p h = sym (zero-*ℤ (number_at p (slot s)))
sum_alone s (c ∷ cs) p h =
    let n = number_at p (slot s) in
    let e = h c.0 (or_left _ _ (same_slot_refl c.0)) in
    let rest = sum_alone s cs p (λ t m. h t (or_right (same_slot c.0 t) _ m)) in
    ap (λ t. c.1 *ℤ number_at p (slot t) +ℤ sum_at cs p) (same_slot_is c.0 s e)
    ∙ ap (λ z. c.1 *ℤ n +ℤ z) rest
    ∙ sym (add-mul_ℤ c.1 (coef_at cs s) n)
    ∙ ap (λ b. (cond b c.1 (pos 0) +ℤ coef_at cs s) *ℤ n) (sym e)

-- ---- one row, by its numbers

-- a bound on a side that the row faces or not
abbrev facing : Bool → RowOp → Fraction → Bound
facing b Zero f = Included f
facing b AtMost f = cond b (Included f) Infinite
facing b Below f = cond b (Excluded f) Infinite

bound_by-is : (e : End) (op : RowOp) (a c : ℤ) → bound_by e op a c ≡ facing (faces e a) op (root_of a c)
bound_by-is e Zero a c = refl
bound_by-is e AtMost a c = refl
bound_by-is e Below a c = refl

abbrev pub Same : Type 0 → Type 0 → Type 0
Same A B = (A → B) × (B → A)

both_sides : (x y z : ℤ) → x ≡ z → y ≡ neg_ℤ z → Meets AtMost x → Meets AtMost y → z ≡ pos 0
both_sides x y z e f h k = omega (arith, ints)

one_side : (x y z : ℤ) → x ≡ z → y ≡ neg_ℤ z → z ≡ pos 0 → Meets AtMost x × Meets AtMost y
one_side x y z e f h = (omega (arith, ints), omega (arith, ints))

-- a row that bounds from below
faces_lower : (op : RowOp) (f v : Fraction) (z : ℤ) → gap f v ≡ z → gap v f ≡ neg_ℤ z → Same (Meets op z) (Inside lower (facing true op f) v × Inside upper (facing false op f) v)
faces_lower Zero f v z e k = (λ h. one_side (gap f v) (gap v f) z e k h, λ i. both_sides (gap f v) (gap v f) z e k i.0 i.1)
faces_lower AtMost f v z e k = (λ h. (subst (Meets AtMost) (sym e) h, tt), λ i. subst (Meets AtMost) e i.0)
faces_lower Below f v z e k = (λ h. (subst (Meets Below) (sym e) h, tt), λ i. subst (Meets Below) e i.0)

-- and from above
faces_upper : (op : RowOp) (f v : Fraction) (z : ℤ) → gap v f ≡ z → gap f v ≡ neg_ℤ z → Same (Meets op z) (Inside lower (facing false op f) v × Inside upper (facing true op f) v)
faces_upper Zero f v z e k = (λ h. let r = one_side (gap v f) (gap f v) z e k h in (r.1, r.0), λ i. both_sides (gap v f) (gap f v) z e k i.1 i.0)
faces_upper AtMost f v z e k = (λ h. (tt, subst (Meets AtMost) (sym e) h), λ i. subst (Meets AtMost) e i.1)
faces_upper Below f v z e k = (λ h. (tt, subst (Meets Below) (sym e) h), λ i. subst (Meets Below) e i.1)

below_root : (a c m e : ℤ) → c *ℤ e -ℤ m *ℤ neg_ℤ a ≡ a *ℤ m +ℤ c *ℤ e
below_root a c m e = rw (parts a, parts c, parts m, parts e) (simp ring_pos (diff_same _ _ _ _ (omega arith)))

below_root' : (a c m e : ℤ) → m *ℤ neg_ℤ a -ℤ c *ℤ e ≡ neg_ℤ (a *ℤ m +ℤ c *ℤ e)
below_root' a c m e = rw (parts a, parts c, parts m, parts e) (simp ring_pos (diff_same _ _ _ _ (omega arith)))

above_root : (a c m e : ℤ) → m *ℤ a -ℤ neg_ℤ c *ℤ e ≡ a *ℤ m +ℤ c *ℤ e
above_root a c m e = rw (parts a, parts c, parts m, parts e) (simp ring_pos (diff_same _ _ _ _ (omega arith)))

above_root' : (a c m e : ℤ) → neg_ℤ c *ℤ e -ℤ m *ℤ a ≡ neg_ℤ (a *ℤ m +ℤ c *ℤ e)
above_root' a c m e = rw (parts a, parts c, parts m, parts e) (simp ring_pos (diff_same _ _ _ _ (omega arith)))

-- the bounds of a row whose coefficient isn't 0, by its sign
abbrev RowIs : Bool → Bool → Fraction → RowOp → ℤ → ℤ → Fraction → Type 0
RowIs below above root op a c v = Same (Meets op (a *ℤ v.num +ℤ c *ℤ v.den)) (Inside lower (facing below op root) v × Inside upper (facing above op root) v)

is_below : (a b : ℤ) → a <ℤ b → int_lt a b ≡ true
is_below a b h = grind (arith, ints)

not_below : (a b : ℤ) → b <ℤ a → int_lt a b ≡ false
not_below a b h = grind (arith, ints)

signed : (op : RowOp) (a c : ℤ) (v : Fraction) → a ≢ pos 0 → RowIs (int_lt a (pos 0)) (int_lt (pos 0) a) (root_of a c) op a c v
signed op a c v n = by_lt_z a (pos 0)
    (λ lt. rw (is_below a (pos 0) lt, not_below (pos 0) a lt) (faces_lower op (record { num = c; den = neg_ℤ a }) v _ (below_root a c v.num v.den) (below_root' a c v.num v.den)))
    (λ ge. by_lt_z (pos 0) a
    (λ gt. rw (not_below a (pos 0) gt, is_below (pos 0) a gt) (faces_upper op (record { num = neg_ℤ c; den = a }) v _ (above_root a c v.num v.den) (above_root' a c v.num v.den)))
    (λ le. absurd (n (omega (arith, ints)))))

with_slot : (op : RowOp) (a c : ℤ) (v : Fraction) → a ≢ pos 0 → Same (Meets op (a *ℤ v.num +ℤ c *ℤ v.den)) (Inside lower (bound_by lower op a c) v × Inside upper (bound_by upper op a c) v)
with_slot op a c v n =
    let r = signed op a c v n in
    let l = bound_by-is lower op a c in
    let u = bound_by-is upper op a c in (
      λ h. let i = r.0 h in (subst (λ b. Inside lower b v) (sym l) i.0, subst (λ b. Inside upper b v) (sym u) i.1),
      λ i. r.1 (subst (λ b. Inside lower b v) l i.0, subst (λ b. Inside upper b v) u i.1),
    )

-- ---- the fractions of the bounds

pub record IsProper (f : Fraction) : Type 0 where
  pub positive : IsPositive f
  pub lowest : IsLowest f

root_positive : (a c : ℤ) → a ≢ pos 0 → IsPositive (root_of a c)
root_positive a c n = by_lt_z a (pos 0)
    (λ lt. rw (is_below a (pos 0) lt) (omega (arith, ints)))
    (λ ge. by_lt_z (pos 0) a (λ gt. rw (not_below a (pos 0) gt) gt) (λ le. absurd (n (omega (arith, ints)))))

root_lowest : (b : Bool) (a c : ℤ) → nat_gcd (unsigned_abs c) (unsigned_abs a) ≡ 1 → IsLowest (cond b (record { num = c; den = neg_ℤ a }) (record { num = neg_ℤ c; den = a }))
root_lowest true a c h = ap (λ n. nat_gcd (unsigned_abs c) n) (unsigned_abs-neg a) ∙ h
root_lowest false a c h = ap (λ n. nat_gcd n (unsigned_abs a)) (unsigned_abs-neg c) ∙ h

pub gcd_of_zero : (n : ℕ) → nat_gcd 0 n ≡ n
gcd_of_zero n = sym (nat_gcd_is 0 n n (IsGcd-swap n 0 n (IsGcd-from_zero n 0 refl)))

-- a row with one coefficient is in lowest terms
one_coef : (s : Slot) (op : RowOp) (m : ℤ) (cs : List (Slot × ℤ)) → AreCoefs cs → IsSingle cs → normal_row (record { coefs = cs; constant = m; op = op }) ≡ record { coefs = cs; constant = m; op = op }
    → coef_at cs s ≢ pos 0 → nat_gcd (unsigned_abs m) (unsigned_abs (coef_at cs s)) ≡ 1
one_coef s op m [] k h e n = absurd (n refl)
one_coef s op m (c ∷ []) k h e n =
    let here = coef_at-here s c [] (is_slot s c n) k.3 in
    ap (λ z. nat_gcd (unsigned_abs m) (unsigned_abs z)) here ∙ ap (λ g. nat_gcd g (unsigned_abs c.1)) (sym (gcd_of_zero (unsigned_abs m))) ∙ normal_gcd op m c [] k.2 e
one_coef s op m (c ∷ d ∷ cs) k h e n = absurd h

facing_fraction : (P : Fraction → Type 0) (b : Bool) (op : RowOp) (f : Fraction) → P f → OnFraction P (facing b op f)
facing_fraction P b Zero f h = h
facing_fraction P true AtMost f h = h
facing_fraction P false AtMost f h = tt
facing_fraction P true Below f h = h
facing_fraction P false Below f h = tt

own_fraction : (P : Fraction → Type 0) (b : Bool) (e : End) (op : RowOp) (a c : ℤ) → (b ≡ false → P (root_of a c)) → OnFraction P (cond b Infinite (bound_by e op a c))
own_fraction P true e op a c k = tt
own_fraction P false e op a c k = subst (OnFraction P) (sym (bound_by-is e op a c)) (facing_fraction P (faces e a) op (root_of a c) (k refl))

pub row_proper : (e : End) (s : Slot) (r : LinearConstraint) → IsLinearAtom r → IsSingle r.coefs → OnFraction IsProper (row_bound e s r)
row_proper e s r h k =
    let a = coef_at r.coefs s in
    own_fraction IsProper (int_eq a (pos 0)) e r.op a r.constant
    (λ t. let n : a ≢ pos 0 = λ z. true≢false (sym ((Decides-int_eq a (pos 0)).1 z) ∙ t) in
    record { positive = root_positive a r.constant n; lowest = root_lowest (int_lt a (pos 0)) a r.constant (one_coef s r.op r.constant r.coefs h.coefs k h.row.normal n) })

pub proper_positive : (b : Bound) → OnFraction IsProper b → HasPositive b
proper_positive Infinite h = tt
proper_positive (Excluded f) h = h.positive
proper_positive (Included f) h = h.positive

pub proper_lowest : (b : Bound) → OnFraction IsProper b → OnFraction IsLowest b
proper_lowest Infinite h = tt
proper_lowest (Excluded f) h = h.lowest
proper_lowest (Included f) h = h.lowest

-- ---- a row over the slot alone

abbrev pub Within : Bound → Bound → Fraction → Type 0
Within l u v = Inside lower l v × Inside upper u v

own_within : (b : Bool) (op : RowOp) (a c : ℤ) (v : Fraction) → b ≡ false → a ≢ pos 0
    → Same (Meets op (a *ℤ v.num +ℤ c *ℤ v.den)) (Within (cond b Infinite (bound_by lower op a c)) (cond b Infinite (bound_by upper op a c)) v)
own_within true op a c v e n = absurd (true≢false e)
own_within false op a c v e n = with_slot op a c v n

-- it holds where the value is within its bounds
pub row_within : (s : Slot) (r : LinearConstraint) (p : Point) → AtAlone s r.coefs → coef_at r.coefs s ≢ pos 0
    → Same (IsTrue (row_holds r p)) (Within (row_bound lower s r) (row_bound upper s r) (value_at s p))
unfolding row_holds
row_within s r p h n =
    let d = meets-decides r.op (row_at r p) in
    let a = coef_at r.coefs s in
    let w = own_within (int_eq a (pos 0)) r.op a r.constant (value_at s p) (not_zero a n) n in
    let e = ap (λ z. z +ℤ r.constant *ℤ pos p.den) (sum_alone s r.coefs p h) in (
      λ t. w.0 (subst (Meets r.op) e (d.0 t)),
      λ i. d.1 (subst (Meets r.op) (sym e) (w.1 i)),
    )

free_within : (b : Bool) (op : RowOp) (a c : ℤ) (v : Fraction) → b ≡ true → Within (cond b Infinite (bound_by lower op a c)) (cond b Infinite (bound_by upper op a c)) v
free_within true op a c v e = (tt, tt)
free_within false op a c v e = absurd (true≢false (sym e))

-- where a row of one slot or none holds, each slot's value is within its bounds
pub holds_within : (s : Slot) (r : LinearConstraint) (p : Point) → IsSingle r.coefs → IsTrue (row_holds r p) → Within (row_bound lower s r) (row_bound upper s r) (value_at s p)
holds_within s r p h t = go (int_eq (coef_at r.coefs s) (pos 0)) refl
  where
    go : (b : Bool) → int_eq (coef_at r.coefs s) (pos 0) ≡ b → Within (row_bound lower s r) (row_bound upper s r) (value_at s p)
    go true e = free_within (int_eq (coef_at r.coefs s) (pos 0)) r.op (coef_at r.coefs s) r.constant (value_at s p) e
    go false e =
        let n : coef_at r.coefs s ≢ pos 0 = λ z. true≢false (sym ((Decides-int_eq (coef_at r.coefs s) (pos 0)).1 z) ∙ e) in
        (row_within s r p (at_alone s r.coefs h n) n).0 t

-- ---- a row without slots

no_sum : (c : ℤ) (d : ℕ) → pos 0 +ℤ c *ℤ pos d ≡ pos d *ℤ c
no_sum c d = rw (parts c, diff-pos d) (simp ring_pos (diff_same _ _ _ _ (omega arith)))

pub constant_holds : (r : LinearConstraint) (p : Point) → r.coefs ≡ [] → IsPoint p → Same (IsTrue (row_holds r p)) (IsTrue (sign_meets r.op r.constant))
unfolding row_holds
constant_holds r p e i =
    let d = meets-decides r.op (row_at r p) in
    let k = meets-decides r.op r.constant in
    let at' : row_at r p ≡ pos p.den *ℤ r.constant = ap (λ cs. sum_at cs p +ℤ r.constant *ℤ pos p.den) e ∙ no_sum r.constant p.den in
    let above : pos 0 <ℤ pos p.den = let x = i.positive in omega (arith, ints) in (
      λ t. k.1 (meets_unscale r.op (pos p.den) r.constant above (subst (Meets r.op) at' (d.0 t))),
      λ t. d.1 (subst (Meets r.op) (sym at') (meets_scale r.op (pos p.den) r.constant above (k.0 t))),
    )
