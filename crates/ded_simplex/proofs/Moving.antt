-- From a point at which rows hold, along one at which they hold but for strictness, or along a direction: they hold all the way,
-- and a slot gets beyond each value that it is beyond in the end.
use Rattle.std.proofs.Common.{◌≡◌, suc, Bool, true, false, true≢false, ◌&&◌, ◌||◌, cond, List, [], ◌∷◌, ◌++◌, map, arith, refl, sym, ap, ap₂, ◌∙◌, subst}
use Rattle.std.specs.Prelude.{ℤ, pos, negsuc, ◌+ℤ◌, ◌-ℤ◌, ◌*ℤ◌, ◌<ℤ◌, ◌≤ℤ◌, unsigned_abs, int_lt, int_le, not, IsTrue}
use Rattle.std.specs.List.{list_all, list_any}
use Rattle.std.proofs.lemmas.Int.{ints}
use Rattle.std.proofs.Math.IntN.{*ℤ-zero}
use lib.IntN.{+ℤ_idl}
use Rattle.ded_num.proofs.Ring.{parts, ring, diff_same}
use Rattle.ded_num.proofs.Signs.{product_above}
use Rattle.ded_model.specs.declared.slot.Slot.{Slot}
use Rattle.ded_model.specs.declared.row.RowOp.{RowOp}
use Rattle.ded_model.specs.declared.row.RowOp.TheVariants.{Zero, AtMost, Below}
use Rattle.ded_model.specs.Constraint.{LinearConstraint}
use Rattle.ded_model.specs.Point.{slot, Point, same_slot, number_at}
use Rattle.ded_model.specs.Bound.{Fraction, End, lower, upper, is_outside, value_at, SomeOutside}
use Rattle.ded_model.specs.Cell.{conj_holds}
use Rattle.ded_model.specs.Row.{sum_at, row_at, sign_meets, row_holds}
use Rattle.ded_model.proofs.Core.{Meets, meets_scale, meets_add}
use Rattle.ded_model.proofs.Eliminating.{meets-decides}
use Rattle.ded_model.proofs.Points.{and_left, and_right, same_slot_is}
use Rattle.ded_box.proofs.Gaps.{gap_at, outside_decides}
use Rattle.ded_weighing.specs.Meeting.{point_of, number_from, row_is_long, meets_row, meets, weakly, leans_row, leans}
use Rattle.ded_weighing.proofs.Meetings.{number_is, not_negative_is, is_point}

-- ---- numbers of slots

-- the slot has a number
abbrev has : List (Slot × ℤ) → Slot → Bool
has vs s = list_any (λ v. same_slot s v.0) vs

-- a slot that has none keeps what there is before
none_number : (z : ℤ) (vs : List (Slot × ℤ)) (s : Slot) → has vs s ≡ false → number_from z vs s ≡ z
none_number z [] s h = refl
none_number z (v ∷ vs) s h = go (same_slot s v.0) h (none_number z vs s)
  where
    go : (b : Bool) → (b || has vs s) ≡ false → (has vs s ≡ false → number_from z vs s ≡ z) → number_from (cond b v.1 z) vs s ≡ z
    go true k f = absurd (true≢false k)
    go false k f = f k

either_has : (vs ws : List (Slot × ℤ)) (s : Slot) → has (vs ++ ws) s ≡ false → (has vs s ≡ false) × (has ws s ≡ false)
either_has [] ws s h = (refl, h)
either_has (v ∷ vs) ws s h = go (same_slot s v.0) h (either_has vs ws s)
  where
    go : (b : Bool) → (b || has (vs ++ ws) s) ≡ false → (has (vs ++ ws) s ≡ false → (has vs s ≡ false) × (has ws s ≡ false)) → ((b || has vs s) ≡ false) × (has ws s ≡ false)
    go true k f = absurd (true≢false k)
    go false k f = f k

-- numbers that are told by their slots
given : (Slot → ℤ) → List (Slot × ℤ) → List (Slot × ℤ)
given g vs = map (λ v. (v.0, g v.0)) vs

given_is : (g : Slot → ℤ) (vs : List (Slot × ℤ)) (z : ℤ) (s : Slot) → (has vs s ≡ false → z ≡ g s) → number_from z (given g vs) s ≡ g s
unfolding given
given_is g [] z s h = h refl
given_is g (v ∷ vs) z s h = given_is g vs (cond (same_slot s v.0) (g v.0) z) s (λ k. go (same_slot s v.0) refl k)
  where
    go : (b : Bool) → same_slot s v.0 ≡ b → has vs s ≡ false → cond b (g v.0) z ≡ g s
    go true e k = ap g (sym (same_slot_is s v.0 e))
    go false e k = h (ap (λ b. b || has vs s) e ∙ k)

-- the number of a slot, and t times another one's
abbrev both_numbers : List (Slot × ℤ) → List (Slot × ℤ) → ℤ → Slot → ℤ
both_numbers vs ws t s = number_from (pos 0) vs s +ℤ t *ℤ number_from (pos 0) ws s

-- the numbers of the point on the way
pub moved : List (Slot × ℤ) → List (Slot × ℤ) → ℤ → List (Slot × ℤ)
moved vs ws t = given (both_numbers vs ws t) (vs ++ ws)

nothing : (t x y : ℤ) → x ≡ pos 0 → y ≡ pos 0 → pos 0 ≡ x +ℤ t *ℤ y
nothing t x y e f = rw (e, f) (sym (+ℤ_idl (t *ℤ pos 0) ∙ *ℤ-zero t))

moved_is : (vs ws : List (Slot × ℤ)) (t : ℤ) (s : Slot) → number_from (pos 0) (moved vs ws t) s ≡ both_numbers vs ws t s
unfolding moved
moved_is vs ws t s = given_is (both_numbers vs ws t) (vs ++ ws) (pos 0) s (λ h. let n = either_has vs ws s h in nothing t _ _ (none_number (pos 0) vs s n.0) (none_number (pos 0) ws s n.1))

-- ---- sums

term_law : (c x y t a b : ℤ) → c *ℤ (x +ℤ t *ℤ y) +ℤ (a +ℤ t *ℤ b) ≡ (c *ℤ x +ℤ a) +ℤ t *ℤ (c *ℤ y +ℤ b)
term_law c x y t a b = rw (parts c, parts x, parts y, parts t, parts a, parts b) (simp ring (diff_same _ _ _ _ (omega arith)))

module _ (vs : List (Slot × ℤ)) (d : ℤ) (ws : List (Slot × ℤ)) (e t : ℤ) where
  abbrev from : Point
  from = point_of vs d

  abbrev along : Point
  along = point_of ws e

  abbrev there : Point
  there = point_of (moved vs ws t) (d +ℤ t *ℤ e)

  number_there : (s : Slot) → number_at there (slot s) ≡ number_at from (slot s) +ℤ t *ℤ number_at along (slot s)
  number_there s =
      number_is (moved vs ws t) (d +ℤ t *ℤ e) s ∙ moved_is vs ws t s
      ∙ sym (ap₂ (λ x y. x +ℤ t *ℤ y) (number_is vs d s) (number_is ws e s))

  sum_there : (cs : List (Slot × ℤ)) → sum_at cs there ≡ sum_at cs from +ℤ t *ℤ sum_at cs along
  sum_there [] = sym (+ℤ_idl (t *ℤ pos 0) ∙ *ℤ-zero t)
  sum_there (c ∷ cs) =
      ap₂ (λ x y. c.1 *ℤ x +ℤ y) (number_there c.0) (sum_there cs)
      ∙ term_law c.1 (number_at from (slot c.0)) (number_at along (slot c.0)) t (sum_at cs from) (sum_at cs along)

row_law : (a b t k d e : ℤ) → (a +ℤ t *ℤ b) +ℤ k *ℤ (d +ℤ t *ℤ e) ≡ (a +ℤ k *ℤ d) +ℤ t *ℤ (b +ℤ k *ℤ e)
row_law a b t k d e = rw (parts a, parts b, parts t, parts k, parts d, parts e) (simp ring (diff_same _ _ _ _ (omega arith)))

-- the denominators, as they are
pub record AreDenominators (d e t : ℤ) : Type 0 where
  pub positive : pos 0 <ℤ d
  pub not_negative : pos 0 ≤ℤ e
  pub times : pos 0 <ℤ t

sum_positive : (d x : ℤ) → pos 0 <ℤ d → pos 0 ≤ℤ x → pos 0 <ℤ (d +ℤ x)
sum_positive d x h k = omega (arith, ints)

sum_not_negative : (d : ℤ) → pos 0 <ℤ d → pos 0 ≤ℤ d
sum_not_negative d h = omega (arith, ints)

-- what meets an op, and a multiple of what does but for strictness
meets_both : (op : RowOp) (t x y : ℤ) → pos 0 <ℤ t → Meets op x → Meets (weakly op) y → Meets op (x +ℤ t *ℤ y)
meets_both Zero t x y p h k = meets_add Zero Zero x (t *ℤ y) h (meets_scale Zero t y p k)
meets_both AtMost t x y p h k = meets_add AtMost AtMost x (t *ℤ y) h (meets_scale AtMost t y p k)
meets_both Below t x y p h k = meets_add Below AtMost x (t *ℤ y) h (meets_scale AtMost t y p k)

module _ (vs : List (Slot × ℤ)) (d : ℤ) (ws : List (Slot × ℤ)) (e t : ℤ) (h : AreDenominators d e t) where
  den_from : pos (unsigned_abs d) ≡ d
  den_from = sym (not_negative_is d (sum_not_negative d h.positive))

  den_along : pos (unsigned_abs e) ≡ e
  den_along = sym (not_negative_is e h.not_negative)

  den_positive : pos 0 <ℤ (d +ℤ t *ℤ e)
  den_positive = sum_positive d (t *ℤ e) h.positive (product_above t e h.times h.not_negative)

  den_there : pos (unsigned_abs (d +ℤ t *ℤ e)) ≡ d +ℤ t *ℤ e
  den_there = sym (not_negative_is (d +ℤ t *ℤ e) (sum_not_negative (d +ℤ t *ℤ e) den_positive))

  row_there : (r : LinearConstraint) → row_at r (there vs d ws e t) ≡ row_at r (from vs d ws e t) +ℤ t *ℤ row_at r (along vs d ws e t)
  row_there r =
      ap₂ (λ x y. x +ℤ r.constant *ℤ y) (sum_there vs d ws e t r.coefs) den_there
      ∙ row_law (sum_at r.coefs (from vs d ws e t)) (sum_at r.coefs (along vs d ws e t)) t r.constant d e
      ∙ sym (ap₂ (λ x y. (sum_at r.coefs (from vs d ws e t) +ℤ r.constant *ℤ x) +ℤ t *ℤ (sum_at r.coefs (along vs d ws e t) +ℤ r.constant *ℤ y)) den_from den_along)

  holds_there : (r : LinearConstraint) → meets_row vs d r ≡ true → leans_row ws e r ≡ true → row_holds r (there vs d ws e t) ≡ true
  unfolding row_holds
  holds_there r m l =
      let x = row_at r (from vs d ws e t) in
      let y = row_at r (along vs d ws e t) in
      let here : Meets r.op x = (meets-decides r.op x).0 (and_right (not (row_is_long vs d r)) (sign_meets r.op x) m) in
      let weak : Meets (weakly r.op) y = (meets-decides (weakly r.op) y).0 (and_right (not (row_is_long ws e r)) (sign_meets (weakly r.op) y) l) in
      (meets-decides r.op (row_at r (there vs d ws e t))).1 (subst (Meets r.op) (sym (row_there r)) (meets_both r.op t x y h.times here weak))

  all_there : (rs : List LinearConstraint) → list_all (λ r. meets_row vs d r) rs ≡ true → list_all (λ r. leans_row ws e r) rs ≡ true → conj_holds row_holds rs (there vs d ws e t) ≡ true
  all_there [] m l = refl
  all_there (r ∷ rs) m l =
      and_both (row_holds r (there vs d ws e t)) (conj_holds row_holds rs (there vs d ws e t))
      (holds_there r (and_left (meets_row vs d r) (list_all (λ r. meets_row vs d r) rs) m) (and_left (leans_row ws e r) (list_all (λ r. leans_row ws e r) rs) l))
      (all_there rs (and_right (meets_row vs d r) (list_all (λ r. meets_row vs d r) rs) m) (and_right (leans_row ws e r) (list_all (λ r. leans_row ws e r) rs) l))
    where
      and_both : (a b : Bool) → a ≡ true → b ≡ true → (a && b) ≡ true
      and_both a b f g = rw (f, g) refl

-- ---- far enough

gap_lower : (n m t g k d e : ℤ) → (n +ℤ t *ℤ m) *ℤ k -ℤ g *ℤ (d +ℤ t *ℤ e) ≡ (n *ℤ k -ℤ g *ℤ d) +ℤ t *ℤ (m *ℤ k -ℤ g *ℤ e)
gap_lower n m t g k d e = rw (parts n, parts m, parts t, parts g, parts k, parts d, parts e) (simp ring (diff_same _ _ _ _ (omega arith)))

gap_upper : (n m t g k d e : ℤ) → g *ℤ (d +ℤ t *ℤ e) -ℤ (n +ℤ t *ℤ m) *ℤ k ≡ (g *ℤ d -ℤ n *ℤ k) +ℤ t *ℤ (g *ℤ e -ℤ m *ℤ k)
gap_upper n m t g k d e = rw (parts n, parts m, parts t, parts g, parts k, parts d, parts e) (simp ring (diff_same _ _ _ _ (omega arith)))

-- the fraction of two numbers
abbrev pub over : ℤ → ℤ → Fraction
over n d = record { num = n; den = d }

gap_there : (e : End) (n m t d k : ℤ) (g : Fraction) → gap_at e (over (n +ℤ t *ℤ m) (d +ℤ t *ℤ k)) g ≡ gap_at e (over n d) g +ℤ t *ℤ gap_at e (over m k) g
gap_there lower n m t d k g = gap_lower n m t g.num g.den d k
gap_there upper n m t d k g = gap_upper n m t g.num g.den d k

-- how often a number below 0 has to be added to one, so that the sum is below 0
abbrev pub often : ℤ → ℤ
often x = pos (suc (unsigned_abs x))

times_law : (t y : ℤ) → t *ℤ (y +ℤ pos 1) ≡ t *ℤ y +ℤ t
times_law t y = add_one (pos 1) t y refl
  where
    add_one : (z t y : ℤ) → z ≡ pos 1 → t *ℤ (y +ℤ z) ≡ t *ℤ y +ℤ t
    add_one z t y h = spread t y z ∙ ap (λ w. t *ℤ y +ℤ w) (ap (λ w. t *ℤ w) h ∙ once t)
      where
        spread : (t y z : ℤ) → t *ℤ (y +ℤ z) ≡ t *ℤ y +ℤ t *ℤ z
        spread t y z = rw (parts t, parts y, parts z) (simp ring (diff_same _ _ _ _ (omega arith)))

        once : (t : ℤ) → t *ℤ pos 1 ≡ t
        once (pos n) = omega (arith, ints)
        once (negsuc n) = omega (arith, ints)

often_below : (x y : ℤ) → Meets Below y → Meets Below (x +ℤ often x *ℤ y)
often_below x y h =
    let l = times_law (often x) y in
    let q : Meets AtMost (often x *ℤ (y +ℤ pos 1)) = meets_scale AtMost (often x) (y +ℤ pos 1) (omega (arith, ints)) (omega (arith, ints)) in
    last x (often x *ℤ y) (often x *ℤ (y +ℤ pos 1)) l q
  where
    last : (x w z : ℤ) → z ≡ w +ℤ often x → Meets AtMost z → Meets Below (x +ℤ w)
    last x w z l q = omega (arith, ints)

-- the slot gets beyond each fraction that it is beyond at the other point, or goes beyond along the direction
pub beyond_each : (vs : List (Slot × ℤ)) (d : ℤ) (ws : List (Slot × ℤ)) (k : ℤ) (rs : List LinearConstraint) (s : Slot) (e : End) (g : Fraction)
    → meets vs d rs ≡ true → leans ws k rs ≡ true → pos 0 <ℤ g.den → Meets Below (gap_at e (over (number_from (pos 0) ws s) k) g)
    → SomeOutside (conj_holds row_holds rs) s e g
beyond_each vs d ws k rs s e g m l pg b =
    let x = gap_at e (over (number_from (pos 0) vs s) d) g in
    let y = gap_at e (over (number_from (pos 0) ws s) k) g in
    let t = often x in
    let h : AreDenominators d k t = record {
      positive = positive d (and_left (int_lt (pos 0) d) (list_all (λ r. meets_row vs d r) rs) m);
      not_negative = not_negative k (and_left (int_le (pos 0) k) (list_all (λ r. leans_row ws k r) rs) l);
      times = omega (arith, ints);
    } in
    let p = there vs d ws k t in
    let n = number_from (pos 0) vs s in
    let w = number_from (pos 0) ws s in
    let value : value_at s p ≡ over (n +ℤ t *ℤ w) (d +ℤ t *ℤ k) = ap₂ over (number_is (moved vs ws t) (d +ℤ t *ℤ k) s ∙ moved_is vs ws t s) (den_there vs d ws k t h) in (
      p,
      is_point (moved vs ws t) (d +ℤ t *ℤ k) (tested (d +ℤ t *ℤ k) (den_positive vs d ws k t h)),
      all_there vs d ws k t h rs (and_right (int_lt (pos 0) d) (list_all (λ r. meets_row vs d r) rs) m) (and_right (int_le (pos 0) k) (list_all (λ r. leans_row ws k r) rs) l),
      subst (λ v. IsTrue (is_outside e v g)) (sym value)
          ((outside_decides e (over (n +ℤ t *ℤ w) (d +ℤ t *ℤ k)) g).1 (subst (Meets Below) (sym (gap_there e n w t d k g)) (often_below x y b))),
    )
  where
    positive : (d : ℤ) → int_lt (pos 0) d ≡ true → pos 0 <ℤ d
    positive d e = grind (arith, ints)

    not_negative : (d : ℤ) → int_le (pos 0) d ≡ true → pos 0 ≤ℤ d
    not_negative d e = grind (arith, ints)

    tested : (d : ℤ) → pos 0 <ℤ d → int_lt (pos 0) d ≡ true
    tested d e = grind (arith, ints)
