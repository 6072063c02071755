-- Ends of the values of a slot: what shows them is enough.
use Rattle.std.proofs.Common.{◌≡◌, Bool, true, false, true≢false, ◌&&◌, List, ◌∷◌, arith, refl, sym, ap, ◌∙◌, subst}
use Rattle.std.specs.Prelude.{ℤ, pos, ◌+ℤ◌, ◌-ℤ◌, ◌*ℤ◌, ◌<ℤ◌, ◌≤ℤ◌, int_lt, IsTrue}
use Rattle.std.specs.List.{list_all}
use Rattle.std.proofs.lemmas.Int.{ints}
use lib.IntN.{neg_ℤ, +ℤ_idr}
use Rattle.ded_num.proofs.Ring.{parts, ring, ring_pos, diff_same}
use Rattle.ded_model.specs.declared.slot.Slot.{Slot}
use Rattle.ded_model.specs.declared.row.RowOp.{RowOp}
use Rattle.ded_model.specs.declared.row.RowOp.TheVariants.{Zero, AtMost, Below}
use Rattle.ded_model.specs.Constraint.{LinearConstraint}
use Rattle.ded_model.specs.Point.{slot, Point, IsPoint, number_at}
use Rattle.ded_model.specs.Bound.{Fraction, End, lower, upper, is_outside, value_at, NoneOutside, IsUnbounded, IsIncluded, IsExcluded}
use Rattle.ded_model.specs.Cell.{conj_holds, HoldsNowhere}
use Rattle.ded_model.specs.Row.{row_at, sign_meets, row_holds}
use Rattle.ded_model.proofs.Core.{Meets, meets_scale, below_at_most}
use Rattle.ded_model.proofs.Eliminating.{meets-decides}
use Rattle.ded_model.proofs.Points.{and_left, and_right}
use Rattle.ded_model.proofs.Given.{level_turned}
use Rattle.ded_box.proofs.Gaps.{gap_at, outside_decides, chain_at}
use Rattle.ded_weighing.specs.Meeting.{point_of, number_from, meets_row, meets, leans}
use Rattle.ded_weighing.proofs.Meetings.{number_is, not_negative_is, is_point, all_hold}
use Rattle.ded_weighing.proofs.Shown.{fails}
use Rattle.ded_simplex.specs.Ends.{IsValue, beyond_row, goes}
use Rattle.ded_simplex.proofs.Moving.{over, beyond_each}

-- ---- the row that says of a value that it is beyond

lower_law : (a n c m : ℤ) → a *ℤ n +ℤ neg_ℤ c *ℤ m ≡ n *ℤ a -ℤ c *ℤ m
lower_law a n c m = rw (parts a, parts n, parts c, parts m) (simp ring (diff_same _ _ _ _ (omega arith)))

upper_law : (a n c m : ℤ) → neg_ℤ a *ℤ n +ℤ c *ℤ m ≡ c *ℤ m -ℤ n *ℤ a
upper_law a n c m = rw (parts a, parts n, parts c, parts m) (simp ring (diff_same _ _ _ _ (omega arith)))

-- it comes to the difference
beyond_at : (e : End) (s : Slot) (f : Fraction) (op : RowOp) (p : Point) → row_at (beyond_row e s f op) p ≡ gap_at e (value_at s p) f
beyond_at lower s f op p =
    ap (λ z. z +ℤ neg_ℤ f.num *ℤ pos p.den) (+ℤ_idr (f.den *ℤ number_at p (slot s))) ∙ lower_law f.den (number_at p (slot s)) f.num (pos p.den)
beyond_at upper s f op p =
    ap (λ z. z +ℤ f.num *ℤ pos p.den) (+ℤ_idr (neg_ℤ f.den *ℤ number_at p (slot s))) ∙ upper_law f.den (number_at p (slot s)) f.num (pos p.den)

-- so where the rows hold nowhere with it, the value of no point is so
none_so : (rs : List LinearConstraint) (s : Slot) (e : End) (f : Fraction) (op : RowOp) → HoldsNowhere (conj_holds row_holds (beyond_row e s f op ∷ rs))
    → (p : Point) → IsPoint p → IsTrue (conj_holds row_holds rs p) → Meets op (gap_at e (value_at s p) f) → ⊥
unfolding row_holds
none_so rs s e f op n p i t m =
    let holds : sign_meets op (row_at (beyond_row e s f op) p) ≡ true = (meets-decides op (row_at (beyond_row e s f op) p)).1 (subst (Meets op) (sym (beyond_at e s f op p)) m) in
    let all : (sign_meets op (row_at (beyond_row e s f op) p) && conj_holds row_holds rs p) ≡ true = both (sign_meets op (row_at (beyond_row e s f op) p)) (conj_holds row_holds rs p) holds t in
    let fails : (sign_meets op (row_at (beyond_row e s f op) p) && conj_holds row_holds rs p) ≡ false = named e op (n p i) in
    true≢false (sym all ∙ fails)
  where
    both : (a b : Bool) → a ≡ true → b ≡ true → (a && b) ≡ true
    both a b f g = rw (f, g) refl

    named : (e : End) (op : RowOp) → conj_holds row_holds (beyond_row e s f op ∷ rs) p ≡ false → (sign_meets op (row_at (beyond_row e s f op) p) && conj_holds row_holds rs p) ≡ false
    named lower op h = h
    named upper op h = h

none_outside : (rs : List LinearConstraint) (s : Slot) (e : End) (f : Fraction) → HoldsNowhere (conj_holds row_holds (beyond_row e s f Below ∷ rs)) → NoneOutside (conj_holds row_holds rs) s e f
none_outside rs s e f n p i t = fails (is_outside e (value_at s p) f) (λ o. none_so rs s e f Below n p i t ((outside_decides e (value_at s p) f).0 o))

none_at_most : (rs : List LinearConstraint) (s : Slot) (e : End) (f : Fraction) → HoldsNowhere (conj_holds row_holds (beyond_row e s f AtMost ∷ rs)) → NoneOutside (conj_holds row_holds rs) s e f
none_at_most rs s e f n p i t = fails (is_outside e (value_at s p) f) (λ o. none_so rs s e f AtMost n p i t (below_at_most _ ((outside_decides e (value_at s p) f).0 o)))

-- a value that is the fraction leaves no difference
level : (x y : ℤ) → x ≡ y → Meets Zero (x -ℤ y)
level x y h = omega (arith, ints)

no_gap : (e : End) (n d : ℤ) (f : Fraction) → n *ℤ f.den ≡ f.num *ℤ d → Meets Zero (gap_at e (over n d) f)
no_gap lower n d f h = level (n *ℤ f.den) (f.num *ℤ d) h
no_gap upper n d f h = level_turned (n *ℤ f.den) (f.num *ℤ d) h

zero_at_most : (z : ℤ) → Meets Zero z → Meets AtMost z
zero_at_most z h = omega (arith, ints)

-- ---- the three ends

-- a bound that a point attains
pub included : (rs : List LinearConstraint) (vs : List (Slot × ℤ)) (d : ℤ) (s : Slot) (e : End) (f : Fraction) → meets vs d rs ≡ true → IsValue (number_from (pos 0) vs s) d f
    → HoldsNowhere (conj_holds row_holds (beyond_row e s f Below ∷ rs)) → IsIncluded (conj_holds row_holds rs) s e f
included rs vs d s e f m v n = record {
  positive = v.positive;
  lowest = v.lowest;
  attained = (
    point_of vs d,
    is_point vs d (and_left (int_lt (pos 0) d) (list_all (λ r. meets_row vs d r) rs) m),
    all_hold vs d rs (and_right (int_lt (pos 0) d) (list_all (λ r. meets_row vs d r) rs) m),
    ap (λ z. z *ℤ f.den) (number_is vs d s) ∙ v.same ∙ ap (λ z. f.num *ℤ z) (not_negative_is d (positive d (and_left (int_lt (pos 0) d) (list_all (λ r. meets_row vs d r) rs) m))),
  );
  none = none_outside rs s e f n;
}
  where
    positive : (d : ℤ) → int_lt (pos 0) d ≡ true → pos 0 ≤ℤ d
    positive d e = grind (arith, ints)

-- a bound that values come near to
pub excluded : (rs : List LinearConstraint) (vs : List (Slot × ℤ)) (d : ℤ) (ws : List (Slot × ℤ)) (k : ℤ) (s : Slot) (e : End) (f : Fraction)
    → meets vs d rs ≡ true → leans ws k rs ≡ true → IsValue (number_from (pos 0) ws s) k f
    → HoldsNowhere (conj_holds row_holds (beyond_row e s f AtMost ∷ rs)) → IsExcluded (conj_holds row_holds rs) s e f
excluded rs vs d ws k s e f m l v n = record {
  positive = v.positive;
  lowest = v.lowest;
  free = λ at. none_so rs s e f AtMost n at.0 at.1 at.2 (zero_at_most _ (no_gap e (number_at at.0 (slot s)) (pos at.0.den) f at.3));
  none = none_at_most rs s e f n;
  near = λ g pg o. beyond_each vs d ws k rs s e g m l pg
      (chain_at e Zero Below (over (number_from (pos 0) ws s) k) f g v.over v.positive pg (no_gap e (number_from (pos 0) ws s) k f v.same) ((outside_decides e f g).0 o));
}

goes_lower : (w k g z : ℤ) → z ≡ pos 0 → w *ℤ k -ℤ g *ℤ z ≡ k *ℤ w
goes_lower w k g z h = rw h (rw (parts w, parts k, parts g) (simp ring_pos (diff_same _ _ _ _ (omega arith))))

goes_upper : (w k g z : ℤ) → z ≡ pos 0 → g *ℤ z -ℤ w *ℤ k ≡ k *ℤ neg_ℤ w
goes_upper w k g z h = rw h (rw (parts w, parts k, parts g) (simp ring_pos (diff_same _ _ _ _ (omega arith))))

goes_beyond : (e : End) (w : ℤ) (g : Fraction) → pos 0 <ℤ g.den → goes e w ≡ true → Meets Below (gap_at e (over w (pos 0)) g)
goes_beyond lower w g p h = subst (Meets Below) (sym (goes_lower w g.den g.num (pos 0) refl)) (meets_scale Below g.den w p (below_zero w h))
  where
    below_zero : (w : ℤ) → int_lt w (pos 0) ≡ true → Meets Below w
    below_zero w e = grind (arith, ints)
goes_beyond upper w g p h = subst (Meets Below) (sym (goes_upper w g.den g.num (pos 0) refl)) (meets_scale Below g.den (neg_ℤ w) p (above_zero w h))
  where
    above_zero : (w : ℤ) → int_lt (pos 0) w ≡ true → Meets Below (neg_ℤ w)
    above_zero w e = let l : pos 0 <ℤ w = grind (arith, ints) in omega (arith, ints)

-- no bound
pub unbounded : (rs : List LinearConstraint) (vs : List (Slot × ℤ)) (d : ℤ) (ws : List (Slot × ℤ)) (s : Slot) (e : End)
    → meets vs d rs ≡ true → leans ws (pos 0) rs ≡ true → goes e (number_from (pos 0) ws s) ≡ true → IsUnbounded (conj_holds row_holds rs) s e
unbounded rs vs d ws s e m l h g pg = beyond_each vs d ws (pos 0) rs s e g m l pg (goes_beyond e (number_from (pos 0) ws s) g pg h)
