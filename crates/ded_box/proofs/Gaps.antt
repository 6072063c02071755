-- The order of fractions, as the sign of a difference.
--
-- Of two fractions with positive denominators the difference times both of these says which is less. Such differences add up
-- (`gap_chain`), the middle of two fractions lies strictly between them, and one less than a fraction is one that is less.
-- All of it is said of either end of an interval at once: at the upper end the order is turned.
use Rattle.std.proofs.Common.{◌≡◌, not, arith, refl, sym, subst}
use Rattle.std.specs.Prelude.{ℤ, pos, ◌+ℤ◌, ◌-ℤ◌, ◌*ℤ◌, int_lt}
use Rattle.std.specs.Bool.{Decides}
use lib.IntN.{neg_ℤ}
use Rattle.std.proofs.lemmas.Int.{ints}
use Rattle.ded_num.proofs.Ring.{parts, ring_pos, diff_same}
use Rattle.ded_model.specs.declared.row.RowOp.{RowOp}
use Rattle.ded_model.specs.declared.row.RowOp.TheVariants.{Zero, AtMost, Below}
use Rattle.ded_model.specs.Bound.{Fraction, End, lower, upper, is_outside}
use Rattle.ded_box.specs.Intervals.{IsPositive}
use Rattle.ded_model.proofs.Core.{Meets, join, meets_scale, meets_unscale, meets_add, pos_mul}

-- f less g, times both denominators
abbrev pub gap : Fraction → Fraction → ℤ
gap f g = f.num *ℤ g.den -ℤ g.num *ℤ f.den

-- below 0 where f lies outside of g at that end
abbrev pub gap_at : End → Fraction → Fraction → ℤ
gap_at lower f g = gap f g
gap_at upper f g = gap g f

abbrev pub other : End → End
other lower = upper
other upper = lower

-- ---- tests
lt_decides : (x y : ℤ) → Decides (int_lt x y) (Meets Below (x -ℤ y))
lt_decides x y = (λ e. grind (arith, ints), λ e. grind (arith, ints))

not_lt_decides : (x y : ℤ) → Decides (not (int_lt y x)) (Meets AtMost (x -ℤ y))
not_lt_decides x y = (λ e. grind (arith, ints), λ e. grind (arith, ints))

pub outside_decides : (e : End) (f g : Fraction) → Decides (is_outside e f g) (Meets Below (gap_at e f g))
outside_decides lower f g = lt_decides (f.num *ℤ g.den) (g.num *ℤ f.den)
outside_decides upper f g = lt_decides (g.num *ℤ f.den) (f.num *ℤ g.den)

pub not_outside_decides : (e : End) (v f : Fraction) → Decides (not (is_outside e v f)) (Meets AtMost (gap_at e f v))
not_outside_decides lower v f = not_lt_decides (f.num *ℤ v.den) (v.num *ℤ f.den)
not_outside_decides upper v f = not_lt_decides (v.num *ℤ f.den) (f.num *ℤ v.den)

-- ---- sums of differences
pub chain_law : (a b c d m n : ℤ) → d *ℤ (a *ℤ n -ℤ m *ℤ b) ≡ n *ℤ (a *ℤ d -ℤ c *ℤ b) +ℤ b *ℤ (c *ℤ n -ℤ m *ℤ d)
chain_law a b c d m n = rw (parts a, parts b, parts c, parts d, parts m, parts n) (simp ring_pos (diff_same _ _ _ _ (omega arith)))

pub gap_chain : (o1 o2 : RowOp) (f g h : Fraction) → IsPositive f → IsPositive g → IsPositive h → Meets o1 (gap f g) → Meets o2 (gap g h) → Meets (join o1 o2) (gap f h)
gap_chain o1 o2 f g h pf pg ph x y =
    meets_unscale (join o1 o2) g.den (gap f h) pg
    (subst (Meets (join o1 o2)) (sym (chain_law f.num f.den g.num g.den h.num h.den))
    (meets_add o1 o2 _ _ (meets_scale o1 h.den (gap f g) ph x) (meets_scale o2 f.den (gap g h) pf y)))

join_turned : (o1 o2 : RowOp) (z : ℤ) → Meets (join o1 o2) z → Meets (join o2 o1) z
join_turned Zero Zero z h = h
join_turned Zero AtMost z h = h
join_turned Zero Below z h = h
join_turned AtMost Zero z h = h
join_turned AtMost AtMost z h = h
join_turned AtMost Below z h = h
join_turned Below Zero z h = h
join_turned Below AtMost z h = h
join_turned Below Below z h = h

pub chain_at : (e : End) (o1 o2 : RowOp) (f g h : Fraction) → IsPositive f → IsPositive g → IsPositive h → Meets o1 (gap_at e f g) → Meets o2 (gap_at e g h) → Meets (join o1 o2) (gap_at e f h)
chain_at lower o1 o2 f g h pf pg ph x y = gap_chain o1 o2 f g h pf pg ph x y
chain_at upper o1 o2 f g h pf pg ph x y = join_turned o2 o1 (gap h f) (gap_chain o2 o1 h g f ph pg pf y x)

-- the difference the other way
turned_law : (a b c d : ℤ) → a *ℤ d -ℤ c *ℤ b ≡ neg_ℤ (c *ℤ b -ℤ a *ℤ d)
turned_law a b c d = rw (parts a, parts b, parts c, parts d) (simp ring_pos (diff_same _ _ _ _ (omega arith)))

pub gap_turned : (e : End) (f g : Fraction) → gap_at e g f ≡ neg_ℤ (gap_at e f g)
gap_turned lower f g = turned_law g.num g.den f.num f.den
gap_turned upper f g = turned_law f.num f.den g.num g.den

self_law : (a b : ℤ) → a *ℤ b -ℤ a *ℤ b ≡ pos 0
self_law a b = rw (parts a, parts b) (simp ring_pos (diff_same _ _ _ _ (omega arith)))

pub gap_self : (e : End) (f : Fraction) → gap_at e f f ≡ pos 0
gap_self lower f = self_law f.num f.den
gap_self upper f = self_law f.num f.den

-- the two ends see one difference
pub gap_other : (e : End) (f g : Fraction) → gap_at (other e) f g ≡ gap_at e g f
gap_other lower f g = refl
gap_other upper f g = refl

-- ---- between and beyond
abbrev pub middle : Fraction → Fraction → Fraction
middle f g = record { num = f.num *ℤ g.den +ℤ g.num *ℤ f.den; den = pos 2 *ℤ (f.den *ℤ g.den) }

pub middle-positive : (f g : Fraction) → IsPositive f → IsPositive g → IsPositive (middle f g)
middle-positive f g pf pg = pos_mul (pos 2) (f.den *ℤ g.den) (omega (arith, ints)) (pos_mul f.den g.den pf pg)

from_left : (a b c d : ℤ) → a *ℤ (pos 2 *ℤ (b *ℤ d)) -ℤ (a *ℤ d +ℤ c *ℤ b) *ℤ b ≡ b *ℤ (a *ℤ d -ℤ c *ℤ b)
from_left a b c d = rw (parts a, parts b, parts c, parts d) (simp ring_pos (diff_same _ _ _ _ (omega arith)))

to_right : (a b c d : ℤ) → (a *ℤ d +ℤ c *ℤ b) *ℤ d -ℤ c *ℤ (pos 2 *ℤ (b *ℤ d)) ≡ d *ℤ (a *ℤ d -ℤ c *ℤ b)
to_right a b c d = rw (parts a, parts b, parts c, parts d) (simp ring_pos (diff_same _ _ _ _ (omega arith)))

from_right : (a b c d : ℤ) → (a *ℤ d +ℤ c *ℤ b) *ℤ b -ℤ a *ℤ (pos 2 *ℤ (b *ℤ d)) ≡ b *ℤ (c *ℤ b -ℤ a *ℤ d)
from_right a b c d = rw (parts a, parts b, parts c, parts d) (simp ring_pos (diff_same _ _ _ _ (omega arith)))

to_left : (a b c d : ℤ) → c *ℤ (pos 2 *ℤ (b *ℤ d)) -ℤ (a *ℤ d +ℤ c *ℤ b) *ℤ d ≡ d *ℤ (c *ℤ b -ℤ a *ℤ d)
to_left a b c d = rw (parts a, parts b, parts c, parts d) (simp ring_pos (diff_same _ _ _ _ (omega arith)))

pub middle-after : (e : End) (f g : Fraction) → IsPositive f → Meets Below (gap_at e f g) → Meets Below (gap_at e f (middle f g))
middle-after lower f g p h = subst (Meets Below) (sym (from_left f.num f.den g.num g.den)) (meets_scale Below f.den (gap f g) p h)
middle-after upper f g p h = subst (Meets Below) (sym (from_right f.num f.den g.num g.den)) (meets_scale Below f.den (gap g f) p h)

pub middle-before : (e : End) (f g : Fraction) → IsPositive g → Meets Below (gap_at e f g) → Meets Below (gap_at e (middle f g) g)
middle-before lower f g p h = subst (Meets Below) (sym (to_right f.num f.den g.num g.den)) (meets_scale Below g.den (gap f g) p h)
middle-before upper f g p h = subst (Meets Below) (sym (to_left f.num f.den g.num g.den)) (meets_scale Below g.den (gap g f) p h)

-- one less at the lower end, one more at the upper end
abbrev pub beyond : End → Fraction → Fraction
beyond lower f = record { num = f.num -ℤ f.den; den = f.den }
beyond upper f = record { num = f.num +ℤ f.den; den = f.den }

one_less : (a b : ℤ) → (a -ℤ b) *ℤ b -ℤ a *ℤ b ≡ b *ℤ neg_ℤ b
one_less a b = rw (parts a, parts b) (simp ring_pos (diff_same _ _ _ _ (omega arith)))

one_more : (a b : ℤ) → a *ℤ b -ℤ (a +ℤ b) *ℤ b ≡ b *ℤ neg_ℤ b
one_more a b = rw (parts a, parts b) (simp ring_pos (diff_same _ _ _ _ (omega arith)))

pub beyond-positive : (e : End) (f : Fraction) → IsPositive f → IsPositive (beyond e f)
beyond-positive lower f p = p
beyond-positive upper f p = p

pub beyond-outside : (e : End) (f : Fraction) → IsPositive f → Meets Below (gap_at e (beyond e f) f)
beyond-outside lower f p = subst (Meets Below) (sym (one_less f.num f.den)) (meets_scale Below f.den (neg_ℤ f.den) p (omega (arith, ints)))
beyond-outside upper f p = subst (Meets Below) (sym (one_more f.num f.den)) (meets_scale Below f.den (neg_ℤ f.den) p (omega (arith, ints)))
