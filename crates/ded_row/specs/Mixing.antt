-- Combinations of two rows in which a slot falls out.
use Rattle.std.specs.Prelude.{◌≢◌, ℤ, pos, ◌+ℤ◌, ◌*ℤ◌, ◌<ℤ◌, int_lt, unsigned_abs, Bool, not, ◌&&◌, ◌||◌, List, if◌then◌else◌}
use lib.IntN.{neg_ℤ}
use Rattle.std.specs.List.{list_any}
use Rattle.ded_model.specs.declared.slot.Slot.{Slot}
use Rattle.ded_model.specs.declared.row.RowOp.{RowOp}
use Rattle.ded_model.specs.declared.row.RowOp.TheVariants.{Zero, AtMost, Below}
use Rattle.ded_model.specs.Constraint.{LinearConstraint}
use Rattle.ded_model.specs.Point.{same_slot}
use Rattle.ded_model.specs.Coefs.{coef_at, mixed, nonzero, cut}
use Rattle.ded_model.specs.Normal.{normal_row}
use Rattle.ded_model.specs.Lines.{is_long}

-- ---- the combination

-- a row with this coefficient bounds the slot from above: it is above 0, or any but 0 in an equality
abbrev pub BoundsAbove : RowOp → ℤ → Type 0
BoundsAbove Zero a = a ≢ pos 0
BoundsAbove AtMost a = pos 0 <ℤ a
BoundsAbove Below a = pos 0 <ℤ a

-- a row with this coefficient bounds the slot from below: it is below 0, or any but 0 in an equality
abbrev pub BoundsBelow : RowOp → ℤ → Type 0
BoundsBelow Zero a = a ≢ pos 0
BoundsBelow AtMost a = a <ℤ pos 0
BoundsBelow Below a = a <ℤ pos 0

-- the magnitude of b, with the sign of a: what a row with the coefficient a is multiplied by, where the other one has b
abbrev pub factor : ℤ → ℤ → ℤ
factor a b = if int_lt (pos 0) a then pos (unsigned_abs b) else neg_ℤ (pos (unsigned_abs b))

-- the op of a sum of two rows
abbrev pub join_op : RowOp → RowOp → RowOp
join_op Zero o = o
join_op AtMost Zero = AtMost
join_op AtMost AtMost = AtMost
join_op AtMost Below = Below
join_op Below o = Below

-- k times the one list and m times the other, without the slot
abbrev pub mixed_coefs : Slot → ℤ → List (Slot × ℤ) → ℤ → List (Slot × ℤ) → List (Slot × ℤ)
mixed_coefs s k xs m ys = nonzero (cut s (mixed k xs m ys))

-- k times the one row and m times the other, without the slot
abbrev pub mixed_row : Slot → ℤ → LinearConstraint → ℤ → LinearConstraint → LinearConstraint
mixed_row s k q m r = record { coefs = mixed_coefs s k q.coefs m r.coefs; constant = k *ℤ q.constant +ℤ m *ℤ r.constant; op = join_op q.op r.op }

-- the normal row of a2 times q and a1 times r without the slot, which has the coefficient a1 in q and -a2 in r
abbrev pub mix_of : Slot → LinearConstraint → LinearConstraint → LinearConstraint
mix_of s q r = normal_row (mixed_row s (factor (coef_at q.coefs s) (coef_at r.coefs s)) q (factor (neg_ℤ (coef_at r.coefs s)) (coef_at q.coefs s)) r)

-- ---- numbers that are too long

-- one of the products, or their sum, is too long
abbrev pub sum_is_long : ℤ → ℤ → ℤ → ℤ → Bool
sum_is_long k c m d = is_long (k *ℤ c) || is_long (m *ℤ d) || is_long (k *ℤ c +ℤ m *ℤ d)

-- that is so of the coefficients at the slot t, which is another than s
abbrev pub long_at : Slot → ℤ → List (Slot × ℤ) → ℤ → List (Slot × ℤ) → Slot → Bool
long_at s k xs m ys t = not (same_slot t s) && sum_is_long k (coef_at xs t) m (coef_at ys t)

-- that is so at some slot of one of the lists
abbrev pub coefs_are_long : Slot → ℤ → List (Slot × ℤ) → ℤ → List (Slot × ℤ) → Bool
coefs_are_long s k xs m ys = list_any (λ c. long_at s k xs m ys c.0) xs || list_any (λ c. long_at s k xs m ys c.0) ys
