-- How the bounds that two rows of one slot give it compare.
use Rattle.std.specs.Prelude.{ℤ, pos, negsuc, ◌*ℤ◌, int_lt, [], if◌then◌else◌}
use lib.IntN.{neg_ℤ}
use Rattle.std.specs.declared.cmp.Ordering.{Ordering}
use Rattle.std.specs.declared.cmp.Ordering.TheVariants.{Less, Equal, Greater}
use Rattle.std.specs.Ordering.{int_cmp}
use Rattle.ded_model.specs.declared.slot.Slot.{Slot}
use Rattle.ded_model.specs.Constraint.{LinearConstraint}
use Rattle.ded_model.specs.Coefs.{coef_at}
use Rattle.ded_model.specs.Normal.{normal_row}
use Rattle.ded_row.specs.Mixing.{join_op}

-- z, turned where a is negative
abbrev pub turned_with : ℤ → ℤ → ℤ
turned_with a z = if int_lt a (pos 0) then neg_ℤ z else z

-- the order of c over a and d over b
abbrev pub bounds_order : ℤ → ℤ → ℤ → ℤ → Ordering
bounds_order a c b d = int_cmp (turned_with a c *ℤ turned_with b b) (turned_with b d *ℤ turned_with a a)

-- a number that compares with 0 so
abbrev pub sign_of : Ordering → ℤ
sign_of Less = negsuc 0
sign_of Equal = pos 0
sign_of Greater = pos 1

-- the row without slots that says how the bounds compare
abbrev pub compared_row : Slot → LinearConstraint → LinearConstraint → LinearConstraint
compared_row s q r = normal_row (record { coefs = []; constant = sign_of (bounds_order (coef_at q.coefs s) q.constant (coef_at r.coefs s) r.constant); op = join_op q.op r.op })
