-- Rows with tags: what an elimination makes of them tells of which rows it is a sum.
--
-- Each row gets a slot of its own, its tag, with the coefficient 1. In a sum of multiples of such rows the coefficient of a tag is
-- the number by which its row was multiplied. One more slot, the total, is in all rows, and one, the slack, in those by `<`. An
-- equality gives a row in each direction, with a tag for each.
use Rattle.std.proofs.Common.{zero}
use Rattle.std.specs.Prelude.{ℕ, suc, ◌+◌, ◌*◌, ◌≤◌, ◌<◌, ◌^◌, ℤ, pos, negsuc, ◌-ℤ◌, int_lt, ◌&&◌, ◌||◌, Bool, true, false, List, [], ◌∷◌, ◌++◌, length}
use lib.IntN.{neg_ℤ}
use Rattle.std.specs.List.{AllByRecursion}
use Rattle.std.specs.Ordering.{int_eq}
use Rattle.ded_model.specs.declared.slot.Slot.{Slot}
use Rattle.ded_model.specs.declared.slot.Sort.TheVariants.{Rat}
use Rattle.ded_model.specs.declared.row.RowOp.{RowOp}
use Rattle.ded_model.specs.declared.row.RowOp.TheVariants.{Zero, AtMost, Below}
use Rattle.ded_model.specs.Constraint.{LinearConstraint}
use Rattle.ded_model.specs.Coefs.{AllBelow, coef_at, with_coef}
use Rattle.ded_model.specs.Normal.{coefs_over, normal_row}
use Rattle.ded_model.specs.Row.{row_mentions}
use Rattle.ded_model.specs.Lines.{AreWithin, row_lines}
use Rattle.ded_theory.specs.Conjunctions.{conj_mentions, conj_lines, HasRationals}

-- the rational slot of this number
abbrev pub tag : ℕ → Slot
tag n = record { number = n; sort = Rat }

-- a strict row has 1 at the slack
abbrev pub slack_of : RowOp → ℤ
slack_of Zero = pos 0
slack_of AtMost = pos 0
slack_of Below = pos 1

-- the coefficients with the total b, the slack b + 1 and the tag n
abbrev pub tagged_coefs : ℕ → ℤ → ℕ → List (Slot × ℤ) → List (Slot × ℤ)
tagged_coefs b w n cs = with_coef (tag n) (pos 1) (with_coef (tag (b + 1)) w (with_coef (tag b) (pos 1) cs))

-- their sum with the constant, at most 0
abbrev pub tagged : ℕ → ℤ → ℕ → List (Slot × ℤ) → ℤ → LinearConstraint
tagged b w n cs c = record { coefs = tagged_coefs b w n cs; constant = c; op = AtMost }

-- the same with all signs turned
abbrev pub turned_coefs : List (Slot × ℤ) → List (Slot × ℤ)
turned_coefs cs = coefs_over (negsuc 0) cs

-- the row as one that is at most 0, with the total and the tag n, and with the slack where it is strict
abbrev pub forward : ℕ → ℕ → LinearConstraint → LinearConstraint
forward b n r = tagged b (slack_of r.op) n r.coefs r.constant

-- the row with all signs turned as one that is at most 0, with the total and the tag n + 1
abbrev pub backward : ℕ → ℕ → LinearConstraint → LinearConstraint
backward b n r = tagged b (pos 0) (n + 1) (turned_coefs r.coefs) (neg_ℤ r.constant)

-- an equality gives both
abbrev pub traces_by : RowOp → ℕ → ℕ → LinearConstraint → List LinearConstraint
traces_by Zero b n r = normal_row (forward b n r) ∷ normal_row (backward b n r) ∷ []
traces_by AtMost b n r = normal_row (forward b n r) ∷ []
traces_by Below b n r = normal_row (forward b n r) ∷ []

-- the tagged rows, with two tags for each row, from n on
abbrev pub traces : ℕ → ℕ → List LinearConstraint → List LinearConstraint
traces b n [] = []
traces b n (r ∷ rs) = traces_by r.op b n r ++ traces b (n + 2) rs

-- all slots of the rows have numbers below b
abbrev pub AreBelow : ℕ → List LinearConstraint → Type 0
AreBelow b rs = AllByRecursion (λ r. AllBelow b r.coefs) rs

-- the numbers by which that many rows were multiplied in the sum l, by their tags
abbrev pub multipliers : LinearConstraint → ℕ → ℕ → List ℤ
multipliers l n zero = []
multipliers l n (suc k) = (coef_at l.coefs (tag n) -ℤ coef_at l.coefs (tag (n + 1))) ∷ multipliers l (n + 2) k

-- there are no coefficients, or the op is at most 0
abbrev pub is_weak_with : List (Slot × ℤ) → RowOp → Bool
is_weak_with [] op = true
is_weak_with (c ∷ cs) Zero = false
is_weak_with (c ∷ cs) AtMost = true
is_weak_with (c ∷ cs) Below = false

-- the row has no coefficients, or is at most 0
abbrev pub is_weak_row : LinearConstraint → Bool
is_weak_row r = is_weak_with r.coefs r.op

-- a row is false where all tags are 0 and the slack is above 0, however little
abbrev pub is_refuting : ℕ → LinearConstraint → Bool
is_refuting b r = int_lt (pos 0) r.constant || (int_eq r.constant (pos 0) && int_lt (pos 0) (coef_at r.coefs (tag (b + 1))))

-- eliminating all slots of the rows, and one more, may leave more than 127 digits: so it is for each b of at least 1 that bounds
-- the lines, and each list of slots that has those of the rows
pub record AreWideRows (rows : List LinearConstraint) : Type 0 where
  pub above : (b : ℕ) → 1 ≤ b → AreWithin b (conj_lines row_lines rows) → (ss : List Slot) → HasRationals (conj_mentions row_mentions rows) ss → 128 < (b + 1) * 2 ^ (length ss + 1)
