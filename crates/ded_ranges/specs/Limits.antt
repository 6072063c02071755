-- Limits: rows over columns by their places, and whether they may hold in a reach.
use Rattle.std.specs.Prelude.{◌≡◌, ◌<◌, ◌-◌, ◌^◌, ◌+ℤ◌, ◌*ℤ◌, ℕ, ℤ, pos, Bool, true, false, ◌&&◌, int_lt, int_le, List, [], ◌∷◌, map, if◌then◌else◌, Option, Some, None}
use lib.IntN.{neg_ℤ}
use Rattle.std.specs.List.{list_all}
use Rattle.ded_model.specs.declared.row.RowOp.{RowOp}
use Rattle.ded_model.specs.declared.row.RowOp.TheVariants.{Zero, AtMost, Below}
use Rattle.ded_model.specs.Row.{sign_meets}
use Rattle.ded_ranges.specs.declared.reach.Range.{Range}
use Rattle.ded_ranges.specs.declared.limit.Limit.{Limit}
use Rattle.ded_ranges.specs.Codes.{fine}
use Rattle.ded_ranges.specs.Reaches.{range_at, Lies}

-- ---- limits at values: numerators at the places, over one denominator

-- a term: a place and its coefficient
abbrev pub Term : Type 0
Term = ℕ × ℤ

-- the sum of the terms over the denominator of the values
abbrev pub sum_of : List Term → (ℕ → ℤ) → ℤ
sum_of [] v = pos 0
sum_of (t ∷ ts) v = t.1 *ℤ v t.0 +ℤ sum_of ts v

-- the limit's sum stands to 0 as its op says
abbrev pub is_met : (ℕ → ℤ) → ℕ → Limit → Bool
is_met v den l = sign_meets l.op (sum_of l.terms.items v +ℤ l.constant *ℤ pos den)

-- all limits are met
abbrev pub are_met : (ℕ → ℤ) → ℕ → List Limit → Bool
are_met v den ls = list_all (is_met v den) ls

-- ---- the least sum in a reach

-- as far as 127 binary digits go: nothing is known of what is too low, and what is too high counts as the highest
unfoldable pub kept : ℤ → Option ℤ
kept z = if int_lt (neg_ℤ (pos (2 ^ 127))) z then (if int_lt z (pos (2 ^ 127)) then Some z else Some (pos (2 ^ 127 - 1))) else None

-- the signs don't make the product negative
abbrev pub is_same_sign : ℤ → ℤ → Bool
is_same_sign a b = if int_lt a (pos 0) then int_lt b (pos 0) else int_le (pos 0) b

-- what is kept of a number that is too long, above or below 0, or of its negative
abbrev pub beyond : Bool → Bool → Option ℤ
beyond true true = None
beyond true false = Some (pos (2 ^ 127 - 1))
beyond false true = Some (pos (2 ^ 127 - 1))
beyond false false = None

-- what is kept of the sum of two numbers; none where one of them is none
abbrev pub plus : Option ℤ → Option ℤ → Option ℤ
plus None o = None
plus (Some s) None = None
plus (Some s) (Some t) = kept (s +ℤ t)

-- what is kept of a multiple of a number; none where the number is none
abbrev pub times : ℤ → Option ℤ → Option ℤ
times a None = None
times a (Some e) = kept (a *ℤ e)

-- the end at which a multiple is least
abbrev pub least_end : ℤ → Range → Option ℤ
least_end a r = if int_lt (pos 0) a then r.low else r.high

-- a number at most the sum of the terms and what there is, in units, at all values of the reach, or none
abbrev pub least : List Range → List Term → Option ℤ → Option ℤ
least rs [] s = s
least rs (t ∷ ts) s = least rs ts (plus s (times t.1 (least_end t.1 (range_at rs t.0))))

-- the number, or its negative
abbrev pub turned : Bool → ℤ → ℤ
turned b z = if b then neg_ℤ z else z

-- the terms, or the terms with the negatives of their coefficients
abbrev pub turn : Bool → List Term → List Term
turn b ts = map (λ t. (t.0, turned b t.1)) ts

-- a number at most the sum of the terms and a constant, or at most the negative of that sum, in units, at all values of
-- the reach, or none
abbrev pub least_of : List Range → List Term → ℤ → Bool → Option ℤ
least_of rs ts c b = least rs (turn b ts) (kept (turned b c *ℤ pos fine))

-- ---- whether limits may hold

-- the least sum is at most 0, or isn't known
abbrev pub at_most_zero : Option ℤ → Bool
at_most_zero None = true
at_most_zero (Some s) = int_le s (pos 0)

-- the least sum is below 0, or isn't known
abbrev pub below_zero : Option ℤ → Bool
below_zero None = true
below_zero (Some s) = int_lt s (pos 0)

-- a row with the op may hold, by the least sum of the row and that of its negative
abbrev pub may_stand : RowOp → Option ℤ → Option ℤ → Bool
may_stand Zero o n = at_most_zero o && at_most_zero n
may_stand AtMost o n = at_most_zero o
may_stand Below o n = below_zero o

-- the terms and the constant may stand to 0 as the op says in the reach
abbrev pub may_be : List Range → List Term → ℤ → RowOp → Bool
may_be rs ts c op = may_stand op (least_of rs ts c false) (least_of rs ts c true)

-- the limit may be met in the reach
abbrev pub may_meet : List Range → Limit → Bool
may_meet rs l = may_be rs l.terms.items l.constant l.op

-- each of the limits may be met in the reach
abbrev pub may_hold : List Range → List Limit → Bool
may_hold rs ls = list_all (may_meet rs) ls

-- no values in the reach that meet all limits are lost
abbrev pub IsSound : List Range → List Limit → Bool → Type 0
IsSound rs ls answer = (v : ℕ → ℤ) (den : ℕ) → 0 < den → Lies rs v den → are_met v den ls ≡ true → answer ≡ true
