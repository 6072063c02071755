-- Sums of multiples of rows, and what such a sum shows.
use Rattle.std.specs.Prelude.{◌≡◌, ◌⊎◌, ℤ, pos, ◌+ℤ◌, ◌*ℤ◌, int_lt, int_le, Bool, true, false, not, ◌&&◌, ◌||◌, ◌==◌, List, [], ◌∷◌, length}
use Rattle.std.specs.List.{list_all}
use Rattle.std.specs.Ordering.{int_eq}
use Rattle.ded_model.specs.declared.slot.Slot.{Slot}
use Rattle.ded_model.specs.declared.row.RowOp.{RowOp}
use Rattle.ded_model.specs.declared.row.RowOp.TheVariants.{Zero, AtMost, Below}
use Rattle.ded_model.specs.Coefs.{coef_at, put_all}
use Rattle.ded_model.specs.Constraint.{LinearConstraint}
use Rattle.ded_model.specs.Lines.{is_long}

-- ---- the sum of the rows, each times its number; further rows, or further numbers, don't count

-- the coefficients of the sum of the rows, each times its number; a coefficient may come to 0
abbrev pub weighed_coefs : List ℤ → List LinearConstraint → List (Slot × ℤ)
weighed_coefs [] rs = []
weighed_coefs (m ∷ ms) [] = []
weighed_coefs (m ∷ ms) (r ∷ rs) = put_all m r.coefs (weighed_coefs ms rs)

-- the constant of the sum of the rows, each times its number
abbrev pub weighed_constant : List ℤ → List LinearConstraint → ℤ
weighed_constant [] rs = pos 0
weighed_constant (m ∷ ms) [] = pos 0
weighed_constant (m ∷ ms) (r ∷ rs) = m *ℤ r.constant +ℤ weighed_constant ms rs

-- ---- signs

-- a row by `<` or `<=` has no negative number
abbrev pub fits : RowOp → ℤ → Bool
fits Zero m = true
fits AtMost m = int_le (pos 0) m
fits Below m = int_le (pos 0) m

-- no row by `<` or `<=` has a negative number
abbrev pub signs_fit : List ℤ → List LinearConstraint → Bool
signs_fit (m ∷ ms) (r ∷ rs) = fits r.op m && signs_fit ms rs
signs_fit _ _ = true

-- a positive number at a row by `<`
abbrev pub is_strict_at : RowOp → ℤ → Bool
is_strict_at Below m = int_lt (pos 0) m
is_strict_at _ m = false

-- a positive number at a row by `<` or `<=`
abbrev pub is_weak_at : RowOp → ℤ → Bool
is_weak_at Zero m = false
is_weak_at _ m = int_lt (pos 0) m

-- some row by `<` has a positive number
abbrev pub is_strict : List ℤ → List LinearConstraint → Bool
is_strict (m ∷ ms) (r ∷ rs) = is_strict_at r.op m || is_strict ms rs
is_strict _ _ = false

-- some row by `<` or `<=` has a positive number
abbrev pub is_weak : List ℤ → List LinearConstraint → Bool
is_weak (m ∷ ms) (r ∷ rs) = is_weak_at r.op m || is_weak ms rs
is_weak _ _ = false

-- ---- what is shown

-- a sum without coefficients, with this constant, doesn't stand to 0 as sums of these rows do: it is above 0, or 0 where a row by
-- `<` is in it, or not 0 where all rows in it are equalities
abbrev pub constant_refutes : Bool → Bool → ℤ → Bool
constant_refutes strict weak c = int_lt (pos 0) c || ((int_eq c (pos 0) && strict) || (not (int_eq c (pos 0)) && not weak))

-- as many numbers as rows, of the right signs, and a sum that has no coefficient and holds nowhere
abbrev pub refutes : List ℤ → List LinearConstraint → Bool
refutes ms rs = (length ms == length rs) && (signs_fit ms rs && (list_all (λ c. int_eq c.1 (pos 0)) (weighed_coefs ms rs)
    && constant_refutes (is_strict ms rs) (is_weak ms rs) (weighed_constant ms rs)))

-- ---- numbers that are too long, in a sum that is made row after row

-- z times m, or what comes of adding it to the sum
abbrev pub term_is_long : ℤ → ℤ → ℤ → Bool
term_is_long m z sum = is_long (m *ℤ z) || (is_long sum || is_long (m *ℤ z +ℤ sum))

-- of the numbers of the rows, each times the row's, a product or a sum on the way from this one is too long
abbrev pub column_is_long : (LinearConstraint → ℤ) → ℤ → List ℤ → List LinearConstraint → Bool
column_is_long number sum (m ∷ ms) (r ∷ rs) = term_is_long m (number r) sum || column_is_long number (m *ℤ number r +ℤ sum) ms rs
column_is_long number sum _ _ = false

-- that is so of the constants, or of the coefficients of a slot
abbrev pub IsLongSum : List ℤ → List LinearConstraint → Type 0
IsLongSum ms rs = (column_is_long (λ r. r.constant) (pos 0) ms rs ≡ true) ⊎ ((s : Slot) × (column_is_long (λ r. coef_at r.coefs s) (pos 0) ms rs ≡ true))

-- as many numbers as rows, of the right signs, and a number on the way to their sum that is too long
pub record IsLongWeighing (ms : List ℤ) (rs : List LinearConstraint) : Type 0 where
  pub count : length ms ≡ length rs
  pub signs : signs_fit ms rs ≡ true
  pub sum : IsLongSum ms rs
