-- Equalities that mention a slot, and what they leave of other rows.
use Rattle.std.specs.Prelude.{◌≡◌, ◌≢◌, ◌⊎◌, ℕ, ◌<◌, ◌≤◌, ℤ, pos, int_lt, unsigned_abs, Bool, true, false, List, length, get_or, if◌then◌else◌}
use Rattle.std.specs.Ordering.{int_eq}
use Rattle.ded_model.specs.declared.slot.Slot.{Slot}
use Rattle.ded_model.specs.declared.row.RowOp.{RowOp}
use Rattle.ded_model.specs.declared.row.RowOp.TheVariants.{Zero, AtMost, Below}
use Rattle.ded_model.specs.Constraint.{LinearConstraint}
use Rattle.ded_model.specs.Point.{Point}
use Rattle.ded_model.specs.Coefs.{coef_at}
use Rattle.ded_model.specs.Row.{row_holds}
use Rattle.ded_model.specs.Lines.{lines_clash}
use Rattle.ded_row.specs.Mixing.{mix_of}

-- the magnitude of a coefficient under the op of an equality; 0 under another op
abbrev pub equal_size_with : RowOp → ℤ → ℕ
equal_size_with Zero a = unsigned_abs a
equal_size_with AtMost a = 0
equal_size_with Below a = 0

-- the magnitude of the slot's coefficient in an equality; 0 in another row
abbrev pub equal_size : Slot → LinearConstraint → ℕ
equal_size s r = equal_size_with r.op (coef_at r.coefs s)

-- no equality among the first i rows mentions the slot
abbrev pub NoEquality : Slot → List LinearConstraint → ℕ → Type 0
NoEquality s rows i = (k : ℕ) → k < i → (d : LinearConstraint) → equal_size s (get_or rows k d) ≡ 0

-- each of the first i rows that is an equality and mentions the slot does so with a magnitude of at least n
abbrev pub AreAtLeast : Slot → List LinearConstraint → ℕ → ℕ → Type 0
AreAtLeast s rows n i = (k : ℕ) → k < i → (d : LinearConstraint) → equal_size s (get_or rows k d) ≢ 0 → n ≤ equal_size s (get_or rows k d)

-- the row at the place is an equality that mentions the slot with the magnitude n
pub record IsEqualityAt (s : Slot) (rows : List LinearConstraint) (n i : ℕ) : Type 0 where
  pub inside : i < length rows
  pub mentions : n ≢ 0
  pub size : (d : LinearConstraint) → equal_size s (get_or rows i d) ≡ n

-- the row at the place is an equality that mentions the slot, with the least magnitude of all
abbrev pub IsLeastEquality : Slot → List LinearConstraint → ℕ → Type 0
IsLeastEquality s rows i = (n : ℕ) × IsEqualityAt s rows n i × AreAtLeast s rows n (length rows)

-- what the equality leaves of a row, without the slot: the row itself where it doesn't mention the slot
abbrev pub settled_row : Slot → LinearConstraint → LinearConstraint → LinearConstraint
settled_row s e r = if int_eq (coef_at r.coefs s) (pos 0) then r else (if int_lt (pos 0) (coef_at r.coefs s) then mix_of s r e else mix_of s e r)

-- the row is the equality itself, or what the equality leaves of it holds
abbrev pub SettledHolds : Slot → LinearConstraint → LinearConstraint → Point → Type 0
SettledHolds s e r p = (r ≡ e) ⊎ (row_holds (settled_row s e r) p ≡ true)

-- whether a number of what the equality leaves of a row, or a product on the way to it, is too long
abbrev pub settled_clash : Slot → LinearConstraint → LinearConstraint → Bool
settled_clash s e r = if int_eq (coef_at r.coefs s) (pos 0) then false else (if int_lt (pos 0) (coef_at r.coefs s) then lines_clash s r e else lines_clash s e r)
