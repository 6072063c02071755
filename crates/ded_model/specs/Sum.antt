-- What a sum is seen as: of names in a formula, of slots in a goal.
use Rattle.std.specs.Prelude.{ℕ, max, ℤ, pos, ◌<ℤ◌, unsigned_abs, List, [], ◌∷◌}
use Rattle.ded_num.specs.Length.{IsWithin, IsShort}
use Rattle.ded_model.specs.declared.slot.Slot.{Slot}

-- a sum of names with coefficients and a constant, all of it over a common denominator
pub record Sum : Type 0 where
  pub parts : List (List ℕ × ℤ)
  pub constant : ℤ
  pub over : ℤ

-- a sum of slots
pub record SlotSum : Type 0 where
  pub coefs : List (Slot × ℤ)
  pub constant : ℤ
  pub over : ℤ

-- the denominator that `over` stands for. In every value of the program `over` is at least 1, and is the denominator;
-- other numbers are read as 1 at least, so that no law needs to exclude them.
unfoldable pub denominator : ℤ → ℕ
denominator over = max 1 (unsigned_abs over)

-- each coefficient has at most k digits
abbrev pub ArePartsWithin : ℕ → List (List ℕ × ℤ) → Type 0
ArePartsWithin k [] = Unit {0}
ArePartsWithin k (c ∷ cs) = IsWithin k c.1 × ArePartsWithin k cs

-- what a sum of a formula keeps: numbers of at most 112 digits, and a denominator of at least 1
pub record IsSum (t : Sum) : Type 0 where
  pub parts : ArePartsWithin 112 t.parts
  pub constant : IsWithin 112 t.constant
  pub over : IsWithin 112 t.over
  pub positive : pos 0 <ℤ t.over

-- what the constant c and the denominator m of a sum of a goal keep: at most 127 digits, and a denominator of at least 1
pub record IsSlotSum (c m : ℤ) : Type 0 where
  pub constant : IsShort c
  pub over : IsShort m
  pub positive : pos 0 <ℤ m
