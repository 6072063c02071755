-- Rows that an elimination adds.
use Rattle.std.specs.Prelude.{◌≡◌, ◌⊎◌, ℕ, ◌<◌, Bool, true, false, List, get_or}
use Rattle.std.specs.List.{AllByRecursion}
use Rattle.ded_model.specs.declared.slot.Slot.{Slot}
use Rattle.ded_model.specs.Constraint.{LinearConstraint}
use Rattle.ded_model.specs.Point.{same_slot, Point}
use Rattle.ded_model.specs.Row.{row_holds, row_mentions}
use Rattle.ded_model.specs.Cell.{conj_holds}
use Rattle.ded_model.specs.Lines.{In, IsSubset, row_lines, elim_at}
use Rattle.ded_theory.specs.Conjunctions.{conj_mentions, conj_lines}
use Rattle.ded_theory.specs.Eliminations.{SomeExtension}
use Rattle.ded_elimination.specs.LinearAtoms.{IsLinearAtom}

-- rows that eliminations work on
abbrev pub AreLinear : List LinearConstraint → Type 0
AreLinear rows = AllByRecursion IsLinearAtom rows

-- some extension of the point at the slot satisfies all the rows
abbrev pub HoldExtended : Slot → List LinearConstraint → Point → Type 0
HoldExtended s rows p = SomeExtension s (conj_holds row_holds rows) p

-- a row of some kind that eliminating the slot from the rows may leave
pub record IsRemaining (Kind : LinearConstraint → Type 0) (s : Slot) (rows : List LinearConstraint) (r : LinearConstraint) : Type 0 where
  pub normal : IsLinearAtom r
  pub kind : Kind r
  pub slots : (t : Slot) → row_mentions r t ≡ true → (same_slot t s ≡ false) × (conj_mentions row_mentions rows t ≡ true)
  pub lines : IsSubset (row_lines r) (elim_at s (conj_lines row_lines rows))
  pub follows : (p : Point) → 0 < p.den → HoldExtended s rows p → row_holds r p ≡ true

-- the new rows are old ones and ones of the kind that eliminating the slot from the rows may leave, and hold only where the old
-- ones do and what is asked is so; no extension satisfies the rows where nothing more can hold
pub record Adds (Kind : LinearConstraint → Type 0) (s : Slot) (rows : List LinearConstraint) (asked : Point → Type 0) (old : List LinearConstraint) (more : Bool) (new : List LinearConstraint) : Type 0 where
  pub holds : (p : Point) → 0 < p.den → more ≡ true → conj_holds row_holds new p ≡ true → (conj_holds row_holds old p ≡ true) × asked p
  pub remaining : (x : LinearConstraint) → In x new → In x old ⊎ IsRemaining Kind s rows x
  pub never : more ≡ false → (p : Point) → 0 < p.den → HoldExtended s rows p → ⊥

-- what is asked of each of the first i rows
abbrev pub OfFirst : (LinearConstraint → Point → Type 0) → List LinearConstraint → ℕ → Point → Type 0
OfFirst asked rows i p = (k : ℕ) → k < i → (d : LinearConstraint) → asked (get_or rows k d) p
