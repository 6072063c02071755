-- Tuples over two rational slots, with any values of all others.
use Rattle.std.specs.Prelude.{◌≡◌, ◌↔◌, ◌||◌, Bool, true, false, IsTrue, ℤ, List, [], ◌∷◌, ◌++◌, if◌then◌else◌}
use Rattle.std.specs.List.{AllByRecursion}
use Rattle.ded_model.specs.declared.slot.Slot.{Slot}
use Rattle.ded_model.specs.Constraint.{LinearConstraint}
use Rattle.ded_model.specs.Point.{Point, IsPoint, IsSameAt, slot, same_slot, stands_in}
use Rattle.ded_model.specs.Row.{row_holds, row_mentions}
use Rattle.ded_model.specs.Cell.{conj_holds, HoldsSomewhere, HoldsNowhere}
use Rattle.ded_model.specs.Lines.{row_lines}
use Rattle.ded_theory.specs.declared.answers.Eliminated.{Eliminated}
use Rattle.ded_theory.specs.Conjunctions.{conj_mentions, IsWide}
use Rattle.ded_theory.specs.Eliminations.{eliminated_atoms, eliminated_holds}
use Rattle.ded_elimination.specs.LinearAtoms.{IsLinearAtom}
use Rattle.ded_polygon.specs.Closures.{MentionOnly}
use Rattle.ded_shapes.specs.declared.projecting.Projection.{Projection}
use Rattle.ded_shapes.specs.declared.projecting.Projection.TheVariants.{Nowhere, Rows}

-- ---- two slots

-- some point with the same values at x and y passes the test
abbrev pub SomeOver : Slot → Slot → (Point → Bool) → Point → Type 0
SomeOver x y test p = (q : Point) × IsPoint q × IsSameAt p q (slot x) × IsSameAt p q (slot y) × IsTrue (test q)

-- the rows mention x and y alone, and hold at a point exactly where some point with the same values there passes the test
pub record AreProjected (x y : Slot) (test : Point → Bool) (rows : List LinearConstraint) : Type 0 where
  pub holds : (p : Point) → IsPoint p → IsTrue (conj_holds row_holds rows p) ↔ SomeOver x y test p
  pub only : MentionOnly x y rows

-- the test passes nowhere; or it passes somewhere, and these are the rows
abbrev pub IsProjection : Slot → Slot → (Point → Bool) → Projection → Type 0
IsProjection x y test Nowhere = HoldsNowhere test
IsProjection x y test (Rows rows) = HoldsSomewhere test × AreProjected x y test rows.items

-- ---- some slots taken away

-- some point with the same values at all slots but these passes the test
abbrev pub SomeBut : List Slot → (Point → Bool) → Point → Type 0
SomeBut ss test p = (q : Point) × IsPoint q × ((s : Slot) → stands_in ss s ≡ false → IsSameAt p q (slot s)) × IsTrue (test q)

-- what is left of rows without some slots: it holds where some point that differs at these slots alone satisfies the rows, is normal,
-- doesn't mention the slots and mentions no new one, and is wide only where the rows are
pub record IsWithout (ss : List Slot) (rows : List LinearConstraint) (e : Eliminated LinearConstraint) : Type 0 where
  pub holds : (p : Point) → IsPoint p → IsTrue (eliminated_holds row_holds e p) ↔ SomeBut ss (conj_holds row_holds rows) p
  pub normal : AllByRecursion IsLinearAtom (eliminated_atoms e)
  pub slots : (s : Slot) → conj_mentions row_mentions (eliminated_atoms e) s ≡ true → (stands_in ss s ≡ false) × (conj_mentions row_mentions rows s ≡ true)
  pub wide : IsWide row_mentions row_lines (eliminated_atoms e) → IsWide row_mentions row_lines rows

-- the slot is x or y, or stands in the list
abbrev pub is_among : Slot → Slot → List Slot → Slot → Bool
is_among x y ss s = (same_slot s x || same_slot s y) || stands_in ss s

-- the slot added to the list, unless it is x or y, or stands there
abbrev pub with_other : Slot → Slot → List Slot → Slot → List Slot
with_other x y ss s = if is_among x y ss s then ss else ss ++ s ∷ []

-- the slots of the coefficients added
abbrev pub with_others : Slot → Slot → List Slot → List (Slot × ℤ) → List Slot
with_others x y ss [] = ss
with_others x y ss (c ∷ cs) = with_others x y (with_other x y ss c.0) cs

-- the slots of the rows added
abbrev pub with_all_others : Slot → Slot → List Slot → List LinearConstraint → List Slot
with_all_others x y ss [] = ss
with_all_others x y ss (r ∷ rows) = with_all_others x y (with_others x y ss r.coefs) rows
