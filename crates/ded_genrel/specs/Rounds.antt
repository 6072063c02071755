-- Boxes round conjunctions.
use Rattle.std.specs.Prelude.{◌≡◌, pos, Bool, true, List, [], ◌∷◌, map}
use Rattle.std.specs.List.{AllByRecursion}
use Rattle.ded_model.specs.declared.slot.Slot.{Slot}
use Rattle.ded_model.specs.declared.slot.Sort.TheVariants.{Rat}
use Rattle.ded_model.specs.declared.bound.Bound.{Bound}
use Rattle.ded_model.specs.declared.bound.Bound.TheVariants.{Excluded}
use Rattle.ded_model.specs.Point.{Point, IsPoint}
use Rattle.ded_model.specs.Cell.{conj_holds}
use Rattle.ded_model.specs.Bound.{Fraction, lower, upper, value_at}
use Rattle.ded_model.specs.Interval.{IsExactBound}
use Rattle.ded_model.specs.Lines.{Line}
use Rattle.ded_theory.specs.declared.answers.Span.{Span}
use Rattle.ded_theory.specs.declared.answers.Span.TheVariants.{Nothing, Exact, Around}
use Rattle.ded_theory.specs.Conjunctions.{IsWide}
use Rattle.ded_box.specs.Intervals.{is_within}
use Rattle.ded_box.specs.Boxes.{in_box}

-- all slots are rational
abbrev pub AreRational : List Slot → Type 0
AreRational ss = AllByRecursion (λ s. s.sort ≡ Rat) ss

-- the values at the slots
abbrev pub values_at : List Slot → Point → List Fraction
values_at ss p = map (λ s. value_at s p) ss

-- the values of each point that satisfies the atoms lie in the box
abbrev pub IsRound : {A : Type 0} → (A → Point → Bool) → List Slot → List A → List (Bound × Bound) → Type 0
IsRound holds ss c x = (p : Point) → IsPoint p → conj_holds holds c p ≡ true → in_box x (values_at ss p) ≡ true

-- the ends of the interval are the exact bounds, at the slot, of what passes the test
abbrev pub AreExact : (Point → Bool) → Slot → Bound × Bound → Type 0
AreExact test s i = IsExactBound test s lower i.0 × IsExactBound test s upper i.1

-- an interval for each slot, of the exact bounds where it has a value
abbrev pub AreSharp : (Point → Bool) → List Slot → List (Bound × Bound) → Type 0
AreSharp test [] [] = Unit {0}
AreSharp test [] (i ∷ is) = ⊥
AreSharp test (s ∷ ss) [] = ⊥
AreSharp test (s ∷ ss) (i ∷ is) = ((v : Fraction) → is_within i v ≡ true → AreExact test s i) × AreSharp test ss is

-- a box around the atoms, of their exact bounds where they aren't wide
pub record IsBoxOf {A : Type 0} (holds : A → Point → Bool) (mentions : A → Slot → Bool) (lines : A → List Line) (ss : List Slot) (c : List A) (x : List (Bound × Bound)) : Type 0 where
  pub round : IsRound holds ss c x
  pub sharp : (IsWide mentions lines c → ⊥) → AreSharp (conj_holds holds c) ss x

-- the interval of bounds, an empty one where nothing is between them
abbrev pub interval_of : Span → Bound × Bound
interval_of Nothing = (Excluded (record { num = pos 0; den = pos 1 }), Excluded (record { num = pos 0; den = pos 1 }))
interval_of (Exact l u) = (l, u)
interval_of (Around l u) = (l, u)
