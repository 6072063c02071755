-- Answers on whether something satisfies a conjunction, and between which bounds.
use Rattle.std.specs.Prelude.{Bool, List}
use Rattle.ded_model.specs.declared.slot.Slot.{Slot}
use Rattle.ded_model.specs.declared.bound.Bound.{Bound}
use Rattle.ded_model.specs.declared.bound.Bound.TheVariants.{Infinite, Excluded, Included}
use Rattle.ded_model.specs.Point.{Point}
use Rattle.ded_model.specs.Cell.{conj_holds, HoldsSomewhere, HoldsNowhere}
use Rattle.ded_model.specs.Bound.{End, lower, upper, NoneOutside, SomeAt}
use Rattle.ded_model.specs.Interval.{IsExactBound}
use Rattle.ded_model.specs.Lines.{Line}
use Rattle.ded_theory.specs.declared.answers.Verdict.{Verdict}
use Rattle.ded_theory.specs.declared.answers.Verdict.TheVariants.{Empty, Inhabited, Unknown}
use Rattle.ded_theory.specs.declared.answers.Span.{Span}
use Rattle.ded_theory.specs.declared.answers.Span.TheVariants.{Nothing, Exact, Around}
use Rattle.ded_theory.specs.Conjunctions.{IsWide}

-- `Empty` and `Inhabited` are so, and `Unknown` comes only of wide atoms
abbrev pub IsVerdict : {A : Type 0} → (A → Point → Bool) → (A → Slot → Bool) → (A → List Line) → List A → Verdict → Type 0
IsVerdict holds mentions lines atoms Empty = HoldsNowhere (conj_holds holds atoms)
IsVerdict holds mentions lines atoms Inhabited = HoldsSomewhere (conj_holds holds atoms)
IsVerdict holds mentions lines atoms Unknown = IsWide mentions lines atoms

-- the value at the slot of each point that passes the test is within the bound, at that end
abbrev pub IsBound : (Point → Bool) → Slot → End → Bound → Type 0
IsBound test s e Infinite = Unit {0}
IsBound test s e (Excluded f) = NoneOutside test s e f × (SomeAt test s f → ⊥)
IsBound test s e (Included f) = NoneOutside test s e f

-- `Nothing` where no point satisfies the atoms, `Exact` bounds of the slot are so, and bounds that are only sure come only of
-- wide atoms
abbrev pub IsSpan : {A : Type 0} → (A → Point → Bool) → (A → Slot → Bool) → (A → List Line) → List A → Slot → Span → Type 0
IsSpan holds mentions lines atoms s Nothing = HoldsNowhere (conj_holds holds atoms)
IsSpan holds mentions lines atoms s (Exact l u) = IsExactBound (conj_holds holds atoms) s lower l × IsExactBound (conj_holds holds atoms) s upper u
IsSpan holds mentions lines atoms s (Around l u) = IsWide mentions lines atoms × IsBound (conj_holds holds atoms) s lower l × IsBound (conj_holds holds atoms) s upper u

-- the bounds are only sure
abbrev pub IsAround : Span → Type 0
IsAround Nothing = ⊥
IsAround (Exact l u) = ⊥
IsAround (Around l u) = Unit {0}

-- ---- of two parts

-- the verdict on a conjunction of two parts
abbrev pub joined_verdict : Verdict → Verdict → Verdict
joined_verdict Empty v = Empty
joined_verdict Inhabited v = v
joined_verdict Unknown Empty = Empty
joined_verdict Unknown Inhabited = Unknown
joined_verdict Unknown Unknown = Unknown

-- the bounds of a slot, from those in the part that mentions it and the verdict on the other
abbrev pub joined_span : Span → Verdict → Span
joined_span span Empty = Nothing
joined_span span Inhabited = span
joined_span Nothing Unknown = Nothing
joined_span (Exact l u) Unknown = Around l u
joined_span (Around l u) Unknown = Around l u
