-- Verdicts on rows, and bounds of slots, that are so where they say anything.
use Rattle.std.specs.Prelude.{List}
use Rattle.ded_model.specs.declared.slot.Slot.{Slot}
use Rattle.ded_model.specs.Bound.{lower, upper}
use Rattle.ded_model.specs.Constraint.{LinearConstraint}
use Rattle.ded_model.specs.Cell.{conj_holds, HoldsSomewhere, HoldsNowhere}
use Rattle.ded_model.specs.Interval.{IsExactBound}
use Rattle.ded_model.specs.Row.{row_holds}
use Rattle.ded_theory.specs.declared.answers.Span.{Span}
use Rattle.ded_theory.specs.declared.answers.Span.TheVariants.{Nothing, Exact, Around}
use Rattle.ded_theory.specs.declared.answers.Verdict.{Verdict}
use Rattle.ded_theory.specs.declared.answers.Verdict.TheVariants.{Empty, Inhabited, Unknown}
use Rattle.ded_theory.specs.Verdicts.{IsBound}

-- `Empty` and `Inhabited` are so
abbrev pub IsSure : List LinearConstraint → Verdict → Type 0
IsSure rs Empty = HoldsNowhere (conj_holds row_holds rs)
IsSure rs Inhabited = HoldsSomewhere (conj_holds row_holds rs)
IsSure rs Unknown = Unit {0}

-- `Nothing` and `Exact` bounds of the slot are so, and others let all values through
abbrev pub IsSureSpan : List LinearConstraint → Slot → Span → Type 0
IsSureSpan rs s Nothing = HoldsNowhere (conj_holds row_holds rs)
IsSureSpan rs s (Exact l u) = IsExactBound (conj_holds row_holds rs) s lower l × IsExactBound (conj_holds row_holds rs) s upper u
IsSureSpan rs s (Around l u) = IsBound (conj_holds row_holds rs) s lower l × IsBound (conj_holds row_holds rs) s upper u
