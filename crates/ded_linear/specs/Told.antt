-- What the bounds of a slot tell of the rows.
use Rattle.ded_theory.specs.declared.answers.Verdict.{Verdict}
use Rattle.ded_theory.specs.declared.answers.Verdict.TheVariants.{Empty, Inhabited, Unknown}
use Rattle.ded_theory.specs.declared.answers.Span.{Span}
use Rattle.ded_theory.specs.declared.answers.Span.TheVariants.{Nothing, Exact, Around}

-- exact bounds are those of some point
abbrev pub verdict_of : Span → Verdict
verdict_of Nothing = Empty
verdict_of (Exact l u) = Inhabited
verdict_of (Around l u) = Unknown
