-- What is known of the rows that an elimination leaves is known of the rows before.
use Rattle.std.proofs.Common.{◌≡◌, Bool, true, false, List, [], ◌∷◌, inl, inr, refl, sym, true≢false}
use Rattle.std.specs.Prelude.{◌↔◌, IsTrue}
use Rattle.std.specs.List.{AllByRecursion}
use Rattle.ded_model.specs.declared.slot.Slot.{Slot}
use Rattle.ded_model.specs.declared.slot.Sort.TheVariants.{Rat}
use Rattle.ded_model.specs.Constraint.{LinearConstraint}
use Rattle.ded_model.specs.Point.{Point, IsPoint, same_slot}
use Rattle.ded_model.specs.Row.{row_holds, row_mentions}
use Rattle.ded_model.specs.Cell.{conj_holds, HoldsNowhere}
use Rattle.ded_model.specs.Bound.{lower, upper}
use Rattle.ded_model.specs.Lines.{IsSubset, row_lines, elim_at}
use Rattle.ded_model.proofs.Members.{or_split}
use Rattle.ded_theory.specs.declared.answers.Span.{Span}
use Rattle.ded_theory.specs.declared.answers.Span.TheVariants.{Nothing, Exact, Around}
use Rattle.ded_theory.specs.declared.answers.Verdict.{Verdict}
use Rattle.ded_theory.specs.declared.answers.Verdict.TheVariants.{Empty, Inhabited, Unknown}
use Rattle.ded_theory.specs.Conjunctions.{conj_mentions, conj_lines}
use Rattle.ded_theory.specs.Eliminations.{SomeExtension}
use Rattle.ded_theory.specs.Verdicts.{IsSpan, IsVerdict}
use Rattle.ded_elimination.specs.LinearAtoms.{IsLinearAtom}
use Rattle.ded_linear.specs.Laws.{rational_slots}
use Rattle.ded_linear.proofs.Shadows.{IsShadow, itself, shadow, exact_before, bound_before, nowhere_before}
use Rattle.ded_linear.proofs.Wide.{RowsWide, wide_later}

-- a slot that the rows mention is rational
pub mentioned_rational : (rows : List LinearConstraint) (t : Slot) → AllByRecursion IsLinearAtom rows → conj_mentions row_mentions rows t ≡ true → t.sort ≡ Rat
mentioned_rational [] t h m = absurd (true≢false (sym m))
mentioned_rational (r ∷ rows) t h m = elim (or_split (row_mentions r t) _ m) [ inl e ↦ rational_slots r t h.0 e | inr e ↦ mentioned_rational rows t h.1 e ]

abbrev pub RowsSpan : List LinearConstraint → Slot → Span → Type 0
RowsSpan rows s span = IsSpan row_holds row_mentions row_lines rows s span

abbrev pub RowsVerdict : List LinearConstraint → Verdict → Type 0
RowsVerdict rows v = IsVerdict row_holds row_mentions row_lines rows v

-- the rows and what the elimination of a slot that they mention leaves of them, while another slot is looked at
pub record IsStep (s t : Slot) (rows out : List LinearConstraint) : Type 0 where
  pub sort : t.sort ≡ Rat
  pub apart : same_slot s t ≡ false
  pub mentioned : conj_mentions row_mentions rows t ≡ true
  pub holds : (p : Point) → IsPoint p → IsTrue (conj_holds row_holds out p) ↔ SomeExtension t (conj_holds row_holds rows) p
  pub slots : (u : Slot) → conj_mentions row_mentions out u ≡ true → (same_slot u t ≡ false) × (conj_mentions row_mentions rows u ≡ true)
  pub lines : IsSubset (conj_lines row_lines out) (elim_at t (conj_lines row_lines rows))

module _ (s t : Slot) (rows out : List LinearConstraint) (is : IsStep s t rows out) where
  step_shadow : IsShadow (conj_holds row_holds out) (conj_holds row_holds rows) s
  step_shadow = shadow s t (conj_holds row_holds out) rows is.sort is.apart is.holds

  step_wide : RowsWide out → RowsWide rows
  step_wide w = wide_later t rows out is.sort is.mentioned is.slots is.lines w

  pub span_before : (span : Span) → RowsSpan out s span → RowsSpan rows s span
  span_before Nothing h = nowhere_before (conj_holds row_holds out) (conj_holds row_holds rows) s step_shadow h
  span_before (Exact l u) h = (
    exact_before (conj_holds row_holds out) (conj_holds row_holds rows) s step_shadow lower l h.0,
    exact_before (conj_holds row_holds out) (conj_holds row_holds rows) s step_shadow upper u h.1,
  )
  span_before (Around l u) h = (
    step_wide h.0,
    bound_before (conj_holds row_holds out) (conj_holds row_holds rows) s step_shadow lower l h.1,
    bound_before (conj_holds row_holds out) (conj_holds row_holds rows) s step_shadow upper u h.2,
  )

  pub verdict_before : (v : Verdict) → RowsVerdict out v → RowsVerdict rows v
  verdict_before Empty h = nowhere_before (conj_holds row_holds out) (conj_holds row_holds rows) s step_shadow h
  verdict_before Inhabited h = let q = step_shadow.from h.0 h.1 h.2 in (q.0, q.1, q.2)
  verdict_before Unknown h = step_wide h

-- nothing satisfies the rows where no point has an extension that does
pub never_nowhere : (t : Slot) (rows : List LinearConstraint) → t.sort ≡ Rat → ((p : Point) → IsPoint p → IsTrue false ↔ SomeExtension t (conj_holds row_holds rows) p) → HoldsNowhere (conj_holds row_holds rows)
never_nowhere t rows e h p i = go (conj_holds row_holds rows p) refl
  where
    go : (b : Bool) → conj_holds row_holds rows p ≡ b → conj_holds row_holds rows p ≡ false
    go false f = f
    go true f = absurd (true≢false (sym ((h p i).1 (itself t rows p e f))))
