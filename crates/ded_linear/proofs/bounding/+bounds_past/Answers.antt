use Rattle.std.proofs.Common.{ℕ, Err, arith, ap, sym, subst}
use Rattle.std.proofs.lemmas.Result.{IfOk-weaker}
use Rattle.ded_linear.specs.Told.{verdict_of}
use Rattle.ded_linear.proofs.Boxes.{some_other}
use Rattle.ded_linear.proofs.SlotLists.{taken_apart, others_same}
use Rattle.ded_linear.proofs.Steps.{RowsSpan, RowsVerdict, mentioned_rational, never_nowhere, IsStep, span_before, verdict_before}
use Rattle.ded_linear.proofs.Wide.{wide_now}
use Rattle.ded_linear.proofs.bounding.+bounds_past.Goals as goal
use Rattle.ded_linear.proofs.bounding.+bounds_past.Goals.{After-drop-left}
use Rattle.ded_linear.proofs.bounding.+bounds_past.Given.{Over}

pub returns-in-Ok-Never-clause-span : goal.returns-in-Ok-Never-clause-span
returns-in-Ok-Never-clause-span g t c =
    never_nowhere c.take_cheapest-other.result c.args.rows.now (mentioned_rational c.args.rows.now c.take_cheapest-other.result c.requires.normal (sym c.if-not-mention.ensures)) (rw c.in-Ok-Never.field-0-is at c.in-Ok-Never.ensures.holds)

pub returns-in-Ok-Never-clause-verdict : goal.returns-in-Ok-Never-clause-verdict
returns-in-Ok-Never-clause-verdict g t c = returns-in-Ok-Never-clause-span g t c

-- the elimination was a step
step : (g : Over) (t : ℕ) (c : After-drop-left g t) → IsStep c.args.slot c.take_cheapest-other.result c.args.rows.now c.deref.result.now
step g t c =
    let m = sym c.if-not-mention.ensures in
    subst (IsStep c.args.slot c.take_cheapest-other.result c.args.rows.now) (sym c.deref.ensures.value) (record {
      sort = mentioned_rational c.args.rows.now c.take_cheapest-other.result c.requires.normal m;
      apart = taken_apart c.args.slot c.args.others.items c.take_cheapest-other.result c.take_cheapest-other.new.slots.items c.args.rows.now c.requires.others c.take_cheapest-other.ensures;
      mentioned = m;
      holds = rw c.in-Ok-Conj.field-0-is at c.in-Ok-Conj.ensures.holds;
      slots = rw c.in-Ok-Conj.field-0-is at c.in-Ok-Conj.ensures.slots;
      lines = rw c.in-Ok-Conj.field-0-is at c.in-Ok-Conj.ensures.lines;
    })

pub returns-in-Ok-Conj-clause-span : goal.returns-in-Ok-Conj-clause-span
returns-in-Ok-Conj-clause-span g t c =
    IfOk-weaker _ (RowsSpan c.deref.result.now c.args.slot) _ (span_before c.args.slot c.take_cheapest-other.result c.args.rows.now c.deref.result.now (step g t c)) c.bounds_past-in-Ok-Conj.ensures.span

pub returns-in-Ok-Conj-clause-verdict : goal.returns-in-Ok-Conj-clause-verdict
returns-in-Ok-Conj-clause-verdict g t c =
    IfOk-weaker _ (λ s. RowsVerdict c.deref.result.now (verdict_of s)) _ (λ s h. verdict_before c.args.slot c.take_cheapest-other.result c.args.rows.now c.deref.result.now (step g t c) (verdict_of s) h)
    c.bounds_past-in-Ok-Conj.ensures.verdict

pub bounds_past-requires : goal.bounds_past-requires
bounds_past-requires g t c κs within =
    let others = others_same c.args.slot c.args.others.items c.take_cheapest-other.result c.take_cheapest-other.new.slots.items c.args.rows.now c.requires.others c.take_cheapest-other.ensures (sym c.if-not-mention.ensures) in
    (omega (arith, c.take_cheapest-other.ensures.shorter), (within, (c.requires.normal, (c.requires.rows, others))))

pub returns-in-Err-Wide-clause-exact : goal.returns-in-Err-Wide-clause-exact
returns-in-Err-Wide-clause-exact g t c = λ d. absurd (c.in-Err-Wide.ensures.never_wide d (ap Err c.in-Err-Wide.field-0-is))

pub returns-in-Err-Wide-clause-span : goal.returns-in-Err-Wide-clause-span
returns-in-Err-Wide-clause-span g t c =
    let m = sym c.if-not-mention.ensures in
    (wide_now c.take_cheapest-other.result c.args.rows.now (mentioned_rational c.args.rows.now c.take_cheapest-other.result c.requires.normal m) m (c.in-Err-Wide.ensures.wide (ap Err c.in-Err-Wide.field-0-is)), tt, tt)

pub returns-in-Err-Wide-clause-verdict : goal.returns-in-Err-Wide-clause-verdict
returns-in-Err-Wide-clause-verdict g t c = (returns-in-Err-Wide-clause-span g t c).0

pub take_cheapest-other-requires : goal.take_cheapest-other-requires
take_cheapest-other-requires g t c = some_other c.args.slot c.args.others.items c.args.rows.now c.requires.normal c.requires.others (sym c.if-are_single.ensures)
