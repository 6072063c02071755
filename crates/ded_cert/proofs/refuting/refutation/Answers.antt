use Rattle.std.proofs.Common.{rules, ◌≡◌, ◌∙◌, ℕ, ◌+◌, ◌^◌, ◌<◌, true, false, List, length, Err, sym, ap, subst}
use Rattle.std.specs.Prelude.{pos, ◌<ℤ◌, ◌≤ℤ◌}
use Rattle.std.specs.List.{AllByRecursion}
use Rattle.std.proofs.lemmas.Result.{err_from_is_err_and}
use Rattle.ded_model.specs.declared.memory.Refused.TheVariants.{Wide}
use Rattle.ded_model.specs.declared.slot.Slot.{Slot}
use Rattle.ded_model.specs.declared.slot.Sort.TheVariants.{Rat}
use Rattle.ded_model.specs.Constraint.{LinearConstraint}
use Rattle.ded_model.specs.Cell.{conj_holds, HoldsSomewhere}
use Rattle.ded_model.specs.Coefs.{coef_at}
use Rattle.ded_model.specs.Lines.{In}
use Rattle.ded_model.specs.Point.{AreDistinctSlots}
use Rattle.ded_model.specs.Row.{row_holds}
use Rattle.ded_elimination.specs.LinearAtoms.{IsLinearAtom}
use Rattle.ded_weighing.specs.Columns.{lent, HasAllSlots}
use Rattle.ded_weighing.specs.Gathered.{AreOf}
use Rattle.ded_weighing.specs.Weighing.{refutes}
use Rattle.ded_cert.specs.Certified.{magnitudes}
use Rattle.ded_cert.specs.Tracing.{tag, multipliers, traces, AreBelow, is_weak_row, is_refuting}
use Rattle.ded_cert.specs.Projecting.{IsProjected, GetLong}
use Rattle.ded_cert.proofs.Chosen.{lent_length}
use Rattle.ded_cert.proofs.Farkas.{Search, search_finds, search_somewhere, search_wide, search_many, found_positive, found_refutes, found_small, found_wide}
use Rattle.ded_cert.proofs.LinearTraces.{traces_linear, traces_weak}
use Rattle.ded_cert.proofs.Widths.{all_rational}
use Rattle.ded_cert.proofs.refuting.refutation.Goals as goal

pub without_slots-requires-clause-normal : goal.without_slots-requires-clause-normal
without_slots-requires-clause-normal c = subst (AllByRecursion IsLinearAtom) (sym c.in_ok-traces.ensures) (traces_linear c.in-Some.first (c.in-Some.first + 2) (lent c.args.rows.now) c.requires.normal)

pub without_slots-requires-clause-weak : goal.without_slots-requires-clause-weak
without_slots-requires-clause-weak c = subst (AllByRecursion (λ r. is_weak_row r ≡ true)) (sym c.in_ok-traces.ensures) (traces_weak c.in-Some.first (c.in-Some.first + 2) (lent c.args.rows.now))

pub without_slots-requires-clause-somewhere : goal.without_slots-requires-clause-somewhere
without_slots-requires-clause-somewhere c = subst (λ rs. HoldsSomewhere (conj_holds row_holds rs)) (sym c.in_ok-traces.ensures) (search_somewhere c.in-Some.first (lent c.args.rows.now) c.in-Some.ensures.0)

pub without_slots-requires-clause-rational : goal.without_slots-requires-clause-rational
without_slots-requires-clause-rational c = subst (AllByRecursion (λ s. s.sort ≡ Rat)) (sym c.deref.ensures.value) (all_rational (lent c.args.rows.now) c.in_ok-slots.slots.items c.requires.normal c.in_ok-slots.ensures.only)

pub returns-in_err-left-clause-wide : goal.returns-in_err-left-clause-wide
returns-in_err-left-clause-wide c = λ e.
    let p = err_from_is_err_and c.from_residual-in_err-left.result c.from_residual-in_err-left.ensures.1 in
    let is : c.in_err-left.field-0.0 ≡ Wide = cc (p.1, p.2, e) in
    search_wide c.in-Some.first (lent c.args.rows.now) c.in_ok-slots.slots.items c.in-Some.ensures.0 c.requires.normal c.in_ok-slots.ensures.only c.in_ok-slots.ensures.distinct
    (subst (λ ss. GetLong (traces c.in-Some.first (c.in-Some.first + 2) (lent c.args.rows.now)) (length ss)) c.deref.ensures.value
    (subst (λ rs. GetLong rs (length c.deref.result.now)) c.in_ok-traces.ensures (c.in_err-left.ensures.wide (ap Err is))))

-- what is known of the search
known : (b : ℕ) (rs : List LinearConstraint) (slots done : List Slot) (traced left : List LinearConstraint) → AreBelow b rs → AllByRecursion IsLinearAtom rs → HasAllSlots slots rs → AreOf rs slots → AreDistinctSlots slots
    → done ≡ slots → traced ≡ traces b (b + 2) rs → IsProjected traced done left → AllByRecursion IsLinearAtom left → AllByRecursion (λ r. is_weak_row r ≡ true) left → Search b rs slots left
known b rs slots done traced left a l h o d e f j n w = record {
  below = a;
  linear = l;
  all = h;
  only = o;
  distinct = d;
  projected = subst (λ ss. IsProjected (traces b (b + 2) rs) ss left) e (subst (λ ts. IsProjected ts done left) f j);
  normal = n;
  weak = w;
}

pub returns-in_default-find_refuting-clause-wide : goal.returns-in_default-find_refuting-clause-wide
returns-in_default-find_refuting-clause-wide c = λ e.
    absurd (search_finds c.in-Some.first (lent c.args.rows.now) c.in_ok-slots.slots.items c.in_ok-left.left.items
    (known c.in-Some.first (lent c.args.rows.now) c.in_ok-slots.slots.items c.deref.result.now c.in_ok-traces.field-0.items c.in_ok-left.left.items c.in-Some.ensures.0 c.requires.normal c.in_ok-slots.ensures.all c.in_ok-slots.ensures.only c.in_ok-slots.ensures.distinct
    c.deref.ensures.value c.in_ok-traces.ensures c.in_ok-left.ensures.projected c.in_ok-left.ensures.normal c.in_ok-left.ensures.weak)
    (subst (AllByRecursion (λ r. is_refuting c.in-Some.first r ≡ false)) c.deref-2.ensures.value c.in_default-find_refuting.ensures) c.requires.nowhere)

pub returns-then-at-from-clause-wide : goal.returns-then-at-from-clause-wide
returns-then-at-from-clause-wide c = λ e.
    found_wide c.in-Some.first (lent c.args.rows.now) c.in_ok-slots.slots.items c.in_ok-left.left.items
    (known c.in-Some.first (lent c.args.rows.now) c.in_ok-slots.slots.items c.deref.result.now c.in_ok-traces.field-0.items c.in_ok-left.left.items c.in-Some.ensures.0 c.requires.normal c.in_ok-slots.ensures.all c.in_ok-slots.ensures.only c.in_ok-slots.ensures.distinct
    c.deref.ensures.value c.in_ok-traces.ensures c.in_ok-left.ensures.projected c.in_ok-left.ensures.normal c.in_ok-left.ensures.weak) c.in-Some-find_refuting.row.now (subst (In c.in-Some-find_refuting.row.now) c.deref-2.ensures.value c.in-Some-find_refuting.ensures.0)
    (let same : c.at.result ≡ coef_at c.in-Some-find_refuting.row.now.coefs (tag c.in-Some.first) = search rules in let l : pos (2 ^ 63) ≤ℤ c.at.result = search rules in subst (λ z. pos (2 ^ 63) ≤ℤ z) same l)

pub multipliers_of-requires-clause-positive : goal.multipliers_of-requires-clause-positive
multipliers_of-requires-clause-positive c =
    found_positive c.in-Some.first (lent c.args.rows.now) c.in_ok-slots.slots.items c.in_ok-left.left.items
    (known c.in-Some.first (lent c.args.rows.now) c.in_ok-slots.slots.items c.deref.result.now c.in_ok-traces.field-0.items c.in_ok-left.left.items c.in-Some.ensures.0 c.requires.normal c.in_ok-slots.ensures.all c.in_ok-slots.ensures.only c.in_ok-slots.ensures.distinct
    c.deref.ensures.value c.in_ok-traces.ensures c.in_ok-left.ensures.projected c.in_ok-left.ensures.normal c.in_ok-left.ensures.weak) c.in-Some-find_refuting.row.now (subst (In c.in-Some-find_refuting.row.now) c.deref-2.ensures.value c.in-Some-find_refuting.ensures.0)

pub returns-clause-refutes : goal.returns-clause-refutes
returns-clause-refutes c =
    let count : c.in_ok-multipliers_of.field-0 ≡ multipliers c.in-Some-find_refuting.row.now (c.in-Some.first + 2) (length (lent c.args.rows.now)) = c.in_ok-multipliers_of.ensures ∙ ap (multipliers c.in-Some-find_refuting.row.now (c.in-Some.first + 2)) (sym (lent_length c.args.rows.now)) in
    subst (λ ms. refutes ms (lent c.args.rows.now) ≡ true) (sym count)
    (found_refutes c.in-Some.first (lent c.args.rows.now) c.in_ok-slots.slots.items c.in_ok-left.left.items
    (known c.in-Some.first (lent c.args.rows.now) c.in_ok-slots.slots.items c.deref.result.now c.in_ok-traces.field-0.items c.in_ok-left.left.items c.in-Some.ensures.0 c.requires.normal c.in_ok-slots.ensures.all c.in_ok-slots.ensures.only c.in_ok-slots.ensures.distinct
    c.deref.ensures.value c.in_ok-traces.ensures c.in_ok-left.ensures.projected c.in_ok-left.ensures.normal c.in_ok-left.ensures.weak) c.in-Some-find_refuting.row.now (subst (In c.in-Some-find_refuting.row.now) c.deref-2.ensures.value c.in-Some-find_refuting.ensures.0)
    c.in-Some-find_refuting.ensures.1)

pub returns-clause-small : goal.returns-clause-small
returns-clause-small c =
    let count : c.in_ok-multipliers_of.field-0 ≡ multipliers c.in-Some-find_refuting.row.now (c.in-Some.first + 2) (length (lent c.args.rows.now)) = c.in_ok-multipliers_of.ensures ∙ ap (multipliers c.in-Some-find_refuting.row.now (c.in-Some.first + 2)) (sym (lent_length c.args.rows.now)) in
    let same : c.at.result ≡ coef_at c.in-Some-find_refuting.row.now.coefs (tag c.in-Some.first) = search rules in
    let l : c.at.result <ℤ pos (2 ^ 63) = search rules in
    subst (λ ms. magnitudes ms < 2 ^ 63) (sym count)
    (found_small c.in-Some.first (lent c.args.rows.now) c.in_ok-slots.slots.items c.in_ok-left.left.items
    (known c.in-Some.first (lent c.args.rows.now) c.in_ok-slots.slots.items c.deref.result.now c.in_ok-traces.field-0.items c.in_ok-left.left.items c.in-Some.ensures.0 c.requires.normal c.in_ok-slots.ensures.all c.in_ok-slots.ensures.only c.in_ok-slots.ensures.distinct
    c.deref.ensures.value c.in_ok-traces.ensures c.in_ok-left.ensures.projected c.in_ok-left.ensures.normal c.in_ok-left.ensures.weak) c.in-Some-find_refuting.row.now (subst (In c.in-Some-find_refuting.row.now) c.deref-2.ensures.value c.in-Some-find_refuting.ensures.0)
    (subst (λ z. z <ℤ pos (2 ^ 63)) same l))

pub returns-then-len-gt-MOST_SLOTS-clause-wide : goal.returns-then-len-gt-MOST_SLOTS-clause-wide
returns-then-len-gt-MOST_SLOTS-clause-wide c = λ e.
    let many : 5 < length c.in_ok-slots.slots.items = search rules in
    search_many c.in-Some.first (lent c.args.rows.now) c.in_ok-slots.slots.items c.in-Some.ensures.0 c.requires.normal c.in_ok-slots.ensures.only c.in_ok-slots.ensures.distinct many
