use Rattle.std.proofs.Common.{rules, ◌≡◌, ◌<◌, ◌^◌, ◌∙◌, true, length, arith, Err, sym, ap, subst}
use Rattle.std.specs.List.{AllByRecursion}
use Rattle.std.proofs.lemmas.Result.{err_from_is_err_and}
use Rattle.ded_model.specs.declared.memory.Refused.TheVariants.{Wide}
use Rattle.ded_elimination.specs.LinearAtoms.{IsLinearAtom}
use Rattle.ded_weighing.specs.Columns.{lent}
use Rattle.ded_weighing.specs.Weighing.{refutes}
use Rattle.ded_cert.specs.Certified.{magnitudes}
use Rattle.ded_cert.specs.Choosing.{chosen, spread}
use Rattle.ded_cert.specs.Tracing.{AreWideRows}
use Rattle.ded_cert.proofs.Chosen.{chosen_linear, chosen_wide, spread_refutes, spread_small, lent_length}
use Rattle.ded_cert.proofs.Farkas.{coefs_of}
use Rattle.ded_cert.proofs.choosing.short_refutation.Goals as goal

pub refutation-requires-clause-normal : goal.refutation-requires-clause-normal
refutation-requires-clause-normal c = subst (AllByRecursion IsLinearAtom) (sym (ap lent c.deref-2.ensures.value ∙ c.in_ok-few.ensures)) (chosen_linear c.deref.result.now (lent c.args.rows.now) c.requires.normal)

pub returns-in_err-numbers-clause-wide : goal.returns-in_err-numbers-clause-wide
returns-in_err-numbers-clause-wide c = λ e.
    let p = err_from_is_err_and c.from_residual-in_err-numbers.result c.from_residual-in_err-numbers.ensures.1 in
    let is : c.in_err-numbers.field-0.0 ≡ Wide = cc (p.1, p.2, e) in
    chosen_wide c.deref.result.now (lent c.args.rows.now) (subst AreWideRows (ap lent c.deref-2.ensures.value ∙ c.in_ok-few.ensures) (c.in_err-numbers.ensures.wide (ap Err is)))

pub returns-clause-refutes : goal.returns-clause-refutes
returns-clause-refutes c =
    let same : c.in_ok-spread.field-0 ≡ spread c.deref-3.result.now c.in_ok-numbers.numbers = search rules in
    let flags : c.deref.result.now ≡ c.deref-3.result.now = c.deref.ensures.value ∙ sym c.deref-3.ensures.value in
    let few : refutes c.in_ok-numbers.numbers (chosen c.deref-3.result.now (lent c.args.rows.now)) ≡ true = subst (λ rs. refutes c.in_ok-numbers.numbers rs ≡ true) (ap lent c.deref-2.ensures.value ∙ c.in_ok-few.ensures ∙ ap (λ fs. chosen fs (lent c.args.rows.now)) flags) c.in_ok-numbers.ensures.refutes in
    subst (λ ms. refutes ms (lent c.args.rows.now) ≡ true) (sym same)
    (spread_refutes c.deref-3.result.now c.in_ok-numbers.numbers (lent c.args.rows.now) (ap length c.deref-3.ensures.value ∙ c.in_ok-flags.ensures.count ∙ sym (lent_length c.args.rows.now)) (coefs_of (lent c.args.rows.now) c.requires.normal) few)

pub returns-clause-small : goal.returns-clause-small
returns-clause-small c =
    let same : c.in_ok-spread.field-0 ≡ spread c.deref-3.result.now c.in_ok-numbers.numbers = search rules in
    let most = spread_small c.deref-3.result.now c.in_ok-numbers.numbers in
    let small = c.in_ok-numbers.ensures.small in
    subst (λ ms. magnitudes ms < 2 ^ 63) (sym same) (omega (arith, most, small))
