use Rattle.std.proofs.Common.{◌≡◌, ◌||◌, ap, ap₂, sym, ◌∙◌, SFits, Err, rules, to_z, of_z}
use Rattle.std.specs.Prelude.{ℤ}
use lib.IntN.{neg_ℤ}
use Rattle.std.specs.Int.{w128}
use Rattle.std.proofs.lemmas.Int.{to_z-of_z, fits_signed_from_abs}
use Rattle.std.proofs.lemmas.Result.{err_from_is_err_and}
use Rattle.ded_num.specs.Length.{IsShort}
use Rattle.ded_model.specs.declared.memory.Refused.TheVariants.{Wide}
use Rattle.ded_model.specs.Constraint.{LinearConstraint}
use Rattle.ded_model.specs.Coefs.{coef_at}
use Rattle.ded_model.specs.Row.{row_holds, row_mentions}
use Rattle.ded_model.specs.Normal.{normal_row}
use Rattle.ded_model.specs.Lines.{row_lines}
use Rattle.ded_row.specs.Mixing.{factor, mixed_row, mix_of, sum_is_long, coefs_are_long}
use Rattle.ded_row.proofs.Mixes.{bound_nonzero, below_nonzero, mix-holds, mix_without, mix_over}
use Rattle.ded_row.proofs.MixedLines.{mix-line, mix-clash}
use Rattle.ded_row.proofs.mixing.mix.Goals as goal
use Rattle.ded_row.proofs.mixing.mix.Goals.{After-normal}

-- a factor as the code has it
factor_is : (r a b x y : ℤ) → SFits w128 r → r ≡ factor a b → a ≡ x → b ≡ y → to_z w128 (of_z w128 r) ≡ factor x y
factor_is r a b x y fits e f g = to_z-of_z w128 r fits ∙ e ∙ ap₂ factor f g

-- a coefficient as the code has it
coef_is : (z x : ℤ) → IsShort z → z ≡ x → to_z w128 (of_z w128 z) ≡ x
coef_is z x h e = to_z-of_z w128 z (fits_signed_from_abs w128 z h) ∙ e

-- so with the turned one
turned_is : (r b a x y : ℤ) → SFits w128 r → r ≡ factor (neg_ℤ b) a → b ≡ x → a ≡ y → to_z w128 (of_z w128 r) ≡ factor (neg_ℤ x) y
turned_is r b a x y fits e f g = to_z-of_z w128 r fits ∙ e ∙ ap₂ (λ u v. factor (neg_ℤ u) v) f g

value : (c : After-normal) → c.normal.result ≡ mix_of c.args.slot c.args.r1.now c.args.r2.now
value c =
    let a : c.at-a.result ≡ coef_at c.args.r1.now.coefs c.args.slot = c.at-a.ensures.value ∙ ap (λ (r : LinearConstraint). coef_at r.coefs c.args.slot) c.r1.view_is in
    let b : c.at-b.result ≡ coef_at c.args.r2.now.coefs c.args.slot = c.at-b.ensures.value ∙ ap (λ (r : LinearConstraint). coef_at r.coefs c.args.slot) c.r2.view_is in
    let f1 : SFits w128 c.factor.result = search rules in
    let f2 : SFits w128 c.turned_factor.result = search rules in
    c.normal.ensures.value ∙ ap normal_row c.in_ok-sum.ensures.value
    ∙ ap₂ (λ k m. normal_row (mixed_row c.args.slot k c.args.r1.now m c.args.r2.now))
    (factor_is c.factor.result _ _ _ _ f1 c.factor.ensures (coef_is c.at-a.result _ c.at-a.ensures.short a) (coef_is c.at-b.result _ c.at-b.ensures.short b))
    (turned_is c.turned_factor.result _ _ _ _ f2 c.turned_factor.ensures (coef_is c.at-b.result _ c.at-b.ensures.short b) (coef_is c.at-a.result _ c.at-a.ensures.short a))

pub returns-clause-value : goal.returns-clause-value
returns-clause-value c = value c

pub returns-clause-holds : goal.returns-clause-holds
returns-clause-holds c = λ p h e f. ap (λ r. row_holds r p) (value c) ∙ mix-holds c.args.slot c.args.r1.now c.args.r2.now p c.requires.above c.requires.below h e f

pub returns-clause-without : goal.returns-clause-without
returns-clause-without c = ap (λ r. row_mentions r c.args.slot) (value c) ∙ mix_without c.args.slot c.args.r1.now c.args.r2.now

pub returns-clause-over : goal.returns-clause-over
returns-clause-over c = λ t e. mix_over c.args.slot c.args.r1.now c.args.r2.now t (ap (λ r. row_mentions r t) (sym (value c)) ∙ e)

pub returns-clause-line : goal.returns-clause-line
returns-clause-line c =
    ap row_lines (value c) ∙ mix-line c.args.slot c.args.r1.now c.args.r2.now (bound_nonzero c.args.r1.now.op _ c.requires.above) (below_nonzero c.args.r2.now.op _ c.requires.below)

pub returns-clause-short : goal.returns-clause-short
returns-clause-short c =
    let a : c.at-a.result ≡ coef_at c.args.r1.now.coefs c.args.slot = c.at-a.ensures.value ∙ ap (λ (r : LinearConstraint). coef_at r.coefs c.args.slot) c.r1.view_is in
    let b : c.at-b.result ≡ coef_at c.args.r2.now.coefs c.args.slot = c.at-b.ensures.value ∙ ap (λ (r : LinearConstraint). coef_at r.coefs c.args.slot) c.r2.view_is in
    let f1 : SFits w128 c.factor.result = search rules in
    let f2 : SFits w128 c.turned_factor.result = search rules in
    sym (mix-clash c.args.slot c.args.r1.now c.args.r2.now (bound_nonzero c.args.r1.now.op _ c.requires.above) (below_nonzero c.args.r2.now.op _ c.requires.below))
    ∙ ap₂ (λ k m. coefs_are_long c.args.slot k c.args.r1.now.coefs m c.args.r2.now.coefs || sum_is_long k c.args.r1.now.constant m c.args.r2.now.constant)
    (sym (factor_is c.factor.result _ _ _ _ f1 c.factor.ensures (coef_is c.at-a.result _ c.at-a.ensures.short a) (coef_is c.at-b.result _ c.at-b.ensures.short b)))
    (sym (turned_is c.turned_factor.result _ _ _ _ f2 c.turned_factor.ensures (coef_is c.at-b.result _ c.at-b.ensures.short b) (coef_is c.at-a.result _ c.at-a.ensures.short a)))
    ∙ c.in_ok-sum.ensures.short

pub returns-in_err-sum-clause-wide : goal.returns-in_err-sum-clause-wide
returns-in_err-sum-clause-wide c = λ e.
    let p = err_from_is_err_and c.from_residual.result c.from_residual.ensures.1 in
    let is : c.in_err-sum.field-0.0 ≡ Wide = cc (p.1, p.2, e) in
    let a : c.at-a.result ≡ coef_at c.args.r1.now.coefs c.args.slot = c.at-a.ensures.value ∙ ap (λ (r : LinearConstraint). coef_at r.coefs c.args.slot) c.r1.view_is in
    let b : c.at-b.result ≡ coef_at c.args.r2.now.coefs c.args.slot = c.at-b.ensures.value ∙ ap (λ (r : LinearConstraint). coef_at r.coefs c.args.slot) c.r2.view_is in
    let f1 : SFits w128 c.factor.result = search rules in
    let f2 : SFits w128 c.turned_factor.result = search rules in
    sym (mix-clash c.args.slot c.args.r1.now c.args.r2.now (bound_nonzero c.args.r1.now.op _ c.requires.above) (below_nonzero c.args.r2.now.op _ c.requires.below))
    ∙ ap₂ (λ k m. coefs_are_long c.args.slot k c.args.r1.now.coefs m c.args.r2.now.coefs || sum_is_long k c.args.r1.now.constant m c.args.r2.now.constant)
    (sym (factor_is c.factor.result _ _ _ _ f1 c.factor.ensures (coef_is c.at-a.result _ c.at-a.ensures.short a) (coef_is c.at-b.result _ c.at-b.ensures.short b)))
    (sym (turned_is c.turned_factor.result _ _ _ _ f2 c.turned_factor.ensures (coef_is c.at-b.result _ c.at-b.ensures.short b) (coef_is c.at-a.result _ c.at-a.ensures.short a)))
    ∙ c.in_err-sum.ensures.wide (ap Err is)
