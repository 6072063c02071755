use Rattle.std.proofs.Common.{◌≡◌, sym, ap, ◌∙◌, subst, true≢false}
use lib.IntN.{neg_ℤ}
use Rattle.std.proofs.lemmas.Result.{IfOk-weaker}
use Rattle.ded_model.specs.Coefs.{coef_at}
use Rattle.ded_model.specs.Lines.{In}
use Rattle.ded_row.specs.Mixing.{mix_of, factor}
use Rattle.ded_row.proofs.Mixes.{bound_nonzero, below_nonzero}
use Rattle.ded_order.specs.OrderRows.{is_order_row}
use Rattle.ded_order.proofs.Comparisons.{compared_is, alone_order, alone_lines}
use Rattle.ded_order.proofs.Rests.{rest, mix_order, both_alone}
use Rattle.ded_order.proofs.Clashes.{never_clash}
use Rattle.ded_model.specs.Lines.{row_lines}
use Rattle.ded_order.proofs.mixing.OrderedMixing.mix.Goals as goal

pub returns-then-are_alone-clause-value : goal.returns-then-are_alone-clause-value
returns-then-are_alone-clause-value c =
    let q = c.args.r1.now in
    let r = c.args.r2.now in
    let s = c.args.slot in
    let a = coef_at q.coefs s in
    let b = coef_at r.coefs s in
    let n = bound_nonzero q.op a c.requires.above in
    let o = below_nonzero r.op b c.requires.below in
    c.compared.ensures.value
    ∙ compared_is s q r n (both_alone s (factor a b) q (factor (neg_ℤ b) a) r c.requires.normal.0.coefs c.requires.normal.1.coefs n o (sym c.are_alone.ensures.value ∙ c.if-are_alone.true))

pub returns-then-are_alone-clause-rows : goal.returns-then-are_alone-clause-rows
returns-then-are_alone-clause-rows c = ap is_order_row c.compared.ensures.value ∙ alone_order c.args.slot c.args.r1.now c.args.r2.now

pub returns-then-are_alone-clause-short : goal.returns-then-are_alone-clause-short
returns-then-are_alone-clause-short c = λ l i. absurd (subst (In l) (ap row_lines c.compared.ensures.value ∙ alone_lines c.args.slot c.args.r1.now c.args.r2.now) i)

pub returns-else-are_alone-clause-rows : goal.returns-else-are_alone-clause-rows
returns-else-are_alone-clause-rows c =
    let q = c.args.r1.now in
    let r = c.args.r2.now in
    let s = c.args.slot in
    let n = bound_nonzero q.op (coef_at q.coefs s) c.requires.above in
    let o = below_nonzero r.op (coef_at r.coefs s) c.requires.below in
    IfOk-weaker c.mix.result (λ x. x ≡ mix_of s q r) _
    (λ x e. ap is_order_row e ∙ mix_order s q r c.requires.normal.0.coefs c.requires.normal.1.coefs n o (rest s q c.requires.normal.0.coefs c.requires.rows.0 n) (rest s r c.requires.normal.1.coefs c.requires.rows.1 o))
    c.mix.ensures.value

pub returns-else-are_alone-clause-never_wide : goal.returns-else-are_alone-clause-never_wide
returns-else-are_alone-clause-never_wide c = λ u e.
    let q = c.args.r1.now in
    let r = c.args.r2.now in
    let s = c.args.slot in
    let n = bound_nonzero q.op (coef_at q.coefs s) c.requires.above in
    let o = below_nonzero r.op (coef_at r.coefs s) c.requires.below in
    true≢false
    (sym (c.mix.ensures.wide e)
    ∙ never_clash s q r c.are_alone.ensures.short.0 c.are_alone.ensures.short.1 (sym c.are_alone.ensures.value ∙ c.if-are_alone.false)
    (rest s q c.requires.normal.0.coefs c.requires.rows.0 n) (rest s r c.requires.normal.1.coefs c.requires.rows.1 o))
