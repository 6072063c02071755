use Rattle.std.proofs.Common.{◌≡◌, ◌∙◌, ap}
use Rattle.std.proofs.lemmas.Result.{IfOk-weaker}
use Rattle.ded_model.specs.Coefs.{coef_at}
use Rattle.ded_row.specs.Mixing.{mix_of}
use Rattle.ded_row.proofs.Mixes.{bound_nonzero, below_nonzero}
use Rattle.ded_cert.specs.Tracing.{is_weak_row}
use Rattle.ded_cert.proofs.WeakRows.{mix_weak}
use Rattle.ded_cert.proofs.weak.WeakMixing.mix.Goals as goal

pub returns-clause-rows : goal.returns-clause-rows
returns-clause-rows c =
    let q = c.args.r1.now in
    let r = c.args.r2.now in
    let s = c.args.slot in
    IfOk-weaker c.mix.result (λ x. x ≡ mix_of s q r) _
    (λ x e. ap is_weak_row e ∙ mix_weak s q r (bound_nonzero q.op (coef_at q.coefs s) c.requires.above) (below_nonzero r.op (coef_at r.coefs s) c.requires.below) c.requires.rows.0 c.requires.rows.1) c.mix.ensures.value
