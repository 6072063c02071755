use Rattle.std.proofs.Common.{◌∙◌}
use Rattle.std.proofs.lemmas.Result.{IfOk-weaker}
use Rattle.ded_eval.proofs.Refuted.{met_verdict}
use Rattle.ded_eval.proofs.attaining.met_verdict.Goals as goal

pub returns : goal.returns
returns g c = IfOk-weaker c.refute.result _ _ (λ v k.
    met_verdict g.T.Theory.holds c.args.first.now g.T.Theory.mentions g.T.Theory.lines c.args.second.items c.deref.result.now v (c.deref.ensures.value ∙ c.in_ok-both.ensures) k) c.refute.ensures.verdict
