use Rattle.std.proofs.Common.{◌∙◌}
use Rattle.std.proofs.lemmas.Result.{IfOk-weaker}
use Rattle.ded_reduce.proofs.Sifting.{with_nowhere, with_somewhere, result_open}
use Rattle.ded_reduce.proofs.superfluous.together.Goals as goal

pub returns-clause-implied : goal.returns-clause-implied
returns-clause-implied g c =
    IfOk-weaker c.refute.result _ _ (λ v k e. with_nowhere g.T.Theory.decides g.T.Theory.holds g.T.Theory.mentions g.T.Theory.lines c.args.others.items c.deref.result.now c.args.atom v (c.deref.ensures.value ∙ c.in_ok-push.ensures.items) e k) c.refute.ensures.verdict

pub returns-clause-needed : goal.returns-clause-needed
returns-clause-needed g c =
    IfOk-weaker c.refute.result _ _ (λ v k e. with_somewhere g.T.Theory.decides g.T.Theory.holds g.T.Theory.mentions g.T.Theory.lines c.args.others.items c.deref.result.now c.args.atom v (c.deref.ensures.value ∙ c.in_ok-push.ensures.items) e k) c.refute.ensures.verdict

pub returns-clause-open : goal.returns-clause-open
returns-clause-open g c =
    result_open g.T.Theory.decides g.T.Theory.holds g.T.Theory.mentions g.T.Theory.lines c.args.others.items c.deref.result.now c.args.atom c.refute.result (c.deref.ensures.value ∙ c.in_ok-push.ensures.items) c.refute.ensures.verdict c.refute.ensures.decided
