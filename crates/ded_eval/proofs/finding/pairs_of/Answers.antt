use Rattle.std.proofs.Common.{subst}
use Rattle.std.proofs.lemmas.Result.{IfOk-weaker}
use Rattle.ded_genrel.specs.Operations.{IsMeet}
use Rattle.ded_eval.proofs.finding.pairs_of.Goals as goal

pub returns : goal.returns
returns g c =
    IfOk-weaker c.inhabited.result _ _
    (λ r k. (c.in_ok-both.both, subst (λ xs. IsMeet g.T.Theory.holds g.T.Theory.mentions g.T.Theory.lines xs c.args.next.now c.in_ok-both.both) c.in_ok-one.ensures c.in_ok-both.ensures.is, k))
    c.inhabited.ensures
