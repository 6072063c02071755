use Rattle.std.proofs.lemmas.Result.{IfOk-weaker}
use Rattle.ded_query.proofs.Witnesses.{truth_none, truth_all}
use Rattle.ded_query.proofs.witness.truth.Goals as goal

pub returns-then-not-holds : goal.returns-then-not-holds
returns-then-not-holds c = truth_none c.args.holds c.nowhere.result c.if-not-holds.true c.nowhere.ensures

pub returns : goal.returns
returns c = IfOk-weaker c.everywhere.result _ _ (λ ts e. truth_all c.args.holds ts c.if-not-holds.false e) c.everywhere.ensures
