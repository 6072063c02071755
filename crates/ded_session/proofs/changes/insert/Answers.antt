use Rattle.ded_session.proofs.Upheld.{upheld_insert}
use Rattle.ded_session.proofs.changes.insert.Goals as goal

pub returns-in-Ok-clause-upholds : goal.returns-in-Ok-clause-upholds
returns-in-Ok-clause-upholds c = λ fs. ((c.insert.ensures.marks, c.in-Ok.ensures.kept), c.in-Ok.ensures.adds)

pub returns-in-Err-clause-upholds : goal.returns-in-Err-clause-upholds
returns-in-Err-clause-upholds c = λ fs. upheld_insert c.args.name.now fs _ _ c.in-Err.refusal c.insert.ensures.marks c.insert.ensures.left c.in-Err.ensures.refused
