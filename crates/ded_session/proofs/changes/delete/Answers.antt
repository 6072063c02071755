use Rattle.std.proofs.Common.{refl}
use Rattle.ded_model.specs.Command.{delete}
use Rattle.ded_session.proofs.Calls.{did}
use Rattle.ded_session.proofs.Upheld.{upheld_delete}
use Rattle.ded_session.proofs.changes.delete.Goals as goal

pub returns-clause-carries : goal.returns-clause-carries
returns-clause-carries c = did (delete c.args.name.now c.args.number) _ _ _ _ refl c.done.ensures.done c.done.ensures.wants c.delete.ensures.ok c.delete.ensures.err

pub returns-clause-upholds : goal.returns-clause-upholds
returns-clause-upholds c = upheld_delete c.args.name.now c.args.number _ _ _ _ c.done.ensures.done c.done.ensures.wants c.delete.ensures.marks c.delete.ensures.kept c.delete.ensures.left
