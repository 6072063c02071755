use Rattle.std.proofs.Common.{refl}
use Rattle.ded_model.specs.Command.{relation}
use Rattle.ded_session.proofs.Calls.{did}
use Rattle.ded_session.proofs.Upheld.{upheld_alike}
use Rattle.ded_session.proofs.changes.define.Goals as goal

pub returns-clause-carries : goal.returns-clause-carries
returns-clause-carries c = did (relation c.args.name c.args.heading) _ _ _ _ refl c.done.ensures.done c.done.ensures.wants c.define.ensures.ok c.define.ensures.err

pub returns-clause-upholds : goal.returns-clause-upholds
returns-clause-upholds c = upheld_alike (relation c.args.name c.args.heading) _ _ _ _ c.done.ensures.done c.done.ensures.wants c.define.ensures.lists c.define.ensures.lists
