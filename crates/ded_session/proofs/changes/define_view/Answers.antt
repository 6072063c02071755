use Rattle.std.proofs.Common.{refl}
use Rattle.ded_model.specs.Command.{view}
use Rattle.ded_model.specs.Form.{form}
use Rattle.ded_session.proofs.Calls.{did}
use Rattle.ded_session.proofs.Upheld.{upheld_alike}
use Rattle.ded_session.proofs.changes.define_view.Goals as goal

pub returns-clause-carries : goal.returns-clause-carries
returns-clause-carries c = did (view c.args.name c.args.heading (form c.args.formula)) _ _ _ _ refl c.done.ensures.done c.done.ensures.wants c.define_view.ensures.ok c.define_view.ensures.err

pub returns-clause-upholds : goal.returns-clause-upholds
returns-clause-upholds c = upheld_alike (view c.args.name c.args.heading (form c.args.formula)) _ _ _ _ c.done.ensures.done c.done.ensures.wants c.define_view.ensures.lists c.define_view.ensures.lists
