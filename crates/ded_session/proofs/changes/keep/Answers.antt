use Rattle.std.proofs.Common.{refl}
use Rattle.ded_model.specs.Command.{keep}
use Rattle.ded_session.proofs.Calls.{did_same}
use Rattle.ded_session.proofs.Upheld.{upheld}
use Rattle.ded_session.proofs.changes.keep.Goals as goal

pub returns-clause-carries : goal.returns-clause-carries
returns-clause-carries c = did_same (keep c.args.name.now) _ _ _ _ refl c.done.ensures.done c.done.ensures.wants c.keep.ensures.catalogue c.keep.ensures.catalogue

pub returns-clause-upholds : goal.returns-clause-upholds
returns-clause-upholds c = upheld (keep c.args.name.now) _ _ _ _ c.done.ensures.done c.done.ensures.wants c.keep.ensures.ok c.keep.ensures.err
