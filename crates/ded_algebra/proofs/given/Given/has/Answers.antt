use Rattle.std.proofs.Common.{◌∙◌}
use Rattle.ded_algebra.proofs.Taken.{place_named}
use Rattle.ded_algebra.proofs.given.Given.has.Goals as goal

pub returns : goal.returns
returns c = c.is_some.ensures ∙ place_named c.args.name.now c.args.self.now c.place.result c.place.ensures
