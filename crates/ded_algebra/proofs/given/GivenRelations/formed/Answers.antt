use Rattle.std.proofs.Common.{subst}
use Rattle.ded_algebra.specs.Given.{AreNamedApart}
use Rattle.ded_algebra.proofs.Names.{are_given}
use Rattle.ded_algebra.proofs.given.GivenRelations.formed.Goals as goal

pub returns : goal.returns
returns c = are_given c.args.self.now (subst AreNamedApart c.self.view_is c.self.invariant)
