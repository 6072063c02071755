use Rattle.std.proofs.Common.{sym, subst}
use Rattle.ded_algebra.specs.Given.{AreNamedApart}
use Rattle.ded_algebra.proofs.Taken.{apart-take}
use Rattle.ded_algebra.proofs.given.Given.keep_first.Goals as goal

pub invariant_of-self : goal.invariant_of-self
invariant_of-self c = subst AreNamedApart (sym c.truncate.ensures.items) (apart-take c.args.count c.self.inside.relations.items c.self.invariant)
