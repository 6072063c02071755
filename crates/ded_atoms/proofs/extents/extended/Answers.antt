use Rattle.ded_atoms.proofs.Extending.{extent_either}
use Rattle.ded_atoms.proofs.extents.extended.Goals as goal

pub returns-clause-is : goal.returns-clause-is
returns-clause-is c = λ test x. extent_either c.args.heading.now c.args.tuple.now test c.args.extent c.in_ok-more.more c.in_ok-covering.field-0 c.in_ok-covering.ensures c.in_ok-more.ensures.is x
