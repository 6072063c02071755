use Rattle.ded_keep.proofs.AloneMeanings.{are_given}
use Rattle.ded_keep.proofs.alone.AloneRelations.formed.Goals as goal

pub returns : goal.returns
returns g c =
    let a = c.args.self.now in
    are_given (g.R.Relations.catalogue a.others.now) a.name.now a.heading.now a.tuples.now c.formed.ensures a.apart
