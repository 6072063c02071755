use Rattle.ded_model.specs.Known.{is_unknown_atom}
use Rattle.ded_model.specs.Entries.{known}
use Rattle.ded_sorts.proofs.Unscoped.{some_below-unscoped}
use Rattle.ded_sorts.proofs.causes.uses_undefined.Goals as goal

pub returns : goal.returns
returns g c = simp (some_below-unscoped (is_unknown_atom (known (g.N.Names.catalogue c.args.names.now)))) at c.some_atom.ensures
