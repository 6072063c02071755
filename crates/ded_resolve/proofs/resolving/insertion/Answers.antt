-- The tuple is that of the command's comparisons, over the relation's columns.
use Rattle.std.proofs.Common.{refl, ap}
use Rattle.ded_model.specs.Entries.{columns_in}
use Rattle.ded_model.specs.Known.{columns_with}
use Rattle.ded_sorts.specs.Checks.{known_form}
use Rattle.ded_resolve.proofs.Readiness.{tuple_is}
use Rattle.ded_resolve.proofs.resolving.insertion.Goals as goal

pub returns-clause-resolved : goal.returns-clause-resolved
returns-clause-resolved g c = (refl, tuple_is c.in_ok-tuple.tuple (columns_with (known_form c.known.result)) (columns_in (g.N.Names.catalogue c.args.names.now) c.args.name) c.deref.result.now c.args.comparisons.items c.in_ok-tuple.ensures.value (ap columns_with c.known.ensures.value) c.deref.ensures.value)
