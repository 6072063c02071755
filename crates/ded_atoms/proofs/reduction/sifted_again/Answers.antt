use Rattle.std.proofs.Common.{◌≡◌, false, subst, rules}
use Rattle.ded_model.specs.Normal.{IsNormalTuple}
use Rattle.ded_atoms.specs.Orders.{are_orders}
use Rattle.ded_atoms.proofs.OrderTuples.{no_orders}
use Rattle.ded_atoms.proofs.reduction.sifted_again.Goals as goal

pub returns-in-None : goal.returns-in-None
returns-in-None c =
    let none : are_orders c.args.tuple ≡ false = search rules in
    no_orders c.args.tuple (subst IsNormalTuple c.tuple.view_is c.tuple.invariant) c.requires none
