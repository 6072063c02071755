use Rattle.ded_num.proofs.Tests.{all-at}
use Rattle.ded_model.specs.Normal.{IsNormalTheme}
use Rattle.ded_theory.specs.Both.{IsByKind}
use Rattle.ded_order.specs.OrderRows.{IsOrderAtom}
use Rattle.ded_atoms.proofs.OrderTuples.{order_normal}
use Rattle.ded_atoms.proofs.ordering.copied.Goals as goal

pub copy_of-requires : goal.copy_of-requires
copy_of-requires c =
    all-at (IsByKind IsOrderAtom IsNormalTheme) c.args.atoms.now c.loop-atom.atom-index c.atom-item.result c.loop-atom-test.true c.atom-item.is (order_normal c.args.atoms.now c.requires.normal c.requires.orders)
