use Rattle.std.proofs.Common.{drop}
use Rattle.std.proofs.lemmas.List.{drop_all}
use Rattle.ded_model.specs.Cell.{conj_holds}
use Rattle.ded_atoms.proofs.Bounded.{bounded_all}
use Rattle.ded_atoms.proofs.extents.spans.Goals as goal

pub returns-clause-is : goal.returns-clause-is
returns-clause-is g c =
    bounded_all (conj_holds g.T.Theory.holds c.args.atoms.now) c.args.columns.now c.loop-column.spans.items c.loop-column.number (drop c.loop-column.column-index c.args.columns.now)
    (drop_all c.loop-column.column-index c.args.columns.now c.loop-column-test.false) c.loop-column.invariant
