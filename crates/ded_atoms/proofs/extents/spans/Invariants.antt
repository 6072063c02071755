use Rattle.std.proofs.Common.{drop}
use Rattle.ded_model.specs.Cell.{conj_holds}
use Rattle.ded_atoms.proofs.Bounded.{IsBounded}
use Rattle.ded_atoms.proofs.extents.spans.Given as goal

abbrev pub invariant-loop-column : goal.invariant-loop-column
invariant-loop-column g l = IsBounded (conj_holds g.T.Theory.holds l.atoms) l.columns l.number (drop l.column-index l.columns) l.spans.items
