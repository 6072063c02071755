use Rattle.std.proofs.Common.{take}
use Rattle.std.specs.List.{AllByRecursion}
use Rattle.ded_atoms.specs.Reading.{IsConjunctionOf}
use Rattle.ded_atoms.proofs.reading.conjunction.Given as goal

abbrev pub invariant-loop-atom : goal.invariant-loop-atom
invariant-loop-atom g l = IsConjunctionOf g.T.Theory.holds g.T.Theory.mentions g.T.Theory.lines l.atoms.items (take l.atom-index l.atom-items) × AllByRecursion g.T.Theory.normal l.atoms.items
