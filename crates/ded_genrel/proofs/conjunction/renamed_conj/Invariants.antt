use Rattle.std.proofs.Common.{take}
use Rattle.std.specs.List.{AllByRecursion}
use Rattle.ded_genrel.proofs.Renamed.{IsConjRenaming}
use Rattle.ded_genrel.proofs.conjunction.renamed_conj.Given as goal

abbrev pub invariant-loop-atom : goal.invariant-loop-atom
invariant-loop-atom g l =
    IsConjRenaming g.T.Theory.holds g.T.Theory.mentions g.T.Theory.lines l.map (take l.atom-index l.atoms) l.renamed.items × AllByRecursion g.T.Theory.normal l.renamed.items
