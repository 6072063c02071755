use Rattle.std.proofs.Common.{take}
use Rattle.ded_complement.specs.Cuts.{IsCutFrom}
use Rattle.ded_complement.proofs.by_texts.carve_by_texts.Given as goal

abbrev pub invariant-loop-keyed : goal.invariant-loop-keyed
invariant-loop-keyed g l = IsCutFrom g.T.Theory.holds g.T.Theory.mentions g.T.Theory.lines g.T.Theory.cell g.T.Theory.normal l.near (take l.keyed-index l.keyed-items) l.fn.out l.out l.cut
