use Rattle.std.proofs.Common.{◌≡◌, take}
use Rattle.ded_theory.specs.declared.answers.Verdict.TheVariants.{Unknown}
use Rattle.ded_genrel.specs.Lists.{conjs_of}
use Rattle.ded_genrel.specs.Operations.{IsVerdictOn}
use Rattle.ded_genrel.proofs.list.GenRel.is_empty.Given as goal

abbrev pub invariant-loop-conj : goal.invariant-loop-conj
invariant-loop-conj g l = record {
  verdict : IsVerdictOn g.T.Theory.holds g.T.Theory.mentions g.T.Theory.lines (conjs_of (take l.conj-index l.conj-items)) l.verdict;
  decided : g.T.Theory.decides → l.verdict ≡ Unknown → ⊥;
}
