use Rattle.std.proofs.Common.{drop, MatchOption}
use Rattle.ded_theme.specs.Sources.{source}
use Rattle.ded_theme.specs.Replacing.{IsFree, IsPinned}
use Rattle.ded_theme.proofs.elimination.word_for.Given as goal

abbrev pub invariant-loop-atom : goal.invariant-loop-atom
invariant-loop-atom l = MatchOption l.found (IsFree l.slot (drop l.atom-index l.atoms) → IsFree l.slot l.atoms) (λ w. IsPinned l.slot (source w) l.atoms)
