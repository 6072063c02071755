use Rattle.std.proofs.Common.{◌≡◌, ◌++◌, take}
use Rattle.ded_genrel.specs.Lists.{conjs_of, pairs_with}
use Rattle.ded_genrel.proofs.list.GenRel.push_pairs.Given as goal

abbrev pub invariant-loop-more : goal.invariant-loop-more
invariant-loop-more g l = l.self ≡ l.fn.self ++ pairs_with l.conj (conjs_of (take l.more-index l.more-items))
