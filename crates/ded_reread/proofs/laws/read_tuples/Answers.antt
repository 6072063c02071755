use Rattle.ded_reread.specs.Words.{Passes}
use Rattle.ded_reread.proofs.Tuples.{same_tuple, tuple_bound, tuple_sorted, tuple_equalities, tuple_words, tuple_plain, tuple_short}
use Rattle.ded_reread.proofs.laws.read_tuples.Goals as goal

pub returns-clause-same : goal.returns-clause-same
returns-clause-same c = λ h t once. same_tuple h once t

pub returns-clause-bound : goal.returns-clause-bound
returns-clause-bound c = λ h t once. tuple_bound h once t

pub returns-clause-sorted : goal.returns-clause-sorted
returns-clause-sorted c = λ K h t once. tuple_sorted h once K t

pub returns-clause-equalities : goal.returns-clause-equalities
returns-clause-equalities c = λ h t once. tuple_equalities h once t

pub returns-clause-written : goal.returns-clause-written
returns-clause-written c = λ N M T h t once over named texts. tuple_words h once (Passes N) (Passes M) (Passes T) t named texts over

pub returns-clause-plain : goal.returns-clause-plain
returns-clause-plain c = λ h t once. tuple_plain h once t

pub returns-clause-short : goal.returns-clause-short
returns-clause-short c = λ h t once over. tuple_short h t
