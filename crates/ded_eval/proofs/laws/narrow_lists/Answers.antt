use Rattle.ded_genrel.proofs.Items.{all-append}
use Rattle.ded_complement.specs.Pieces.{all_atoms}
use Rattle.ded_atoms.proofs.Narrowness.{narrow_atoms}
use Rattle.ded_complement.proofs.NarrowLists.{all_of_each, none_wide}
use Rattle.ded_eval.proofs.laws.narrow_lists.Goals as goal

pub returns-clause-together : goal.returns-clause-together
returns-clause-together c = λ conjs n. narrow_atoms (all_atoms conjs) (all_of_each _ conjs n)

pub returns-clause-each : goal.returns-clause-each
returns-clause-each c = λ conjs n narrow. none_wide _ _ conjs (narrow_atoms (all_atoms conjs) (all_of_each _ conjs n) narrow)

pub returns-clause-both : goal.returns-clause-both
returns-clause-both c = λ conjs others n k. narrow_atoms _ (all-append _ (all_atoms conjs) (all_atoms others) (all_of_each _ conjs n) (all_of_each _ others k))
