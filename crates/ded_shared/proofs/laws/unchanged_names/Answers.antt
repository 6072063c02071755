use Rattle.ded_shared.proofs.Kept.{step_keeps, nothing_changes}
use Rattle.ded_shared.proofs.laws.unchanged_names.Goals as goal

pub returns-clause-spelled : goal.returns-clause-spelled
returns-clause-spelled g = λ c e bytes reply x depth w p s. step_keeps c e w bytes x depth s reply p

pub returns-clause-other : goal.returns-clause-other
returns-clause-other g = λ c e bytes reply p none. nothing_changes c e bytes none reply p
