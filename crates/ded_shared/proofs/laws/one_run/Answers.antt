use Rattle.ded_model.specs.declared.command.Language.TheVariants.{One}
use Rattle.ded_shared.proofs.OneRun.{one_run}
use Rattle.ded_shared.proofs.laws.one_run.Goals as goal

pub returns : goal.returns
returns g = one_run g.formed_catalogues.ensures.step (λ c d s reply h p. g.plain_names.ensures.step One c d s reply h p)
