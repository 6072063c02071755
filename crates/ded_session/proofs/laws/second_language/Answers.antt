use Rattle.ded_model.specs.declared.command.Language.TheVariants.{Two}
use Rattle.ded_session.proofs.Languages.{accepted_step, same_step}
use Rattle.ded_session.proofs.laws.second_language.Goals as goal

pub returns-clause-accepted : goal.returns-clause-accepted
returns-clause-accepted g = λ c d s reply accepts p. (accepted_step Two c d s reply accepts p).0

pub returns-clause-spelled : goal.returns-clause-spelled
returns-clause-spelled g = λ bytes command depth spells c d reply. same_step c d bytes command depth spells reply
