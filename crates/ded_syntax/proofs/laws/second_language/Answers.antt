use Rattle.ded_model.specs.declared.command.Language.TheVariants.{Two}
use Rattle.ded_syntax.proofs.PlainAlike.{spelled_too, refused_alike}
use Rattle.ded_syntax.proofs.laws.second_language.Goals as goal

pub returns-clause-spelled : goal.returns-clause-spelled
returns-clause-spelled c = spelled_too Two

pub returns-clause-refused : goal.returns-clause-refused
returns-clause-refused c = refused_alike Two
