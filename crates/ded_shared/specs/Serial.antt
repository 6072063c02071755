-- Shared sessions as one session.
use Rattle.std.specs.Prelude.{List}
use Rattle.ded_model.specs.declared.command.Language.TheVariants.{One}
use Rattle.ded_model.specs.Catalogue.{Catalogue}
use Rattle.ded_session.specs.Runs.{Steps}
use Rattle.ded_shared.specs.Events.{Told, statements_of, replies_of}

-- the statements, with their replies, are steps of one session in the plain language
abbrev pub AreSteps : Catalogue → List Told → Catalogue → Type 0
AreSteps c ts d = Steps One c (statements_of ts) (replies_of ts) d
