-- What one session may answer, as it gives it and as the loop hears it.
use Rattle.std.specs.Prelude.{ℕ}
use Rattle.ded_dialogue.specs.Forms.{Heard}
use Rattle.ded_dialogue.specs.Outcome.{Protocol}
use Rattle.ded_dialogue.specs.Replies.{Said}
use Rattle.ded_dialogue.specs.Runs.{Answers}
use Rattle.ded_lex.specs.Pieces.{Statement}
use Rattle.ded_model.specs.declared.command.Language.{Language}
use Rattle.ded_model.specs.declared.command.Language.TheVariants.{Opening}
use Rattle.ded_model.specs.Catalogue.{Catalogue}
use Rattle.ded_session.specs.Replies.{ReplyForm, is_refusal, some_refusal}
use Rattle.ded_session.specs.Runs.{GoesOn, Run, Steps, empty_catalogue}
use Rattle.ded_session.specs.State.{catalogue_in, language_in}
use Rattle.ded_session.specs.Steps.{Step}
use Rattle.ded_session.specs.declared.session.Session.{Session}
use Rattle.ded_session.specs.Texts.{text_of, texts}

-- the language in which the next statement is read, and the catalogue over which
pub record Standing : Type 0 where
  pub language : Language
  pub catalogue : Catalogue

-- before the first statement
abbrev pub opening : ℕ → Standing
opening limit = record { language = Opening; catalogue = empty_catalogue limit }

-- where a session of the program stands
abbrev pub standing_in : Session → Standing
standing_in s = record { language = language_in s; catalogue = catalogue_in s }

-- a reply as it is heard
abbrev pub said_of : ReplyForm → Said
said_of reply = record { text = text_of reply; refuses = is_refusal reply }

-- The statement may get the reply, and leaves the language and the catalogue so.
pub record MayReply (m : Standing) (s : Statement) (reply : ReplyForm) (n : Standing) : Type 0 where
  pub step : Step m.language m.catalogue s reply n.catalogue
  pub goes_on : GoesOn m.language s n.language

-- what one session may answer
abbrev pub MayAnswer : Answers Standing
MayAnswer = Heard MayReply said_of

-- which replies a script may get that begins with an empty catalogue, and what is written of them
abbrev pub session_protocol : ℕ → Protocol ReplyForm Catalogue
session_protocol limit = record { runs = Run limit; steps = Steps Opening (empty_catalogue limit); texts = texts; refuses = some_refusal }
