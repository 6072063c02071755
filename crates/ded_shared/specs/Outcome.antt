-- Which replies an input may get from shared sessions, and what is written of them.
use Rattle.std.specs.Prelude.{◌≡◌, ℕ, List, ◌∷◌, ◌++◌}
use Rattle.ded_dialogue.specs.Outcome.{Protocol}
use Rattle.ded_lex.specs.Pieces.{Statement, AreStatements}
use Rattle.ded_model.specs.Catalogue.{Catalogue}
use Rattle.ded_session.specs.Replies.{done}
use Rattle.ded_session.specs.Runs.{empty_catalogue}
use Rattle.ded_shared.specs.Events.{serial, inside}
use Rattle.ded_shared.specs.Forms.{SharedForm, plain, some_refuses}
use Rattle.ded_shared.specs.Rules.{SharedStep, SharedSteps}
use Rattle.ded_shared.specs.Serial.{AreSteps}
use Rattle.ded_shared.specs.State.{State, first_state}
use Rattle.ded_shared.specs.Tags.{Tagged, begins, AreTagged}
use Rattle.ded_shared.specs.Texts.{shared_texts}

-- The statements are tagged ones, and get these replies, one after another, from the state without entries and transactions.
-- And those outside of transactions and those of committed ones, in the order of their ends, are steps of one session with
-- the replies that they got. Wherever a session begins a transaction, the statements of that, also where it is given up or
-- stays open, are with their replies steps of one session from the shared catalogue at the begin.
pub record SharedRun (limit : ℕ) (statements : List Statement) (replies : List SharedForm) (last : State) : Type 0 where
  pub tagged : List Tagged
  pub are : AreTagged statements tagged
  pub steps : SharedSteps (first_state limit) tagged replies last
  pub serial : AreSteps (empty_catalogue limit) (serial tagged replies) last.shared
  pub transactions : (before later rest : List Tagged) (got answers : List SharedForm) (k : ℕ) (s u t : State) → tagged ≡ before ++ (begins k ∷ (later ++ rest))
      → SharedSteps (first_state limit) before got s → SharedStep s (begins k) (plain done) u → SharedSteps u later answers t
      → (end : Catalogue) × AreSteps s.shared (inside k later answers) end

-- The statements of the input get these replies so.
pub record InputRun (limit : ℕ) (input : List ℕ) (replies : List SharedForm) (last : State) : Type 0 where
  pub statements : List Statement
  pub cut : AreStatements input statements
  pub run : SharedRun limit statements replies last

-- which replies an input may get from the state without entries and transactions, and what is written of them
abbrev pub shared_protocol : ℕ → Protocol SharedForm State
shared_protocol limit = record { runs = InputRun limit; steps = SharedRun limit; texts = shared_texts; refuses = some_refuses }
