-- What a session may answer whose changes are kept, and what is kept of each statement.
use Rattle.std.specs.Prelude.{◌≡◌, ◌⊎◌, IsTrue, ℕ, Bool, true, false, if◌then◌else◌, List, [], ◌∷◌, ◌++◌}
use Rattle.ded_dialogue.specs.Replies.{Said}
use Rattle.ded_lex.specs.Pieces.{Statement, statement_bytes}
use Rattle.ded_model.specs.declared.command.Language.TheVariants.{Opening, Two}
use Rattle.ded_model.specs.Catalogue.{Catalogue}
use Rattle.ded_recording.specs.Listings.{Gives}
use Rattle.ded_run.specs.OneSession.{said_of}
use Rattle.ded_session.specs.Replies.{ReplyForm, done, number}
use Rattle.ded_session.specs.Steps.{IsHeaderIn, Step}

-- the present catalogue, and whether no statement of the run was read yet
pub record KeptState : Type 0 where
  pub is_first : Bool
  pub catalogue : Catalogue

-- that something was done, or a tuple inserted: no other reply tells a change
abbrev pub is_change : ReplyForm → Bool
is_change done = true
is_change (number k) = true
is_change _ = false

-- a statement as it is kept, with its ;
abbrev pub kept_text : Statement → List ℕ
kept_text s = statement_bytes s ++ 59 ∷ []

-- what is kept of a statement with this reply
abbrev pub kept_of : Statement → ReplyForm → List (List ℕ)
kept_of s reply = if is_change reply then kept_text s ∷ [] else []

-- the statement is the header of a script, and comes first
abbrev pub BeginsScript : KeptState → Statement → Type 0
BeginsScript m s = IsTrue m.is_first × IsHeaderIn Opening s

-- A header that comes first is done, changes nothing, and isn't kept. Every other statement is read in the second language, and gets a
-- reply by the rules of the session; it is kept where the reply tells a change.
pub record MayKeep (m : KeptState) (s : Statement) (reply : ReplyForm) (added : List (List ℕ)) (n : KeptState) : Type 0 where
  pub later : n.is_first ≡ false
  pub step : (BeginsScript m s × (reply ≡ done) × (added ≡ []) × (n.catalogue ≡ m.catalogue))
      ⊎ ((BeginsScript m s → ⊥) × Step Two m.catalogue s reply n.catalogue × (added ≡ kept_of s reply))

-- the same, as the reply is heard
pub record keeps (m : KeptState) (s : Statement) (said : Said) (added : List (List ℕ)) (n : KeptState) : Type 0 where
  pub reply : ReplyForm
  pub may : MayKeep m s reply added n
  pub is : said ≡ said_of reply
