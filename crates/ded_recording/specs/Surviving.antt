-- What a crash leaves of a run, beside the replies that were sent.
use Rattle.std.specs.Prelude.{◌≡◌, ℕ, List, ◌++◌, Option}
use Rattle.std.specs.Io.KnownBytes.{Consumes}
use Rattle.sqlite_trees.specs.Tree.{Trees}
use Rattle.ded_io.specs.Devices.{Sent}
use Rattle.ded_lex.specs.Pieces.{Statement, AreStatements}
use Rattle.ded_dialogue.specs.Outcome.{Protocol}
use Rattle.ded_dialogue.specs.Hearing.{heard_from}
use Rattle.ded_dialogue.specs.Replies.{Said, texts}
use Rattle.ded_dialogue.specs.Runs.{Steps}
use Rattle.ded_journal.specs.Journals.{JournalState, IsHonest}
use Rattle.ded_journal.specs.Statements.{HoldsStatements}
use Rattle.ded_recording.specs.Listings.{Listing, Gives, MayList}

-- the protocol of a machine that gives so from this listing on
abbrev pub recorded_from : {M : Type 0} → Gives M → Listing M → Protocol Said (Listing M)
recorded_from G start = heard_from (MayList G) start

-- The list is what a front of the statements of these bytes leaves, with one reply for each, and of the texts of these replies a front
-- was sent. So nothing was acknowledged, in whole or in part, that the list lacks.
pub record IsAcknowledged {M : Type 0} (G : Gives M) (start : Listing M) (bytes : List ℕ) (contents now : Option (List ℕ)) (list : List (List ℕ)) : Type 0 where
  pub statements : List Statement
  pub later : List Statement
  pub are : AreStatements bytes (statements ++ later)
  pub replies : List Said
  pub last : Listing M
  pub steps : Steps (MayList G) start statements replies last
  pub listed : last.list ≡ list
  pub unsent : List ℕ
  pub sent : Sent contents now (texts replies) unsent

-- the database has such a list
pub record HoldsAcknowledged {M : Type 0} (G : Gives M) (start : Listing M) (input left contents now : Option (List ℕ)) (db : Trees) : Type 0 where
  pub taken : List ℕ
  pub takes : Consumes input left taken
  pub list : List (List ℕ)
  pub holds : HoldsStatements db list
  pub acknowledged : IsAcknowledged G start taken contents now list

-- Whatever a crash leaves of the journal has such a list, where no wrong answer of the disk has been taken as true.
abbrev pub Survives : {M S : Type 0} → Gives M → Listing M → (S → Trees → Type 0) → JournalState S → Option (List ℕ) → Option (List ℕ) → Option (List ℕ) → Option (List ℕ) → Type 0
Survives G start recovers j input left contents now = IsHonest j → (db : Trees) → recovers j.store db → HoldsAcknowledged G start input left contents now db
