-- What a session is that kept statements give, and what a crash leaves where they give none.
use Rattle.std.specs.Prelude.{◌≡◌, ◌⊎◌, true, ℕ, List, [], ◌∷◌}
use Rattle.sqlite_trees.specs.Tree.{Trees}
use Rattle.ded_journal.specs.Journals.{JournalState, IsHonest}
use Rattle.ded_journal.specs.Statements.{HoldsStatements}
use Rattle.ded_recording.specs.Saving.{IsSettled}
use Rattle.ded_session.specs.State.{catalogue_in}
use Rattle.ded_kept.specs.declared.session.KeptSession.{KeptSession}
use Rattle.ded_kept.specs.Defining.{IsDefinedBy, header_line}
use Rattle.ded_kept.specs.Machine.{listed_in}

-- the texts that are kept at the beginning of a run: those that were, or where there was none the header
abbrev pub AreKept : List (List ℕ) → List (List ℕ) → Type 0
AreKept list kept = (kept ≡ list) ⊎ ((list ≡ []) × (kept ≡ header_line ∷ []))

-- The journal keeps these texts, all of them committed, and the session stands where they lead: with the catalogue that they define, before
-- the first statement of a run, and with nothing that has to be kept.
pub record IsResumed {S : Type 0} (limit : ℕ) (recovers : S → Trees → Type 0) (list : List (List ℕ)) (j : JournalState S) (s : KeptSession) : Type 0 where
  pub kept : List (List ℕ)
  pub are : IsHonest j → AreKept list kept
  pub settled : IsSettled recovers kept j
  pub defines : IsHonest j → IsDefinedBy limit kept (catalogue_in s.session)
  pub unlisted : listed_in s ≡ []
  pub first : s.is_first ≡ true

-- a crash leaves the texts that were kept, or those of the beginning of a run
abbrev pub LeavesKept : {S : Type 0} → (S → Trees → Type 0) → List (List ℕ) → JournalState S → Type 0
LeavesKept recovers list j = IsHonest j → (db : Trees) → recovers j.store db → (kept : List (List ℕ)) × AreKept list kept × HoldsStatements db kept
