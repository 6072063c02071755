-- An input whose statements are answered, what they list saved, and their replies sent.
use Rattle.std.specs.Prelude.{◌≡◌, ◌+◌, ℕ, List, [], ◌++◌, Bool, Option, Result, length, map, Ok, Err}
use Rattle.std.specs.Io.KnownBytes.{Appends, Consumes}
use Rattle.sqlite_disk.specs.Disk.{MoreFaults}
use Rattle.sqlite_trees.specs.declared.error.StoreError.{StoreError}
use Rattle.sqlite_trees.specs.Tree.{Trees}
use Rattle.ded_io.specs.Causes.{Rose}
use Rattle.ded_io.specs.Devices.{Sent}
use Rattle.ded_lex.specs.Pieces.{Whole, IsCut}
use Rattle.ded_lex.specs.Splits.{Since}
use Rattle.ded_dialogue.specs.declared.dialogue.Dialogue.{Dialogue}
use Rattle.ded_dialogue.specs.declared.status.Status.{Status}
use Rattle.ded_dialogue.specs.declared.status.Status.TheVariants.{WriteFault}
use Rattle.ded_dialogue.specs.Outcome.{ConcludedIn, Interrupted}
use Rattle.ded_dialogue.specs.Replies.{Said, texts, some_refusal}
use Rattle.ded_dialogue.specs.Runs.{Steps}
use Rattle.ded_journal.specs.Journals.{JournalState, IsHonest}
use Rattle.ded_journal.specs.Statements.{HoldsStatements}
use Rattle.ded_recording.specs.declared.settling.Stop.{Stop}
use Rattle.ded_recording.specs.declared.settling.Stop.TheVariants.{Unsaved, Unsent}
use Rattle.ded_recording.specs.Listings.{Listing, Gives, MayList}
use Rattle.ded_recording.specs.Saving.{IsSettled, Follows, HasSaved, StaysUnsaved, MayStayUnsaved}
use Rattle.ded_recording.specs.Surviving.{recorded_from, IsAcknowledged}

-- how a run ends that stopped so: as one whose output failed, or with the error of the journal
abbrev pub outcome_of : Stop → Result Status StoreError
outcome_of (Unsaved e) = Err e
outcome_of Unsent = Ok WriteFault

-- a machine, and the texts that are saved of what it answered
abbrev pub standing : {A M : Type 0} → (A → M) → List (List ℕ) → A → Listing M
standing rest list machine = record { list = list; rest = rest machine }

-- why a run stopped that was to save and to send
abbrev pub StopsFor : {S : Type 0} → (S → Trees → Type 0) → JournalState S → JournalState S → ℕ → ℕ → Stop → Type 0
StopsFor recovers j k before now (Unsaved e) = (now ≡ before) × ((list : List (List ℕ)) → IsSettled recovers list j → IsHonest k → MayStayUnsaved (MoreFaults j.faults k.faults) (Unit {0}) e)
StopsFor recovers j k before now Unsent = Rose before now

module _ {A M : Type 0} (G : Gives M) (rest : A → M) (listed : A → List (List ℕ)) where
  -- The whole pieces of the bytes taken are answered, these are the texts that are saved of them, and the texts of all replies were sent.
  pub record IsRecorded (start : Listing M) (taken : List ℕ) (d : Dialogue A) (list : List (List ℕ)) (contents now : Option (List ℕ)) : Type 0 where
    pub pieces : List (List ℕ)
    pub tail : List ℕ
    pub cut : IsCut taken pieces tail
    pub since : Since d.splitter tail
    pub aloud : d.silent ≡ 0
    pub replies : List Said
    pub steps : Steps (MayList G) start (map Whole pieces) replies (standing rest list d.machine)
    pub none : listed d.machine ≡ []
    pub sent : Appends contents now (texts replies)
    pub refuses : some_refusal replies ≡ d.refused

  module _ {S : Type 0} (recovers : S → Trees → Type 0) (Shielded : S → Type 0) where
    -- what the machine listed was saved, and then the text was sent
    pub record HasSettled (old new : A) (j k : JournalState S) (contents now : Option (List ℕ)) (text : List ℕ) : Type 0 where
      pub saved : HasSaved recovers Shielded j k (listed old)
      pub none : listed new ≡ []
      pub stays : rest new ≡ rest old
      pub sent : Appends contents now text

    -- it wasn't saved, and nothing was sent; or it was, and a front of the text was sent
    abbrev pub StopsIn : A → JournalState S → JournalState S → Option (List ℕ) → Option (List ℕ) → List ℕ → Stop → Type 0
    StopsIn old j k contents now text (Unsaved e) = StaysUnsaved recovers Shielded j k (listed old) e × (now ≡ contents)
    StopsIn old j k contents now text Unsent = HasSaved recovers Shielded j k (listed old) × (unsent : List ℕ) × Sent contents now text unsent

    -- the bytes were taken, what they list was saved, and the replies were sent
    pub record Moves (old new : Dialogue A) (j k : JournalState S) (contents now : Option (List ℕ)) (bytes : List ℕ) : Type 0 where
      pub follows : Follows recovers Shielded j k
      pub on : (start : Listing M) (taken : List ℕ) (list : List (List ℕ)) (was : Option (List ℕ)) → IsRecorded start taken old list was contents → IsSettled recovers list j
          → (added : List (List ℕ)) × IsRecorded start (taken ++ bytes) new (list ++ added) was now × IsSettled recovers (list ++ added) k

    -- The bytes were the last, and what they list wasn't saved or not all of the replies were sent. A crash leaves what was acknowledged.
    pub record Halts (old : Dialogue A) (j k : JournalState S) (contents now : Option (List ℕ)) (bytes : List ℕ) : Type 0 where
      pub follows : Follows recovers Shielded j k
      pub stops : (start : Listing M) (taken : List ℕ) (list : List (List ℕ)) (was : Option (List ℕ)) (r : IsRecorded start taken old list was contents)
          → Interrupted (recorded_from G (standing rest list old.machine)) 0 (r.tail ++ bytes) contents now
      pub survives : (start : Listing M) (taken : List ℕ) (list : List (List ℕ)) (was : Option (List ℕ)) → IsRecorded start taken old list was contents → IsSettled recovers list j
          → IsHonest k → (db : Trees) → recovers k.store db
          → (l : List (List ℕ)) × HoldsStatements db l × IsAcknowledged G start (taken ++ bytes) was now l

    -- the input ended, and the statement that its end cuts was answered, where there is one
    pub record Ended (old new : Dialogue A) (j k : JournalState S) (contents now : Option (List ℕ)) (refused : Bool) : Type 0 where
      pub follows : Follows recovers Shielded j k
      pub on : (start : Listing M) (taken : List ℕ) (list : List (List ℕ)) (was : Option (List ℕ)) → IsRecorded start taken old list was contents → IsSettled recovers list j
          → (added : List (List ℕ)) × ConcludedIn (recorded_from G start) 0 taken was now refused (standing rest (list ++ added) new.machine) × IsSettled recovers (list ++ added) k
          × IsAcknowledged G start taken was now (list ++ added)

    -- What was taken so far is answered, saved and sent, and so many bytes may still come.
    pub record Reads (start : Listing M) (input_limit room : ℕ) (d : Dialogue A) (j k : JournalState S) (input left contents now : Option (List ℕ)) : Type 0 where
      pub taken : List ℕ
      pub takes : Consumes input left taken
      pub counts : length taken + room ≡ input_limit
      pub list : List (List ℕ)
      pub recorded : IsRecorded start taken d list contents now
      pub follows : Follows recovers Shielded j k
      pub settled : IsSettled recovers list k
