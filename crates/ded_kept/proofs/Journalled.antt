-- A journal whose texts are read one by one.
use Rattle.std.proofs.Common.{◌≡◌, ◌+◌, ◌≤◌, ℕ, List, [], ◌∷◌, ◌++◌, take, length, slice_get, Some, IsTrue, refl, sym, ap, ◌∙◌, subst, arith}
use Rattle.std.proofs.lemmas.List.{take_all}
use Rattle.sqlite_trees.specs.declared.error.StoreError.{StoreError}
use Rattle.sqlite_trees.specs.Tree.{Trees}
use Rattle.ded_journal.specs.Journals.{JournalState, IsHonest, IsDurable, Leads, GivesUp, AddsNoOutcome}
use Rattle.ded_recording.specs.Saving.{IsSettled, Follows}
use Rattle.ded_recording.proofs.Settled.{take_one, follows_on}
use Rattle.ded_model.specs.Catalogue.{Catalogue}
use Rattle.ded_kept.specs.Defining.{IsDefinedBy, header_line}

module _ {S : Type 0} (recovers : S → Trees → Type 0) (Shielded : S → Type 0) where
  -- a text was read, or none was there
  pub settled_read : (list : List (List ℕ)) (j k : JournalState S) → IsSettled recovers list j → Leads j k j.now j.committed → IsDurable recovers k → IsSettled recovers list k
  settled_read list j k s l durable = record {
    is_open = l.is_open;
    now = λ h. l.now_is h ∙ s.now (l.was_clean h);
    committed = λ h. l.committed_is h ∙ s.committed (l.was_clean h);
    durable = durable;
  }

  pub follows_read : (j k : JournalState S) → Leads j k j.now j.committed → AddsNoOutcome recovers Shielded j k → Follows recovers Shielded j k
  follows_read j k l crash = record { was_honest = l.was_clean; shield = crash.shield; counts = l.counts }

  pub follows_failed : (unfit : Type 0) (j k : JournalState S) (e : StoreError) → GivesUp j k unfit e → AddsNoOutcome recovers Shielded j k → Follows recovers Shielded j k
  follows_failed unfit j k e g crash = record { was_honest = g.undone.was_clean; shield = crash.shield; counts = g.undone.counts }

  pub outcomes_on : (j k l : JournalState S) → AddsNoOutcome recovers Shielded j k → AddsNoOutcome recovers Shielded k l → AddsNoOutcome recovers Shielded j l
  outcomes_on j k l a b = record { outcomes = λ db may. a.outcomes db (b.outcomes db may); shield = λ s. b.shield (a.shield s) }

-- the first text is the header
pub first_is : (list : List (List ℕ)) (text : List ℕ) → slice_get list 0 ≡ Some text → text ≡ header_line → take 1 list ≡ header_line ∷ []
first_is list text is same = take_one list 0 text is ∙ ap (λ (t : List ℕ). t ∷ []) same

-- one text more is repeated
pub defines_next : (limit : ℕ) (list : List (List ℕ)) (at : ℕ) (text : List ℕ) (c : Catalogue) → slice_get list at ≡ Some text → IsDefinedBy limit (take at list ++ text ∷ []) c → IsDefinedBy limit (take (at + 1) list) c
defines_next limit list at text c is d = subst (λ (l : List (List ℕ)). IsDefinedBy limit l c) (sym (take_one list at text is)) d

-- all are
pub defines_all : (limit : ℕ) (list : List (List ℕ)) (count at : ℕ) (c : Catalogue) → count ≡ length list → count ≤ at → IsDefinedBy limit (take at list) c → IsDefinedBy limit list c
defines_all limit list count at c is le d = subst (λ (l : List (List ℕ)). IsDefinedBy limit l c) (take_all at list (omega (arith, is, le))) d
