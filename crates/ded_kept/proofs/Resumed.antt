-- What a session stands for that was brought back.
use Rattle.std.proofs.Common.{◌≡◌, ◌≤◌, ℕ, Bool, true, List, [], ◌∷◌, ◌++◌, length, refl, sym, ap, ◌∙◌, subst, inl, inr, arith, ⊎_elim, IsTrue}
use Rattle.std.proofs.lemmas.List.{nil_from_length}
use Rattle.sqlite_trees.specs.declared.error.StoreError.{StoreError}
use Rattle.sqlite_trees.specs.Tree.{Trees}
use Rattle.ded_dialogue.specs.declared.status.Status.{Status}
use Rattle.ded_journal.specs.Journals.{JournalState, IsHonest}
use Rattle.ded_journal.specs.Statements.{HoldsStatements}
use Rattle.ded_model.specs.Catalogue.{Catalogue}
use Rattle.ded_recording.specs.Listings.{Listing}
use Rattle.ded_recording.specs.Moving.{standing}
use Rattle.ded_recording.specs.Saving.{IsSettled, HasSaved, StaysUnsaved}
use Rattle.ded_recording.proofs.Settled.{settled_holds}
use Rattle.ded_session.specs.State.{catalogue_in}
use Rattle.ded_kept.specs.declared.session.KeptSession.{KeptSession}
use Rattle.ded_kept.specs.declared.program.KeptStatus.TheVariants.{Ran}
use Rattle.ded_kept.specs.Answering.{KeptState}
use Rattle.ded_kept.specs.Defining.{IsDefinedBy, header_line}
use Rattle.ded_kept.specs.Machine.{listed_in, state_of}
use Rattle.ded_kept.specs.Resuming.{AreKept, IsResumed, LeavesKept}
use Rattle.ded_kept.specs.Running.{FromKept}

module _ {S : Type 0} (recovers : S → Trees → Type 0) (Shielded : S → Type 0) (j k : JournalState S) (count : ℕ) (settled : IsSettled recovers j.now j) (counts : IsTrue j.is_open → count ≡ length j.now) (none : count ≡ 0) where
  -- the journal kept nothing
  kept_none : IsHonest j → j.now ≡ []
  kept_none h = nil_from_length j.now (sym (counts (settled.is_open h)) ∙ none)

  header_alone : IsHonest j → j.now ++ header_line ∷ [] ≡ header_line ∷ []
  header_alone h = ap (λ (l : List (List ℕ)). l ++ header_line ∷ []) (kept_none h)

  pub unsaved_leaves : (e : StoreError) → StaysUnsaved recovers Shielded j k (header_line ∷ []) e → LeavesKept recovers j.now k
  unsaved_leaves e s honest db may =
      let h : IsHonest j = s.follows.was_honest honest in
      ⊎_elim
      (λ holds. (j.now, inl refl, holds))
      (λ holds. (header_line ∷ [], inr (kept_none h, refl), subst (λ (l : List (List ℕ)). HoldsStatements db l) (header_alone h) holds))
      (s.either j.now settled honest db may)

  module _ (s : HasSaved recovers Shielded j k (header_line ∷ [])) where
    pub saved_leaves : LeavesKept recovers j.now k
    saved_leaves honest db may =
        let h : IsHonest j = s.follows.was_honest honest in
        (header_line ∷ [], inr (kept_none h, refl), subst (λ (l : List (List ℕ)). HoldsStatements db l) (header_alone h) (settled_holds recovers (j.now ++ header_line ∷ []) k (s.saved j.now settled) honest db may))

    pub saved_resumes : (limit : ℕ) (session : KeptSession) → IsDefinedBy limit (header_line ∷ []) (catalogue_in session.session) → listed_in session ≡ [] → session.is_first ≡ true → IsResumed limit recovers j.now k session
    saved_resumes limit session defined unlisted first = record {
      kept = j.now ++ header_line ∷ [];
      are = λ honest. inr (kept_none (s.follows.was_honest honest), header_alone (s.follows.was_honest honest));
      settled = s.saved j.now settled;
      defines = λ honest. subst (λ (l : List (List ℕ)). IsDefinedBy limit l (catalogue_in session.session)) (sym (header_alone (s.follows.was_honest honest))) defined;
      unlisted = unlisted;
      first = first;
    }

-- what holds from where the session stands, holds from the texts that are kept
pub from_resumed : {S : Type 0} (recovers : S → Trees → Type 0) (limit : ℕ) (list : List (List ℕ)) (j : JournalState S) (s : KeptSession) → IsResumed limit recovers list j s → IsHonest j → (m : KeptSession) → m ≡ s → (Fact : Listing KeptState → Type 0) → Fact (standing state_of j.now m) → FromKept limit list Fact
from_resumed recovers limit list j s r honest m same Fact so = record {
  kept = r.kept;
  are = r.are honest;
  catalogue = catalogue_in s.session;
  defines = r.defines honest;
  so = subst (λ (b : Bool). Fact (record { list = r.kept; rest = record { is_first = b; catalogue = catalogue_in s.session } })) r.first
      (subst (λ (l : List (List ℕ)). Fact (standing state_of l s)) (r.settled.now honest)
      (subst (λ (x : KeptSession). Fact (standing state_of j.now x)) same so));
}

-- a run that ended so ended so
pub ran_alike : (a b : Status) → Ran a ≡ Ran b → a ≡ b
ran_alike a b e = cc
