use Rattle.std.proofs.Common.{◌≡◌, ◌≤◌, ℕ, take, ◌∷◌, []}
use Rattle.ded_journal.specs.Journals.{IsHonest, AddsNoOutcome}
use Rattle.ded_recording.specs.Saving.{IsSettled, Follows}
use Rattle.ded_session.specs.State.{catalogue_in}
use Rattle.ded_kept.specs.Defining.{IsDefinedBy, header_line}
use Rattle.ded_kept.specs.Machine.{listed_in}
use Rattle.ded_kept.proofs.resuming.repeat_texts.Given as goal

-- the texts so far are repeated, and the journal keeps what it kept
abbrev pub invariant-loop-at : goal.invariant-loop-at
invariant-loop-at g l =
    record {
      settled : IsSettled g.S.Store.recovers l.fn.journal.now l.journal;
      crash : AddsNoOutcome g.S.Store.recovers g.S.Store.is_shielded l.fn.journal l.journal;
      follows : Follows g.S.Store.recovers g.S.Store.is_shielded l.fn.journal l.journal;
      defines : IsHonest l.journal → (limit : ℕ) → IsDefinedBy limit (header_line ∷ []) (catalogue_in l.fn.session.session) → IsDefinedBy limit (take l.at l.fn.journal.now) (catalogue_in l.session.session);
      unlisted : listed_in l.session ≡ listed_in l.fn.session;
      first : l.session.is_first ≡ l.fn.session.is_first;
    }
