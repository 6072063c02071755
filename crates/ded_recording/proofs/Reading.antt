-- Reads that go on, and how they end.
use Rattle.std.proofs.Common.{◌≡◌, ℕ, ◌+◌, ◌<◌, ◌≤◌, length, take, drop, List, [], ◌++◌, refl, sym, ap, ◌∙◌, append_assoc, append-nil, length-append, subst, arith, Bool}
use Rattle.std.specs.Prelude.{Option, None, Some, IfSome, IfErr, Result, map}
use Rattle.std.specs.Io.KnownBytes.{Appends, Consumes, Keeps, IsAtEnd}
use Rattle.std.proofs.KnownBytes.{Consumes-nil, Consumes-trans, Consumes-kept, Consumes-whole, Appends-nil}
use Rattle.std.proofs.lemmas.List.{length-map, length-take-le, take-take, take-append-drop, take_at, drop_at}
use Rattle.std.proofs.Math.Seq.{take-append-add}
use Rattle.sqlite_disk.specs.Disk.{MoreFaults}
use Rattle.sqlite_trees.specs.declared.error.StoreError.{StoreError}
use Rattle.sqlite_trees.specs.Tree.{Trees}
use Rattle.ded_io.specs.Devices.{Sent}
use Rattle.ded_lex.specs.Pieces.{Whole}
use Rattle.ded_lex.proofs.Cuts.{cut_of_nothing, statements_on}
use Rattle.ded_dialogue.specs.declared.dialogue.Dialogue.{Dialogue}
use Rattle.ded_dialogue.specs.declared.status.Status.{Status}
use Rattle.ded_dialogue.specs.Outcome.{AnsweredIn, WholesAnswered, Unread, Overlong, Interrupted, Broken}
use Rattle.ded_dialogue.specs.Replies.{Said, texts}
use Rattle.ded_dialogue.specs.Streams.{IsFresh}
use Rattle.ded_dialogue.proofs.Steps.{many_steps}
use Rattle.ded_journal.specs.Journals.{JournalState, IsHonest}
use Rattle.ded_recording.specs.declared.settling.Stop.{Stop}
use Rattle.ded_recording.specs.declared.settling.Stop.TheVariants.{Unsaved, Unsent}
use Rattle.ded_recording.specs.Listings.{Listing, Gives, MayList}
use Rattle.ded_recording.specs.Moving.{outcome_of, StopsFor, standing, IsRecorded, Moves, Halts, Ended, Reads}
use Rattle.ded_recording.specs.Saving.{IsSettled, Follows, MayStayUnsaved}
use Rattle.ded_recording.specs.Surviving.{recorded_from, IsAcknowledged, Survives}
use Rattle.ded_recording.proofs.Joining.{steps_joined}
use Rattle.ded_recording.proofs.Answered.{acknowledged_before, acknowledged_here}
use Rattle.ded_recording.proofs.Settled.{settled_holds, settled_now, follows_itself, follows_on, caused}

-- the other way round
told_back : {A : Type 0} (told : Option A) (x : A) → IfSome told (λ y. y ≡ x) → IfSome told (λ y. x ≡ y)
told_back None x h = tt
told_back (Some y) x h = sym h

module _ {A M S : Type 0} (G : Gives M) (rest : A → M) (listed : A → List (List ℕ)) (recovers : S → Trees → Type 0) (Shielded : S → Type 0) where
  pub begins : (input_limit : ℕ) (d : Dialogue A) (j : JournalState S) (s0 h0 : Option (List ℕ)) → IsFresh d.machine 0 d → listed d.machine ≡ [] → IsSettled recovers j.now j
      → Reads G rest listed recovers Shielded (standing rest j.now d.machine) input_limit input_limit d j j s0 s0 h0 h0
  begins input_limit d j s0 h0 fresh none settled = record {
    taken = [];
    takes = Consumes-nil s0;
    counts = omega arith;
    list = j.now;
    recorded = record {
      pieces = [];
      tail = [];
      cut = cut_of_nothing;
      since = fresh.since;
      aloud = fresh.left;
      replies = [];
      steps = refl;
      none = none;
      sent = Appends-nil h0;
      refuses = sym fresh.refused;
    };
    follows = follows_itself recovers Shielded j;
    settled = settled;
  }

  module _ (start : Listing M) (input_limit room : ℕ) (d : Dialogue A) (j k : JournalState S) (s0 s1 h0 h1 : Option (List ℕ)) (r : Reads G rest listed recovers Shielded start input_limit room d j k s0 s1 h0 h1) where
    wholes : (e : Dialogue A) (taken : List ℕ) (list : List (List ℕ)) (h2 : Option (List ℕ)) → IsRecorded G rest listed start taken e list h0 h2 → WholesAnswered (recorded_from G start) taken h0 h2
    wholes e taken list h2 w = record {
      pieces = w.pieces;
      rest = w.tail;
      cut = w.cut;
      replies = w.replies;
      last = standing rest list e.machine;
      steps = w.steps;
      written = w.sent;
    }

    -- a piece that fits was read, answered, saved and sent
    pub reads_on : (e : Dialogue A) (l : JournalState S) (s2 h2 : Option (List ℕ)) (bytes : List ℕ) (n within : ℕ) → n ≤ length bytes → within ≡ n → n ≤ room → Consumes s1 s2 (take n bytes)
        → Moves G rest listed recovers Shielded d e k l h1 h2 (take within bytes)
        → (left : ℕ) → left + n ≡ room → Reads G rest listed recovers Shielded start input_limit left e j l s0 s2 h0 h2
    reads_on e l s2 h2 bytes n within fits same le takes moves left more =
        let on = moves.on start r.taken r.list h0 r.recorded r.settled in
        record {
          taken = r.taken ++ take n bytes;
          takes = Consumes-trans s0 s1 s2 r.taken (take n bytes) r.takes takes;
          counts = omega (arith, r.counts, length-append r.taken (take n bytes), length-take-le n bytes fits);
          list = r.list ++ on.0;
          recorded = subst (λ (k : ℕ). IsRecorded G rest listed start (r.taken ++ take k bytes) e (r.list ++ on.0) h0 h2) same on.1;
          follows = follows_on recovers Shielded j k l r.follows moves.follows;
          settled = on.2;
        }

    -- ---- how it ends

    -- the read failed
    pub stays_unread : (s2 : Option (List ℕ)) → Keeps s1 s2 → Unread (recorded_from G start) input_limit s0 s2 h0 h1
    stays_unread s2 kept = record {
      taken = r.taken;
      takes = Consumes-kept s0 s1 s2 r.taken r.takes kept;
      within = omega (arith, r.counts);
      answered = wholes d r.taken r.list h1 r.recorded;
    }

    pub unread_survives : (s2 : Option (List ℕ)) → Keeps s1 s2 → Survives G start recovers k s0 s2 h0 h1
    unread_survives s2 kept honest db may = record {
      taken = r.taken;
      takes = Consumes-kept s0 s1 s2 r.taken r.takes kept;
      list = r.list;
      holds = settled_holds recovers r.list k r.settled honest db may;
      acknowledged = acknowledged_here G rest listed d start r.taken r.list h0 h1 r.recorded;
    }

    pub settles : IsSettled recovers k.now k
    settles = settled_now recovers r.list k r.settled

    all : (s2 : Option (List ℕ)) (bytes : List ℕ) (n : ℕ) → n ≡ 0 → Consumes s1 s2 (take n bytes) → Consumes s0 s2 r.taken
    all s2 bytes n none takes =
        subst (λ (l : List ℕ). Consumes s0 s2 l) (append-nil r.taken) (Consumes-trans s0 s1 s2 r.taken [] r.takes (subst (λ (k : ℕ). Consumes s1 s2 (take k bytes)) none takes))

    module _ (e : Dialogue A) (l : JournalState S) (s2 h2 : Option (List ℕ)) (refused : Bool) (bytes : List ℕ) (n : ℕ) (none : n ≡ 0) (takes : Consumes s1 s2 (take n bytes)) (ended : Ended G rest listed recovers Shielded d e k l h1 h2 refused) where
      -- the input ended, and its last statement is answered
      pub all_answered : (wanted : Bool) → refused ≡ wanted → IsAtEnd s2 → IsHonest l → AnsweredIn (recorded_from G start) input_limit s0 s2 h0 h2 wanted (standing rest l.now e.machine)
      all_answered wanted same end honest =
          let on = ended.on start r.taken r.list h0 r.recorded r.settled in
          let gone : Consumes s0 s2 r.taken = all s2 bytes n none takes in
          subst (λ (b : Bool). AnsweredIn (recorded_from G start) input_limit s0 s2 h0 h2 b (standing rest l.now e.machine)) same (
            record {
              taken = r.taken;
              takes = gone;
              read = end;
              whole = Consumes-whole s0 s2 r.taken (λ (script : List ℕ). script ≡ r.taken) gone end refl;
              within = omega (arith, r.counts);
              concluded = on.1.0;
            },
            on.1.1 ∙ ap (λ (x : List (List ℕ)). standing rest x e.machine) (sym (on.2.now honest)),
          )

      pub end_settles : IsSettled recovers l.now l
      end_settles = let on = ended.on start r.taken r.list h0 r.recorded r.settled in settled_now recovers (r.list ++ on.0) l on.2

      pub end_follows : Follows recovers Shielded j l
      end_follows = follows_on recovers Shielded j k l r.follows ended.follows

      pub end_survives : Survives G start recovers l s0 s2 h0 h2
      end_survives honest db may =
          let on = ended.on start r.taken r.list h0 r.recorded r.settled in
          record {
            taken = r.taken;
            takes = all s2 bytes n none takes;
            list = r.list ++ on.0;
            holds = settled_holds recovers (r.list ++ on.0) l on.2 honest db may;
            acknowledged = on.3;
          }

    -- it stopped in the bytes that the last read gave
    module _ (l : JournalState S) (s2 given h2 : Option (List ℕ)) (chunk : List ℕ) (takes : Consumes s1 s2 chunk) (halts : Halts G rest listed recovers Shielded d k l h1 h2 chunk) where
      pub breaks : IfSome given (λ bytes. bytes ≡ chunk) → Broken (recorded_from G start) s0 s2 given h0 h2
      breaks last =
          let f : IsRecorded G rest listed start r.taken d r.list h0 h1 = r.recorded in
          let i : Interrupted (recorded_from G (standing rest r.list d.machine)) 0 (f.tail ++ chunk) h1 h2 = halts.stops start r.taken r.list h0 f in
          let many : length f.replies ≡ length f.pieces =
          many_steps (MayList G) start (standing rest r.list d.machine) (map Whole f.pieces) f.replies f.steps ∙ length-map f.pieces Whole in
          record {
            before = r.taken;
            chunk = chunk;
            takes = Consumes-trans s0 s1 s2 r.taken chunk r.takes takes;
            newest = told_back given chunk last;
            pieces = f.pieces;
            rest = f.tail;
            cut = f.cut;
            replies = f.replies ++ i.replies;
            last = i.last;
            run = record {
              statements = map Whole f.pieces ++ i.run.statements;
              cut = statements_on r.taken chunk f.pieces f.tail i.run.statements f.cut i.run.cut;
              steps = steps_joined (MayList G) start (standing rest r.list d.machine) i.last (map Whole f.pieces) i.run.statements f.replies i.replies f.steps i.run.steps;
            };
            between = h1;
            answered = subst (λ (rs : List Said). Appends h0 h1 (texts rs)) (sym (take_at f.replies i.replies (length f.pieces) many)) f.sent;
            unwritten = i.unwritten;
            written = subst (λ (rs : List Said). Sent h1 h2 (texts rs) i.unwritten) (sym (drop_at f.replies i.replies (length f.pieces) many)) i.written;
          }

      pub halt_survives : Survives G start recovers l s0 s2 h0 h2
      halt_survives honest db may =
          let kept = halts.survives start r.taken r.list h0 r.recorded r.settled honest db may in
          record {
            taken = r.taken ++ chunk;
            takes = Consumes-trans s0 s1 s2 r.taken chunk r.takes takes;
            list = kept.0;
            holds = kept.1;
            acknowledged = kept.2;
          }

      pub halt_follows : Follows recovers Shielded j l
      halt_follows = follows_on recovers Shielded j k l r.follows halts.follows

    take_within : (n within : ℕ) (bytes : List ℕ) → within ≤ n → take within bytes ++ drop within (take n bytes) ≡ take n bytes
    take_within n within bytes le = ap (λ (l : List ℕ). l ++ drop within (take n bytes)) (sym (take-take within n bytes le)) ∙ take-append-drop within (take n bytes)

    -- all that the last read gave
    pub halts_in : (l : JournalState S) (h2 : Option (List ℕ)) (bytes : List ℕ) (n within : ℕ) → within ≤ n → ((more : List ℕ) → Halts G rest listed recovers Shielded d k l h1 h2 (take within bytes ++ more)) → Halts G rest listed recovers Shielded d k l h1 h2 (take n bytes)
    halts_in l h2 bytes n within le halts = subst (λ (c : List ℕ). Halts G rest listed recovers Shielded d k l h1 h2 c) (take_within n within bytes le) (halts (drop within (take n bytes)))

    -- or nothing
    pub halts_none : (l : JournalState S) (h2 : Option (List ℕ)) (bytes : List ℕ) (n : ℕ) → n ≡ 0 → Halts G rest listed recovers Shielded d k l h1 h2 [] → Halts G rest listed recovers Shielded d k l h1 h2 (take n bytes)
    halts_none l h2 bytes n none halts = subst (λ (m : ℕ). Halts G rest listed recovers Shielded d k l h1 h2 (take m bytes)) (sym none) halts

    -- more was read than may come
    module _ (e : Dialogue A) (l : JournalState S) (s2 h2 : Option (List ℕ)) (bytes : List ℕ) (n within : ℕ) (fits : n ≤ length bytes) (same : within ≡ room) (more : room < n) (takes : Consumes s1 s2 (take n bytes)) (moves : Moves G rest listed recovers Shielded d e k l h1 h2 (take within bytes)) where
      pub is_overlong : Overlong (recorded_from G start) input_limit s0 s2 h0 h2
      is_overlong =
          let on = moves.on start r.taken r.list h0 r.recorded r.settled in
          let front : take input_limit (r.taken ++ take n bytes) ≡ r.taken ++ take room bytes =
          ap (λ (k : ℕ). take k (r.taken ++ take n bytes)) (sym r.counts) ∙ take-append-add r.taken (take n bytes) room ∙ ap (λ (l : List ℕ). r.taken ++ l) (take-take room n bytes (omega arith)) in
          record {
            taken = r.taken ++ take n bytes;
            takes = Consumes-trans s0 s1 s2 r.taken (take n bytes) r.takes takes;
            more = omega (arith, r.counts, length-append r.taken (take n bytes), length-take-le n bytes fits);
            answered = subst (λ (l : List ℕ). WholesAnswered (recorded_from G start) l h0 h2) (ap (λ (k : ℕ). r.taken ++ take k bytes) same ∙ sym front)
                (wholes e (r.taken ++ take within bytes) (r.list ++ on.0) h2 on.1);
          }

      pub overlong_survives : Survives G start recovers l s0 s2 h0 h2
      overlong_survives honest db may =
          let on = moves.on start r.taken r.list h0 r.recorded r.settled in
          record {
            taken = r.taken ++ take n bytes;
            takes = Consumes-trans s0 s1 s2 r.taken (take n bytes) r.takes takes;
            list = r.list ++ on.0;
            holds = settled_holds recovers (r.list ++ on.0) l on.2 honest db may;
            acknowledged = subst (λ (c : List ℕ). IsAcknowledged G start c h0 h2 (r.list ++ on.0))
                (append_assoc r.taken (take within bytes) (drop within (take n bytes)) ∙ ap (λ (c : List ℕ). r.taken ++ c) (take_within n within bytes (omega (arith, same, more))))
                (acknowledged_before G rest listed e start (r.taken ++ take within bytes) (r.list ++ on.0) h0 h2 on.1 (drop within (take n bytes)));
          }

      pub overlong_settles : IsSettled recovers l.now l
      overlong_settles = let on = moves.on start r.taken r.list h0 r.recorded r.settled in settled_now recovers (r.list ++ on.0) l on.2

      pub overlong_follows : Follows recovers Shielded j l
      overlong_follows = follows_on recovers Shielded j k l r.follows moves.follows

    -- why what was listed wasn't saved
    pub stop_fault : (l : JournalState S) (stop : Stop) (result : Result Status StoreError) (a b before now was : ℕ) → result ≡ outcome_of stop → b ≡ a → was ≡ before → StopsFor recovers k l was now stop
        → IfErr result (λ e. (b ≡ a) × (now ≡ before) × (IsHonest l → MayStayUnsaved (MoreFaults j.faults l.faults) (Unit {0}) e))
    stop_fault l stop result a b before now was is read written cause = subst (λ (x : Result Status StoreError). IfErr x (λ e. (b ≡ a) × (now ≡ before) × (IsHonest l → MayStayUnsaved (MoreFaults j.faults l.faults) (Unit {0}) e))) (sym is) (by stop cause)
      where
        by : (s : Stop) → StopsFor recovers k l was now s → IfErr (outcome_of s) (λ e. (b ≡ a) × (now ≡ before) × (IsHonest l → MayStayUnsaved (MoreFaults j.faults l.faults) (Unit {0}) e))
        by (Unsaved e) x = (read, x.0 ∙ written, λ h. caused recovers Shielded j.faults k.faults l.faults (Unit {0}) e r.follows.counts (x.1 r.list r.settled h))
        by Unsent x = tt
