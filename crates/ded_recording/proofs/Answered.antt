-- Bytes that a dialogue answered into a draft, what they list saved, and the draft sent.
use Rattle.std.proofs.Common.{◌≡◌, ℕ, List, [], ◌∷◌, ◌++◌, refl, sym, ap, ◌∙◌, append_assoc, append-nil, subst, Bool, ◌||◌, inl, arith, ⊎_elim}
use Rattle.std.specs.Prelude.{Option, Some, map}
use Rattle.std.specs.Io.KnownBytes.{Appends}
use Rattle.std.proofs.Math.Bool.{or-false, or_assoc}
use Rattle.std.proofs.lemmas.List.{map-append}
use Rattle.std.proofs.lemmas.List.Concat.{flat_map-append}
use Rattle.sqlite_trees.specs.Tree.{Trees}
use Rattle.std.proofs.KnownBytes.{Appends-nil}
use Rattle.ded_io.specs.Devices.{Sent}
use Rattle.ded_io.proofs.Steps.{sent_whole, sent_both, sent_longer, all_sent}
use Rattle.ded_lex.specs.Pieces.{Statement, Whole, IsCut, AreStatements}
use Rattle.ded_lex.specs.Splits.{Since}
use Rattle.ded_lex.proofs.Cuts.{goes_on, has_statements, statements_on}
use Rattle.ded_dialogue.specs.declared.dialogue.Dialogue.{Dialogue}
use Rattle.ded_dialogue.specs.Lending.{with_machine}
use Rattle.ded_dialogue.specs.Hearing.{heard_from}
use Rattle.ded_dialogue.specs.Outcome.{ConcludedIn, Interrupted}
use Rattle.ded_dialogue.specs.Replies.{Said, text_of, texts, some_refusal}
use Rattle.ded_dialogue.specs.Runs.{Answers, Steps}
use Rattle.ded_dialogue.specs.Streams.{Streamed, Grows, Breaks, EndsWith, Ends}
use Rattle.ded_dialogue.proofs.Feeding.{no_whole_left, steps_here}
use Rattle.ded_dialogue.proofs.Steps.{SomeSteps}
use Rattle.ded_journal.specs.Journals.{JournalState}
use Rattle.ded_recording.specs.declared.settling.Stop.{Stop}
use Rattle.ded_recording.specs.declared.settling.Stop.TheVariants.{Unsaved, Unsent}
use Rattle.ded_recording.specs.Listings.{Listing, Gives, MayList, SomeGiven, IsToldBy}
use Rattle.ded_recording.specs.Moving.{standing, IsRecorded, HasSettled, StopsIn, Moves, Halts, Ended}
use Rattle.ded_recording.specs.Surviving.{recorded_from, IsAcknowledged}
use Rattle.ded_recording.proofs.Joining.{steps_joined, some_more, told_from, told_to}
use Rattle.ded_recording.proofs.Settled.{settled_holds, follows_itself}

some_of_both : (rs qs : List Said) → some_refusal (rs ++ qs) ≡ some_refusal rs || some_refusal qs
some_of_both [] qs = refl
some_of_both (r ∷ rs) qs = ap (λ (t : Bool). r.refuses || t) (some_of_both rs qs) ∙ sym (or_assoc r.refuses (some_refusal rs) (some_refusal qs))

-- nothing was sent of a text
none_sent : (h : Option (List ℕ)) (text : List ℕ) → Sent h h text text
none_sent h text = record { front = []; is = refl; adds = Appends-nil h }

module _ {A M : Type 0} (G : Gives M) (rest : A → M) (listed : A → List (List ℕ)) (d : Dialogue A) (start : Listing M) (taken : List ℕ) (list : List (List ℕ)) (was now : Option (List ℕ)) (r : IsRecorded G rest listed start taken d list was now) where
  -- what is saved is acknowledged, whatever comes behind
  pub acknowledged_before : (more : List ℕ) → IsAcknowledged G start (taken ++ more) was now list
  acknowledged_before more =
      let coming = has_statements (r.tail ++ more) in
      record {
        statements = map Whole r.pieces;
        later = coming.0;
        are = statements_on taken more r.pieces r.tail coming.0 r.cut coming.1;
        replies = r.replies;
        last = standing rest list d.machine;
        steps = r.steps;
        listed = refl;
        unsent = [];
        sent = sent_whole was now (texts r.replies) r.sent;
      }

  -- also where nothing comes
  pub acknowledged_here : IsAcknowledged G start taken was now list
  acknowledged_here = subst (λ (l : List ℕ). IsAcknowledged G start l was now list) (append-nil taken) (acknowledged_before [])

module _ {A N M : Type 0} (R : Answers N) (state : A → N) (G : Gives M) (rest : A → M) (listed : A → List (List ℕ)) (told : IsToldBy R state G rest listed) (next : (m : M) (s : Statement) → SomeGiven G m s) (d : Dialogue A) where
  module _ (start : Listing M) (taken : List ℕ) (list : List (List ℕ)) (was h1 : Option (List ℕ)) (r : IsRecorded G rest listed start taken d list was h1) where
    abbrev here : Listing M
    here = standing rest list d.machine

    -- the dialogue over a sink that holds no reply yet
    streamed : (h : Option (List ℕ)) → Streamed R state (state d.machine) 0 d.refused d r.tail h h
    streamed h = record {
      tail = r.tail;
      since = r.since;
      so_far = record {
        pieces = [];
        cut = (no_whole_left r.pieces taken r.tail r.cut, refl);
        replies = [];
        goes = λ statements more last steps. steps;
        counts = omega (arith, r.aloud);
        written = sent_whole h h [] (Appends-nil h);
        behind = inl refl;
        refuses = or-false d.refused;
      };
    }

    -- the statements that end in these bytes were answered, and the texts of the replies stand in a draft
    record IsFed (e : Dialogue A) (bytes draft : List ℕ) : Type 0 where
      pub pieces : List (List ℕ)
      pub tail : List ℕ
      pub cut : IsCut (r.tail ++ bytes) pieces tail
      pub since : Since e.splitter tail
      pub aloud : e.silent ≡ 0
      pub replies : List Said
      pub steps : Steps (MayList G) here (map Whole pieces) replies (standing rest (list ++ listed e.machine) e.machine)
      pub text : draft ≡ texts replies
      pub refuses : d.refused || some_refusal replies ≡ e.refused

    -- some of the statements of these bytes were answered so
    record IsDrafted (e : Dialogue A) (bytes draft : List ℕ) : Type 0 where
      pub statements : List Statement
      pub later : List Statement
      pub are : AreStatements (r.tail ++ bytes) (statements ++ later)
      pub replies : List Said
      pub steps : Steps (MayList G) here statements replies (standing rest (list ++ listed e.machine) e.machine)
      pub text : draft ≡ texts replies

    drafted_text : (w0 w : List ℕ) (replies : List Said) → w0 ≡ [] → Appends (Some w0) (Some w) (texts replies) → w ≡ texts replies
    drafted_text w0 w replies none adds = adds ∙ ap (λ (l : List ℕ). l ++ texts replies) none

    fed : (e : Dialogue A) (w0 w bytes : List ℕ) → w0 ≡ [] → Grows R state d e (Some w0) (Some w) bytes → IsFed e bytes w
    fed e w0 w bytes empty g =
        let s : Streamed R state (state d.machine) 0 d.refused e (r.tail ++ bytes) (Some w0) (Some w) = g.on (state d.machine) 0 d.refused r.tail (Some w0) (streamed (Some w0)) in
        record {
          pieces = s.so_far.pieces;
          tail = s.tail;
          cut = s.so_far.cut;
          since = s.since;
          aloud = omega (arith, s.so_far.counts);
          replies = s.so_far.replies;
          steps = told_to R state G rest listed told list d.machine e.machine (map Whole s.so_far.pieces) s.so_far.replies r.none
              (steps_here R (state d.machine) 0 e.silent d.refused (r.tail ++ bytes) s.tail (state e.machine) e.refused [] (Some w0) (Some w) s.so_far);
          text = drafted_text w0 w s.so_far.replies empty (all_sent (Some w0) (Some w) (texts s.so_far.replies) s.so_far.written);
          refuses = s.so_far.refuses;
        }

    fed_drafted : (e : Dialogue A) (bytes draft more : List ℕ) → IsFed e bytes draft → IsDrafted e (bytes ++ more) draft
    fed_drafted e bytes draft more f =
        let coming = has_statements (f.tail ++ more) in
        record {
          statements = map Whole f.pieces;
          later = coming.0;
          are = subst (λ (l : List ℕ). AreStatements l (map Whole f.pieces ++ coming.0)) (append_assoc r.tail bytes more)
              (statements_on (r.tail ++ bytes) more f.pieces f.tail coming.0 f.cut coming.1);
          replies = f.replies;
          steps = f.steps;
          text = f.text;
        }

    ended_with : (e : Dialogue A) (h h' : Option (List ℕ)) (refused : Bool) → Ends R state d h h' refused (state e.machine) → EndsWith R (state d.machine) 0 d.refused r.tail h h' refused (state e.machine)
    ended_with e h h' refused x = x.on (state d.machine) 0 d.refused r.tail h (streamed h)

    ended_drafted : (e : Dialogue A) (w0 w : List ℕ) (refused : Bool) → w0 ≡ [] → Ends R state d (Some w0) (Some w) refused (state e.machine) → IsDrafted e [] w
    ended_drafted e w0 w refused empty x =
        let s = ended_with e (Some w0) (Some w) refused x in
        record {
          statements = s.run.statements;
          later = [];
          are = subst (λ (l : List ℕ). AreStatements l (s.run.statements ++ [])) (sym (append-nil r.tail)) (subst (λ (l : List Statement). AreStatements r.tail l) (sym (append-nil s.run.statements)) s.run.cut);
          replies = s.replies;
          steps = told_to R state G rest listed told list d.machine e.machine s.run.statements s.replies r.none s.run.steps;
          text = drafted_text w0 w s.replies empty s.written;
        }

    -- ---- where all was saved and sent

    both_texts : (h2 : Option (List ℕ)) (draft : List ℕ) (replies : List Said) (unsent : List ℕ) → draft ≡ texts replies → Sent h1 h2 draft unsent → Sent was h2 (texts (r.replies ++ replies)) unsent
    both_texts h2 draft replies unsent is s =
        subst (λ (l : List ℕ). Sent was h2 l unsent) (sym (flat_map-append text_of r.replies replies))
        (sent_both was h1 h2 (texts r.replies ++ texts replies) (texts replies) unsent
        (sent_longer was h1 (texts r.replies) [] (texts replies) (sent_whole was h1 (texts r.replies) r.sent))
        (subst (λ (l : List ℕ). Sent h1 h2 l unsent) is s))

    settled_on : (e : Dialogue A) (m : A) → rest m ≡ rest e.machine → standing rest (list ++ listed e.machine) e.machine ≡ standing rest (list ++ listed e.machine) m
    settled_on e m stays = ap (λ (x : M). record { list = list ++ listed e.machine; rest = x }) (sym stays)

    pub recorded_on : (e : Dialogue A) (w0 w bytes : List ℕ) → w0 ≡ [] → Grows R state d e (Some w0) (Some w) bytes → (m : A) (h2 : Option (List ℕ)) → listed m ≡ [] → rest m ≡ rest e.machine → Appends h1 h2 w
        → IsRecorded G rest listed start (taken ++ bytes) (with_machine e m) (list ++ listed e.machine) was h2
    recorded_on e w0 w bytes empty g m h2 none stays sent =
        let f : IsFed e bytes w = fed e w0 w bytes empty g in
        record {
          pieces = r.pieces ++ f.pieces;
          tail = f.tail;
          cut = goes_on r.pieces taken r.tail bytes f.pieces f.tail r.cut f.cut;
          since = f.since;
          aloud = f.aloud;
          replies = r.replies ++ f.replies;
          steps = subst (λ (n : Listing M). Steps (MayList G) start (map Whole (r.pieces ++ f.pieces)) (r.replies ++ f.replies) n) (settled_on e m stays)
              (subst (λ (ss : List Statement). Steps (MayList G) start ss (r.replies ++ f.replies) (standing rest (list ++ listed e.machine) e.machine)) (sym (map-append Whole r.pieces f.pieces))
              (steps_joined (MayList G) start here (standing rest (list ++ listed e.machine) e.machine) (map Whole r.pieces) (map Whole f.pieces) r.replies f.replies r.steps f.steps));
          none = none;
          sent = all_sent was h2 (texts (r.replies ++ f.replies)) (both_texts h2 w f.replies [] f.text (sent_whole h1 h2 w sent));
          refuses = some_of_both r.replies f.replies ∙ ap (λ (b : Bool). b || some_refusal f.replies) r.refuses ∙ f.refuses;
        }

    -- with them
    acknowledged_with : (e : Dialogue A) (bytes draft : List ℕ) → IsDrafted e bytes draft → (h2 : Option (List ℕ)) (unsent : List ℕ) → Sent h1 h2 draft unsent → IsAcknowledged G start (taken ++ bytes) was h2 (list ++ listed e.machine)
    acknowledged_with e bytes draft f h2 unsent sent = record {
      statements = map Whole r.pieces ++ f.statements;
      later = f.later;
      are = subst (λ (ss : List Statement). AreStatements (taken ++ bytes) ss) (sym (append_assoc (map Whole r.pieces) f.statements f.later))
          (statements_on taken bytes r.pieces r.tail (f.statements ++ f.later) r.cut f.are);
      replies = r.replies ++ f.replies;
      last = standing rest (list ++ listed e.machine) e.machine;
      steps = steps_joined (MayList G) start here (standing rest (list ++ listed e.machine) e.machine) (map Whole r.pieces) f.statements r.replies f.replies r.steps f.steps;
      listed = refl;
      unsent = unsent;
      sent = both_texts h2 draft f.replies unsent f.text sent;
    }

    -- ---- where it stops

    stops_with : (e : Dialogue A) (bytes draft : List ℕ) → IsDrafted e bytes draft → (h2 : Option (List ℕ)) (unsent : List ℕ) → Sent h1 h2 draft unsent → Interrupted (recorded_from G here) 0 (r.tail ++ bytes) h1 h2
    stops_with e bytes draft f h2 unsent sent =
        let last : Listing M = standing rest (list ++ listed e.machine) e.machine in
        let more : SomeSteps (MayList G) last f.later = some_more G next last f.later in
        record {
          replies = f.replies ++ more.replies;
          last = more.last;
          run = record {
            statements = f.statements ++ f.later;
            cut = f.are;
            steps = steps_joined (MayList G) here last more.last f.statements f.later f.replies more.replies f.steps more.steps;
          };
          unwritten = unsent ++ texts more.replies;
          written = subst (λ (l : List ℕ). Sent h1 h2 l (unsent ++ texts more.replies)) (sym (flat_map-append text_of f.replies more.replies))
              (sent_longer h1 h2 (texts f.replies) unsent (texts more.replies) (subst (λ (l : List ℕ). Sent h1 h2 l unsent) f.text sent));
        }

    -- the draft failed, so nothing was sent
    undrafted : (h h2 : Option (List ℕ)) (bytes : List ℕ) → Interrupted (heard_from R (state d.machine)) 0 bytes h h2 → Interrupted (recorded_from G here) 0 bytes h1 h1
    undrafted h h2 bytes i = record {
      replies = i.replies;
      last = record { list = list ++ (told.shows i.last).list; rest = (told.shows i.last).rest };
      run = record {
        statements = i.run.statements;
        cut = i.run.cut;
        steps = told_from R state G rest listed told list d.machine i.last i.run.statements i.replies r.none i.run.steps;
      };
      unwritten = texts i.replies;
      written = none_sent h1 (texts i.replies);
    }

    -- in bytes that were fed
    pub stops_in_bytes : (w0 : List ℕ) (h2 : Option (List ℕ)) (bytes more : List ℕ) → Breaks R state d (Some w0) h2 bytes → Interrupted (recorded_from G here) 0 (r.tail ++ (bytes ++ more)) h1 h1
    stops_in_bytes w0 h2 bytes more b =
        subst (λ (l : List ℕ). Interrupted (recorded_from G here) 0 l h1 h1) (append_assoc r.tail bytes more)
        (undrafted (Some w0) h2 ((r.tail ++ bytes) ++ more) (b.on (state d.machine) 0 d.refused r.tail (Some w0) (streamed (Some w0)) more))

    -- at the end
    pub stops_at_end : (w0 : List ℕ) (h2 : Option (List ℕ)) → ((start : N) (silent : ℕ) (before : Bool) (taken : List ℕ) (contents : Option (List ℕ)) → Streamed R state start silent before d taken contents (Some w0) → Interrupted (heard_from R start) silent taken contents h2)
        → Interrupted (recorded_from G here) 0 (r.tail ++ []) h1 h1
    stops_at_end w0 h2 stopped =
        subst (λ (l : List ℕ). Interrupted (recorded_from G here) 0 l h1 h1) (sym (append-nil r.tail))
        (undrafted (Some w0) h2 r.tail (stopped (state d.machine) 0 d.refused r.tail (Some w0) (streamed (Some w0))))

    -- ---- the end of the input

    pub concluded_on : (e : Dialogue A) (w0 w : List ℕ) (refused : Bool) → w0 ≡ [] → Ends R state d (Some w0) (Some w) refused (state e.machine) → (m : A) (h2 : Option (List ℕ)) → rest m ≡ rest e.machine → Appends h1 h2 w
        → ConcludedIn (recorded_from G start) 0 taken was h2 refused (standing rest (list ++ listed e.machine) m)
    unfolding ended_with ended_drafted
    concluded_on e w0 w refused empty x m h2 stays sent =
        let s = ended_with e (Some w0) (Some w) refused x in
        let f : IsDrafted e [] w = ended_drafted e w0 w refused empty x in (
          record {
            replies = r.replies ++ s.replies;
            last = standing rest (list ++ listed e.machine) m;
            run = record {
              statements = map Whole r.pieces ++ s.run.statements;
              cut = subst (λ (l : List ℕ). AreStatements l (map Whole r.pieces ++ s.run.statements)) (append-nil taken)
                  (statements_on taken [] r.pieces r.tail s.run.statements r.cut (subst (λ (l : List ℕ). AreStatements l s.run.statements) (sym (append-nil r.tail)) s.run.cut));
              steps = subst (λ (n : Listing M). Steps (MayList G) start (map Whole r.pieces ++ s.run.statements) (r.replies ++ s.replies) n) (settled_on e m stays)
                  (steps_joined (MayList G) start here (standing rest (list ++ listed e.machine) e.machine) (map Whole r.pieces) s.run.statements r.replies s.replies r.steps f.steps);
            };
            written = all_sent was h2 (texts (r.replies ++ s.replies)) (both_texts h2 w s.replies [] f.text (sent_whole h1 h2 w sent));
            refuses = some_of_both r.replies s.replies ∙ ap (λ (b : Bool). b || some_refusal s.replies) r.refuses ∙ s.refuses;
          },
          refl,
        )

    pub acknowledged_at_end : (e : Dialogue A) (w0 w : List ℕ) (refused : Bool) → w0 ≡ [] → Ends R state d (Some w0) (Some w) refused (state e.machine) → (h2 : Option (List ℕ)) → Appends h1 h2 w → IsAcknowledged G start taken was h2 (list ++ listed e.machine)
    acknowledged_at_end e w0 w refused empty x h2 sent =
        subst (λ (l : List ℕ). IsAcknowledged G start l was h2 (list ++ listed e.machine)) (append-nil taken)
        (acknowledged_with e [] w (ended_drafted e w0 w refused empty x) h2 [] (sent_whole h1 h2 w sent))

  -- ---- where what was drafted wasn't all saved and sent

  module _ {S : Type 0} (recovers : S → Trees → Type 0) (Shielded : S → Type 0) (j k : JournalState S) (h1 h2 : Option (List ℕ)) where
    halts_with : (e : Dialogue A) (bytes draft : List ℕ) → ((start : Listing M) (taken : List ℕ) (list : List (List ℕ)) (was : Option (List ℕ)) (r : IsRecorded G rest listed start taken d list was h1) → IsDrafted start taken list was h1 r e bytes draft)
        → (stop : Stop) → StopsIn G rest listed recovers Shielded e.machine j k h1 h2 draft stop → Halts G rest listed recovers Shielded d j k h1 h2 bytes
    halts_with e bytes draft drafted (Unsaved error) (stays, same) = record {
      follows = stays.follows;
      stops = λ start taken list was r. stops_with start taken list was h1 r e bytes draft (drafted start taken list was r) h2 draft (subst (λ (h : Option (List ℕ)). Sent h1 h draft draft) (sym same) (none_sent h1 draft));
      survives = λ start taken list was r settled honest db may.
          let none : Sent h1 h2 draft draft = subst (λ (h : Option (List ℕ)). Sent h1 h draft draft) (sym same) (none_sent h1 draft) in
          ⊎_elim
          (λ holds. (list, holds, subst (λ (h : Option (List ℕ)). IsAcknowledged G start (taken ++ bytes) was h list) (sym same) (acknowledged_before G rest listed d start taken list was h1 r bytes)))
          (λ holds. (list ++ listed e.machine, holds, acknowledged_with start taken list was h1 r e bytes draft (drafted start taken list was r) h2 draft none))
          (stays.either list settled honest db may);
    }
    halts_with e bytes draft drafted Unsent (saved, unsent, sent) = record {
      follows = saved.follows;
      stops = λ start taken list was r. stops_with start taken list was h1 r e bytes draft (drafted start taken list was r) h2 unsent sent;
      survives = λ start taken list was r settled honest db may. (
        list ++ listed e.machine,
        settled_holds recovers (list ++ listed e.machine) k (saved.saved list settled) honest db may,
        acknowledged_with start taken list was h1 r e bytes draft (drafted start taken list was r) h2 unsent sent,
      );
    }

    pub halts_fed : (e : Dialogue A) (w0 w bytes more : List ℕ) → w0 ≡ [] → Grows R state d e (Some w0) (Some w) bytes → (stop : Stop) → StopsIn G rest listed recovers Shielded e.machine j k h1 h2 w stop → Halts G rest listed recovers Shielded d j k h1 h2 (bytes ++ more)
    halts_fed e w0 w bytes more empty g stop s =
        halts_with e (bytes ++ more) w (λ start taken list was r. fed_drafted start taken list was h1 r e bytes w more (fed start taken list was h1 r e w0 w bytes empty g)) stop s

    pub halts_ended : (e : Dialogue A) (w0 w : List ℕ) (refused : Bool) → w0 ≡ [] → Ends R state d (Some w0) (Some w) refused (state e.machine) → (stop : Stop) → StopsIn G rest listed recovers Shielded e.machine j k h1 h2 w stop → Halts G rest listed recovers Shielded d j k h1 h2 []
    halts_ended e w0 w refused empty x stop s =
        halts_with e [] w (λ start taken list was r. ended_drafted start taken list was h1 r e w0 w refused empty x) stop s

  module _ {S : Type 0} (recovers : S → Trees → Type 0) (Shielded : S → Type 0) (j : JournalState S) (h1 : Option (List ℕ)) where
    -- the draft failed
    halts_undrafted : (bytes : List ℕ) → ((start : Listing M) (taken : List ℕ) (list : List (List ℕ)) (was : Option (List ℕ)) (r : IsRecorded G rest listed start taken d list was h1) → Interrupted (recorded_from G (standing rest list d.machine)) 0 (r.tail ++ bytes) h1 h1)
        → Halts G rest listed recovers Shielded d j j h1 h1 bytes
    halts_undrafted bytes stops = record {
      follows = follows_itself recovers Shielded j;
      stops = stops;
      survives = λ start taken list was r settled honest db may. (list, settled_holds recovers list j settled honest db may, acknowledged_before G rest listed d start taken list was h1 r bytes);
    }

    pub halts_feeding : (w0 bytes more : List ℕ) (h : Option (List ℕ)) → Breaks R state d (Some w0) h bytes → Halts G rest listed recovers Shielded d j j h1 h1 (bytes ++ more)
    halts_feeding w0 bytes more h b = halts_undrafted (bytes ++ more) (λ start taken list was r. stops_in_bytes start taken list was h1 r w0 h bytes more b)

    pub halts_ending : (w0 : List ℕ) (h : Option (List ℕ)) → ((start : N) (silent : ℕ) (before : Bool) (taken : List ℕ) (contents : Option (List ℕ)) → Streamed R state start silent before d taken contents (Some w0) → Interrupted (heard_from R start) silent taken contents h)
        → Halts G rest listed recovers Shielded d j j h1 h1 []
    halts_ending w0 h stopped = halts_undrafted [] (λ start taken list was r. stops_at_end start taken list was h1 r w0 h stopped)

    module _ (k : JournalState S) (h2 : Option (List ℕ)) (e : Dialogue A) (w0 w : List ℕ) (m : A) (empty : w0 ≡ []) (s : HasSettled G rest listed recovers Shielded e.machine m j k h1 h2 w) where
      pub moved : (bytes : List ℕ) → Grows R state d e (Some w0) (Some w) bytes → Moves G rest listed recovers Shielded d (with_machine e m) j k h1 h2 bytes
      moved bytes g = record {
        follows = s.saved.follows;
        on = λ start taken list was r settled. (listed e.machine, recorded_on start taken list was h1 r e w0 w bytes empty g m h2 s.none s.stays s.sent, s.saved.saved list settled);
      }

      pub ended : (refused : Bool) → Ends R state d (Some w0) (Some w) refused (state e.machine) → Ended G rest listed recovers Shielded d (with_machine e m) j k h1 h2 refused
      ended refused x = record {
        follows = s.saved.follows;
        on = λ start taken list was r settled. (
          listed e.machine,
          concluded_on start taken list was h1 r e w0 w refused empty x m h2 s.stays s.sent,
          s.saved.saved list settled,
          acknowledged_at_end start taken list was h1 r e w0 w refused empty x h2 s.sent,
        );
      }

-- what is said of a machine and a text is said of the same ones
module _ {A M S : Type 0} (G : Gives M) (rest : A → M) (listed : A → List (List ℕ)) (recovers : S → Trees → Type 0) (Shielded : S → Type 0) (a b : A) (j k : JournalState S) (h1 h2 : Option (List ℕ)) (v w : List ℕ) (same : a ≡ b) (text : v ≡ w) where
  pub settled_as : (m : A) → HasSettled G rest listed recovers Shielded a m j k h1 h2 v → HasSettled G rest listed recovers Shielded b m j k h1 h2 w
  settled_as m s = subst (λ (x : A). HasSettled G rest listed recovers Shielded x m j k h1 h2 w) same (subst (λ (x : List ℕ). HasSettled G rest listed recovers Shielded a m j k h1 h2 x) text s)

  pub stops_as : (stop : Stop) → StopsIn G rest listed recovers Shielded a j k h1 h2 v stop → StopsIn G rest listed recovers Shielded b j k h1 h2 w stop
  stops_as stop s = subst (λ (x : A). StopsIn G rest listed recovers Shielded x j k h1 h2 w stop) same (subst (λ (x : List ℕ). StopsIn G rest listed recovers Shielded a j k h1 h2 x stop) text s)
