-- What the statement that is made of printed lines is answered.
use Rattle.std.proofs.Common.{◌≡◌, ◌⊎◌, ◌≤◌, ◌<◌, inl, inr, ℕ, true, false, List, ◌∷◌, length, map, refl, sym, subst, ap, arith}
use Rattle.std.specs.List.{AllByRecursion}
use Rattle.std.proofs.lemmas.Bool.{false_from_ne_true}
use Rattle.ded_lex.specs.Pieces.{Statement, Whole, IsWhole}
use Rattle.ded_lex.specs.Pieces as pieces
use Rattle.ded_model.specs.declared.certificate.Entry.{Entry}
use Rattle.ded_model.specs.declared.command.Language.{Language}
use Rattle.ded_model.specs.declared.command.Refusal.{Refusal}
use Rattle.ded_model.specs.declared.command.Refusal.TheVariants.{LongStatement, LongName, Unknown, Kind, Arity, WrongSort, Wide, Memory}
use Rattle.ded_model.specs.Catalogue.{Catalogue}
use Rattle.ded_model.specs.Command.{CommandForm, disjoint, verify}
use Rattle.ded_model.specs.Entries.{tuples_in}
use Rattle.ded_model.specs.Known.{IsWellFormed}
use Rattle.ded_model.specs.Refusals.{refusal_number}
use Rattle.ded_sorts.specs.Causes.{has_cause}
use Rattle.ded_print.specs.Certificates.{apart_text, entry_line}
use Rattle.ded_syntax.specs.Spelling.{IsRead}
use Rattle.ded_syntax.proofs.One.{one_command}
use Rattle.ded_cert.specs.Pairs.{pairs_of, AreEntriesOf, IsLongCheck, IsVerified, SomePair}
use Rattle.ded_cert.proofs.OwnEntries.{all_verified, never_long}
use Rattle.ded_reread.specs.ScriptWords.{IsName}
use Rattle.ded_session.specs.Replies.{ReplyForm, done, number, truth, tuples, stored, boxes, steps, script, apart, meeting, refused}
use Rattle.ded_session.specs.Steps.{Does, MayBeWide, Accepts, Step}
use Rattle.ded_session.proofs.StepLemmas.{none_applies}
use Rattle.ded_runs.specs.Few.{HaveFewInserts}
use Rattle.ded_runs.specs.Lines.{verify_text}
use Rattle.ded_runs.specs.Rechecks.{IsRecheck}
use Rattle.ded_runs.proofs.Entries.{IsSmallEntry}
use Rattle.ded_runs.proofs.Named.{disjoint_named}
use Rattle.ded_runs.proofs.Numbers.{tuples_stored, stored_small}
use Rattle.ded_runs.proofs.EntriesRead.{verify_whole, verify_read}
use Rattle.ded_runs.proofs.Telling.{printed, one_list}

-- ---- who is answered by certificates

abbrev IsDisjoint : CommandForm → Type 0
IsDisjoint x = (n : List ℕ) × (m : List ℕ) × (x ≡ disjoint n m)

asks : (c d : Catalogue) (es : List Entry) (x : CommandForm) → Does x c (apart es) d → IsDisjoint x
asks c d es (disjoint n m) k = (n, m, refl)
asks c d es _ k = absurd k

pub asked : (language : Language) (c d : Catalogue) (s : Statement) (es : List Entry) → Step language c s (apart es) d → Accepts language s c IsDisjoint
asked language c d (Whole bytes) es p = record { none = p.none; command = p.command; depth = p.depth; spells = p.spells; so = asks c d es p.command p.so }
asked language c d (pieces.Unfinished rest) es p = absurd p

-- ---- long statements

none_below : (q : Refusal) → refusal_number q < 1 → ⊥
none_below LongStatement h = absurd (omega (arith, h))
none_below _ h = absurd (omega (arith, h))

module _ (language : Language) (c : Catalogue) (piece : List ℕ) (long : 65536 < length piece) where
  pub long_refused : Step language c (Whole piece) (refused LongStatement) c
  long_refused = (record { applies = long; least = λ q less a. none_below q less }, refl)

  module _ (d : Catalogue) where
    same_refusal : (r : Refusal) → Step language c (Whole piece) (refused r) d → r ≡ LongStatement
    same_refusal LongStatement p = refl
    same_refusal Wide p = absurd (p.0.none LongStatement long)
    same_refusal Memory p = absurd (omega (arith, p.0.0, long))
    same_refusal _ p = absurd (p.0.least LongStatement (omega arith) long)

    pub long_only : (reply : ReplyForm) → Step language c (Whole piece) reply d → (reply ≡ refused LongStatement) × (d ≡ c)
    long_only (refused r) p = (ap refused (same_refusal r p), p.1)
    long_only done p = absurd (p.none LongStatement long)
    long_only (number k) p = absurd (p.none LongStatement long)
    long_only (truth b) p = absurd (p.none LongStatement long)
    long_only (tuples h ts) p = absurd (p.none LongStatement long)
    long_only (stored h ts) p = absurd (p.none LongStatement long)
    long_only (boxes h b) p = absurd (p.none LongStatement long)
    long_only (steps plan) p = absurd (p.none LongStatement long)
    long_only (script lines) p = absurd (p.none LongStatement long)
    long_only (apart es) p = absurd (p.none LongStatement long)
    long_only (meeting i j) p = absurd (p.none LongStatement long)

-- ---- the statement

module _ (language : Language) (c : Catalogue) (n m : List ℕ) (es : List Entry) (piece : List ℕ) (formed : IsWellFormed c) (few : HaveFewInserts c) (h : IsRecheck language c n m es piece) where
  names : IsName n × IsName m
  names = disjoint_named language h.bytes n m h.depth h.spells (h.step.none LongName)

  entries : AreEntriesOf (pairs_of (tuples_in c n) (tuples_in c m)) es
  entries = (subst (λ (x : CommandForm). Does x c (apart es) h.after) (one_command language h.bytes h.step.command (disjoint n m) h.step.depth h.depth h.step.spells h.spells).0 h.step.so).0

  small : AllByRecursion IsSmallEntry es
  small = stored_small (tuples_in c n) (tuples_in c m) es (tuples_stored c n formed few) (tuples_stored c m formed few) entries

  piece_is : verify_text h.blanks n m (map entry_line es) ≡ piece
  piece_is = sym (subst (λ (lines : List (List ℕ)). piece ≡ verify_text h.blanks n m lines) (one_list (apart_text es) h.lines (map entry_line es) h.has (printed es)) h.is)

  pub again_whole : (after : List ℕ) → IsWhole piece (59 ∷ after)
  again_whole after = subst (λ (bytes : List ℕ). IsWhole bytes (59 ∷ after)) piece_is (verify_whole h.blanks h.blank n m names.0 names.1 es small after)

  module _ (other : Language) where
    pub again_read : IsRead other piece (verify n m es)
    again_read = subst (λ (bytes : List ℕ). IsRead other bytes (verify n m es)) piece_is (verify_read h.blanks h.blank n m names.0 names.1 es small other)

    -- what `disjoint` isn't refused for, `verify` isn't refused for
    no_cause : (q : Refusal) → has_cause q c (verify n m es) ≡ false
    no_cause Unknown = false_from_ne_true _ (λ e. h.step.none Unknown (record { command = disjoint n m; depth = h.depth; spells = h.spells; cause = e }))
    no_cause Kind = false_from_ne_true _ (λ e. h.step.none Kind (record { command = disjoint n m; depth = h.depth; spells = h.spells; cause = e }))
    no_cause Arity = false_from_ne_true _ (λ e. h.step.none Arity (record { command = disjoint n m; depth = h.depth; spells = h.spells; cause = e }))
    no_cause WrongSort = false_from_ne_true _ (λ e. h.step.none WrongSort (record { command = disjoint n m; depth = h.depth; spells = h.spells; cause = e }))
    no_cause _ = refl

    verified : AllByRecursion (IsVerified es) (pairs_of (tuples_in c n) (tuples_in c m))
    verified =
        let s = tuples_stored c n formed few in
        let t = tuples_stored c m formed few in
        all_verified s.columns t.columns s.inserts t.inserts (tuples_in c n) (tuples_in c m) es s.are t.are entries

    not_wide : SomePair (IsLongCheck es) (pairs_of (tuples_in c n) (tuples_in c m)) → ⊥
    not_wide =
        let s = tuples_stored c n formed few in
        let t = tuples_stored c m formed few in
        never_long s.columns t.columns s.inserts t.inserts (tuples_in c n) (tuples_in c m) es s.are t.are entries

    module _ (short : length piece ≤ 65536) where
      pub again_yes : Step other c (Whole piece) (truth true) c
      again_yes = record {
        none = none_applies other piece c short (verify n m es) again_read no_cause;
        command = verify n m es;
        depth = again_read.depth;
        spells = again_read.spells;
        so = (((λ t. verified), (λ all. refl)), refl);
      }

      module _ (d : Catalogue) where
        does_yes : (reply : ReplyForm) → Does (verify n m es) c reply d → ((reply ≡ truth true) ⊎ (reply ≡ refused Memory)) × (d ≡ c)
        does_yes (truth b) k = (inl (ap truth (k.0.1 verified)), k.1)
        does_yes done k = absurd k
        does_yes (number i) k = absurd k
        does_yes (tuples g ts) k = absurd k
        does_yes (stored g ts) k = absurd k
        does_yes (boxes g b) k = absurd k
        does_yes (steps plan) k = absurd k
        does_yes (script lines) k = absurd k
        does_yes (apart fs) k = absurd k
        does_yes (meeting i j) k = absurd k
        does_yes (refused r) k = absurd k

        accepted_yes : (reply : ReplyForm) → Accepts other (Whole piece) c (λ x. Does x c reply d) → ((reply ≡ truth true) ⊎ (reply ≡ refused Memory)) × (d ≡ c)
        accepted_yes reply a =
            does_yes reply (subst (λ (x : CommandForm). Does x c reply d) (one_command other piece a.command (verify n m es) a.depth again_read.depth a.spells again_read.spells).0 a.so)

        refused_for : (r : Refusal) → Step other c (Whole piece) (refused r) d → r ≡ Memory
        refused_for Memory p = refl
        refused_for Wide p =
            absurd (not_wide (subst (λ (x : CommandForm). MayBeWide x c) (one_command other piece p.0.command (verify n m es) p.0.depth again_read.depth p.0.spells again_read.spells).0 p.0.so))
        refused_for r p = absurd (none_applies other piece c short (verify n m es) again_read no_cause r p.0.applies)

        pub again_only : (reply : ReplyForm) → Step other c (Whole piece) reply d → ((reply ≡ truth true) ⊎ (reply ≡ refused Memory)) × (d ≡ c)
        again_only (refused r) p = (inr (ap refused (refused_for r p)), p.1)
        again_only done p = accepted_yes done p
        again_only (number k) p = accepted_yes (number k) p
        again_only (truth b) p = accepted_yes (truth b) p
        again_only (tuples g ts) p = accepted_yes (tuples g ts) p
        again_only (stored g ts) p = accepted_yes (stored g ts) p
        again_only (boxes g b) p = accepted_yes (boxes g b) p
        again_only (steps plan) p = accepted_yes (steps plan) p
        again_only (script lines) p = accepted_yes (script lines) p
        again_only (apart fs) p = accepted_yes (apart fs) p
        again_only (meeting i j) p = accepted_yes (meeting i j) p
