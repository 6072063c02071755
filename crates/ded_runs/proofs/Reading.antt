-- A step over a catalogue whose entries were read leads to one whose entries were read.
use Rattle.std.proofs.Common.{◌≡◌, ℕ, Bool, true, false, List, [], ◌∷◌, ◌++◌, refl, sym, subst}
use Rattle.std.specs.List.{AllByRecursion}
use Rattle.ded_lex.specs.Pieces.{Statement, Whole}
use Rattle.ded_lex.specs.Pieces as pieces
use Rattle.ded_model.specs.declared.command.Language.{Language}
use Rattle.ded_model.specs.declared.command.Language.TheVariants.{Opening}
use Rattle.ded_model.specs.declared.command.Refusal.TheVariants.{Many, Twice}
use Rattle.ded_model.specs.declared.name.Column.{Column}
use Rattle.ded_model.specs.declared.bound.BoxReply.{BoxReply}
use Rattle.ded_model.specs.declared.certificate.Entry.{Entry as Certificate}
use Rattle.ded_model.specs.PlanForm.{PlanForm}
use Rattle.ded_model.specs.Catalogue.{Entry, Catalogue}
use Rattle.ded_model.specs.Catalogue as entry
use Rattle.ded_model.specs.Command.{CommandForm, header, relation, insert, delete, drop, view, keep, ask, query, show, box_of, explain, dump, disjoint, verify}
use Rattle.ded_model.specs.Entries.{columns_in}
use Rattle.ded_model.specs.Form.{FormAtom}
use Rattle.ded_model.specs.Logic.{Logics, AllAtomsOf}
use Rattle.ded_model.specs.Row.{Atom}
use Rattle.ded_model.specs.Slotted.{tuple_of}
use Rattle.ded_sorts.specs.Causes.{has_cause}
use Rattle.ded_sorts.specs.Changes.{AddsEntry, ChangesEntry, DropsEntry}
use Rattle.ded_sorts.specs.Checks.{forms_of}
use Rattle.ded_syntax.specs.Spelling.{IsRead}
use Rattle.ded_reread.specs.Words.{TupleHasTexts, AtomHasWords}
use Rattle.ded_reread.proofs.Texts.{tuple_says}
use Rattle.ded_reread.specs.ScriptWords.{IsName, IsMember, IsText}
use Rattle.ded_session.specs.Replies.{ReplyForm, done, number, truth, tuples, stored, boxes, steps, script, apart, meeting, refused}
use Rattle.ded_session.specs.Runs.{Steps, Run, empty_catalogue}
use Rattle.ded_session.specs.Steps.{Does, Accepted, Step}
use Rattle.ded_session.proofs.StepLemmas.{accepted_read}
use Rattle.ded_runs.specs.Read.{WasEntryRead, WasCatalogueRead}

-- ---- a command that is accepted

unless : (b : Bool) → ((b ≡ true) → ⊥) → b ≡ false
unless true f = absurd (f refl)
unless false f = refl

never_many : (l : Language) (bytes : List ℕ) (c : Catalogue) (Fact : CommandForm → Type 0) → (a : Accepted l bytes c Fact) → has_cause Many c a.command ≡ false
never_many l bytes c Fact a = unless _ (λ e. a.none Many (record { command = a.command; depth = a.depth; spells = a.spells; cause = e }))

never_twice : (l : Language) (bytes : List ℕ) (c : Catalogue) (Fact : CommandForm → Type 0) → (a : Accepted l bytes c Fact) → has_cause Twice c a.command ≡ false
never_twice l bytes c Fact a = unless _ (λ e. a.none Twice (record { command = a.command; depth = a.depth; spells = a.spells; cause = e }))

-- ---- entries

abbrev WereRead : List Entry → Type 0
WereRead = AllByRecursion WasEntryRead

both : (es fs : List Entry) → WereRead es → WereRead fs → WereRead (es ++ fs)
both [] fs p q = q
both (e ∷ es) fs p q = (p.0, both es fs p.1 q)

front : (es fs : List Entry) → WereRead (es ++ fs) → WereRead es
front [] fs h = tt
front (e ∷ es) fs h = (h.0, front es fs h.1)

back : (es fs : List Entry) → WereRead (es ++ fs) → WereRead fs
back [] fs h = h
back (e ∷ es) fs h = back es fs h.1

adds : (c d : Catalogue) (e : Entry) → WasCatalogueRead c → WasEntryRead e → AddsEntry c d e → WasCatalogueRead d
adds c d e h p is = subst WasCatalogueRead (sym is) (both c.entries (e ∷ []) h (p, tt))

changes : (c d : Catalogue) (n : List ℕ) (old new : Entry) → (WasEntryRead old → WasEntryRead new) → WasCatalogueRead c → ChangesEntry c d n old new → WasCatalogueRead d
changes c d n old new keeps h k =
    let was = subst WereRead k.was h in
    let rest = back k.before (old ∷ k.after) was in
    subst WasCatalogueRead (sym k.is) (both k.before (new ∷ k.after) (front k.before (old ∷ k.after) was) (keeps rest.0, rest.1))

drops : (c d : Catalogue) (n : List ℕ) → WasCatalogueRead c → DropsEntry c d n → WasCatalogueRead d
drops c d n h k =
    let was = subst WereRead k.was h in
    subst WasCatalogueRead (sym k.is) (both k.before k.after (front k.before (k.old ∷ k.after) was) ((back k.before (k.old ∷ k.after) was).1))

same : (c d : Catalogue) → WasCatalogueRead c → d ≡ c → WasCatalogueRead d
same c d h is = subst WasCatalogueRead (sym is) h

-- ---- tuples

abbrev HaveTexts : List (ℕ × List Atom) → Type 0
HaveTexts = AllByRecursion (λ t. TupleHasTexts IsText t.1)

one_more : (ts : List (ℕ × List Atom)) (t : ℕ × List Atom) → HaveTexts ts → TupleHasTexts IsText t.1 → HaveTexts (ts ++ t ∷ [])
one_more [] t h p = (p, tt)
one_more (u ∷ ts) t h p = (h.0, one_more ts t h.1 p)

one_less : (ts : List (ℕ × List Atom)) (t : ℕ × List Atom) (us : List (ℕ × List Atom)) → HaveTexts (ts ++ t ∷ us) → HaveTexts (ts ++ us)
one_less [] t us h = h.1
one_less (u ∷ ts) t us h = (h.0, one_less ts t us h.1)

-- ---- commands

module _ (inserts : (l : Language) (bytes n : List ℕ) (fs : Logics FormAtom) → IsRead l bytes (insert n fs) → AllAtomsOf (AtomHasWords IsName IsMember IsText) fs) where
  module _ (c d : Catalogue) (h : WasCatalogueRead c) where
    module _ (l : Language) (bytes : List ℕ) where
      after_done : (x : CommandForm) → IsRead l bytes x → has_cause Many c x ≡ false → has_cause Twice c x ≡ false → Does x c done d → WasCatalogueRead d
      after_done header p few once k = same c d h k
      after_done (relation n cs) p few once k = adds c d (entry.relation n cs 0 []) h (record { language = l; bytes = bytes; read = p }, once, few, tt) k
      after_done (delete n i) p few once k = changes c d n _ _ (λ q. (q.0, q.1, q.2, one_less k.before (i, k.tuple) k.after q.3)) h k.changes
      after_done (drop n) p few once k = drops c d n h k
      after_done (view n cs f) p few once k = adds c d (entry.view n cs f) h (record { language = l; bytes = bytes; read = p }) k
      after_done (keep n) p few once k = same c d h k
      after_done _ p few once k = absurd k

      after_number : (i : ℕ) (x : CommandForm) → IsRead l bytes x → Does x c (number i) d → WasCatalogueRead d
      after_number i (insert n fs) p k =
          changes c d n _ _ (λ q. (q.0, q.1, q.2, one_more k.present (i, tuple_of (columns_in c n) (forms_of fs)) q.3 (tuple_says IsName IsMember IsText tt (columns_in c n) fs (inserts l bytes n fs p)))) h k.changes
      after_number i _ p k = absurd k

    after_truth : (b : Bool) (x : CommandForm) → Does x c (truth b) d → WasCatalogueRead d
    after_truth b (ask f) k = same c d h k.1
    after_truth b (verify n m es) k = same c d h k.1
    after_truth b _ k = absurd k

    after_tuples : (cs : List Column) (ts : List (List Atom)) (x : CommandForm) → Does x c (tuples cs ts) d → WasCatalogueRead d
    after_tuples cs ts (query g f) k = same c d h k.2
    after_tuples cs ts _ k = absurd k

    after_stored : (cs : List Column) (ts : List (ℕ × List Atom)) (x : CommandForm) → Does x c (stored cs ts) d → WasCatalogueRead d
    after_stored cs ts (show n) k = same c d h k.2
    after_stored cs ts _ k = absurd k

    after_boxes : (cs : List Column) (b : BoxReply) (x : CommandForm) → Does x c (boxes cs b) d → WasCatalogueRead d
    after_boxes cs b (box_of n) k = same c d h k.2
    after_boxes cs b _ k = absurd k

    after_steps : (plan : PlanForm) (x : CommandForm) → Does x c (steps plan) d → WasCatalogueRead d
    after_steps plan (explain g f) k = same c d h k.1
    after_steps plan _ k = absurd k

    after_apart : (es : List Certificate) (x : CommandForm) → Does x c (apart es) d → WasCatalogueRead d
    after_apart es (disjoint n m) k = same c d h k.1
    after_apart es _ k = absurd k

    after_meeting : (i j : ℕ) (x : CommandForm) → Does x c (meeting i j) d → WasCatalogueRead d
    after_meeting i j (disjoint n m) k = same c d h k.1
    after_meeting i j _ k = absurd k

    after_script : (lines : List (List ℕ)) (x : CommandForm) → Does x c (script lines) d → WasCatalogueRead d
    after_script lines dump k = same c d h k.1
    after_script lines _ k = absurd k

  pub read_step : (l : Language) (c d : Catalogue) (s : Statement) (reply : ReplyForm) → WasCatalogueRead c → Step l c s reply d → WasCatalogueRead d
  read_step l c d s (refused r) h p = same c d h p.1
  read_step l c d (pieces.Unfinished rest) done h p = absurd p
  read_step l c d (Whole bytes) done h p = after_done c d h l bytes p.command (accepted_read l bytes c _ p) (never_many l bytes c _ p) (never_twice l bytes c _ p) p.so
  read_step l c d (pieces.Unfinished rest) (number k) h p = absurd p
  read_step l c d (Whole bytes) (number k) h p = after_number c d h l bytes k p.command (accepted_read l bytes c _ p) p.so
  read_step l c d (pieces.Unfinished rest) (truth b) h p = absurd p
  read_step l c d (Whole bytes) (truth b) h p = after_truth c d h b p.command p.so
  read_step l c d (pieces.Unfinished rest) (tuples g ts) h p = absurd p
  read_step l c d (Whole bytes) (tuples g ts) h p = after_tuples c d h g ts p.command p.so
  read_step l c d (pieces.Unfinished rest) (stored g ts) h p = absurd p
  read_step l c d (Whole bytes) (stored g ts) h p = after_stored c d h g ts p.command p.so
  read_step l c d (pieces.Unfinished rest) (boxes g b) h p = absurd p
  read_step l c d (Whole bytes) (boxes g b) h p = after_boxes c d h g b p.command p.so
  read_step l c d (pieces.Unfinished rest) (steps plan) h p = absurd p
  read_step l c d (Whole bytes) (steps plan) h p = after_steps c d h plan p.command p.so
  read_step l c d (pieces.Unfinished rest) (script lines) h p = absurd p
  read_step l c d (Whole bytes) (script lines) h p = after_script c d h lines p.command p.so
  read_step l c d (pieces.Unfinished rest) (apart es) h p = absurd p
  read_step l c d (Whole bytes) (apart es) h p = after_apart c d h es p.command p.so
  read_step l c d (pieces.Unfinished rest) (meeting i j) h p = absurd p
  read_step l c d (Whole bytes) (meeting i j) h p = after_meeting c d h i j p.command p.so

  pub read_steps : (l : Language) (c d : Catalogue) (ss : List Statement) (replies : List ReplyForm) → WasCatalogueRead c → Steps l c ss replies d → WasCatalogueRead d
  read_steps l c d [] [] h p = same c d h p
  read_steps l c d [] (reply ∷ replies) h p = absurd p
  read_steps l c d (s ∷ ss) [] h p = absurd p
  read_steps l c d (s ∷ ss) (reply ∷ replies) h p = read_steps p.1 p.0 d ss replies (read_step l c p.0 s reply h p.2) p.4

  pub read_run : (limit : ℕ) (bytes : List ℕ) (replies : List ReplyForm) (last : Catalogue) → Run limit bytes replies last → WasCatalogueRead last
  read_run limit bytes replies last r = read_steps Opening (empty_catalogue limit) last r.statements replies tt r.steps
