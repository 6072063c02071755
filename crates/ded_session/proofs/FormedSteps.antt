-- A statement makes a well formed catalogue of one, and so a run leads to a well formed catalogue.
use Rattle.std.proofs.Common.{◌≡◌, ◌<◌, ◌≤◌, ℕ, nat_le, arith, true, false, List, [], ◌∷◌, ◌++◌, length, length-append, refl, sym, ap, ◌∙◌, subst, true≢false}
use Rattle.std.specs.List.{list_any}
use Rattle.std.proofs.lemmas.Bool.{false_from_ne_true}
use Rattle.std.proofs.lemmas.Bool.Decides.{nat_tests}
use Rattle.ded_resolve.specs.Tuples.{is_missorted_comparison}
use Rattle.ded_lex.specs.Pieces.{Statement, Whole}
use Rattle.ded_lex.specs.Pieces as pieces
use Rattle.ded_model.specs.declared.command.Language.{Language}
use Rattle.ded_model.specs.declared.command.Language.TheVariants.{Opening}
use Rattle.ded_model.specs.declared.command.Refusal.{Refusal}
use Rattle.ded_model.specs.declared.command.Refusal.TheVariants.{Many, Twice, Unknown, Taken, Kind, Arity, Unbound, WrongSort, Used, NoTuple, Full, Level}
use Rattle.ded_model.specs.declared.name.Column.{Column}
use Rattle.ded_model.specs.Catalogue.{Entry, Catalogue, entry_name}
use Rattle.ded_model.specs.Catalogue as entry
use Rattle.ded_model.specs.Command.{CommandForm, relation, insert, delete, drop, view}
use Rattle.ded_model.specs.Entries.{known, entry_of, entry_uses, stored_in, columns_in}
use Rattle.ded_model.specs.Form.{Form}
use Rattle.ded_model.specs.Known.{KnownNames, IsTupleOver, AreStored, IsEntryOver, IsNewName, AreEntriesOver, IsWellFormed, level_of, scope_of}
use Rattle.ded_model.specs.Logic.{some_below}
use Rattle.ded_model.specs.Row.{Atom}
use Rattle.ded_model.specs.Slotted.{goal_of, tuple_of}
use Rattle.ded_model.specs.Width.{tuple_length}
use Rattle.ded_model.specs.NormalGoal.{IsNormalGoal}
use Rattle.ded_relation.proofs.Numbers.{stored-push, stored-remove, length-remove}
use Rattle.ded_resolve.proofs.Readiness.{insert_ready}
use Rattle.ded_session.specs.Causes.{Commands}
use Rattle.ded_session.specs.Replies.{ReplyForm, done, number, truth, tuples, stored, boxes, steps, script, apart, meeting, refused}
use Rattle.ded_session.specs.Runs.{Steps, Run, empty_catalogue}
use Rattle.ded_session.specs.Steps.{Accepted, Accepts, Step}
use Rattle.ded_session.proofs.StepLemmas.{read_short, read_plain, read_named, accepted_read}
use Rattle.ded_sorts.specs.Causes.{has_cause}
use Rattle.ded_sorts.specs.Changes.{AddsEntry, DropsEntry, Inserts, Deletes}
use Rattle.ded_sorts.specs.Checks.{HasNoCause, forms_of}
use Rattle.ded_sorts.proofs.KnownEntries.{columns_there}
use Rattle.ded_syntax.specs.Spelling.{IsRead}
use Rattle.ded_terminals.proofs.MemberNames.{unmade_word}
use Rattle.ded_views.proofs.Changing.{entry_there}
use Rattle.ded_views.proofs.Placing.{none_known, known-is}
use Rattle.ded_reread.proofs.WordsRead.{inserts_good}
use Rattle.ded_session.proofs.Accepted.{none_of, at_most, new_relation, accepted}
use Rattle.ded_session.proofs.Formed.{over_more, over_changed, over_dropped}
use Rattle.ded_session.proofs.InsertedTuples.{tuple_stored}
use Rattle.ded_session.proofs.Making.{Makes, step_makes}

-- ---- what is accepted has no cause

module _ (language : Language) (bytes : List ℕ) (c : Catalogue) (Fact : CommandForm → Type 0) (a : Accepted language bytes c Fact) where
  -- a cause of the command is one of the statement
  caused : (r : Refusal) → has_cause r c a.command ≡ true → Commands language bytes r c
  caused r e = record { command = a.command; depth = a.depth; spells = a.spells; cause = e }

  no_cause : HasNoCause c a.command
  no_cause Many k = false_from_ne_true _ (λ e. a.none Many (caused Many e))
  no_cause Twice k = false_from_ne_true _ (λ e. a.none Twice (caused Twice e))
  no_cause Unknown k = false_from_ne_true _ (λ e. a.none Unknown (caused Unknown e))
  no_cause Taken k = false_from_ne_true _ (λ e. a.none Taken (caused Taken e))
  no_cause Kind k = false_from_ne_true _ (λ e. a.none Kind (caused Kind e))
  no_cause Arity k = false_from_ne_true _ (λ e. a.none Arity (caused Arity e))
  no_cause Unbound k = false_from_ne_true _ (λ e. a.none Unbound (caused Unbound e))
  no_cause WrongSort k = false_from_ne_true _ (λ e. a.none WrongSort (caused WrongSort e))
  no_cause Used k = false_from_ne_true _ (λ e. a.none Used (caused Used e))
  no_cause NoTuple k = false_from_ne_true _ (λ e. a.none NoTuple (caused NoTuple e))
  no_cause Level k = false_from_ne_true _ (λ e. a.none Level (caused Level e))
  no_cause _ k = absurd (true≢false (sym k))

  not_full : has_cause Full c a.command ≡ false
  not_full = false_from_ne_true _ (λ e. a.none Full (caused Full e))

-- ---- commands

module _ (c d : Catalogue) (w : IsWellFormed c) where
  -- an entry more
  adds : (e : Entry) → IsNewName (known c) (entry_name e) → IsEntryOver c.limit (known c) e → AddsEntry c d e → IsWellFormed d
  adds e new o k =
      subst IsWellFormed (sym k)
      (over_more c.limit none_known c.entries e w (subst (λ (K : KnownNames). IsNewName K (entry_name e)) (known-is c) new) (subst (λ (K : KnownNames). IsEntryOver c.limit K e) (known-is c) o))

  inserts : (n : List ℕ) (t : List Atom) (k : ℕ) → IsTupleOver (columns_in c n) t → tuple_length t ≤ 63 → nat_le c.limit (length (stored_in (entry_of c.entries n))) ≡ false → Inserts c d n t k → IsWellFormed d
  inserts n t k o s room x =
      let old = entry.relation n x.columns x.inserts x.present in
      let there = entry_there c x.changes.before x.changes.after old n w x.changes.was x.changes.named in
      let over = subst (λ h. IsTupleOver h t) (columns_there c n old w there) o in
      let free = below c.limit (length x.present) (sym (ap (λ p. nat_le c.limit (length (stored_in p))) there) ∙ room) in
      subst IsWellFormed (sym x.changes.is)
      (over_changed c.limit none_known x.changes.before x.changes.after n x.columns x.inserts k x.present (x.present ++ (k, t) ∷ [])
      (λ stored few. (subst (λ (j : ℕ). AreStored x.columns j 0 (x.present ++ (j, t) ∷ [])) (sym x.number) (stored-push x.columns x.inserts 0 x.present t (omega arith) stored over s), one_more x.present free))
      (subst (AreEntriesOver c.limit none_known) x.changes.was w))
    where
      below : (l m : ℕ) → nat_le l m ≡ false → m < l
      below l m e = grind (arith, nat_tests)

      one_more : (ts : List (ℕ × List Atom)) → length ts < c.limit → length (ts ++ (k, t) ∷ []) ≤ c.limit
      one_more ts l = omega (arith, l, length-append ts ((k, t) ∷ []))

  deletes : (n : List ℕ) (k : ℕ) → Deletes c d n k → IsWellFormed d
  deletes n k x =
      subst IsWellFormed (sym x.changes.is)
      (over_changed c.limit none_known x.changes.before x.changes.after n x.columns x.inserts x.inserts (x.before ++ (k, x.tuple) ∷ x.after) (x.before ++ x.after)
      (λ stored few. (stored-remove x.columns x.inserts 0 x.before x.after (k, x.tuple) stored, fewer few))
      (subst (AreEntriesOver c.limit none_known) x.changes.was w))
    where
      fewer : length (x.before ++ (k, x.tuple) ∷ x.after) ≤ c.limit → length (x.before ++ x.after) ≤ c.limit
      fewer few = omega (arith, few, length-remove x.before x.after (k, x.tuple))

  drops : (n : List ℕ) → list_any (entry_uses n) c.entries ≡ false → DropsEntry c d n → IsWellFormed d
  drops n unused x =
      subst IsWellFormed (sym x.is)
      (over_dropped c.limit n none_known x.before x.after x.old x.named (subst (λ es. list_any (entry_uses n) es ≡ false) x.was unused) (subst (AreEntriesOver c.limit none_known) x.was w))

  module _ (normal_goals : (h : List Column) (f : Form) → some_below is_missorted_comparison (scope_of h) f ≡ false → IsNormalGoal (goal_of h f)) (language : Language) where
    formed : (bytes : List ℕ) (x : CommandForm) → IsRead language bytes x → HasNoCause c x → has_cause Full c x ≡ false → Makes x c d → IsWellFormed d
    formed bytes (relation n h) r none room k = adds (entry.relation n h 0 []) (new_relation c n h none (read_named language bytes (relation n h) r)).0 (tt, omega arith) k
    formed bytes (insert n fs) r none room k =
        let ready = insert_ready c (insert n fs) n fs refl (read_plain language bytes (insert n fs) r) (read_short language bytes (insert n fs) r) none in
        let t = tuple_stored normal_goals (columns_in c n) fs ready (inserts_good language bytes n fs r) in
        inserts n (tuple_of (columns_in c n) (forms_of fs)) k.0 t.0 t.1 room k.1
    formed bytes (delete n i) r none room k = deletes n i k
    formed bytes (drop n) r none room k = drops n (none Used refl) k
    formed bytes (view n h f) r none room k =
        adds (entry.view n h f) (none_of (known c n) (none Taken refl), unmade_word n (read_named language bytes (view n h f) r).0) (
          accepted c h f (none Many refl) (none Twice refl) (none Unknown refl) (none Arity refl) (none Unbound refl) (none WrongSort refl),
          at_most (level_of (known c) f) (none Level refl),
        ) k
    formed bytes _ r none room k = subst IsWellFormed (sym k) w

    accepted_formed : (s : Statement) → Accepts language s c (λ x. Makes x c d) → IsWellFormed d
    accepted_formed (Whole bytes) a =
        formed bytes a.command (accepted_read language bytes c (λ x. Makes x c d) a) (no_cause language bytes c (λ x. Makes x c d) a) (not_full language bytes c (λ x. Makes x c d) a) a.so
    accepted_formed (pieces.Unfinished rest) a = absurd a

    step_formed : (s : Statement) (reply : ReplyForm) → Step language c s reply d → IsWellFormed d
    step_formed s done p = accepted_formed s (step_makes language c d s done refl p)
    step_formed s (number k) p = accepted_formed s (step_makes language c d s (number k) refl p)
    step_formed s (truth b) p = accepted_formed s (step_makes language c d s (truth b) refl p)
    step_formed s (tuples h ts) p = accepted_formed s (step_makes language c d s (tuples h ts) refl p)
    step_formed s (stored h ts) p = accepted_formed s (step_makes language c d s (stored h ts) refl p)
    step_formed s (boxes h b) p = accepted_formed s (step_makes language c d s (boxes h b) refl p)
    step_formed s (steps plan) p = accepted_formed s (step_makes language c d s (steps plan) refl p)
    step_formed s (script lines) p = accepted_formed s (step_makes language c d s (script lines) refl p)
    step_formed s (apart es) p = accepted_formed s (step_makes language c d s (apart es) refl p)
    step_formed s (meeting i j) p = accepted_formed s (step_makes language c d s (meeting i j) refl p)
    step_formed s (refused r) p = subst IsWellFormed (sym p.1) w

-- ---- statements one after another

module _ (normal_goals : (h : List Column) (f : Form) → some_below is_missorted_comparison (scope_of h) f ≡ false → IsNormalGoal (goal_of h f)) where
  pub formed_step : (language : Language) (c d : Catalogue) (s : Statement) (reply : ReplyForm) → IsWellFormed c → Step language c s reply d → IsWellFormed d
  formed_step language c d s reply w p = step_formed c d w normal_goals language s reply p

  formed_steps : (language : Language) (c d : Catalogue) (ss : List Statement) (replies : List ReplyForm) → IsWellFormed c → Steps language c ss replies d → IsWellFormed d
  formed_steps language c d [] [] w p = subst IsWellFormed (sym p) w
  formed_steps language c d [] (reply ∷ replies) w p = absurd p
  formed_steps language c d (s ∷ ss) [] w p = absurd p
  formed_steps language c d (s ∷ ss) (reply ∷ replies) w p = formed_steps p.1 p.0 d ss replies (formed_step language c p.0 s reply w p.2) p.4

  pub formed_run : (limit : ℕ) (bytes : List ℕ) (replies : List ReplyForm) (last : Catalogue) → Run limit bytes replies last → IsWellFormed last
  formed_run limit bytes replies last r = formed_steps Opening (empty_catalogue limit) last r.statements replies tt r.steps
