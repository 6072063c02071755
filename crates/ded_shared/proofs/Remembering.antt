-- What a transaction remembers of a command.
use Rattle.std.proofs.Common.{◌≡◌, ℕ, ◌≤◌, Bool, ◌||◌, ◌&&◌, true, false, not, List, [], ◌∷◌, ◌++◌, take, drop, length, refl, sym, ap, ◌∙◌, subst, true≢false}
use Rattle.std.specs.Prelude.{if◌then◌else◌}
use Rattle.ded_lex.specs.Pieces.{Whole}
use Rattle.ded_model.specs.declared.command.Language.TheVariants.{One}
use Rattle.ded_model.specs.declared.command.Refusal.{Refusal}
use Rattle.ded_model.specs.declared.command.Refusal.TheVariants.{Memory}
use Rattle.ded_model.specs.Catalogue.{Catalogue}
use Rattle.ded_model.specs.Command.{CommandForm, relation, insert, delete, view}
use Rattle.ded_model.specs.Command as command
use Rattle.ded_model.specs.Known.{IsWellFormed}
use Rattle.ded_syntax.specs.Spelling.{Spells, IsRead}
use Rattle.ded_syntax.proofs.One.{one_command}
use Rattle.ded_catalog.specs.State.{catalogue_of}
use Rattle.ded_topology.proofs.Closed.{or_none}
use Rattle.ded_session.specs.Replies.{ReplyForm, is_refusal, done, number, truth, tuples, stored, boxes, steps, script, apart, meeting, refused}
use Rattle.ded_session.specs.Steps.{Does, Accepted, Step}
use Rattle.ded_shared.specs.Touching.{touches, changes, depends_on_names}
use Rattle.ded_shared.proofs.Changed.{changed_touched}
use Rattle.ded_shared.specs.Gathering.{changed_by}
use Rattle.ded_shared.specs.Parts.{ArePieces, KeepsFronts, Recalls, transaction_in}
use Rattle.ded_shared.specs.Rules.{Remembers, is_change}
use Rattle.ded_shared.specs.State.{is_among}
use Rattle.ded_shared.specs.declared.transaction.Transaction.{Transaction}

-- ---- changed names

module _ (c : Catalogue) (n : List ℕ) where
  -- a refused command changes none
  refused_changes : (x : CommandForm) (r : Refusal) → changes c x (refused r) n ≡ false
  refused_changes (relation m h) r = refl
  refused_changes (insert m fs) r = refl
  refused_changes (delete m k) r = refl
  refused_changes (command.drop m) r = refl
  refused_changes (view m h f) r = refl
  refused_changes _ r = refl

  pub none_changed : (x : CommandForm) (reply : ReplyForm) → is_refusal reply ≡ true → changes c x reply n ≡ false
  none_changed x (refused r) e = refused_changes x r
  none_changed x _ e = absurd (true≢false (sym e))

  -- an accepted one changes what it changes where it is accepted
  does_changes : (d : Catalogue) (x : CommandForm) (reply : ReplyForm) → Does x c reply d → changes c x reply n ≡ changed_by c x n
  does_changes d (relation m h) done k = refl
  does_changes d (relation m h) _ k = absurd k
  does_changes d (insert m fs) (number i) k = refl
  does_changes d (insert m fs) _ k = absurd k
  does_changes d (delete m i) done k = refl
  does_changes d (delete m i) _ k = absurd k
  does_changes d (command.drop m) done k = refl
  does_changes d (command.drop m) _ k = absurd k
  does_changes d (view m h f) done k = refl
  does_changes d (view m h f) _ k = absurd k
  does_changes d _ _ k = refl

  module _ (bytes : List ℕ) (d : Catalogue) (x : CommandForm) (depth : ℕ) (s : Spells One bytes x depth) where
    accepted_changes : (reply : ReplyForm) → Accepted One bytes c (λ y. Does y c reply d) → changes c x reply n ≡ changed_by c x n
    accepted_changes reply a = does_changes d x reply (subst (λ y. Does y c reply d) (one_command One bytes a.command x a.depth depth a.spells s).0 a.so)

    pub step_changes : (reply : ReplyForm) → Step One c (Whole bytes) reply d → is_refusal reply ≡ false → changes c x reply n ≡ changed_by c x n
    step_changes done p e = accepted_changes done p
    step_changes (number k) p e = accepted_changes (number k) p
    step_changes (truth b) p e = accepted_changes (truth b) p
    step_changes (tuples h ts) p e = accepted_changes (tuples h ts) p
    step_changes (stored h ts) p e = accepted_changes (stored h ts) p
    step_changes (boxes h r) p e = accepted_changes (boxes h r) p
    step_changes (steps plan) p e = accepted_changes (steps plan) p
    step_changes (script lines) p e = accepted_changes (script lines) p
    step_changes (apart es) p e = accepted_changes (apart es) p
    step_changes (meeting i j) p e = accepted_changes (meeting i j) p
    step_changes (refused r) p e = absurd (true≢false e)

-- a reply that doesn't depend on names is a refusal
independent_refused : (reply : ReplyForm) → depends_on_names reply ≡ false → is_refusal reply ≡ true
independent_refused (refused r) e = refl
independent_refused done e = absurd (true≢false e)
independent_refused (number k) e = absurd (true≢false e)
independent_refused (truth b) e = absurd (true≢false e)
independent_refused (tuples h ts) e = absurd (true≢false e)
independent_refused (stored h ts) e = absurd (true≢false e)
independent_refused (boxes h r) e = absurd (true≢false e)
independent_refused (steps plan) e = absurd (true≢false e)
independent_refused (script lines) e = absurd (true≢false e)
independent_refused (apart es) e = absurd (true≢false e)
independent_refused (meeting i j) e = absurd (true≢false e)

-- ---- lists

-- nothing is added
unchanged_accepted : (b : Bool) (old new more : List (List ℕ)) → new ≡ old → new ≡ (if b && not true then more else old)
unchanged_accepted true old new more e = e
unchanged_accepted false old new more e = e

changed_accepted : (b : Bool) (old new more : List (List ℕ)) → new ≡ (if b then more else old) → new ≡ (if b && not false then more else old)
changed_accepted true old new more e = e
changed_accepted false old new more e = e

-- nothing was touched or changed
neither : (a t g : Bool) → g ≡ false → a ≡ (a || (false && t) || g)
neither true t g e = refl
neither false t true e = sym e
neither false t false e = refl

-- what is changed is touched
both : (a t g : Bool) → (g ≡ true → t ≡ true) → (a || t) ≡ (a || (true && t) || g)
both true t g h = refl
both false true g h = refl
both false false true h = h refl
both false false false h = refl

-- one piece more of a command that is a change, and none of another
pub changing_piece : (x : CommandForm) (b : Bool) (old new more : List (List ℕ)) → b ≡ is_change x → b ≡ true → new ≡ more → new ≡ (if is_change x then more else old)
changing_piece x b old new more e t h = subst (λ a. new ≡ (if a then more else old)) (sym t ∙ e) h

pub no_piece : (x : CommandForm) (b : Bool) (old new more : List (List ℕ)) → b ≡ is_change x → b ≡ false → new ≡ old → new ≡ (if is_change x then more else old)
no_piece x b old new more e f h = subst (λ a. new ≡ (if a then more else old)) (sym f ∙ e) h

-- pieces, and one more where there is one
pub pieces_further : (b : Bool) (old new : List (List ℕ)) (bytes : List ℕ) → length bytes ≤ 65536 → new ≡ (if b then old ++ bytes ∷ [] else old) → ArePieces old → ArePieces new
pieces_further b old new bytes l e a = subst ArePieces (sym e) (by b)
  where
    more : (ps : List (List ℕ)) → ArePieces ps → ArePieces (ps ++ bytes ∷ [])
    more [] a = (l, tt)
    more (p ∷ ps) a = (a.0, more ps a.1)

    by : (b : Bool) → ArePieces (if b then old ++ bytes ∷ [] else old)
    by true = more old a
    by false = a

-- ---- transactions

-- what is remembered after a reply, of what was remembered before it
pub record IsSettled (reply : ReplyForm) (start old new : Transaction) : Type 0 where
  pub accepted : new.accepted.items ≡ (if is_refusal reply then take (length start.accepted.items) old.accepted.items else old.accepted.items)
  pub touched : new.touched.items ≡ (if depends_on_names reply then old.touched.items else take (length start.touched.items) old.touched.items)
  pub changed : new.changed.items ≡ (if is_refusal reply then take (length start.changed.items) old.changed.items else old.changed.items)
  pub since : new.since ≡ start.since

module _ (bytes : List ℕ) (x : CommandForm) (log : List (List ℕ)) (start : Transaction) where
  abbrev own : Catalogue
  own = catalogue_of start.own

  -- nothing is remembered of a command for which there was no memory
  pub nothing_remembered : (old new : Transaction) → KeepsFronts start old → new.accepted.items ≡ take (length start.accepted.items) old.accepted.items
      → new.touched.items ≡ take (length start.touched.items) old.touched.items → new.changed.items ≡ take (length start.changed.items) old.changed.items → new.since ≡ start.since
      → Remembers bytes (refused Memory) x (transaction_in log start) (transaction_in log new)
  nothing_remembered old new k a t g s = record {
    accepted = unchanged_accepted (is_change x) start.accepted.items new.accepted.items (start.accepted.items ++ bytes ∷ []) (a ∙ k.accepted);
    touched = λ n. ap (λ l. is_among l n) (t ∙ k.touched) ∙ neither (is_among start.touched.items n) (touches own x n) (changes own x (refused Memory) n) (refused_changes own n x Memory);
    changed = λ n. ap (λ l. is_among l n) (g ∙ k.changed) ∙ or_none (is_among start.changed.items n) (changes own x (refused Memory) n) (refused_changes own n x Memory);
    stale = ap (λ i. drop i log) s;
  }

  module _ (reply : ReplyForm) (old new : Transaction) (d : Catalogue) (w : IsWellFormed own) (read : IsRead One bytes x) (p : Step One own (Whole bytes) reply d)
      (k : KeepsFronts start old) (r : Recalls bytes x start old) (s : IsSettled reply start old new) where
    accepted : (b : Bool) → is_refusal reply ≡ b → new.accepted.items ≡ (if is_change x && not (is_refusal reply) then start.accepted.items ++ bytes ∷ [] else start.accepted.items)
    accepted true e =
        subst (λ b. new.accepted.items ≡ (if is_change x && not b then start.accepted.items ++ bytes ∷ [] else start.accepted.items)) (sym e)
        (unchanged_accepted (is_change x) start.accepted.items new.accepted.items (start.accepted.items ++ bytes ∷ [])
        (s.accepted ∙ ap (λ b. if b then take (length start.accepted.items) old.accepted.items else old.accepted.items) e ∙ k.accepted))
    accepted false e =
        subst (λ b. new.accepted.items ≡ (if is_change x && not b then start.accepted.items ++ bytes ∷ [] else start.accepted.items)) (sym e)
        (changed_accepted (is_change x) start.accepted.items new.accepted.items (start.accepted.items ++ bytes ∷ [])
        (s.accepted ∙ ap (λ b. if b then take (length start.accepted.items) old.accepted.items else old.accepted.items) e ∙ r.accepted))

    touched : (n : List ℕ) (b : Bool) → depends_on_names reply ≡ b
        → is_among new.touched.items n ≡ (is_among start.touched.items n || (depends_on_names reply && touches own x n) || changes own x reply n)
    touched n true e =
        subst (λ b. is_among new.touched.items n ≡ (is_among start.touched.items n || (b && touches own x n) || changes own x reply n)) (sym e)
        (ap (λ l. is_among l n) (s.touched ∙ ap (λ b. if b then old.touched.items else take (length start.touched.items) old.touched.items) e)
        ∙ r.touched n
        ∙ both (is_among start.touched.items n) (touches own x n) (changes own x reply n) (changed_touched own n x reply w))
    touched n false e =
        subst (λ b. is_among new.touched.items n ≡ (is_among start.touched.items n || (b && touches own x n) || changes own x reply n)) (sym e)
        (ap (λ l. is_among l n) (s.touched ∙ ap (λ b. if b then old.touched.items else take (length start.touched.items) old.touched.items) e ∙ k.touched)
        ∙ neither (is_among start.touched.items n) (touches own x n) (changes own x reply n) (none_changed own n x reply (independent_refused reply e)))

    changed : (n : List ℕ) (b : Bool) → is_refusal reply ≡ b → is_among new.changed.items n ≡ (is_among start.changed.items n || changes own x reply n)
    changed n true e =
        ap (λ l. is_among l n) (s.changed ∙ ap (λ b. if b then take (length start.changed.items) old.changed.items else old.changed.items) e ∙ k.changed)
        ∙ or_none (is_among start.changed.items n) (changes own x reply n) (none_changed own n x reply e)
    changed n false e =
        ap (λ l. is_among l n) (s.changed ∙ ap (λ b. if b then take (length start.changed.items) old.changed.items else old.changed.items) e)
        ∙ r.changed n
        ∙ ap (λ b. is_among start.changed.items n || b) (sym (step_changes own n bytes d x read.depth read.spells reply p e))

    pub all_remembered : Remembers bytes reply x (transaction_in log start) (transaction_in log new)
    all_remembered = record {
      accepted = accepted (is_refusal reply) refl;
      touched = λ n. touched n (depends_on_names reply) refl;
      changed = λ n. changed n (is_refusal reply) refl;
      stale = ap (λ i. drop i log) s.since;
    }
