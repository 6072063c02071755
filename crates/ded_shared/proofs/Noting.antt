-- What a command that is read changes, inside of a transaction and outside of one.
use Rattle.std.proofs.Common.{◌≡◌, ◌≤◌, ◌-◌, ℕ, true, false, List, [], ◌++◌, Option, Some, None, option_map, get_or, slice_set, length, refl, sym, ap, ◌∙◌, subst, true≢false, Result, Ok, Err, OnOk, OnErr}
use Rattle.ded_lex.specs.Pieces.{Whole}
use Rattle.ded_model.specs.declared.command.Language.TheVariants.{One}
use Rattle.ded_model.specs.declared.command.Refusal.TheVariants.{Memory}
use Rattle.ded_model.specs.Catalogue.{Catalogue}
use Rattle.ded_model.specs.Command.{CommandForm, relation, insert, delete, drop as drops, view}
use Rattle.ded_syntax.specs.Spelling.{Spells, IsRead}
use Rattle.ded_syntax.proofs.One.{one_command}
use Rattle.ded_catalog.specs.State.{Table, catalogue_of}
use Rattle.ded_shared.specs.Touching.{changes}
use Rattle.ded_session.specs.Replies.{ReplyForm, done, number, refused, is_refusal}
use Rattle.ded_session.specs.Steps.{Does, Step, Accepts}
use Rattle.ded_shared.specs.Gathering.{changed_by}
use Rattle.ded_shared.specs.Going.{no_change, none_staler}
use Rattle.ded_shared.specs.Parts.{transaction_in, Parts, state_of, AreKept, Notes}
use Rattle.ded_shared.specs.Rules.{Remembers, WorksOutside, Works}
use Rattle.ded_shared.specs.State.{Transaction, State, is_among, transaction_of, all_with_stale}
use Rattle.ded_shared.specs.declared.transaction.Transaction as declared
use Rattle.ded_shared.proofs.Changing.{Places, seen_at, put_state, grown_kept}

-- ---- accepted commands

module _ (c d : Catalogue) (n : List ℕ) where
  done_changes : (x : CommandForm) (reply : ReplyForm) → Does x c reply d → changes c x reply n ≡ changed_by c x n
  done_changes (relation m h) done p = refl
  done_changes (relation m h) _ p = absurd p
  done_changes (insert m fs) (number k) p = refl
  done_changes (insert m fs) _ p = absurd p
  done_changes (delete m k) done p = refl
  done_changes (delete m k) _ p = absurd p
  done_changes (view m h f) done p = refl
  done_changes (view m h f) _ p = absurd p
  done_changes (drops m) done p = refl
  done_changes (drops m) _ p = absurd p
  done_changes _ reply p = refl

  accepts : (bytes : List ℕ) (reply : ReplyForm) → is_refusal reply ≡ false → Step One c (Whole bytes) reply d → Accepts One (Whole bytes) c (λ x. Does x c reply d)
  accepts bytes (refused r) e p = absurd (true≢false e)
  accepts bytes _ e p = p

  -- an accepted command changes what it may
  pub accepted_changes : (bytes : List ℕ) (x : CommandForm) (depth : ℕ) → Spells One bytes x depth → (reply : ReplyForm) → is_refusal reply ≡ false → Step One c (Whole bytes) reply d
      → changes c x reply n ≡ changed_by c x n
  accepted_changes bytes x depth s reply e p =
      let a = accepts bytes reply e p in
      done_changes x reply (subst (λ (y : CommandForm). Does y c reply d) (one_command One bytes a.command x a.depth depth a.spells s).0 a.so)

pub refused_changes : (c : Catalogue) (x : CommandForm) (reply : ReplyForm) (n : List ℕ) → is_refusal reply ≡ true → changes c x reply n ≡ false
refused_changes c x (refused r) n e = no_change c x r n
refused_changes c x _ n e = absurd (true≢false (sym e))

-- ---- outside of a transaction

module _ (bytes : List ℕ) (x : CommandForm) (read : IsRead One bytes x) (reply : ReplyForm) where
  -- a refused command
  pub refused_outside : (s t : State) → is_refusal reply ≡ true → Step One s.shared (Whole bytes) reply t.shared → t.transactions ≡ s.transactions → WorksOutside bytes s reply t
  refused_outside s t e p same = record {
    step = p;
    names = [];
    are = λ y depth spells n. sym (refused_changes s.shared y reply n e);
    transactions = same ∙ sym (none_staler s.transactions);
  }

  -- an accepted one
  pub accepted_outside : (s t : State) (names : List (List ℕ)) → is_refusal reply ≡ false → Step One s.shared (Whole bytes) reply t.shared
      → ((n : List ℕ) → is_among names n ≡ changed_by s.shared x n) → t.transactions ≡ all_with_stale names s.transactions → WorksOutside bytes s reply t
  accepted_outside s t names e p are same = record {
    step = p;
    names = names;
    are = λ y depth spells n.
        are n ∙ ap (λ (z : CommandForm). changed_by s.shared z n) (one_command One bytes x y read.depth depth read.spells spells).0
        ∙ sym (accepted_changes s.shared t.shared n bytes y depth spells reply e p);
    transactions = same;
  }

-- for want of memory
pub want_outside : (bytes : List ℕ) → length bytes ≤ 65536 → (s t : State) → t ≡ s → WorksOutside bytes s (refused Memory) t
want_outside bytes short s t e = subst (λ (u : State). WorksOutside bytes s (refused Memory) u) (sym e) (record {
  step = ((short, λ h. h), refl);
  names = [];
  are = λ command depth spells n. sym (no_change s.shared command Memory n);
  transactions = sym (none_staler s.transactions);
})

-- ---- in a transaction

-- what a transaction at a place remembers
pub works_inside : (k : ℕ) (bytes : List ℕ) (x : CommandForm) (reply : ReplyForm) (t u : Table) (xs : Places) (log : List (List ℕ)) (old new : declared.Transaction)
    → get_or xs (k - 1) None ≡ Some old → t ≡ u → IsRead One bytes x → Step One (catalogue_of old.own) (Whole bytes) reply (catalogue_of new.own)
    → Remembers bytes reply x (transaction_in log old) (transaction_in log new)
    → Works k bytes (transaction_of (state_of (record { table = t; transactions = xs; log = log })) k) (state_of (record { table = t; transactions = xs; log = log })) reply
    (state_of (record { table = u; transactions = slice_set xs (k - 1) (Some new); log = log }))
works_inside k bytes x reply t u xs log old new at same read step remembers =
    subst (λ (o : Option Transaction). Works k bytes o s reply after) (sym (seen_at log xs (k - 1) ∙ ap (option_map (transaction_in log)) at)) (record {
      after = transaction_in log new;
      step = step;
      remembers = λ y depth spells. subst (λ (z : CommandForm). Remembers bytes reply z (transaction_in log old) (transaction_in log new)) (one_command One bytes x y read.depth depth read.spells spells).0 remembers;
      is = ap (λ (v : Table). state_of (record { table = v; transactions = slice_set xs (k - 1) (Some new); log = log })) (sym same) ∙ put_state t xs log k (Some new);
    })
  where
    s : State
    s = state_of (record { table = t; transactions = xs; log = log })

    after : State
    after = state_of (record { table = u; transactions = slice_set xs (k - 1) (Some new); log = log })

-- where the session has no transaction
pub works_alone : (s : Parts) (k : ℕ) (bytes : List ℕ) (reply : ReplyForm) (t : State) → get_or s.transactions (k - 1) None ≡ None → WorksOutside bytes (state_of s) reply t
    → Works k bytes (transaction_of (state_of s) k) (state_of s) reply t
works_alone s k bytes reply t none w =
    subst (λ (o : Option Transaction). Works k bytes o (state_of s) reply t) (sym (seen_at s.log s.transactions (k - 1) ∙ ap (option_map (transaction_in s.log)) none)) w

-- ---- notes

pub noted : {T E : Type 0} (r : Result T E) (x : CommandForm) (s : Parts) (l names : List (List ℕ)) → OnOk r (l ≡ s.log ++ names)
    → ((n : List ℕ) → is_among names n ≡ changed_by (catalogue_of s.table) x n) → OnOk r (Notes x s (record { table = s.table; transactions = s.transactions; log = l }))
noted (Ok t) x s l names h are = record { table = refl; transactions = refl; names = names; log = h; changes = are }
noted (Err e) x s l names h are = tt

-- whether they were added or not
pub added_kept : {T E : Type 0} (r : Result T E) (t : Table) (xs : Places) (log names l : List (List ℕ)) → OnOk r (l ≡ log ++ names) → OnErr r (l ≡ log)
    → AreKept (record { table = t; transactions = xs; log = log }) → AreKept (record { table = t; transactions = xs; log = l })
added_kept (Ok v) t xs log names l h e kept = subst (λ (m : List (List ℕ)). AreKept (record { table = t; transactions = xs; log = m })) (sym h) (grown_kept t t xs log names (λ none. refl) kept)
added_kept (Err v) t xs log names l h e kept = subst (λ (m : List (List ℕ)). AreKept (record { table = t; transactions = xs; log = m })) (sym e) kept
