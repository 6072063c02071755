-- How transactions begin and end, in the words of the parts.
use Rattle.std.proofs.Common.{◌≡◌, ◌-◌, ℕ, true, false, List, ◌++◌, Option, Some, None, is_some, option_map, get_or, slice_set, length, take, drop, refl, sym, ap, ◌∙◌, subst, IfSome, true≢false, length-drop}
use Rattle.std.proofs.Math.Seq.{take-length}
use Rattle.std.proofs.lemmas.List.{map-set}
use Rattle.ded_catalog.specs.State.{Table, catalogue_of}
use Rattle.ded_model.specs.declared.command.Refusal.TheVariants.{Memory}
use Rattle.ded_session.specs.Replies.{done, refused}
use Rattle.ded_shared.specs.Conflicts.{NoneInBoth, IsLeastInBoth}
use Rattle.ded_shared.specs.Forms.{SharedForm, plain, begun, not_begun, conflict}
use Rattle.ded_shared.specs.Parts.{transaction_in, IsBegun, Parts, state_of, AreKept}
use Rattle.ded_shared.specs.Rules.{Replays, Begins, Commits, Aborts}
use Rattle.ded_shared.specs.State.{Transaction, State, transaction_of, begun_over, with_transaction}
use Rattle.ded_shared.specs.declared.transaction.Transaction as declared
use Rattle.ded_shared.proofs.Changing.{Places, seen, seen_at, put_state, begun_is, grown_seen}

pub some_none : (x : declared.Transaction) → Some x ≡ None → ⊥
some_none x e = true≢false (ap is_some e)

-- nothing but one place is another one
pub put_parts : (s u : Parts) (k : ℕ) (y : Option declared.Transaction) → u.table ≡ s.table → u.transactions ≡ slice_set s.transactions (k - 1) y → u.log ≡ s.log
    → state_of u ≡ with_transaction (state_of s) k (option_map (transaction_in s.log) y)
put_parts s u k y p q r =
    ap (λ (t : Table). state_of (record { table = t; transactions = u.transactions; log = u.log })) p
    ∙ ap (λ (xs : Places). state_of (record { table = s.table; transactions = xs; log = u.log })) q
    ∙ ap (λ (l : List (List ℕ)). state_of (record { table = s.table; transactions = slice_set s.transactions (k - 1) y; log = l })) r
    ∙ put_state s.table s.transactions s.log k y

module _ (s : Parts) (k : ℕ) where
  -- the session's transaction, as it stands in the program
  abbrev Here : Type 0
  Here = Option declared.Transaction

  seen_here : (o : Here) → get_or s.transactions (k - 1) None ≡ o → option_map (transaction_in s.log) o ≡ transaction_of (state_of s) k
  seen_here o e = sym (seen_at s.log s.transactions (k - 1) ∙ ap (option_map (transaction_in s.log)) e)

  -- ---- begin

  opened : (o : Here) → is_some o ≡ true → Begins k (option_map (transaction_in s.log) o) (state_of s) begun (state_of s)
  opened None e = absurd (true≢false (sym e))
  opened (Some x) e = refl

  pub begin_open : is_some (get_or s.transactions (k - 1) None) ≡ true → Begins k (transaction_of (state_of s) k) (state_of s) begun (state_of s)
  begin_open e = subst (λ (o : Option Transaction). Begins k o (state_of s) begun (state_of s)) (seen_here _ refl) (opened _ e)

  begins : (o : Here) → is_some o ≡ false → (t : State) → t ≡ with_transaction (state_of s) k (Some (begun_over (catalogue_of s.table)))
      → Begins k (option_map (transaction_in s.log) o) (state_of s) (plain done) t
  begins None e t p = p
  begins (Some x) e t p = absurd (true≢false e)

  pub begin_done : is_some (get_or s.transactions (k - 1) None) ≡ false → (x : declared.Transaction) → IsBegun (catalogue_of s.table) (length s.log) x
      → (u : Parts) → u.table ≡ s.table → u.transactions ≡ slice_set s.transactions (k - 1) (Some x) → u.log ≡ s.log
      → Begins k (transaction_of (state_of s) k) (state_of s) (plain done) (state_of u)
  begin_done e x b u p q r =
      subst (λ (o : Option Transaction). Begins k o (state_of s) (plain done) (state_of u)) (seen_here _ refl)
      (begins _ e (state_of u) (put_parts s u k (Some x) p q r ∙ ap (λ (y : Transaction). with_transaction (state_of s) k (Some y)) (begun_is s.log (catalogue_of s.table) x b)))

  -- ---- abort

  unopened : (o : Here) → is_some o ≡ false → Aborts k (option_map (transaction_in s.log) o) (state_of s) not_begun (state_of s)
  unopened None e = refl
  unopened (Some x) e = absurd (true≢false e)

  pub abort_none : is_some (get_or s.transactions (k - 1) None) ≡ false → Aborts k (transaction_of (state_of s) k) (state_of s) not_begun (state_of s)
  abort_none e = subst (λ (o : Option Transaction). Aborts k o (state_of s) not_begun (state_of s)) (seen_here _ refl) (unopened _ e)

  aborts : (o : Here) → is_some o ≡ true → (t : State) → t ≡ with_transaction (state_of s) k None → Aborts k (option_map (transaction_in s.log) o) (state_of s) (plain done) t
  aborts None e t p = absurd (true≢false (sym e))
  aborts (Some x) e t p = p

  pub abort_done : is_some (get_or s.transactions (k - 1) None) ≡ true → (u : Parts) → u.table ≡ s.table → u.transactions ≡ slice_set s.transactions (k - 1) None → u.log ≡ s.log
      → Aborts k (transaction_of (state_of s) k) (state_of s) (plain done) (state_of u)
  abort_done e u p q r = subst (λ (o : Option Transaction). Aborts k o (state_of s) (plain done) (state_of u)) (seen_here _ refl) (aborts _ e (state_of u) (put_parts s u k None p q r))

  -- ---- commit

  pub commit_none : get_or s.transactions (k - 1) None ≡ None → Commits k (transaction_of (state_of s) k) (state_of s) not_begun (state_of s)
  commit_none e = subst (λ (o : Option Transaction). Commits k o (state_of s) not_begun (state_of s)) (seen_here None e) refl

  pub commit_want : (reply : SharedForm) (t : State) → reply ≡ plain (refused Memory) → t ≡ state_of s → Commits k (transaction_of (state_of s) k) (state_of s) reply t
  commit_want reply t is same = subst (λ (r : SharedForm). Commits k (transaction_of (state_of s) k) (state_of s) r t) (sym is) same

  module _ (x : declared.Transaction) (is : get_or s.transactions (k - 1) None ≡ Some x) where
    pub commit_conflict : (n : List ℕ) → IsLeastInBoth x.touched.items (drop x.since s.log) n → (u : Parts) → u.table ≡ s.table → u.transactions ≡ slice_set s.transactions (k - 1) None → u.log ≡ s.log
        → Commits k (transaction_of (state_of s) k) (state_of s) (conflict n) (state_of u)
    commit_conflict n least u p q r = subst (λ (o : Option Transaction). Commits k o (state_of s) (conflict n) (state_of u)) (seen_here (Some x) is) (least, put_parts s u k None p q r)

    -- what was asked of the transaction of the session
    pub free_here : NoneInBoth x.touched.items (drop x.since s.log) → IfSome (transaction_of (state_of s) k) (λ y. NoneInBoth y.touched y.stale)
    free_here none = subst (λ (o : Option Transaction). IfSome o (λ y. NoneInBoth y.touched y.stale)) (seen_here (Some x) is) none

    found_free : IfSome (transaction_of (state_of s) k) (λ y. NoneInBoth y.touched y.stale) → NoneInBoth x.touched.items (drop x.since s.log)
    found_free free = subst (λ (o : Option Transaction). IfSome o (λ y. NoneInBoth y.touched y.stale)) (sym (seen_here (Some x) is)) free

    pub commit_done : IfSome (transaction_of (state_of s) k) (λ y. NoneInBoth y.touched y.stale) → AreKept s → (u : Parts) → Replays x.accepted.items (catalogue_of s.table) (catalogue_of u.table)
        → u.transactions ≡ slice_set s.transactions (k - 1) None → u.log ≡ s.log ++ x.changed.items → Commits k (transaction_of (state_of s) k) (state_of s) (plain done) (state_of u)
    commit_done free kept u replays q r = subst (λ (o : Option Transaction). Commits k o (state_of s) (plain done) (state_of u)) (seen_here (Some x) is) (record {
      none = found_free free;
      replays = replays;
      transactions =
          ap (seen u.log) q ∙ map-set (option_map (transaction_in u.log)) s.transactions (k - 1) None
          ∙ ap (λ (l : List (List ℕ)). slice_set (seen l s.transactions) (k - 1) None) r
          ∙ ap (λ (xs : List (Option Transaction)). slice_set xs (k - 1) None) (grown_seen (catalogue_of s.table) s.log x.changed.items s.transactions kept.within);
    })

-- what stands behind the begin, as a range
pub least_here : (touched log given held : List (List ℕ)) (i : ℕ) (n m : List ℕ) → given ≡ touched → held ≡ log → n ≡ m → IsLeastInBoth given (take (length held - i) (drop i held)) m → IsLeastInBoth touched (drop i log) n
least_here touched log given held i n m p q e h =
    subst (λ (ts : List (List ℕ)). IsLeastInBoth ts (drop i log) n) p (subst (λ (l : List (List ℕ)). IsLeastInBoth given (drop i l) n) q
    (subst (λ (l : List (List ℕ)). IsLeastInBoth given l n) range (subst (λ (o : List ℕ). IsLeastInBoth given (take (length held - i) (drop i held)) o) (sym e) h)))
  where
    range : take (length held - i) (drop i held) ≡ drop i held
    range = subst (λ (k : ℕ). take k (drop i held) ≡ drop i held) (length-drop i held) (take-length (drop i held))
