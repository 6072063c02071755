-- What becomes of the open transaction of a session by one statement more, and of the names that others have changed since its begin.
use Rattle.std.proofs.Common.{◌≡◌, ◌⊎◌, ◌-◌, ℕ, ◌==◌, Bool, true, false, List, [], ◌∷◌, Option, Some, None, is_some, option_map, length, slice_set, inl, inr, refl, sym, ap, ◌∙◌, subst, true≢false, ⊎_elim, bytes_eq}
use Rattle.std.proofs.lemmas.Bool.{eqb-true, eqb-false, eq-eqb}
use Rattle.std.proofs.lemmas.List.{length-replicate}
use Rattle.std.proofs.lemmas.List.Folds.{list_any-append}
use Rattle.ded_model.specs.declared.command.Refusal.TheVariants.{Memory}
use Rattle.ded_model.proofs.Members.{or_split}
use Rattle.ded_model.proofs.Rows.{or_left, or_right}
use Rattle.ded_session.specs.Replies.{ReplyForm, done, refused}
use Rattle.ded_shared.specs.Culprits.{ChangesName}
use Rattle.ded_shared.specs.Events.{closes}
use Rattle.ded_shared.specs.Forms.{SharedForm, plain, begun, not_begun, conflict}
use Rattle.ded_shared.specs.Rules.{Works, IsCommitted, Begins, Commits, Aborts, SharedStep, SharedSteps}
use Rattle.ded_shared.specs.State.{Transaction, State, is_among, transaction_of, first_state, begun_over, with_stale, all_with_stale, with_transaction}
use Rattle.ded_shared.specs.Tags.{Tagged, begins, commits, aborts, commands, other, SpellsCommand}
use Rattle.ded_shared.proofs.Places.{IsSession, IsOfSession, Places, place, place_here, place_other, size_set, place_aged, size_aged}

pub some_same : (x y : Transaction) → Some x ≡ Some y → x ≡ y
some_same x y e = cc

pub some_none : (x : Transaction) → Some x ≡ None → ⊥
some_none x e = true≢false (ap is_some e)

-- ---- places

-- there is a place for each session
abbrev pub IsSized : State → Type 0
IsSized s = length s.transactions ≡ 64

module _ (s : State) (size : IsSized s) (u : State) where
  same_size : u ≡ s → IsSized u
  same_size e = ap (λ (v : State). length v.transactions) e ∙ size

  put_size : (j : ℕ) (y : Option Transaction) → u ≡ with_transaction s j y → IsSized u
  put_size j y e = ap (λ (v : State). length v.transactions) e ∙ size_set s.transactions size j y

  begins_size : (j : ℕ) (o : Option Transaction) (reply : SharedForm) → Begins j o s reply u → IsSized u
  begins_size j o (plain (refused Memory)) p = same_size p
  begins_size j None (plain done) p = put_size j (Some (begun_over s.shared)) p
  begins_size j (Some x) begun p = same_size p
  begins_size j _ _ p = absurd p

  commits_size : (j : ℕ) (o : Option Transaction) (reply : SharedForm) → Commits j o s reply u → IsSized u
  commits_size j o (plain (refused Memory)) p = same_size p
  commits_size j None not_begun p = same_size p
  commits_size j (Some x) (plain done) p = ap (λ (xs : Places). length xs) p.transactions ∙ size_set (all_with_stale x.changed s.transactions) (size_aged x.changed s.transactions size) j None
  commits_size j (Some x) (conflict n) p = put_size j None p.1
  commits_size j _ _ p = absurd p

  aborts_size : (j : ℕ) (o : Option Transaction) (reply : SharedForm) → Aborts j o s reply u → IsSized u
  aborts_size j o (plain (refused Memory)) p = same_size p
  aborts_size j None not_begun p = same_size p
  aborts_size j (Some x) (plain done) p = put_size j None p
  aborts_size j _ _ p = absurd p

  works_size : (j : ℕ) (bytes : List ℕ) (o : Option Transaction) (reply : ReplyForm) → Works j bytes o s reply u → IsSized u
  works_size j bytes (Some x) reply p = put_size j (Some p.after) p.is
  works_size j bytes None reply p = ap (λ (xs : Places). length xs) p.transactions ∙ size_aged p.names s.transactions size

  pub step_size : (x : Tagged) (reply : SharedForm) → SharedStep s x reply u → IsSized u
  step_size (begins j) reply p = begins_size j (transaction_of s j) reply p
  step_size (commits j) reply p = commits_size j (transaction_of s j) reply p
  step_size (aborts j) reply p = aborts_size j (transaction_of s j) reply p
  step_size (commands j bytes) (plain reply) p = works_size j bytes (transaction_of s j) reply p
  step_size (other z) (plain reply) p = same_size p.2
  step_size _ _ p = absurd p

pub steps_size : (xs : List Tagged) (replies : List SharedForm) (s t : State) → IsSized s → SharedSteps s xs replies t → IsSized t
steps_size [] [] s t size p = same_size s size t p
steps_size [] (reply ∷ replies) s t size p = absurd p
steps_size (x ∷ xs) [] s t size p = absurd p
steps_size (x ∷ xs) (reply ∷ replies) s t size p = steps_size xs replies p.0 t (step_size s size p.0 x reply p.1) p.2

pub first_size : (limit : ℕ) → IsSized (first_state limit)
first_size limit = length-replicate 64 nothing
  where
    nothing : Option Transaction
    nothing = None

-- ---- one statement

-- the session still has its open transaction, and what is stale of it is what was stale before, and what the statement changes
pub record Stays (k : ℕ) (s : State) (x : Tagged) (reply : SharedForm) (u : State) : Type 0 where
  pub old : Transaction
  pub new : Transaction
  pub was : transaction_of s k ≡ Some old
  pub now : transaction_of u k ≡ Some new
  pub on : closes k x reply ≡ false
  pub back : (n : List ℕ) → is_among new.stale n ≡ true → (is_among old.stale n ≡ true) ⊎ ChangesName k s x reply n
  pub forth : (n : List ℕ) → ((is_among old.stale n ≡ true) ⊎ ChangesName k s x reply n) → is_among new.stale n ≡ true

-- the session begins a transaction
pub record Opens (k : ℕ) (s : State) (x : Tagged) (reply : SharedForm) (u : State) : Type 0 where
  pub statement : x ≡ begins k
  pub answer : reply ≡ plain done
  pub was : transaction_of s k ≡ None
  pub new : Transaction
  pub now : transaction_of u k ≡ Some new
  pub fresh : new.stale ≡ []

-- the session has none, since it had none or ended it
pub record Lacks (k : ℕ) (s : State) (x : Tagged) (reply : SharedForm) (u : State) : Type 0 where
  pub now : transaction_of u k ≡ None
  pub was : (transaction_of s k ≡ None) ⊎ (closes k x reply ≡ true)

abbrev pub After : ℕ → State → Tagged → SharedForm → State → Type 0
After k s x reply u = Stays k s x reply u ⊎ (Opens k s x reply u ⊎ Lacks k s x reply u)

-- the session's place is as before
module _ (k : ℕ) (s u : State) (x : Tagged) (reply : SharedForm) (same : transaction_of u k ≡ transaction_of s k) (on : closes k x reply ≡ false)
    (none : (n : List ℕ) → ChangesName k s x reply n → ⊥) where
  unmoved_by : (o : Option Transaction) → transaction_of s k ≡ o → After k s x reply u
  unmoved_by None e = inr (inr (record { now = same ∙ e; was = inl e }))
  unmoved_by (Some y) e = inl (record {
    old = y;
    new = y;
    was = e;
    now = same ∙ e;
    on = on;
    back = λ n h. inl h;
    forth = λ n h. ⊎_elim (λ (a : is_among y.stale n ≡ true). a) (λ (c : ChangesName k s x reply n). absurd (none n c)) h;
  })

  unmoved : After k s x reply u
  unmoved = unmoved_by (transaction_of s k) refl

-- others have changed names
module _ (k : ℕ) (s u : State) (x : Tagged) (reply : SharedForm) (names : List (List ℕ)) (at : transaction_of u k ≡ option_map (with_stale names) (transaction_of s k))
    (on : closes k x reply ≡ false) (made : (n : List ℕ) → is_among names n ≡ true → ChangesName k s x reply n) (needed : (n : List ℕ) → ChangesName k s x reply n → is_among names n ≡ true) where
  aged_by : (o : Option Transaction) → transaction_of s k ≡ o → After k s x reply u
  aged_by None e = inr (inr (record { now = at ∙ ap (option_map (with_stale names)) e; was = inl e }))
  aged_by (Some y) e = inl (record {
    old = y;
    new = with_stale names y;
    was = e;
    now = at ∙ ap (option_map (with_stale names)) e;
    on = on;
    back = λ n h. ⊎_elim (λ (a : is_among y.stale n ≡ true). inl a) (λ (b : is_among names n ≡ true). inr (made n b))
        (or_split (is_among y.stale n) (is_among names n) (sym (list_any-append (bytes_eq n) y.stale names) ∙ h));
    forth = λ n h. list_any-append (bytes_eq n) y.stale names ∙ ⊎_elim (λ (a : is_among y.stale n ≡ true). or_left (is_among y.stale n) (is_among names n) a)
        (λ (c : ChangesName k s x reply n). or_right (is_among y.stale n) (is_among names n) (needed n c)) h;
  })

  aged : After k s x reply u
  aged = aged_by (transaction_of s k) refl

module _ (k : ℕ) (i : IsSession k) where
  turned : (j : ℕ) → (j == k) ≡ false → (b : Bool) → (k == j) ≡ b → (k == j) ≡ false
  turned j n true f = absurd (true≢false (sym (eq-eqb j k (sym (eqb-true k j f))) ∙ n))
  turned j n false f = f

  module _ (xs ys : Places) (size : length xs ≡ 64) (j : ℕ) (m : IsSession j) (y : Option Transaction) (set : ys ≡ slice_set xs (j - 1) y) where
    put_here : (j == k) ≡ true → place ys k ≡ y
    put_here f = ap (place ys) (sym (eqb-true j k f)) ∙ ap (λ (zs : Places). place zs j) set ∙ place_here xs size j y m

    put_other : (j == k) ≡ false → place ys k ≡ place xs k
    put_other n = ap (λ (zs : Places). place zs k) set ∙ place_other xs size j y k i m (turned j n (k == j) refl)

  module _ (s : State) (size : IsSized s) (u : State) where
    same_place : u ≡ s → transaction_of u k ≡ transaction_of s k
    same_place e = ap (λ (v : State). transaction_of v k) e

    module _ (j : ℕ) (m : IsSession j) where
      begun_after : transaction_of s j ≡ None → u ≡ with_transaction s j (Some (begun_over s.shared)) → (b : Bool) → (j == k) ≡ b → After k s (begins j) (plain done) u
      begun_after e p true f = inr (inl (record {
        statement = ap begins (eqb-true j k f);
        answer = refl;
        was = ap (place s.transactions) (sym (eqb-true j k f)) ∙ e;
        new = begun_over s.shared;
        now = put_here s.transactions u.transactions size j m (Some (begun_over s.shared)) (ap (λ (v : State). v.transactions) p) f;
        fresh = refl;
      }))
      begun_after e p false n = unmoved k s u (begins j) (plain done)
          (put_other s.transactions u.transactions size j m (Some (begun_over s.shared)) (ap (λ (v : State). v.transactions) p) n) refl (λ l c. c)

      begins_after : (o : Option Transaction) → transaction_of s j ≡ o → (reply : SharedForm) → Begins j o s reply u → After k s (begins j) reply u
      begins_after o e (plain (refused Memory)) p = unmoved k s u (begins j) (plain (refused Memory)) (same_place p) refl (λ l c. c)
      begins_after None e (plain done) p = begun_after e p (j == k) refl
      begins_after (Some x) e begun p = unmoved k s u (begins j) begun (same_place p) refl (λ l c. c)
      begins_after _ e _ p = absurd p

      -- the session's transaction is given up
      given_up : (x : Tagged) (reply : SharedForm) → closes k x reply ≡ (j == k) → ((n : List ℕ) → ChangesName k s x reply n → ⊥) → u ≡ with_transaction s j None
          → (b : Bool) → (j == k) ≡ b → After k s x reply u
      given_up x reply c none p true f =
          inr (inr (record { now = put_here s.transactions u.transactions size j m None (ap (λ (v : State). v.transactions) p) f; was = inr (c ∙ f) }))
      given_up x reply c none p false n = unmoved k s u x reply (put_other s.transactions u.transactions size j m None (ap (λ (v : State). v.transactions) p) n) (c ∙ n) none

      aborts_after : (o : Option Transaction) (reply : SharedForm) → Aborts j o s reply u → After k s (aborts j) reply u
      aborts_after o (plain (refused Memory)) p = unmoved k s u (aborts j) (plain (refused Memory)) (same_place p) refl (λ l c. c)
      aborts_after None not_begun p = unmoved k s u (aborts j) not_begun (same_place p) refl (λ l c. c)
      aborts_after (Some x) (plain done) p = given_up (aborts j) (plain done) refl (λ l c. c) p (j == k) refl
      aborts_after _ _ p = absurd p

      committed : (x : Transaction) → transaction_of s j ≡ Some x → IsCommitted j x s u → (b : Bool) → (j == k) ≡ b → After k s (commits j) (plain done) u
      committed x e p true f = inr (inr (record {
        now = put_here (all_with_stale x.changed s.transactions) u.transactions (size_aged x.changed s.transactions size) j m None p.transactions f;
        was = inr f;
      }))
      committed x e p false n = aged k s u (commits j) (plain done) x.changed
          (put_other (all_with_stale x.changed s.transactions) u.transactions (size_aged x.changed s.transactions size) j m None p.transactions n ∙ place_aged x.changed s.transactions (k - 1)) n
          (λ l h. record { other = eqb-false j k n; transaction = x; there = e; changed = h })
          (λ l c. subst (λ (y : Transaction). is_among y.changed l ≡ true) (some_same c.transaction x (sym c.there ∙ e)) c.changed)

      commits_after : (o : Option Transaction) → transaction_of s j ≡ o → (reply : SharedForm) → Commits j o s reply u → After k s (commits j) reply u
      commits_after o e (plain (refused Memory)) p = unmoved k s u (commits j) (plain (refused Memory)) (same_place p) refl (λ l c. c)
      commits_after None e not_begun p = unmoved k s u (commits j) not_begun (same_place p) refl (λ l c. c)
      commits_after (Some x) e (plain done) p = committed x e p (j == k) refl
      commits_after (Some x) e (conflict n) p = given_up (commits j) (conflict n) refl (λ l c. c) p.1 (j == k) refl
      commits_after _ e _ p = absurd p

      module _ (bytes : List ℕ) (spells : SpellsCommand bytes) (reply : ReplyForm) where
        never : (x : Transaction) → transaction_of s j ≡ Some x → (n : List ℕ) → ChangesName k s (commands j bytes) (plain reply) n → ⊥
        never x e n c = some_none x (sym e ∙ c.alone)

        inside_after : (x : Transaction) → transaction_of s j ≡ Some x → (p : Works j bytes (Some x) s reply u) → (b : Bool) → (j == k) ≡ b → After k s (commands j bytes) (plain reply) u
        inside_after x e p true f =
            let stale : p.after.stale ≡ x.stale = (p.remembers spells.command spells.depth spells.spells).stale in
            inl (record {
              old = x;
              new = p.after;
              was = ap (place s.transactions) (sym (eqb-true j k f)) ∙ e;
              now = put_here s.transactions u.transactions size j m (Some p.after) (ap (λ (v : State). v.transactions) p.is) f;
              on = refl;
              back = λ n h. inl (ap (λ (l : List (List ℕ)). is_among l n) (sym stale) ∙ h);
              forth = λ n h. ⊎_elim (λ (a : is_among x.stale n ≡ true). ap (λ (l : List (List ℕ)). is_among l n) stale ∙ a)
                  (λ (c : ChangesName k s (commands j bytes) (plain reply) n). absurd (never x e n c)) h;
            })
        inside_after x e p false n = unmoved k s u (commands j bytes) (plain reply)
            (put_other s.transactions u.transactions size j m (Some p.after) (ap (λ (v : State). v.transactions) p.is) n) refl (never x e)

        works_after : (o : Option Transaction) → transaction_of s j ≡ o → Works j bytes o s reply u → After k s (commands j bytes) (plain reply) u
        works_after (Some x) e p = inside_after x e p (j == k) refl
        works_after None e p = aged k s u (commands j bytes) (plain reply) p.names
            (ap (λ (xs : Places). place xs k) p.transactions ∙ place_aged p.names s.transactions (k - 1)) refl
            (λ n h. record {
              alone = e;
              command = spells.command;
              depth = spells.depth;
              spells = spells.spells;
              changed = sym (p.are spells.command spells.depth spells.spells n) ∙ h;
            })
            (λ n c. p.are c.command c.depth c.spells n ∙ c.changed)

    pub after : (x : Tagged) → IsOfSession x → (reply : SharedForm) → SharedStep s x reply u → After k s x reply u
    after (begins j) m reply p = begins_after j m (transaction_of s j) refl reply p
    after (commits j) m reply p = commits_after j m (transaction_of s j) refl reply p
    after (aborts j) m reply p = aborts_after j m (transaction_of s j) reply p
    after (commands j bytes) m (plain reply) p = works_after j m.0 bytes m.1 reply (transaction_of s j) refl p
    after (other z) m (plain reply) p = unmoved k s u (other z) (plain reply) (same_place p.2) refl (λ l c. c)
    after _ m _ p = absurd p
