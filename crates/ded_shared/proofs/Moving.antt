-- One statement more of shared sessions: what it moves, and what the open transactions have done.
use Rattle.std.proofs.Common.{◌≡◌, ◌-◌, ℕ, ◌==◌, Bool, true, false, not, List, [], ◌∷◌, ◌++◌, Option, Some, None, option_map, length, slice_set, if◌then◌else◌, refl, sym, ap, ◌∙◌, subst}
use Rattle.std.proofs.lemmas.Bool.{eqb-true}
use Rattle.ded_lex.specs.Pieces.{Whole}
use Rattle.ded_model.specs.declared.command.Language.TheVariants.{One}
use Rattle.ded_model.specs.declared.command.Refusal.TheVariants.{Memory}
use Rattle.ded_model.specs.Catalogue.{Catalogue}
use Rattle.ded_model.specs.Known.{IsWellFormed}
use Rattle.ded_shared.specs.Agreeing.{Agree}
use Rattle.ded_shared.specs.Touching.{changes}
use Rattle.ded_shared.proofs.Kept.{step_keeps}
use Rattle.ded_session.specs.Replies.{ReplyForm, done, refused}
use Rattle.ded_shared.specs.Events.{Told, Open, with_open, opens, told_in, unless_open, ends}
use Rattle.ded_shared.specs.Forms.{SharedForm, plain, begun, not_begun, conflict}
use Rattle.ded_shared.specs.Rules.{WorksOutside, Works, IsCommitted, Begins, Commits, Aborts, SharedStep}
use Rattle.ded_shared.specs.Serial.{AreSteps}
use Rattle.ded_shared.specs.State.{Transaction, State, is_among, transaction_of, begun_over, with_stale, all_with_stale, with_transaction}
use Rattle.ded_shared.specs.Tags.{Tagged, begins, commits, aborts, commands, other, SpellsCommand}
use Rattle.ded_shared.proofs.Agreements.{agree_less}
use Rattle.ded_shared.proofs.Following.{Follows, begun_follows, grown_follows, inside_follows, committed_lands}
use Rattle.ded_shared.proofs.Places.{IsSession, IsOfSession, Places, place, place_here, place_other, size_set, place_aged, size_aged}
use Rattle.ded_shared.proofs.Replaying.{KeepsFormed, told, steps_one}

-- ---- all sessions

-- a session has an open transaction exactly where statements of one are counted, and these are what it has done
abbrev pub FollowsIn : Option Transaction → Option (List Told) → Catalogue → Type 0
FollowsIn None None c = Unit {0}
FollowsIn (Some x) (Some ts) c = Follows x ts c
FollowsIn None (Some ts) c = ⊥
FollowsIn (Some x) None c = ⊥

pub record Carries (s : State) (o : Open) : Type 0 where
  pub formed : IsWellFormed s.shared
  pub size : length s.transactions ≡ 64
  pub each : (k : ℕ) → IsSession k → FollowsIn (transaction_of s k) (o k) s.shared

-- the statements lead from the one shared catalogue to the other
pub record Moves (s u : State) (o : Open) (ts : List Told) : Type 0 where
  pub carries : Carries u o
  pub steps : AreSteps s.shared ts u.shared

-- ---- places

abbrev AllFollow : Places → Open → Catalogue → Type 0
AllFollow xs o c = (j : ℕ) → IsSession j → FollowsIn (place xs j) (o j) c

-- one session's place is another one, and the others follow as before
follow_put : (xs : Places) → length xs ≡ 64 → (k : ℕ) → IsSession k → (y : Option Transaction) (o : Open) (ts : Option (List Told)) (c : Catalogue) → AllFollow xs o c
    → FollowsIn y ts c → AllFollow (slice_set xs (k - 1) y) (with_open o k ts) c
follow_put xs size k s y o ts c others here j i = by (j == k) refl
  where
    by : (b : Bool) → (j == k) ≡ b → FollowsIn (place (slice_set xs (k - 1) y) j) (if b then ts else o j) c
    by true e =
        subst (λ m. FollowsIn (place (slice_set xs (k - 1) y) m) ts c) (sym (eqb-true j k e)) (subst (λ z. FollowsIn z ts c) (sym (place_here xs size k y s)) here)
    by false e = subst (λ z. FollowsIn z (o j) c) (sym (place_other xs size k y j i s e)) (others j i)

module _ (names : List (List ℕ)) (c d : Catalogue) (left : Agree c d (λ n. not (is_among names n))) where
  follow_grown : (x : Option Transaction) (ts : Option (List Told)) → FollowsIn x ts c → FollowsIn (option_map (with_stale names) x) ts d
  follow_grown None None f = tt
  follow_grown (Some x) (Some ts) f = grown_follows x ts c d names f left
  follow_grown None (Some ts) f = absurd f
  follow_grown (Some x) None f = absurd f

  -- the shared catalogue is another one, and what is otherwise than before is stale
  follow_aged : (xs : Places) (o : Open) → AllFollow xs o c → AllFollow (all_with_stale names xs) o d
  follow_aged xs o all j i = subst (λ z. FollowsIn z (o j) d) (sym (place_aged names xs (j - 1))) (follow_grown (place xs j) (o j) (all j i))

-- where none is counted, none more is
still_none : (o : Open) (k : ℕ) → o k ≡ None → (j : ℕ) → with_open o k None j ≡ o j
still_none o k e j = by (j == k) refl
  where
    by : (b : Bool) → (j == k) ≡ b → (if b then None else o j) ≡ o j
    by true h = sym e ∙ ap o (sym (eqb-true j k h))
    by false h = refl

-- ---- statements

module _ (keeps : KeepsFormed) (s : State) (o : Open) (c : Carries s o) where
  stays : (u : State) → u ≡ s → Moves s u o []
  stays u e = subst (λ v. Moves s v o []) (sym e) (record { carries = c; steps = refl })

  module _ (k : ℕ) (i : IsSession k) where
    -- nothing but the session's place is another one
    puts : (u : State) (x : Option Transaction) (ts : Option (List Told)) → FollowsIn x ts s.shared → u ≡ with_transaction s k x → Moves s u (with_open o k ts) []
    puts u x ts f e = subst (λ v. Moves s v (with_open o k ts) []) (sym e) (record {
      carries = record { formed = c.formed; size = size_set s.transactions c.size k x; each = follow_put s.transactions c.size k i x o ts s.shared c.each f };
      steps = refl;
    })

    begins_moves : (x : Option Transaction) (reply : SharedForm) (u : State) → Begins k x s reply u → Moves s u (opens o (begins k) reply) (ends o (begins k) reply)
    begins_moves x (plain (refused Memory)) u p = stays u p
    begins_moves None (plain done) u p = puts u (Some (begun_over s.shared)) (Some []) (begun_follows s.shared c.formed) p
    begins_moves (Some x) begun u p = stays u p
    begins_moves _ _ u p = absurd p

    aborts_moves : (x : Option Transaction) (reply : SharedForm) (u : State) → Aborts k x s reply u → Moves s u (opens o (aborts k) reply) (ends o (aborts k) reply)
    aborts_moves x (plain (refused Memory)) u p = stays u p
    aborts_moves None not_begun u p = stays u p
    aborts_moves (Some x) (plain done) u p = puts u None None tt p
    aborts_moves _ _ u p = absurd p

    lands_moves : (x : Transaction) (ts : List Told) (u : State) → Follows x ts s.shared → IsCommitted k x s u → Moves s u (with_open o k None) ts
    lands_moves x ts u f p =
        let l = committed_lands keeps k x ts s u c.formed f p in
        let aged : Places = all_with_stale x.changed s.transactions in
        let size : length aged ≡ 64 = size_aged x.changed s.transactions c.size in
        record {
          carries = record {
            formed = l.formed;
            size = subst (λ xs. length xs ≡ 64) (sym p.transactions) (size_set aged size k None);
            each = subst (λ xs. AllFollow xs (with_open o k None) u.shared) (sym p.transactions)
                (follow_put aged size k i None o None u.shared (follow_aged x.changed s.shared u.shared l.left s.transactions o c.each) tt);
          };
          steps = l.steps;
        }

    commits_moves : (x : Option Transaction) (ts : Option (List Told)) → o k ≡ ts → FollowsIn x ts s.shared → (reply : SharedForm) (u : State) → Commits k x s reply u
        → Moves s u (opens o (commits k) reply) (ends o (commits k) reply)
    commits_moves x ts e f (plain (refused Memory)) u p = stays u p
    commits_moves None ts e f not_begun u p = stays u p
    commits_moves (Some x) (Some ts) e f (plain done) u p = subst (λ l. Moves s u (with_open o k None) (told_in l)) (sym e) (lands_moves x ts u f p)
    commits_moves (Some x) None e f (plain done) u p = absurd f
    commits_moves (Some x) ts e f (conflict n) u p = puts u None None tt p.1
    commits_moves _ _ e f _ u p = absurd p

    module _ (bytes : List ℕ) (spells : SpellsCommand bytes) (reply : ReplyForm) where
      outside_moves : (u : State) → o k ≡ None → WorksOutside bytes s reply u → Moves s u (with_open o k None) (told bytes reply ∷ [])
      outside_moves u e p =
          let left : Agree s.shared u.shared (λ n. not (is_among p.names n))
          = agree_less s.shared u.shared (λ n. not (changes s.shared spells.command reply n)) (λ n. not (is_among p.names n))
          (step_keeps s.shared u.shared c.formed bytes spells.command spells.depth spells.spells reply p.step)
          (λ n h. subst (λ b. not b ≡ true) (p.are spells.command spells.depth spells.spells n) h) in
          record {
            carries = record {
              formed = keeps One s.shared u.shared (Whole bytes) reply c.formed p.step;
              size = subst (λ xs. length xs ≡ 64) (sym p.transactions) (size_aged p.names s.transactions c.size);
              each = λ j m. subst (λ xs. FollowsIn (place xs j) (with_open o k None j) u.shared) (sym p.transactions)
                  (subst (λ ts. FollowsIn (place (all_with_stale p.names s.transactions) j) ts u.shared) (sym (still_none o k e j))
                  (follow_aged p.names s.shared u.shared left s.transactions o c.each j m));
            };
            steps = steps_one s.shared u.shared (told bytes reply) p.step;
          }

      works_moves : (x : Option Transaction) (ts : Option (List Told)) → o k ≡ ts → FollowsIn x ts s.shared → (u : State) → Works k bytes x s reply u
          → Moves s u (opens o (commands k bytes) (plain reply)) (ends o (commands k bytes) (plain reply))
      works_moves x ts e f u p = subst (λ l. Moves s u (with_open o k (option_map (λ us. us ++ told bytes reply ∷ []) l)) (unless_open l (told bytes reply))) (sym e) (by x ts e f p)
        where
          by : (y : Option Transaction) (us : Option (List Told)) → o k ≡ us → FollowsIn y us s.shared → Works k bytes y s reply u
              → Moves s u (with_open o k (option_map (λ vs. vs ++ told bytes reply ∷ []) us)) (unless_open us (told bytes reply))
          by None None h g q = outside_moves u h q
          by (Some y) (Some us) h g q = puts u (Some q.after) (Some (us ++ told bytes reply ∷ [])) (inside_follows keeps k bytes y s u reply us s.shared spells q g) q.is
          by None (Some us) h g q = absurd g
          by (Some y) None h g q = absurd g

  pub moves : (x : Tagged) → IsOfSession x → (reply : SharedForm) (u : State) → SharedStep s x reply u → Moves s u (opens o x reply) (ends o x reply)
  moves (begins k) i reply u p = begins_moves k i (transaction_of s k) reply u p
  moves (commits k) i reply u p = commits_moves k i (transaction_of s k) (o k) refl (c.each k i) reply u p
  moves (aborts k) i reply u p = aborts_moves k i (transaction_of s k) reply u p
  moves (commands k bytes) i (plain reply) u p = works_moves k i.0 bytes i.1 reply (transaction_of s k) (o k) refl (c.each k i.0) u p
  moves (other z) i (plain reply) u p = subst (λ v. Moves s v o (record { statement = z; reply = reply } ∷ [])) (sym p.2)
      (record { carries = c; steps = steps_one s.shared s.shared (record { statement = z; reply = reply }) p.0 })
  moves _ i _ u p = absurd p
