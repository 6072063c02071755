-- One statement more, while a session has an open transaction.
use Rattle.std.proofs.Common.{◌≡◌, ◌-◌, ℕ, ◌==◌, Bool, true, false, List, [], ◌∷◌, Option, Some, None, is_some, option_map, length, slice_set, if◌then◌else◌, refl, sym, ap, ◌∙◌, subst, true≢false}
use Rattle.std.proofs.lemmas.Bool.{eqb-true, eq-eqb}
use Rattle.ded_model.specs.declared.command.Refusal.TheVariants.{Memory}
use Rattle.ded_model.specs.Catalogue.{Catalogue}
use Rattle.ded_session.specs.Replies.{ReplyForm, done, refused}
use Rattle.ded_shared.specs.Events.{Told, closes, belongs}
use Rattle.ded_shared.specs.Forms.{SharedForm, plain, begun, not_begun, conflict}
use Rattle.ded_shared.specs.Rules.{Works, Begins, Commits, Aborts, SharedStep}
use Rattle.ded_shared.specs.Serial.{AreSteps}
use Rattle.ded_shared.specs.State.{Transaction, State, transaction_of, begun_over, with_stale, all_with_stale}
use Rattle.ded_shared.specs.Tags.{Tagged, begins, commits, aborts, commands, other}
use Rattle.ded_shared.proofs.Places.{IsSession, IsOfSession, Places, place, place_here, place_other, size_set, place_aged, size_aged}
use Rattle.ded_shared.proofs.Replaying.{told, steps_one}

-- the session has an open transaction with this catalogue
pub record Has (k : ℕ) (xs : Places) (own : Catalogue) : Type 0 where
  pub size : length xs ≡ 64
  pub found : Transaction
  pub there : place xs k ≡ Some found
  pub is : found.own ≡ own

-- and after the statements it still has one
pub record Stays (k : ℕ) (c : Catalogue) (ts : List Told) (xs : Places) : Type 0 where
  pub own : Catalogue
  pub has : Has k xs own
  pub steps : AreSteps c ts own

module _ (k : ℕ) (i : IsSession k) (own : Catalogue) where
  same_place : (xs ys : Places) → ys ≡ xs → Has k xs own → Stays k own [] ys
  same_place xs ys e h = record { own = own; has = subst (λ zs. Has k zs own) (sym e) h; steps = refl }

  -- another session's place is another one
  other_place : (xs : Places) (j : ℕ) → IsSession j → (j == k) ≡ false → (y : Option Transaction) → Has k xs own → Has k (slice_set xs (j - 1) y) own
  other_place xs j m n y h = record {
    size = size_set xs h.size j y;
    found = h.found;
    there = place_other xs h.size j y k i m (turned (k == j) refl) ∙ h.there;
    is = h.is;
  }
    where
      turned : (b : Bool) → (k == j) ≡ b → (k == j) ≡ false
      turned true e = absurd (true≢false (sym (eq-eqb j k (sym (eqb-true k j e))) ∙ n))
      turned false e = e

  -- others have changed names
  aged_place : (names : List (List ℕ)) (xs : Places) → Has k xs own → Has k (all_with_stale names xs) own
  aged_place names xs h = record {
    size = size_aged names xs h.size;
    found = with_stale names h.found;
    there = place_aged names xs (k - 1) ∙ ap (option_map (with_stale names)) h.there;
    is = h.is;
  }

  module _ (s : State) (h : Has k s.transactions own) (j : ℕ) (m : IsSession j) where
    -- it is another session where that one has no transaction
    differs : transaction_of s j ≡ None → (j == k) ≡ false
    differs e = by (j == k) refl
      where
        by : (b : Bool) → (j == k) ≡ b → b ≡ false
        by true f = absurd (some_none h.found (sym h.there ∙ ap (place s.transactions) (sym (eqb-true j k f)) ∙ e))
          where
            some_none : (x : Transaction) → Some x ≡ None → ⊥
            some_none x q = true≢false (ap is_some q)
        by false f = refl

    begins_inside : (x : Option Transaction) → transaction_of s j ≡ x → (reply : SharedForm) (u : State) → Begins j x s reply u → Stays k own [] u.transactions
    begins_inside x e (plain (refused Memory)) u p = same_place s.transactions u.transactions (ap (λ (v : State). v.transactions) p) h
    begins_inside None e (plain done) u p = same_place _ u.transactions (ap (λ (v : State). v.transactions) p) (other_place s.transactions j m (differs e) (Some (begun_over s.shared)) h)
    begins_inside (Some x) e begun u p = same_place s.transactions u.transactions (ap (λ (v : State). v.transactions) p) h
    begins_inside _ e _ u p = absurd p

    aborts_inside : (x : Option Transaction) (reply : SharedForm) (u : State) → closes k (aborts j) reply ≡ false → Aborts j x s reply u → Stays k own [] u.transactions
    aborts_inside x (plain (refused Memory)) u n p = same_place s.transactions u.transactions (ap (λ (v : State). v.transactions) p) h
    aborts_inside None not_begun u n p = same_place s.transactions u.transactions (ap (λ (v : State). v.transactions) p) h
    aborts_inside (Some x) (plain done) u n p = same_place _ u.transactions (ap (λ (v : State). v.transactions) p) (other_place s.transactions j m n None h)
    aborts_inside _ _ u n p = absurd p

    commits_inside : (x : Option Transaction) (reply : SharedForm) (u : State) → closes k (commits j) reply ≡ false → Commits j x s reply u → Stays k own [] u.transactions
    commits_inside x (plain (refused Memory)) u n p = same_place s.transactions u.transactions (ap (λ (v : State). v.transactions) p) h
    commits_inside None not_begun u n p = same_place s.transactions u.transactions (ap (λ (v : State). v.transactions) p) h
    commits_inside (Some x) (plain done) u n p =
        same_place _ u.transactions p.transactions (other_place (all_with_stale x.changed s.transactions) j m n None (aged_place x.changed s.transactions h))
    commits_inside (Some x) (conflict c) u n p = same_place _ u.transactions (ap (λ (v : State). v.transactions) p.1) (other_place s.transactions j m n None h)
    commits_inside _ _ u n p = absurd p

    works_inside : (bytes : List ℕ) (reply : ReplyForm) (x : Option Transaction) → transaction_of s j ≡ x → (u : State) → Works j bytes x s reply u
        → Stays k own (belongs k (commands j bytes) (plain reply)) u.transactions
    works_inside bytes reply None e u p = subst (λ b. Stays k own (if b then told bytes reply ∷ [] else []) u.transactions) (sym (differs e)) (same_place _ u.transactions p.transactions (aged_place p.names s.transactions h))
    works_inside bytes reply (Some x) e u p = by (j == k) refl
      where
        set_is : u.transactions ≡ slice_set s.transactions (j - 1) (Some p.after)
        set_is = ap (λ (v : State). v.transactions) p.is

        by : (b : Bool) → (j == k) ≡ b → Stays k own (if b then told bytes reply ∷ [] else []) u.transactions
        by false n = same_place _ u.transactions set_is (other_place s.transactions j m n (Some p.after) h)
        by true f =
            let same : j ≡ k = eqb-true j k f in
            let one : x ≡ h.found = some_same x h.found (sym e ∙ ap (place s.transactions) same ∙ h.there) in
            record {
              own = p.after.own;
              has = record {
                size = subst (λ xs. length xs ≡ 64) (sym set_is) (size_set s.transactions h.size j (Some p.after));
                found = p.after;
                there = ap (place u.transactions) (sym same) ∙ ap (λ xs. place xs j) set_is ∙ place_here s.transactions h.size j (Some p.after) m;
                is = refl;
              };
              steps = subst (λ c. AreSteps c (told bytes reply ∷ []) p.after.own) (ap (λ (y : Transaction). y.own) one ∙ h.is) (steps_one x.own p.after.own (told bytes reply) p.step);
            }
          where
            some_same : (y z : Transaction) → Some y ≡ Some z → y ≡ z
            some_same y z q = cc

  -- a statement that doesn't end the transaction
  pub one_inside : (s : State) → Has k s.transactions own → (x : Tagged) → IsOfSession x → (reply : SharedForm) (u : State) → closes k x reply ≡ false → SharedStep s x reply u
      → Stays k own (belongs k x reply) u.transactions
  one_inside s h (begins j) m reply u n p = begins_inside s h j m (transaction_of s j) refl reply u p
  one_inside s h (commits j) m reply u n p = commits_inside s h j m (transaction_of s j) reply u n p
  one_inside s h (aborts j) m reply u n p = aborts_inside s h j m (transaction_of s j) reply u n p
  one_inside s h (commands j bytes) m (plain reply) u n p = works_inside s h j m.0 bytes reply (transaction_of s j) refl u p
  one_inside s h (other z) m (plain reply) u n p = same_place s.transactions u.transactions (ap (λ (v : State). v.transactions) p.2) h
  one_inside s h _ m _ u n p = absurd p
