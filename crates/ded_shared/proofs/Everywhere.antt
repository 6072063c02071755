-- What a statement keeps of a catalogue, tagged statements keep of all catalogues in a state.
use Rattle.std.proofs.Common.{◌≡◌, ℕ, zero, suc, ◌-◌, List, [], ◌∷◌, Option, Some, None, get_or, sym, subst}
use Rattle.std.specs.Prelude.{IfSome, replicate, slice_set}
use Rattle.std.specs.List.{AllByRecursion}
use Rattle.ded_lex.specs.Pieces.{Statement, Whole}
use Rattle.ded_model.specs.declared.command.Language.TheVariants.{One}
use Rattle.ded_model.specs.declared.command.Refusal.TheVariants.{Memory}
use Rattle.ded_model.specs.Catalogue.{Catalogue}
use Rattle.ded_session.specs.Replies.{ReplyForm, done, refused}
use Rattle.ded_session.specs.Runs.{empty_catalogue}
use Rattle.ded_session.specs.Steps.{Step}
use Rattle.ded_shared.specs.Forms.{SharedForm, plain, begun, not_begun, conflict}
use Rattle.ded_shared.specs.Rules.{Works, Replays, Begins, Commits, Aborts, SharedStep}
use Rattle.ded_shared.specs.State.{Transaction, State, transaction_of, first_state, all_with_stale, begun_over, with_transaction}
use Rattle.ded_shared.specs.Tags.{Tagged, begins, commits, aborts, commands, other}
use Rattle.ded_shared.proofs.Places.{Places}

-- it is so of the catalogue of each open transaction
abbrev pub OfOpen : (Catalogue → Type 0) → Places → Type 0
OfOpen P xs = AllByRecursion (λ o. IfSome o (λ x. P x.own)) xs

-- and of the shared catalogue
pub record Everywhere (P : Catalogue → Type 0) (s : State) : Type 0 where
  pub shared : P s.shared
  pub own : OfOpen P s.transactions

module _ (P : Catalogue → Type 0) where
  pub at_place : (xs : Places) (i : ℕ) → OfOpen P xs → IfSome (get_or xs i None) (λ x. P x.own)
  at_place [] i h = tt
  at_place (x ∷ xs) zero h = h.0
  at_place (x ∷ xs) (suc i) h = at_place xs i h.1

  put : (xs : Places) (i : ℕ) (x : Option Transaction) → OfOpen P xs → IfSome x (λ y. P y.own) → OfOpen P (slice_set xs i x)
  put [] i x h p = tt
  put (y ∷ xs) zero x h p = (p, h.1)
  put (y ∷ xs) (suc i) x h p = (h.0, put xs i x h.1 p)

  aged : (ns : List (List ℕ)) (xs : Places) → OfOpen P xs → OfOpen P (all_with_stale ns xs)
  aged ns [] h = tt
  aged ns (None ∷ xs) h = (tt, aged ns xs h.1)
  aged ns (Some x ∷ xs) h = (h.0, aged ns xs h.1)

  none_open : (i : ℕ) → OfOpen P (replicate i None)
  none_open zero = tt
  none_open (suc i) = (tt, none_open i)

  pub first_everywhere : (limit : ℕ) → P (empty_catalogue limit) → Everywhere P (first_state limit)
  first_everywhere limit p = record { shared = p; own = none_open 64 }

-- what a statement of the plain language keeps
abbrev pub Keeps : (Catalogue → Type 0) → Type 0
Keeps P = (c d : Catalogue) (s : Statement) (reply : ReplyForm) → P c → Step One c s reply d → P d

module _ (P : Catalogue → Type 0) (keeps : Keeps P) where
  replayed : (ps : List (List ℕ)) (c d : Catalogue) → P c → Replays ps c d → P d
  replayed [] c d h r = subst P (sym r) h
  replayed (bytes ∷ rest) c d h r = replayed rest r.1 d (keeps c r.1 (Whole bytes) r.0 h r.2) r.4

  module _ (s : State) (all : Everywhere P s) where
    stays : (t : State) → t ≡ s → Everywhere P t
    stays t e = subst (Everywhere P) (sym e) all

    with_put : (k : ℕ) (x : Option Transaction) (t : State) → IfSome x (λ y. P y.own) → t ≡ with_transaction s k x → Everywhere P t
    with_put k x t p e = subst (Everywhere P) (sym e) (record { shared = all.shared; own = put P s.transactions (k - 1) x all.own p })

    begins_keep : (k : ℕ) (x : Option Transaction) (r : SharedForm) (t : State) → Begins k x s r t → Everywhere P t
    begins_keep k x (plain (refused Memory)) t p = stays t p
    begins_keep k None (plain done) t p = with_put k (Some (begun_over s.shared)) t all.shared p
    begins_keep k (Some x) begun t p = stays t p
    begins_keep k _ _ t p = absurd p

    aborts_keep : (k : ℕ) (x : Option Transaction) (r : SharedForm) (t : State) → Aborts k x s r t → Everywhere P t
    aborts_keep k x (plain (refused Memory)) t p = stays t p
    aborts_keep k None not_begun t p = stays t p
    aborts_keep k (Some x) (plain done) t p = with_put k None t tt p
    aborts_keep k _ _ t p = absurd p

    commits_keep : (k : ℕ) (x : Option Transaction) (r : SharedForm) (t : State) → Commits k x s r t → Everywhere P t
    commits_keep k x (plain (refused Memory)) t p = stays t p
    commits_keep k None not_begun t p = stays t p
    commits_keep k (Some x) (plain done) t p = record {
      shared = replayed x.accepted s.shared t.shared all.shared p.replays;
      own = subst (OfOpen P) (sym p.transactions) (put P (all_with_stale x.changed s.transactions) (k - 1) None (aged P x.changed s.transactions all.own) tt);
    }
    commits_keep k (Some x) (conflict n) t p = with_put k None t tt p.1
    commits_keep k _ _ t p = absurd p

    works_keep : (k : ℕ) (bytes : List ℕ) (x : Option Transaction) (r : ReplyForm) (t : State) → IfSome x (λ y. P y.own) → Works k bytes x s r t → Everywhere P t
    works_keep k bytes None r t h p = record {
      shared = keeps s.shared t.shared (Whole bytes) r all.shared p.step;
      own = subst (OfOpen P) (sym p.transactions) (aged P p.names s.transactions all.own);
    }
    works_keep k bytes (Some x) r t h p = with_put k (Some p.after) t (keeps x.own p.after.own (Whole bytes) r h p.step) p.is

    pub step_everywhere : (x : Tagged) (r : SharedForm) (t : State) → SharedStep s x r t → Everywhere P t
    step_everywhere (begins k) r t p = begins_keep k (transaction_of s k) r t p
    step_everywhere (commits k) r t p = commits_keep k (transaction_of s k) r t p
    step_everywhere (aborts k) r t p = aborts_keep k (transaction_of s k) r t p
    step_everywhere (commands k bytes) (plain r) t p = works_keep k bytes (transaction_of s k) r t (at_place P s.transactions (k - 1) all.own) p
    step_everywhere (other z) (plain r) t p = stays t p.2
    step_everywhere _ _ t p = absurd p
