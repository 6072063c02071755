-- What a tagged statement is answered, and what it makes of the state that sessions share.
use Rattle.std.specs.Prelude.{◌≡◌, ℕ, Bool, true, false, ◌||◌, ◌&&◌, not, Option, Some, None, List, [], ◌∷◌, ◌++◌, if◌then◌else◌}
use Rattle.ded_lex.specs.Pieces.{Whole}
use Rattle.ded_model.specs.declared.command.Language.TheVariants.{One}
use Rattle.ded_model.specs.declared.command.Refusal.TheVariants.{Memory}
use Rattle.ded_model.specs.Catalogue.{Catalogue}
use Rattle.ded_model.specs.Command.{CommandForm, relation, insert, delete, drop, view}
use Rattle.ded_syntax.specs.Spelling.{Spells}
use Rattle.ded_shared.specs.Touching.{touches, changes, depends_on_names}
use Rattle.ded_session.specs.Replies.{ReplyForm, done, refused, is_refusal}
use Rattle.ded_session.specs.Steps.{Step}
use Rattle.ded_shared.specs.Conflicts.{NoneInBoth, IsLeastInBoth}
use Rattle.ded_shared.specs.Forms.{SharedForm, plain, begun, not_begun, conflict}
use Rattle.ded_shared.specs.State.{Transaction, State, is_among, transaction_of, begun_over, all_with_stale, with_transaction}
use Rattle.ded_shared.specs.Tags.{Tagged, begins, commits, aborts, commands, other}

-- ---- commands

-- the command changes a catalogue where it is accepted
abbrev pub is_change : CommandForm → Bool
is_change (relation n h) = true
is_change (insert n fs) = true
is_change (delete n k) = true
is_change (drop n) = true
is_change (view n h f) = true
is_change _ = false

-- what a transaction remembers of the command that the bytes spell, after it got the reply
pub record Remembers (bytes : List ℕ) (reply : ReplyForm) (command : CommandForm) (before after : Transaction) : Type 0 where
  pub accepted : after.accepted ≡ (if is_change command && not (is_refusal reply) then before.accepted ++ bytes ∷ [] else before.accepted)
  pub touched : (n : List ℕ) → is_among after.touched n ≡ (is_among before.touched n || (depends_on_names reply && touches before.own command n) || changes before.own command reply n)
  pub changed : (n : List ℕ) → is_among after.changed n ≡ (is_among before.changed n || changes before.own command reply n)
  pub stale : after.stale ≡ before.stale

-- in a transaction a command works on the transaction's own catalogue, and nothing else is changed
pub record WorksInside (k : ℕ) (bytes : List ℕ) (before : Transaction) (s : State) (reply : ReplyForm) (t : State) : Type 0 where
  pub after : Transaction
  pub step : Step One before.own (Whole bytes) reply after.own
  pub remembers : (command : CommandForm) (depth : ℕ) → Spells One bytes command depth → Remembers bytes reply command before after
  pub is : t ≡ with_transaction s k (Some after)

-- outside of one it works on the shared catalogue, and what it changes is changed for all open transactions
pub record WorksOutside (bytes : List ℕ) (s : State) (reply : ReplyForm) (t : State) : Type 0 where
  pub step : Step One s.shared (Whole bytes) reply t.shared
  pub names : List (List ℕ)
  pub are : (command : CommandForm) (depth : ℕ) → Spells One bytes command depth → (n : List ℕ) → is_among names n ≡ changes s.shared command reply n
  pub transactions : t.transactions ≡ all_with_stale names s.transactions

-- a command of a session works in its open transaction, or outside where it has none
abbrev pub Works : ℕ → List ℕ → Option Transaction → State → ReplyForm → State → Type 0
Works k bytes (Some x) s reply t = WorksInside k bytes x s reply t
Works k bytes None s reply t = WorksOutside bytes s reply t

-- ---- transactions

-- the statements are accepted one after another, whatever their replies
abbrev pub Replays : List (List ℕ) → Catalogue → Catalogue → Type 0
Replays [] c d = d ≡ c
Replays (bytes ∷ rest) c d = (reply : ReplyForm) × (e : Catalogue) × Step One c (Whole bytes) reply e × (is_refusal reply ≡ false) × Replays rest e d

-- the accepted changes of the transaction are made on the shared catalogue, and it is closed
pub record IsCommitted (k : ℕ) (x : Transaction) (s t : State) : Type 0 where
  pub none : NoneInBoth x.touched x.stale
  pub replays : Replays x.accepted s.shared t.shared
  pub transactions : t.transactions ≡ (with_transaction (record s { transactions = all_with_stale x.changed s.transactions }) k None).transactions

-- a session begins a transaction over the shared catalogue, or is told that it has begun one before; it may be refused
-- as out of memory, and then changes nothing
abbrev pub Begins : ℕ → Option Transaction → State → SharedForm → State → Type 0
Begins k o s (plain (refused Memory)) t = t ≡ s
Begins k None s (plain done) t = t ≡ with_transaction s k (Some (begun_over s.shared))
Begins k (Some x) s begun t = t ≡ s
Begins k o s reply t = ⊥

-- a session commits its transaction, or is told the least name at which it conflicts, and it is closed either way;
-- where none is open, the session is told so; it may be refused as out of memory, and then changes nothing
abbrev pub Commits : ℕ → Option Transaction → State → SharedForm → State → Type 0
Commits k o s (plain (refused Memory)) t = t ≡ s
Commits k None s not_begun t = t ≡ s
Commits k (Some x) s (plain done) t = IsCommitted k x s t
Commits k (Some x) s (conflict n) t = IsLeastInBoth x.touched x.stale n × (t ≡ with_transaction s k None)
Commits k o s reply t = ⊥

-- a session gives up its transaction, which is closed; where none is open, the session is told so; it may be refused as
-- out of memory, and then changes nothing
abbrev pub Aborts : ℕ → Option Transaction → State → SharedForm → State → Type 0
Aborts k o s (plain (refused Memory)) t = t ≡ s
Aborts k None s not_begun t = t ≡ s
Aborts k (Some x) s (plain done) t = t ≡ with_transaction s k None
Aborts k o s reply t = ⊥

-- ---- one step

-- a tagged statement over a state may get the reply, and then makes the other state of it; a statement of no session is
-- refused, and changes nothing
abbrev pub SharedStep : State → Tagged → SharedForm → State → Type 0
SharedStep s (begins k) reply t = Begins k (transaction_of s k) s reply t
SharedStep s (commits k) reply t = Commits k (transaction_of s k) s reply t
SharedStep s (aborts k) reply t = Aborts k (transaction_of s k) s reply t
SharedStep s (commands k bytes) (plain reply) t = Works k bytes (transaction_of s k) s reply t
SharedStep s (other statement) (plain reply) t = Step One s.shared statement reply s.shared × (is_refusal reply ≡ true) × (t ≡ s)
SharedStep s x reply t = ⊥

-- one reply for each, in order, each over the state that those before it left
abbrev pub SharedSteps : State → List Tagged → List SharedForm → State → Type 0
SharedSteps s [] [] t = t ≡ s
SharedSteps s [] (reply ∷ replies) t = ⊥
SharedSteps s (x ∷ xs) [] t = ⊥
SharedSteps s (x ∷ xs) (reply ∷ replies) t = (u : State) × SharedStep s x reply u × SharedSteps u xs replies t
