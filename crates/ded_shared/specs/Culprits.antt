-- Which statement made a commit conflict.
use Rattle.std.specs.Prelude.{◌≡◌, ◌≢◌, ℕ, true, false, Some, None, List, [], ◌∷◌, ◌++◌}
use Rattle.ded_model.specs.declared.command.Language.TheVariants.{One}
use Rattle.ded_model.specs.Command.{CommandForm}
use Rattle.ded_syntax.specs.Spelling.{Spells}
use Rattle.ded_session.specs.Replies.{ReplyForm, done}
use Rattle.ded_shared.specs.Events.{closes}
use Rattle.ded_shared.specs.Forms.{SharedForm, plain}
use Rattle.ded_shared.specs.Rules.{SharedStep, SharedSteps}
use Rattle.ded_shared.specs.State.{Transaction, State, is_among, transaction_of}
use Rattle.ded_shared.specs.Tags.{Tagged, begins, commits, commands}
use Rattle.ded_shared.specs.Touching.{changes}

-- session j isn't session k, and its open transaction has changed the name
pub record CommitChanges (k j : ℕ) (s : State) (n : List ℕ) : Type 0 where
  pub other : j ≢ k
  pub transaction : Transaction
  pub there : transaction_of s j ≡ Some transaction
  pub changed : is_among transaction.changed n ≡ true

-- session j has no open transaction, and the bytes spell a command that changes the name of the shared catalogue where it gets this reply
pub record CommandChanges (j : ℕ) (bytes : List ℕ) (s : State) (reply : ReplyForm) (n : List ℕ) : Type 0 where
  pub alone : transaction_of s j ≡ None
  pub command : CommandForm
  pub depth : ℕ
  pub spells : Spells One bytes command depth
  pub changed : changes s.shared command reply n ≡ true

-- The statement, answered so over this state, changes the name for an open transaction of session k: it is the commit of another
-- session's transaction, or an accepted command outside of transactions.
abbrev pub ChangesName : ℕ → State → Tagged → SharedForm → List ℕ → Type 0
ChangesName k s (commits j) (plain done) n = CommitChanges k j s n
ChangesName k s (commands j bytes) (plain reply) n = CommandChanges j bytes s reply n
ChangesName k s x reply n = ⊥

-- none of the statements, with their replies, ends the open transaction of session k
abbrev pub NoneCloses : ℕ → List Tagged → List SharedForm → Type 0
NoneCloses k [] replies = Unit {0}
NoneCloses k (x ∷ xs) [] = Unit {0}
NoneCloses k (x ∷ xs) (reply ∷ replies) = (closes k x reply ≡ false) × NoneCloses k xs replies

-- The statements lead with these replies from the one state to the other, and one of them changes the name for an open transaction
-- of session k, over the state that those before it left.
pub record HasChange (k : ℕ) (n : List ℕ) (s : State) (xs : List Tagged) (replies : List SharedForm) (t : State) : Type 0 where
  pub before : List Tagged
  pub culprit : Tagged
  pub rest : List Tagged
  pub statements : xs ≡ before ++ (culprit ∷ rest)
  pub got : List SharedForm
  pub answer : SharedForm
  pub others : List SharedForm
  pub answers : replies ≡ got ++ (answer ∷ others)
  pub found : State
  pub steps : SharedSteps s before got found
  pub further : SharedSteps found (culprit ∷ rest) (answer ∷ others) t
  pub changes : ChangesName k found culprit answer n

-- The statements lead with these replies from the first state to the last one. By one of them session k begins a transaction, none
-- behind it ends that, and one behind it changes the name for that.
pub record HasCulprit (first : State) (k : ℕ) (n : List ℕ) (xs : List Tagged) (replies : List SharedForm) (last : State) : Type 0 where
  pub before : List Tagged
  pub later : List Tagged
  pub statements : xs ≡ before ++ (begins k ∷ later)
  pub got : List SharedForm
  pub others : List SharedForm
  pub answers : replies ≡ got ++ (plain done ∷ others)
  pub start : State
  pub begun : State
  pub steps : SharedSteps first before got start
  pub begin : SharedStep start (begins k) (plain done) begun
  pub stays : NoneCloses k later others
  pub change : HasChange k n begun later others last
