-- Which statements belong to which transaction, and which are on their own.
use Rattle.std.specs.Prelude.{ℕ, ◌==◌, Bool, false, Option, Some, None, List, [], ◌∷◌, ◌++◌, if◌then◌else◌, map, option_map}
use Rattle.ded_lex.specs.Pieces.{Statement, Whole}
use Rattle.ded_session.specs.Replies.{ReplyForm, done}
use Rattle.ded_shared.specs.Forms.{SharedForm, plain, conflict}
use Rattle.ded_shared.specs.Tags.{Tagged, begins, commits, aborts, commands, other}

-- a statement, and the reply that it got
pub record Told : Type 0 where
  pub statement : Statement
  pub reply : ReplyForm

-- the statements, without their replies
abbrev pub statements_of : List Told → List Statement
statements_of ts = map (λ t. t.statement) ts

-- the replies, without their statements
abbrev pub replies_of : List Told → List ReplyForm
replies_of ts = map (λ t. t.reply) ts

-- ---- all transactions

-- of each session, the statements so far of its open transaction, where it has one
abbrev pub Open : Type 0
Open = ℕ → Option (List Told)

-- no session has an open transaction
abbrev pub none_open : Open
none_open k = None

-- for this session these
abbrev pub with_open : Open → ℕ → Option (List Told) → Open
with_open o k ts j = if j == k then ts else o j

-- the open transactions after a tagged statement that got a reply: what begins one, what ends one, and what belongs to one
abbrev pub opens : Open → Tagged → SharedForm → Open
opens o (begins k) (plain done) = with_open o k (Some [])
opens o (commits k) (plain done) = with_open o k None
opens o (commits k) (conflict n) = with_open o k None
opens o (aborts k) (plain done) = with_open o k None
opens o (commands k bytes) (plain reply) = with_open o k (option_map (λ ts. ts ++ record { statement = Whole bytes; reply = reply } ∷ []) (o k))
opens o x reply = o

-- the statements of a transaction that is committed, and none of one that isn't open
abbrev pub told_in : Option (List Told) → List Told
told_in None = []
told_in (Some ts) = ts

-- the statement, where no transaction is open to which it belongs
abbrev pub unless_open : Option (List Told) → Told → List Told
unless_open None told = told ∷ []
unless_open (Some ts) told = []

-- the statements that count from here on: those of a transaction whose commit is done, and one that belongs to none
abbrev pub ends : Open → Tagged → SharedForm → List Told
ends o (commits k) (plain done) = told_in (o k)
ends o (commands k bytes) (plain reply) = unless_open (o k) (record { statement = Whole bytes; reply = reply })
ends o (other s) (plain reply) = record { statement = s; reply = reply } ∷ []
ends o x reply = []

-- the statements that count, each with its reply, where these transactions are open before them all; one without a
-- reply is left out
abbrev pub serial_from : Open → List Tagged → List SharedForm → List Told
serial_from o [] replies = []
serial_from o (x ∷ xs) [] = []
serial_from o (x ∷ xs) (reply ∷ replies) = ends o x reply ++ serial_from (opens o x reply) xs replies

-- The statements outside of transactions and those of committed ones, in the order of their ends, each with its reply. No
-- transaction is open before them.
abbrev pub serial : List Tagged → List SharedForm → List Told
serial xs replies = serial_from none_open xs replies

-- ---- one transaction

-- the statement is the end of the session's open transaction
abbrev pub closes : ℕ → Tagged → SharedForm → Bool
closes k (commits j) (plain done) = j == k
closes k (commits j) (conflict n) = j == k
closes k (aborts j) (plain done) = j == k
closes k x reply = false

-- the statement, where it is a command of the session
abbrev pub belongs : ℕ → Tagged → SharedForm → List Told
belongs k (commands j bytes) (plain reply) = if j == k then record { statement = Whole bytes; reply = reply } ∷ [] else []
belongs k x reply = []

-- the statements that belong to the open transaction of a session, up to its end, each with its reply
abbrev pub inside : ℕ → List Tagged → List SharedForm → List Told
inside k [] replies = []
inside k (x ∷ xs) [] = []
inside k (x ∷ xs) (reply ∷ replies) = if closes k x reply then [] else belongs k x reply ++ inside k xs replies
