-- What the parts of shared sessions in the program stand for.
use Rattle.std.specs.Prelude.{◌≡◌, ◌≤◌, ◌-◌, ℕ, true, Option, None, is_none, get_or, List, [], ◌∷◌, ◌++◌, ◌||◌, if◌then◌else◌, length, take, drop, map, option_map, IfSome}
use Rattle.std.specs.List.{AllByRecursion, list_all}
use Rattle.ded_model.specs.Catalogue.{Catalogue}
use Rattle.ded_model.specs.Command.{CommandForm}
use Rattle.ded_catalog.specs.State.{Table, catalogue_of}
use Rattle.ded_session.specs.Replies.{done}
use Rattle.ded_shared.specs.Forms.{SharedForm, plain}
use Rattle.ded_shared.specs.Touching.{touches}
use Rattle.ded_shared.specs.Gathering.{changed_by}
use Rattle.ded_shared.specs.Rules.{is_change, Replays}
use Rattle.ded_shared.specs.State.{Transaction, State, is_among}
use Rattle.ded_shared.specs.declared.transaction.Transaction as declared

-- each has at most 65,536 bytes
abbrev pub ArePieces : List (List ℕ) → Type 0
ArePieces ps = AllByRecursion (λ (p : List ℕ). length p ≤ 65536) ps

-- ---- transactions

-- a transaction, where these names were changed: those behind its begin are stale
abbrev pub transaction_in : List (List ℕ) → declared.Transaction → Transaction
transaction_in log x = record {
  own = catalogue_of x.own;
  accepted = x.accepted.items;
  touched = x.touched.items;
  changed = x.changed.items;
  stale = drop x.since log;
}

-- nothing is remembered yet
pub record IsBegun (c : Catalogue) (count : ℕ) (x : declared.Transaction) : Type 0 where
  pub own : catalogue_of x.own ≡ c
  pub accepted : x.accepted.items ≡ []
  pub touched : x.touched.items ≡ []
  pub changed : x.changed.items ≡ []
  pub since : x.since ≡ count

-- what was remembered still is
pub record KeepsFronts (old new : declared.Transaction) : Type 0 where
  pub accepted : take (length old.accepted.items) new.accepted.items ≡ old.accepted.items
  pub touched : take (length old.touched.items) new.touched.items ≡ old.touched.items
  pub changed : take (length old.changed.items) new.changed.items ≡ old.changed.items

-- the bytes are added, if they may change a catalogue, and the names that the command touches and changes are among the others
pub record Recalls (bytes : List ℕ) (x : CommandForm) (old new : declared.Transaction) : Type 0 where
  pub accepted : new.accepted.items ≡ (if is_change x then old.accepted.items ++ bytes ∷ [] else old.accepted.items)
  pub touched : (n : List ℕ) → is_among new.touched.items n ≡ (is_among old.touched.items n || touches (catalogue_of old.own) x n)
  pub changed : (n : List ℕ) → is_among new.changed.items n ≡ (is_among old.changed.items n || changed_by (catalogue_of old.own) x n)

-- ---- all together

-- what stands under each name of the shared catalogue, the open transactions by session, and the names that were changed
-- since one of them began
pub record Parts : Type 0 where
  pub table : Table
  pub transactions : List (Option declared.Transaction)
  pub log : List (List ℕ)

-- the shared catalogue and the open transactions that the parts stand for
abbrev pub state_of : Parts → State
state_of s = record { shared = catalogue_of s.table; transactions = map (option_map (transaction_in s.log)) s.transactions }

-- where no transaction is open, no changed name is remembered
abbrev pub RemembersNoneIdle : Parts → Type 0
RemembersNoneIdle s = list_all is_none s.transactions ≡ true → s.log ≡ []

-- where the session's transaction is committed, and no name was changed since its begin, what stands under each name is what
-- stood there in the transaction
abbrev pub TakesOver : ℕ → Parts → SharedForm → Parts → Type 0
TakesOver k s reply t = reply ≡ plain done → IfSome (get_or s.transactions (k - 1) None) (λ x. x.since ≡ length s.log → t.table ≡ x.own)

-- It began when at most so many names were changed, and its statements are pieces. Where none were changed since, its accepted
-- changes make its own catalogue of the shared one. Where it changed no name, there are none.
pub record IsWithin (c : Catalogue) (count : ℕ) (x : declared.Transaction) : Type 0 where
  pub since : x.since ≤ count
  pub pieces : ArePieces x.accepted.items
  pub replays : x.since ≡ count → Replays x.accepted.items c (catalogue_of x.own)
  pub noted : x.changed.items ≡ [] → x.accepted.items ≡ []

-- there is a place for each session
pub record AreKept (s : Parts) : Type 0 where
  pub places : length s.transactions ≡ 64
  pub within : AllByRecursion (λ o. IfSome o (IsWithin (catalogue_of s.table) (length s.log))) s.transactions

-- the names that the command changes where it is accepted stand behind those that were changed before
pub record Notes (x : CommandForm) (old new : Parts) : Type 0 where
  pub table : new.table ≡ old.table
  pub transactions : new.transactions ≡ old.transactions
  pub names : List (List ℕ)
  pub log : new.log ≡ old.log ++ names
  pub changes : (n : List ℕ) → is_among names n ≡ changed_by (catalogue_of old.table) x n
