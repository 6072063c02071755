-- What sessions share, and what each open transaction has of its own.
use Rattle.std.specs.Prelude.{◌-◌, ℕ, Bool, Option, None, List, [], ◌++◌, get_or, map, option_map, replicate, slice_set}
use Rattle.std.specs.Str.{bytes_eq}
use Rattle.std.specs.List.{list_any}
use Rattle.ded_model.specs.Catalogue.{Catalogue}
use Rattle.ded_session.specs.Runs.{empty_catalogue}

-- An open transaction: its catalogue, which began as a copy of the shared one; the statements in it that were accepted and
-- may change a catalogue, in order; the names that it touched or changed, and those among them that it changed; and the
-- names that others have changed since its begin.
pub record Transaction : Type 0 where
  pub own : Catalogue
  pub accepted : List (List ℕ)
  pub touched : List (List ℕ)
  pub changed : List (List ℕ)
  pub stale : List (List ℕ)

-- The shared catalogue, and the open transaction of each session from 1 on, where it has one.
pub record State : Type 0 where
  pub shared : Catalogue
  pub transactions : List (Option Transaction)

-- the name is one of these
abbrev pub is_among : List (List ℕ) → List ℕ → Bool
is_among ns n = list_any (bytes_eq n) ns

-- the open transaction of session k, where it has one
abbrev pub transaction_of : State → ℕ → Option Transaction
transaction_of s k = get_or s.transactions (k - 1) None

-- nothing is defined yet, and none of the sessions has an open transaction
abbrev pub first_state : ℕ → State
first_state limit = record { shared = empty_catalogue limit; transactions = replicate 64 None }

-- ---- what becomes of transactions

-- one that begins over this catalogue
abbrev pub begun_over : Catalogue → Transaction
begun_over c = record { own = c; accepted = []; touched = []; changed = []; stale = [] }

-- others have changed these names besides
abbrev pub with_stale : List (List ℕ) → Transaction → Transaction
with_stale ns x = record x { stale = x.stale ++ ns }

-- all open transactions, after others than theirs have changed these names
abbrev pub all_with_stale : List (List ℕ) → List (Option Transaction) → List (Option Transaction)
all_with_stale ns xs = map (option_map (with_stale ns)) xs

-- the session's transaction is this one, or none
abbrev pub with_transaction : State → ℕ → Option Transaction → State
with_transaction s k x = record s { transactions = slice_set s.transactions (k - 1) x }
