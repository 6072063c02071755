-- Relations that have accepted no more inserts than the rules allow.
use Rattle.std.specs.Prelude.{◌≤◌}
use Rattle.std.specs.List.{AllByRecursion}
use Rattle.ded_model.specs.Catalogue.{Entry, Catalogue}
use Rattle.ded_model.specs.Catalogue as entry

-- a relation has accepted at most 2^32 - 1 inserts
abbrev pub HasFewInserts : Entry → Type 0
HasFewInserts (entry.relation n h inserts ts) = inserts ≤ 4294967295
HasFewInserts (entry.view n h f) = Unit {0}

-- each relation has
abbrev pub HaveFewInserts : Catalogue → Type 0
HaveFewInserts c = AllByRecursion HasFewInserts c.entries
