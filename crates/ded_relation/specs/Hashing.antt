-- How names and texts are hashed.
use Rattle.std.specs.Prelude.{ℕ, ◌++◌}
use Rattle.std.specs.List.{fold}
use Rattle.std.specs.Hash as fed
use Rattle.std.specs.Hash.DefaultHasher as sip
use Rattle.ded_relation.specs.declared.hashing.NameHashing.{NameHashing}

-- hashing from the state of a hasher that the two keys were written to
unfoldable pub keyed : ℕ × ℕ → NameHashing
keyed keys = record { state = fold sip.write sip.initial (fed.u64 keys.0 ++ fed.u64 keys.1) }
