use Rattle.std.proofs.Common.{◌≡◌, take, bytes_eq}
use Rattle.std.specs.List.{list_any}
use Rattle.ded_catalog.specs.Users.{Raises}
use Rattle.ded_catalog.proofs.users.raise_all.Given as goal

abbrev pub invariant-loop-name : goal.invariant-loop-name
invariant-loop-name l = (Raises (λ n. list_any (bytes_eq n) (take l.name-index l.name-items)) l.initial.entries.entries l.entries.entries) × (l.entries.hashing ≡ l.initial.entries.hashing)
