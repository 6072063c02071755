use Rattle.std.proofs.Common.{◌≡◌, ◌&&◌, not, ℕ, List}
use Rattle.std.specs.Str.{bytes_eq}
use Rattle.std.specs.List.{list_any}
use Rattle.ded_database.proofs.extending.other_names.Given as goal

abbrev pub invariant-loop-scanned : goal.invariant-loop-scanned
invariant-loop-scanned l = (n : List ℕ) → list_any (bytes_eq n) l.others.items ≡ (list_any (bytes_eq n) l.yielded && not (bytes_eq n l.name))
