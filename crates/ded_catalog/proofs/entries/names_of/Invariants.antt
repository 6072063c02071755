-- The names so far and those that are left are all.
use Rattle.std.proofs.Common.{◌≡◌, ◌++◌, map}
use Rattle.ded_catalog.proofs.entries.names_of.Given as goal

abbrev pub invariant-loop-name : goal.invariant-loop-name
invariant-loop-name l = map (λ n. n.now) l.names.items ++ map (λ e. e.0) l.name-iterator ≡ map (λ e. e.0) l.linked.entries
