use Rattle.std.proofs.Common.{◌≡◌, ℕ, IsSome, ◌++◌, List, length, Some}
use Rattle.sqlite_value.specs.Order.{Row}
use Rattle.sqlite_trees.specs.View.{IsClean, IsQuiet}
use Rattle.sqlite_exec.specs.Calls.{OnlyReads}
use Rattle.ded_journal.specs.Statements.{statement_rows}
use Rattle.ded_journal.proofs.inspecting.count.Given as goal

abbrev pub invariant-rows : goal.invariant-rows
invariant-rows g l =
    let old = g.S.Store.view l.fn.store in
    (IsClean (g.S.Store.view l.store) → ((done : List (List ℕ)) × (left : List Row) × ((g.S.Store.view l.store).cursors 0 ≡ Some left) × (old.trees 0 ≡ statement_rows 1 done ++ left) × (length done ≡ l.number)))
    × IsSome ((g.S.Store.view l.store).cursors 0)
    × (IsClean (g.S.Store.view l.store) → OnlyReads old (g.S.Store.view l.store))
    × IsQuiet g.S.Store.view g.S.Store.faults g.S.Store.recovers g.S.Store.is_shielded l.fn.store l.store
