use Rattle.std.proofs.Common.{◌≡◌, drop, is_none}
use Rattle.std.specs.List.{list_all}
use Rattle.ded_shared.proofs.shared.commands.is_idle.Given as goal

-- none is open where none of those that are left is
abbrev pub invariant-loop-transaction : goal.invariant-loop-transaction
invariant-loop-transaction l = list_all is_none (drop l.transaction-index l.transactions) ≡ list_all is_none l.transactions
