use Rattle.std.proofs.Common.{◌≡◌, drop}
use Rattle.std.specs.List.{list_any}
use Rattle.ded_terminals.specs.Items.{symbols, is_long_name}
use Rattle.ded_terminals.proofs.item.has_long_name.Given as goal

abbrev pub invariant-loop-item : goal.invariant-loop-item
invariant-loop-item l = list_any is_long_name (symbols l.bytes (drop l.item-index l.items)) ≡ list_any is_long_name (symbols l.bytes l.items)
