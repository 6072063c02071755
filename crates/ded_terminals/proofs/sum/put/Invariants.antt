use Rattle.std.proofs.Common.{◌≡◌, ◌++◌, take, drop}
use Rattle.ded_terminals.specs.Operands.{put}
use Rattle.ded_terminals.proofs.sum.put.Given as goal

abbrev pub invariant-loop-i : goal.invariant-loop-i
invariant-loop-i l = record {
  items : l.parts.items ≡ l.fn.parts.items;
  same : put l.fn.parts.items l.name l.amount ≡ take l.i l.fn.parts.items ++ put (drop l.i l.fn.parts.items) l.name l.amount;
}
