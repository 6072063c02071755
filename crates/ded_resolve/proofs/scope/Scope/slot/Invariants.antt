use Rattle.std.proofs.Common.{◌≡◌, ◌≤◌, take, length}
use Rattle.std.specs.Prelude.{reverse}
use Rattle.ded_model.specs.Slotted.{slot_of}
use Rattle.ded_resolve.proofs.scope.Scope.slot.Given as goal

abbrev pub invariant-loop-at : goal.invariant-loop-at
invariant-loop-at l = record {
  place : l.at ≤ length l.self-inside.names.items;
  rest : slot_of (reverse (take l.at l.self-inside.names.items)) l.variable ≡ slot_of l.self l.variable;
}

abbrev pub decreases-loop-at : goal.decreases-loop-at
decreases-loop-at l = l.at
