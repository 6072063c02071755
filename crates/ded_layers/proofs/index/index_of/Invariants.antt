use Rattle.std.proofs.Common.{ℕ, ◌<◌, ◌^◌}
use Rattle.ded_model.proofs.Lists.{Some}
use Rattle.ded_layers.specs.Layers.{pieces_of}
use Rattle.ded_layers.specs.Indexed.{IsEntryOf}
use Rattle.ded_layers.proofs.index.index_of.Given as goal

abbrev pub invariant-loop-i : goal.invariant-loop-i
invariant-loop-i l = (k : ℕ) → k < l.i → k < 2 ^ 32 → Some (IsEntryOf l.window (pieces_of l.parts) k) l.index.entries
