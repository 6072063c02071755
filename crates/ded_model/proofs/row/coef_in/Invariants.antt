use Rattle.std.proofs.Common.{◌≡◌, drop}
use Rattle.ded_model.specs.Coefs.{coef_at, AreCoefs}
use Rattle.ded_model.proofs.row.coef_in.Given as goal

abbrev pub invariant-loop-entry_slot : goal.invariant-loop-entry_slot
invariant-loop-entry_slot l = record {
  value : coef_at l.list l.slot ≡ coef_at (drop l.entry_slot-index l.list) l.slot;
  kept : AreCoefs (drop l.entry_slot-index l.list);
}
