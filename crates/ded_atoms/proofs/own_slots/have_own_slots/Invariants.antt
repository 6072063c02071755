use Rattle.std.proofs.Common.{◌≡◌, ℕ, suc, ◌<◌, take, drop, get_or}
use Rattle.ded_model.specs.Row.{Atom}
use Rattle.ded_atoms.specs.Own.{HasOwnSlot}
use Rattle.ded_atoms.proofs.own_slots.have_own_slots.Given as goal

abbrev pub invariant-loop-index : goal.invariant-loop-index
invariant-loop-index l = (k : ℕ) → k < l.index → (a : Atom) → a ≡ get_or l.atoms k a → HasOwnSlot (take k l.atoms) a (drop (suc k) l.atoms)
