use Rattle.std.proofs.Common.{◌≡◌, ◌-◌, ◌<◌, ◌≤◌, get_or, length}
use Rattle.std.specs.declared.cmp.Ordering.TheVariants.{Less}
use Rattle.ded_model.specs.Row.{Atom}
use Rattle.ded_model.specs.Normal.{atom_order}
use Rattle.ded_tuple.specs.Places.{atom_place}
use Rattle.ded_tuple.proofs.placing.find.Given as goal

abbrev pub invariant-loop-low : goal.invariant-loop-low
invariant-loop-low l = record {
  low : l.low ≤ atom_place l.atom l.atoms;
  high : atom_place l.atom l.atoms ≤ l.high;
  within : l.high ≤ length l.atoms;
  behind : l.high < length l.atoms → (d : Atom) → atom_order l.atom (get_or l.atoms l.high d) ≡ Less;
}

abbrev pub decreases-loop-low : goal.decreases-loop-low
decreases-loop-low l = l.high - l.low
