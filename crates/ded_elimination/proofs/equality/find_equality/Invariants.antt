use Rattle.std.proofs.Common.{◌≡◌, ◌≢◌}
use Rattle.ded_elimination.specs.Equalities.{NoEquality, AreAtLeast, IsEqualityAt}
use Rattle.ded_elimination.proofs.equality.find_equality.Given as goal

abbrev pub invariant-loop-i : goal.invariant-loop-i
invariant-loop-i l = record {
  none : l.least ≡ 0 → NoEquality l.slot l.rows l.i;
  found : l.least ≢ 0 → IsEqualityAt l.slot l.rows l.least l.place;
  least : AreAtLeast l.slot l.rows l.least l.i;
}
