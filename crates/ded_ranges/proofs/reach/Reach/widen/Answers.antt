use Rattle.std.proofs.Common.{sym, subst}
use Rattle.ded_ranges.specs.Reaches.{IsWithin}
use Rattle.ded_ranges.proofs.Widened.{hull_first, hull_second, hull_held}
use Rattle.ded_ranges.proofs.reach.Reach.widen.Goals as goal

pub returns-clause-value : goal.returns-clause-value
returns-clause-value c =
    hull_held c.args.self.now c.self.inside.ranges.items c.as_mut_slice.result.now c.args.other.now c.ranges-2.result.now c.widen.new.ranges c.self.view_is c.as_mut_slice.ensures.value c.ranges-2.ensures c.widen.ensures

pub returns-clause-own : goal.returns-clause-own
returns-clause-own c = subst (IsWithin c.args.self.now) (sym (returns-clause-value c)) (hull_first c.args.self.now c.args.other.now)

pub returns-clause-other : goal.returns-clause-other
returns-clause-other c = subst (IsWithin c.args.other.now) (sym (returns-clause-value c)) (hull_second c.args.self.now c.args.other.now)
