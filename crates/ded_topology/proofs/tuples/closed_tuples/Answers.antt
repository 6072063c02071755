use Rattle.std.proofs.Common.{◌≡◌, true, ap, subst}
use Rattle.std.specs.Prelude.{◌↔◌, IsTrue}
use Rattle.ded_model.specs.declared.slot.Slot.{Slot}
use Rattle.ded_model.specs.Lines.{IsSubset, tuples_lines}
use Rattle.ded_model.specs.Near.{IsCloseAt}
use Rattle.ded_model.specs.Point.{Point, IsPoint}
use Rattle.ded_model.specs.Row.{tuples_hold, tuples_mention}
use Rattle.ded_model.proofs.Members.{subset_trans}
use Rattle.ded_topology.proofs.Normals.{part_holds, part_over}
use Rattle.ded_topology.proofs.tuples.closed_tuples.Goals as goal

pub returns-clause-is : goal.returns-clause-is
returns-clause-is c =
    part_holds (IsCloseAt (tuples_hold c.args.tuples.now)) c.in_ok-closure.field-0 c.in_ok-normal_tuples.field-0 c.in_ok-normal_tuples.ensures
    (subst (λ ts. (p : Point) → IsPoint p → IsCloseAt (tuples_hold ts) p ↔ IsTrue (tuples_hold c.in_ok-closure.field-0 p)) c.in_ok-list.ensures c.in_ok-closure.ensures.is)

pub returns-clause-over : goal.returns-clause-over
returns-clause-over c =
    part_over c.args.tuples.now c.in_ok-closure.field-0 c.in_ok-normal_tuples.field-0
    (subst (λ ts. (s : Slot) → tuples_mention c.in_ok-closure.field-0 s ≡ true → tuples_mention ts s ≡ true) c.in_ok-list.ensures c.in_ok-closure.ensures.slots) c.in_ok-normal_tuples.ensures

pub returns-clause-lines : goal.returns-clause-lines
returns-clause-lines c =
    subset_trans (tuples_lines c.in_ok-normal_tuples.field-0) (tuples_lines c.in_ok-closure.field-0) (tuples_lines c.args.tuples.now) c.in_ok-normal_tuples.ensures.lines
    (subst (IsSubset (tuples_lines c.in_ok-closure.field-0)) (ap tuples_lines c.in_ok-list.ensures) c.in_ok-closure.ensures.lines)
