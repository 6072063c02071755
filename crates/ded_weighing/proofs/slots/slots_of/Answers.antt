use Rattle.std.proofs.Common.{◌≡◌, [], ◌∙◌, sym, ap, subst}
use Rattle.std.proofs.Math.ListN.{drop_of_length-le}
use Rattle.ded_model.specs.Point.{AreDistinctSlots}
use Rattle.ded_weighing.specs.Columns.{lent, HasAllSlots}
use Rattle.ded_weighing.specs.Gathered.{with_all_slots, AreOf}
use Rattle.ded_weighing.proofs.Slotted.{gathered_all, gathered_only, gathered_distinct}
use Rattle.ded_weighing.proofs.slots.slots_of.Goals as goal
use Rattle.ded_weighing.proofs.slots.slots_of.Goals.{After-loop-row}

all : (c : After-loop-row) → c.loop-row.slots.items ≡ with_all_slots [] (lent c.args.rows.now)
all c = sym (ap (λ rs. with_all_slots c.loop-row.slots.items (lent rs)) (drop_of_length-le c.args.rows.now c.loop-row-test.false)) ∙ c.loop-row.invariant

pub returns-clause-all : goal.returns-clause-all
returns-clause-all c = subst (λ ss. HasAllSlots ss (lent c.args.rows.now)) (sym (all c)) (gathered_all [] (lent c.args.rows.now))

pub returns-clause-only : goal.returns-clause-only
returns-clause-only c = subst (AreOf (lent c.args.rows.now)) (sym (all c)) (gathered_only (lent c.args.rows.now))

pub returns-clause-distinct : goal.returns-clause-distinct
returns-clause-distinct c = subst AreDistinctSlots (sym (all c)) (gathered_distinct [] (lent c.args.rows.now) tt)
