use Rattle.std.proofs.Common.{true, [], subst}
use Rattle.ded_elimination.specs.Adding.{Adds, HoldExtended}
use Rattle.ded_elimination.proofs.Outcomes.{outcome_holds, outcome_normal, outcome_kind, outcome_slots, outcome_lines}
use Rattle.ded_elimination.proofs.eliminate.Goals as goal
use Rattle.ded_elimination.proofs.eliminate.Goals.{After-drop-out-then-branch}
use Rattle.ded_elimination.proofs.eliminate.Given.{Over}

-- what was added to nothing
added : (g : Over) (c : After-drop-out-then-branch g) → Adds g.M.Mixing.rows c.args.slot c.args.rows.now (HoldExtended c.args.slot c.args.rows.now) [] true c.eliminate_into.new.out.rows.items
added g c =
    let s = c.args.slot in
    let rows = c.args.rows.now in
    let new = c.eliminate_into.new.out.rows.items in
    subst (λ b. Adds g.M.Mixing.rows s rows (HoldExtended s rows) [] b new) c.if-branch.true
    (subst (λ old. Adds g.M.Mixing.rows s rows (HoldExtended s rows) old c.in_ok-eliminate_into.field-0 new) c.new-out.ensures c.in_ok-eliminate_into.ensures.adds)

pub returns-then-branch-clause-holds : goal.returns-then-branch-clause-holds
returns-then-branch-clause-holds g c = λ p point. outcome_holds g.M.Mixing.rows c.args.slot c.args.rows.now c.eliminate_into.new.out.rows.items (added g c) p point.positive

pub returns-then-branch-clause-normal : goal.returns-then-branch-clause-normal
returns-then-branch-clause-normal g c = outcome_normal g.M.Mixing.rows c.args.slot c.args.rows.now c.eliminate_into.new.out.rows.items (added g c)

pub returns-then-branch-clause-slots : goal.returns-then-branch-clause-slots
returns-then-branch-clause-slots g c = outcome_slots g.M.Mixing.rows c.args.slot c.args.rows.now c.eliminate_into.new.out.rows.items (added g c)

pub returns-then-branch-clause-lines : goal.returns-then-branch-clause-lines
returns-then-branch-clause-lines g c = outcome_lines g.M.Mixing.rows c.args.slot c.args.rows.now c.eliminate_into.new.out.rows.items (added g c)

pub returns-then-branch-clause-rows : goal.returns-then-branch-clause-rows
returns-then-branch-clause-rows g c = outcome_kind g.M.Mixing.rows c.args.slot c.args.rows.now c.eliminate_into.new.out.rows.items (added g c)
