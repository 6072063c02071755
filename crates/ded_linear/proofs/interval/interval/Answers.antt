use Rattle.std.proofs.Common.{sym}
use Rattle.ded_linear.proofs.Boxes.{AreBox, box_exact, box_somewhere, box_apart, box_misfit}
use Rattle.ded_linear.proofs.interval.interval.Goals as goal

pub returns-then-not-all_fit : goal.returns-then-not-all_fit
returns-then-not-all_fit c =
    let h : AreBox c.args.rows.now = record { atoms = c.requires.normal; single = c.requires.single } in
    let n = box_misfit c.args.slot c.args.rows.now h (sym c.if-not-all_fit.ensures) in
    record { span = n; verdict = n; exact = λ a. a }

pub returns-then-may_meet : goal.returns-then-may_meet
returns-then-may_meet c =
    let h : AreBox c.args.rows.now = record { atoms = c.requires.normal; single = c.requires.single } in
    let f = sym c.if-not-all_fit.ensures in
    let m = sym c.if-may_meet.ensures in record {
      span = box_exact c.args.slot c.args.rows.now h c.bound_of-lower.result c.bound_of-upper.result c.bound_of-lower.ensures c.bound_of-upper.ensures f m;
      verdict = box_somewhere c.args.slot c.args.rows.now h c.bound_of-lower.result c.bound_of-upper.result c.bound_of-lower.ensures c.bound_of-upper.ensures f m;
      exact = λ a. a;
    }

pub returns-else-may_meet : goal.returns-else-may_meet
returns-else-may_meet c =
    let h : AreBox c.args.rows.now = record { atoms = c.requires.normal; single = c.requires.single } in
    let n = box_apart c.args.slot c.args.rows.now h c.bound_of-lower.result c.bound_of-upper.result c.bound_of-lower.ensures c.bound_of-upper.ensures (sym c.if-may_meet.ensures) in
    record { span = n; verdict = n; exact = λ a. a }
