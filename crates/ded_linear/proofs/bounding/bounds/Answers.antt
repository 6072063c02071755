use Rattle.std.proofs.Common.{rules}
use Rattle.ded_model.specs.Bound.{lower}
use Rattle.ded_model.specs.Cell.{conj_holds}
use Rattle.ded_model.specs.Interval.{IsExactBound}
use Rattle.ded_model.specs.Row.{row_holds}
use Rattle.ded_linear.proofs.Told.{somewhere}
use Rattle.ded_linear.proofs.bounding.bounds.Goals as goal

pub returns-in-Exact-clause-verdict : goal.returns-in-Exact-clause-verdict
returns-in-Exact-clause-verdict g c =
    let low : IsExactBound (conj_holds row_holds c.args.rows.now) c.args.slot lower c.in-Exact.lower = search rules in
    somewhere (conj_holds row_holds c.args.rows.now) c.args.slot c.in-Exact.lower low
