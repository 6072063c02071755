use Rattle.ded_num.proofs.Tests.{if_ok_by}
use Rattle.ded_model.specs.Row.{tuple_holds}
use Rattle.ded_ranges.specs.Tuples.{IsReachOf}
use Rattle.ded_ranges.specs.Windows.{column_value}
use Rattle.ded_relation.proofs.ends.reach_of.Goals as goal

pub returns-clause-values : goal.returns-clause-values
returns-clause-values c =
    let was : IsReachOf c.in_ok-reach.reach (tuple_holds c.args.tuple.now) = c.in_ok-reach.ensures in
    let is : IsReachOf c.tighten_all.new.reach (tuple_holds c.args.tuple.now) = c.in_ok-tighten_all.ensures was in
    if_ok_by c.in_order.result _ _ (λ r lies p i h. lies (column_value p) p.den i.positive (is p i h)) c.in_order.ensures.lies
