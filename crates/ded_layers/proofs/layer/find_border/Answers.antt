use Rattle.std.proofs.Common.{sym, ◌∙◌, true≢false}
use Rattle.ded_polygon.proofs.Places.{in_read}
use Rattle.ded_layers.proofs.Listing.{none_before}
use Rattle.ded_layers.proofs.layer.find_border.Goals as goal

pub returns-then-runs_through : goal.returns-then-runs_through
returns-then-runs_through c = record {
  among = in_read c.args.limits.now c.loop-limit.limit-index c.limit-item.result c.loop-limit-test.true c.limit-item.is;
  runs = c.runs_through.ensures.0 c.if-runs_through.true;
}

pub loop-limit-preserved : goal.loop-limit-preserved
loop-limit-preserved c =
    none_before c.args.limits.now c.args.from c.args.to c.loop-limit.limit-index c.limit-item.result c.loop-limit-test.true c.limit-item.is c.loop-limit.invariant
    (λ r. true≢false (sym (c.runs_through.ensures.1 r) ∙ c.if-runs_through.false))
