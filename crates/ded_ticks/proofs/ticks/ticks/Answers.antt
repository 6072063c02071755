-- All ticks are added to none.
use Rattle.ded_ticks.proofs.Listing.{all_ticks}
use Rattle.ded_ticks.proofs.ticks.ticks.Goals as goal

pub returns : goal.returns
returns c =
    all_ticks c.new-ticks.result.items c.add_ticks.new.ticks.items (record { axis = c.args.axis; window = c.args.window; units = c.args.units }) c.step-step.result c.low.result
    c.first_multiple-first.result c.new-ticks.ensures.items c.step-step.ensures.value c.step-step.ensures.short c.low.ensures.value c.low.ensures.short c.first_multiple-first.ensures.value
    c.first_multiple-first.ensures.short c.in_ok-add_ticks.ensures
