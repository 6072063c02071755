-- All ticks are added, or one is and the others follow.
use Rattle.ded_ticks.proofs.Listing.{added_all, added_up_to_end, added_one}
use Rattle.ded_ticks.proofs.ticks.+add_ticks.Goals as goal

pub returns-then-left-eq0 : goal.returns-then-left-eq0
returns-then-left-eq0 t c = added_all c.args.ticks.now.items c.args.left c.args.scale c.args.step c.args.value c.if-left-eq0.true

pub returns-then-high-value : goal.returns-then-high-value
returns-then-high-value t c =
    added_up_to_end c.args.ticks.now.items c.args.left c.args.scale c.args.step c.args.value c.high-high.result c.high-high.ensures.value c.high-high.ensures.short c.requires.value
    c.if-high-value.true

pub returns : goal.returns
returns t c =
    added_one c.add_ticks.result c.args.ticks.now.items c.push.new.self.items c.add_ticks.new.ticks.items c.in_ok-tick.field-0 c.args.left c.args.scale c.args.step c.args.value
    c.high-high.result c.if-left-eq0.false c.high-high.ensures.value c.high-high.ensures.short c.requires.value c.requires.step c.if-high-value.false c.in_ok-tick.ensures
    c.in_ok-push.ensures.items c.add_ticks.ensures
