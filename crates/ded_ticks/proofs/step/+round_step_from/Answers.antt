-- The step is found at this power of ten, or behind it.
use Rattle.ded_ticks.proofs.Steps.{none_left, is_once, is_twice, is_five_times, is_behind}
use Rattle.ded_ticks.proofs.step.+round_step_from.Goals as goal

pub returns-then-left-eq0-clause-value : goal.returns-then-left-eq0-clause-value
returns-then-left-eq0-clause-value t c = none_left c.args.left c.args.step c.args.extent c.if-left-eq0.true

pub returns-then-extent-step-clause-value : goal.returns-then-extent-step-clause-value
returns-then-extent-step-clause-value t c = is_once c.args.left c.args.step c.args.extent c.if-left-eq0.false c.if-extent-step.true

pub returns-then-extent-step-2-clause-value : goal.returns-then-extent-step-2-clause-value
returns-then-extent-step-2-clause-value t c = is_twice c.args.left c.args.step c.args.extent c.if-left-eq0.false c.if-extent-step.false c.if-extent-step-2.true

pub returns-then-extent-step-3-clause-value : goal.returns-then-extent-step-3-clause-value
returns-then-extent-step-3-clause-value t c =
    is_five_times c.args.left c.args.step c.args.extent c.if-left-eq0.false c.if-extent-step.false c.if-extent-step-2.false c.if-extent-step-3.true

pub returns-clause-value : goal.returns-clause-value
returns-clause-value t c =
    is_behind c.args.left c.args.step c.args.extent c.round_step_from.result c.if-left-eq0.false c.if-extent-step.false c.if-extent-step-2.false c.if-extent-step-3.false
    c.round_step_from.ensures.value
