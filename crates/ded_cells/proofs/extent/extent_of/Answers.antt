-- The box of the tuple alone is its extent.
use Rattle.ded_cells.proofs.Bounds.{nowhere_told, none_told, spans_told}
use Rattle.ded_cells.proofs.extent.extent_of.Goals as goal

pub returns-in-Ok-Nowhere : goal.returns-in-Ok-Nowhere
returns-in-Ok-Nowhere c = nowhere_told c.args.heading.now c.args.tuple.now c.in-Ok-Nowhere.field-0 c.in-Ok-Nowhere.field-0-is c.in-Ok-Nowhere.ensures.is

pub returns-in-Ok-NoRational : goal.returns-in-Ok-NoRational
returns-in-Ok-NoRational c = none_told c.args.heading.now c.args.tuple.now c.in-Ok-NoRational.field-0 c.new.result.items c.in-Ok-NoRational.field-0-is c.new.ensures.items c.in-Ok-NoRational.ensures.is

pub returns-in-Ok-Spans : goal.returns-in-Ok-Spans
returns-in-Ok-Spans c = spans_told c.args.heading.now c.args.tuple.now c.in-Ok-Spans.field-0 c.in-Ok-Spans.spans c.in-Ok-Spans.field-0-is c.in-Ok-Spans.ensures.is
