use Rattle.std.proofs.Common.{◌∙◌}
use Rattle.ded_drawing.proofs.Told.{text_lines}
use Rattle.ded_drawing.proofs.description.add_text_of.Goals as goal

pub returns : goal.returns
returns c = text_lines c.add_lines.result c.args.lines.now.items c.add_lines.new.lines.items c.as_slice.result.now _ (c.as_slice.ensures.value ∙ c.text.view_is ∙ c.in_ok-text.ensures) c.add_lines.ensures
