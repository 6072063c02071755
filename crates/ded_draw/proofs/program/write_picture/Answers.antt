use Rattle.std.proofs.Common.{Bool, ◌||◌, true≢false, sym, ap, ◌∙◌}
use Rattle.ded_draw.proofs.Pictures.{was_written, was_half_written}
use Rattle.ded_draw.proofs.program.write_picture.Goals.{then-refused, else-refused}
use Rattle.ded_draw.proofs.program.write_picture.Goals as goal

pub returns-in-Ok-send-clause-done_with_refusals : goal.returns-in-Ok-send-clause-done_with_refusals
returns-in-Ok-send-clause-done_with_refusals g c = λ is.
    was_written _ _ _ c.in-Ok.drawing c.in-Ok.ensures _
    (elim c.if-refused.branch [
      | then-refused w ↦ ap (λ (b : Bool). b || c.in-Ok.drawing.wide) w.if-refused.true
      | else-refused w ↦ ap (λ (b : Bool). b || c.in-Ok.drawing.wide) w.if-refused.false ∙ sym w.incomplete-is ∙ c.if-incomplete.true
    ])
    (c.as_slice.ensures.value ∙ c.text.view_is ∙ c.in-Ok-picture_text.ensures) _ _ c.in-Ok-send.ensures.bytes

pub returns-in-Ok-2-clause-done : goal.returns-in-Ok-2-clause-done
returns-in-Ok-2-clause-done g c = λ is.
    was_written _ _ _ c.in-Ok.drawing c.in-Ok.ensures _
    (elim c.if-refused.branch [
      | then-refused w ↦ absurd (true≢false (sym w.if-refused.true ∙ sym w.incomplete-is ∙ c.if-incomplete.false))
      | else-refused w ↦ ap (λ (b : Bool). b || c.in-Ok.drawing.wide) w.if-refused.false ∙ sym w.incomplete-is ∙ c.if-incomplete.false
    ])
    (c.as_slice.ensures.value ∙ c.text.view_is ∙ c.in-Ok-picture_text.ensures) _ _ c.in-Ok-2.ensures.bytes

pub returns-clause-broken : goal.returns-clause-broken
returns-clause-broken g c = λ is.
    was_half_written _ _ _ c.in-Ok.drawing c.in-Ok.ensures
    (c.as_slice.ensures.value ∙ c.text.view_is ∙ c.in-Ok-picture_text.ensures) _ _ c.in-Err.ensures.bytes
