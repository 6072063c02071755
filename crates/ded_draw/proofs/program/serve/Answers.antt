use Rattle.std.proofs.Common.{false, true, sym, ap, ◌∙◌}
use Rattle.std.specs.Prelude.{map}
use Rattle.ded_session.specs.Answered.{reply_form}
use Rattle.ded_draw.specs.Standing.{gathered_in}
use Rattle.ded_draw.specs.declared.gathering.Gathering.{Gathering}
use Rattle.ded_draw.proofs.Pictures.{by_status, pictured, half_pictured}
use Rattle.ded_draw.proofs.program.serve.Goals.{in-Done, in-DoneWithRefusals}
use Rattle.ded_draw.proofs.program.serve.Goals as goal

pub returns-in-Some-clause-done : goal.returns-in-Some-clause-done
returns-in-Some-clause-done g c = λ is.
    pictured _ _ c.args.style.now (gathered_in c.in-Ok.dialogue.machine) (gathered_in c.serve_dialogue.new.dialogue.machine)
    (ap gathered_in c.in-Ok.ensures.answering ∙ c.new-gathering.ensures)
    (ap (λ (g : Gathering). (gathered_in g).starved) (sym c.into_machine.ensures) ∙ c.in-Some.ensures.0) _ _ _ _ c.match-serve_dialogue.refused
    (elim c.match-serve_dialogue.branch [
      | in-Done w ↦ by_status _ _ _ _ _ _ _ (c.serve_dialogue.ensures.done w.in-Done.is) w.refused-is
      | in-DoneWithRefusals w ↦ by_status _ _ _ _ _ _ _ (c.serve_dialogue.ensures.done_with_refusals w.in-DoneWithRefusals.is) w.refused-is
    ])
    _ (ap (map reply_form) c.deref.ensures.value ∙ c.in-Some.ensures.1 ∙ ap (λ (g : Gathering). (gathered_in g).replies) c.into_machine.ensures) _ _ false (c.write_picture.ensures.done is)

pub returns-in-Some-clause-done_with_refusals : goal.returns-in-Some-clause-done_with_refusals
returns-in-Some-clause-done_with_refusals g c = λ is.
    pictured _ _ c.args.style.now (gathered_in c.in-Ok.dialogue.machine) (gathered_in c.serve_dialogue.new.dialogue.machine)
    (ap gathered_in c.in-Ok.ensures.answering ∙ c.new-gathering.ensures)
    (ap (λ (g : Gathering). (gathered_in g).starved) (sym c.into_machine.ensures) ∙ c.in-Some.ensures.0) _ _ _ _ c.match-serve_dialogue.refused
    (elim c.match-serve_dialogue.branch [
      | in-Done w ↦ by_status _ _ _ _ _ _ _ (c.serve_dialogue.ensures.done w.in-Done.is) w.refused-is
      | in-DoneWithRefusals w ↦ by_status _ _ _ _ _ _ _ (c.serve_dialogue.ensures.done_with_refusals w.in-DoneWithRefusals.is) w.refused-is
    ])
    _ (ap (map reply_form) c.deref.ensures.value ∙ c.in-Some.ensures.1 ∙ ap (λ (g : Gathering). (gathered_in g).replies) c.into_machine.ensures) _ _ true (c.write_picture.ensures.done_with_refusals is)

pub returns-in-Some-clause-broken : goal.returns-in-Some-clause-broken
returns-in-Some-clause-broken g c = λ is.
    half_pictured _ _ c.args.style.now (gathered_in c.in-Ok.dialogue.machine) (gathered_in c.serve_dialogue.new.dialogue.machine)
    (ap gathered_in c.in-Ok.ensures.answering ∙ c.new-gathering.ensures)
    (ap (λ (g : Gathering). (gathered_in g).starved) (sym c.into_machine.ensures) ∙ c.in-Some.ensures.0) _ _ _ _ c.match-serve_dialogue.refused
    (elim c.match-serve_dialogue.branch [
      | in-Done w ↦ by_status _ _ _ _ _ _ _ (c.serve_dialogue.ensures.done w.in-Done.is) w.refused-is
      | in-DoneWithRefusals w ↦ by_status _ _ _ _ _ _ _ (c.serve_dialogue.ensures.done_with_refusals w.in-DoneWithRefusals.is) w.refused-is
    ])
    _ (ap (map reply_form) c.deref.ensures.value ∙ c.in-Some.ensures.1 ∙ ap (λ (g : Gathering). (gathered_in g).replies) c.into_machine.ensures) _ _ (c.write_picture.ensures.broken is)
