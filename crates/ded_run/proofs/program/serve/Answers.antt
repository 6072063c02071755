use Rattle.ded_dialogue.proofs.Hearing.{answered, unread, overlong, broken}
use Rattle.ded_run.proofs.Hearing.{tells}
use Rattle.ded_run.proofs.program.serve.Goals as goal

pub returns-clause-done : goal.returns-clause-done
returns-clause-done g c = λ is. answered _ _ _ _ (tells _ _ c.new-session.ensures) _ _ _ _ _ _ (c.serve.ensures.done is)

pub returns-clause-done_with_refusals : goal.returns-clause-done_with_refusals
returns-clause-done_with_refusals g c = λ is. answered _ _ _ _ (tells _ _ c.new-session.ensures) _ _ _ _ _ _ (c.serve.ensures.done_with_refusals is)

pub returns-clause-unread : goal.returns-clause-unread
returns-clause-unread g c = λ is. unread _ _ _ _ (tells _ _ c.new-session.ensures) _ _ _ _ _ (c.serve.ensures.unread is)

pub returns-clause-broken : goal.returns-clause-broken
returns-clause-broken g c = λ is. broken _ _ _ _ (tells _ _ c.new-session.ensures) _ _ _ _ _ (c.serve.ensures.broken is)

pub returns-clause-overlong : goal.returns-clause-overlong
returns-clause-overlong g c = λ is. overlong _ _ _ _ (tells _ _ c.new-session.ensures) _ _ _ _ _ (c.serve.ensures.overlong is)
