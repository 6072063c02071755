use Rattle.std.proofs.Common.{[], sym}
use Rattle.ded_dialogue.proofs.Feeding.{fresh_streams, stops_here}
use Rattle.ded_run.specs.Made.{made_script}
use Rattle.ded_dialogue.proofs.Hearing.{concluded, interrupted}
use Rattle.ded_run.proofs.Hearing.{tells}
use Rattle.ded_run.proofs.MadeCuts.{setup_many, is_made, is_half_made}
use Rattle.ded_run.proofs.program.make.Goals as goal

pub returns-clause-done : goal.returns-clause-done
returns-clause-done g c = λ is.
    is_made _ _ _ _ _ (sym (setup_many c.args.size)) _
    (concluded _ _ _ _ (tells _ _ c.new-session.ensures) _ _ _ (made_script c.args.size) _
    ((c.conclude.ensures.done is _ _ (made_script c.args.size) _ (c.in_default-feed_script.ensures.grows.on _ _ _ [] _ (fresh_streams _ _ _ _ _ _ c.in-Ok.ensures))).0))

pub returns-clause-done_with_refusals : goal.returns-clause-done_with_refusals
returns-clause-done_with_refusals g c = λ is.
    is_made _ _ _ _ _ (sym (setup_many c.args.size)) _
    (concluded _ _ _ _ (tells _ _ c.new-session.ensures) _ _ _ (made_script c.args.size) _
    ((c.conclude.ensures.done_with_refusals is _ _ (made_script c.args.size) _ (c.in_default-feed_script.ensures.grows.on _ _ _ [] _ (fresh_streams _ _ _ _ _ _ c.in-Ok.ensures))).0))

pub returns-clause-broken : goal.returns-clause-broken
returns-clause-broken g c = λ is.
    is_half_made _ _ _ _ _ (sym (setup_many c.args.size))
    (interrupted _ _ _ _ (tells _ _ c.new-session.ensures) _ _ _ (made_script c.args.size)
    (c.conclude.ensures.broken is _ _ _ (made_script c.args.size) _ (c.in_default-feed_script.ensures.grows.on _ _ _ [] _ (fresh_streams _ _ _ _ _ _ c.in-Ok.ensures))))

pub returns-in-Err-clause-broken : goal.returns-in-Err-clause-broken
returns-in-Err-clause-broken g c = λ is.
    is_half_made _ _ _ _ _ (sym (setup_many c.args.size))
    (interrupted _ _ _ _ (tells _ _ c.new-session.ensures) _ _ _ (made_script c.args.size)
    (stops_here _ _ _ (made_script c.args.size) _ _ (c.in-Err.ensures.breaks.on _ _ _ [] _ (fresh_streams _ _ _ _ _ _ c.in-Ok.ensures))))
