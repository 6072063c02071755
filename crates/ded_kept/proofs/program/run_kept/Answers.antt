use Rattle.std.proofs.Common.{refl, ap, true, false, Ok}
use Rattle.ded_recording.specs.Moving.{standing}
use Rattle.ded_kept.specs.declared.resuming.NotResumed.TheVariants.{NoMemory}
use Rattle.ded_kept.specs.Machine.{state_of}
use Rattle.ded_kept.specs.Running.{AnswersAll}
use Rattle.ded_kept.proofs.Resumed.{from_resumed, ran_alike}
use Rattle.ded_kept.proofs.program.run_kept.Goals as goal

pub returns-in-Err-clause-crash : goal.returns-in-Err-clause-crash
returns-in-Err-clause-crash g c = λ other honest. absurd (other c.in-Err.why refl)

pub returns-in_default-clause-crash : goal.returns-in_default-clause-crash
returns-in_default-clause-crash g c = λ other honest. absurd (other NoMemory refl)

pub returns-in-Ok-serve_recorded-clause-done : goal.returns-in-Ok-serve_recorded-clause-done
returns-in-Ok-serve_recorded-clause-done g c = λ is honest.
    from_resumed g.S.Store.recovers c.args.setup.now.limit c.args.journal.now.now c.resume.new.journal c.in-Ok.session c.in-Ok.ensures.resumed (c.in-Ok-serve_recorded.ensures.follows.was_honest honest) c.in-Ok-new.dialogue.machine c.in-Ok-new.ensures.answering
    (AnswersAll c.args.setup.now.input_limit (g.R.Source.left c.args.source.now) (g.R.Source.left c.serve_recorded.new.source) (g.K.Sink.contents c.args.sink.now) (g.K.Sink.contents c.serve_recorded.new.sink) false c.serve_recorded.new.journal.now)
    (standing state_of c.serve_recorded.new.journal.now c.serve_recorded.new.dialogue.machine, refl, c.in-Ok-serve_recorded.ensures.done (ap Ok (ran_alike _ _ is)) honest)

pub returns-in-Ok-serve_recorded-clause-done_with_refusals : goal.returns-in-Ok-serve_recorded-clause-done_with_refusals
returns-in-Ok-serve_recorded-clause-done_with_refusals g c = λ is honest.
    from_resumed g.S.Store.recovers c.args.setup.now.limit c.args.journal.now.now c.resume.new.journal c.in-Ok.session c.in-Ok.ensures.resumed (c.in-Ok-serve_recorded.ensures.follows.was_honest honest) c.in-Ok-new.dialogue.machine c.in-Ok-new.ensures.answering
    (AnswersAll c.args.setup.now.input_limit (g.R.Source.left c.args.source.now) (g.R.Source.left c.serve_recorded.new.source) (g.K.Sink.contents c.args.sink.now) (g.K.Sink.contents c.serve_recorded.new.sink) true c.serve_recorded.new.journal.now)
    (standing state_of c.serve_recorded.new.journal.now c.serve_recorded.new.dialogue.machine, refl, c.in-Ok-serve_recorded.ensures.done_with_refusals (ap Ok (ran_alike _ _ is)) honest)
