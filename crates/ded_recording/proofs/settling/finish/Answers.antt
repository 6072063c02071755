use Rattle.std.proofs.Common.{sym, subst, Bool}
use Rattle.ded_recording.specs.Moving.{Ended}
use Rattle.ded_recording.proofs.Answered.{halts_ending, halts_ended, ended, settled_as, stops_as}
use Rattle.ded_recording.proofs.Settled.{if_any}
use Rattle.ded_recording.proofs.settling.finish.Goals as goal

pub returns-in-Err-clause-halts : goal.returns-in-Err-clause-halts
returns-in-Err-clause-halts g c =
    halts_ending g.A.Answering.answers g.A.Answering.state g.A.Recording.gives g.A.Recording.rest g.A.Recording.listed g.met.A.Recording.told g.met.A.Recording.some_next _ _ _ _ _ _ _ c.in-Err.ensures.stopped

pub returns-in_err-settle-clause-halts : goal.returns-in_err-settle-clause-halts
returns-in_err-settle-clause-halts g c =
    if_any g.S.Store.recovers g.S.Store.is_shielded c.from_residual.result _
    (halts_ended g.A.Answering.answers g.A.Answering.state g.A.Recording.gives g.A.Recording.rest g.A.Recording.listed g.met.A.Recording.told g.met.A.Recording.some_next _ _ _ _ _ _ _ c.finish.new.self _ _ _ c.new-draft.ensures c.in_default.ensures.ends _
    (stops_as g.A.Recording.gives g.A.Recording.rest g.A.Recording.listed g.S.Store.recovers g.S.Store.is_shielded _ _ _ _ (g.K.Sink.contents c.args.sink.now) (g.K.Sink.contents c.settle.new.sink) _ _ c.machine_mut.ensures.value c.as_slice.ensures.value c.in_err-settle.field-0.0 c.in_err-settle.ensures.stops))

pub returns-clause-ended : goal.returns-clause-ended
returns-clause-ended g c =
    subst (λ (b : Bool). Ended g.A.Recording.gives g.A.Recording.rest g.A.Recording.listed g.S.Store.recovers g.S.Store.is_shielded c.args.dialogue.now (record c.finish.new.self { machine = c.settle.new.machine }) c.args.journal.now c.settle.new.journal (g.K.Sink.contents c.args.sink.now) (g.K.Sink.contents c.settle.new.sink) b) (sym c.refused.ensures)
    (ended g.A.Answering.answers g.A.Answering.state g.A.Recording.gives g.A.Recording.rest g.A.Recording.listed g.met.A.Recording.told g.met.A.Recording.some_next _ _ _ _ _ _ _ _ _ _ _ c.new-draft.ensures
    (settled_as g.A.Recording.gives g.A.Recording.rest g.A.Recording.listed g.S.Store.recovers g.S.Store.is_shielded _ _ _ _ (g.K.Sink.contents c.args.sink.now) (g.K.Sink.contents c.settle.new.sink) _ _ c.machine_mut.ensures.value c.as_slice.ensures.value _ c.in_ok-settle.ensures.settled) _ c.in_default.ensures.ends)
