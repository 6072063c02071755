use Rattle.ded_recording.proofs.Answered.{halts_feeding, halts_fed, moved, settled_as, stops_as}
use Rattle.ded_recording.proofs.Settled.{if_done, if_failed}
use Rattle.ded_recording.proofs.settling.feed.Goals as goal

pub returns-in-Err-clause-halts : goal.returns-in-Err-clause-halts
returns-in-Err-clause-halts g c = λ more.
    halts_feeding g.A.Answering.answers g.A.Answering.state g.A.Recording.gives g.A.Recording.rest g.A.Recording.listed g.met.A.Recording.told g.met.A.Recording.some_next _ _ _ _ _ _ _ more _ c.in-Err.ensures.breaks

pub returns-clause-moves : goal.returns-clause-moves
returns-clause-moves g c =
    if_done g.S.Store.recovers g.S.Store.is_shielded c.settle.result _ _ c.settle.ensures.settled
    (λ s. moved g.A.Answering.answers g.A.Answering.state g.A.Recording.gives g.A.Recording.rest g.A.Recording.listed g.met.A.Recording.told g.met.A.Recording.some_next _ _ _ _ _ _ _ _ _ _ _ c.new-draft.ensures
    (settled_as g.A.Recording.gives g.A.Recording.rest g.A.Recording.listed g.S.Store.recovers g.S.Store.is_shielded _ _ _ _ (g.K.Sink.contents c.args.sink.now) (g.K.Sink.contents c.settle.new.sink) _ _ c.machine_mut.ensures.value c.as_slice.ensures.value _ s) _ c.in_default.ensures.grows)

pub returns-clause-halts : goal.returns-clause-halts
returns-clause-halts g c =
    if_failed g.S.Store.recovers g.S.Store.is_shielded c.settle.result _ _ c.settle.ensures.stops
    (λ stop s more. halts_fed g.A.Answering.answers g.A.Answering.state g.A.Recording.gives g.A.Recording.rest g.A.Recording.listed g.met.A.Recording.told g.met.A.Recording.some_next _ _ _ _ _ _ _ _ _ _ _ more c.new-draft.ensures c.in_default.ensures.grows stop
    (stops_as g.A.Recording.gives g.A.Recording.rest g.A.Recording.listed g.S.Store.recovers g.S.Store.is_shielded _ _ _ _ (g.K.Sink.contents c.args.sink.now) (g.K.Sink.contents c.settle.new.sink) _ _ c.machine_mut.ensures.value c.as_slice.ensures.value stop s))
