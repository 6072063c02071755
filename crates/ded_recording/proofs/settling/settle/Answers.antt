use Rattle.std.proofs.Common.{refl, arith}
use Rattle.ded_recording.proofs.Settled.{caused}
use Rattle.ded_recording.proofs.settling.settle.Goals as goal

pub returns-in-Err-clause-cause : goal.returns-in-Err-clause-cause
returns-in-Err-clause-cause g c =
    (refl, λ list settled honest. caused g.S.Store.recovers g.S.Store.is_shielded _ _ _ _ c.in-Err.error (omega arith) (c.in-Err.ensures.unsaved.cause list settled honest))
