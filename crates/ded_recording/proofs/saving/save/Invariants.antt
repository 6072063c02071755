use Rattle.std.proofs.Common.{take}
use Rattle.ded_recording.specs.Saving.{HasAdded}
use Rattle.ded_recording.proofs.saving.save.Given as goal

-- the texts so far stand behind what the journal had, and aren't committed
abbrev pub invariant-loop-at : goal.invariant-loop-at
invariant-loop-at g l = HasAdded g.S.Store.recovers g.S.Store.is_shielded l.fn.journal l.journal (take l.at (g.A.Recording.listed l.fn.machine))
