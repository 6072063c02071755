use Rattle.std.proofs.Common.{◌≡◌}
use Rattle.ded_recording.specs.Moving.{Reads, standing}
use Rattle.ded_recording.proofs.serving.serve_recorded.Given as goal

-- what was taken is answered, saved and sent, and no call failed
abbrev pub invariant-loop-count : goal.invariant-loop-count
invariant-loop-count g l =
    record {
      reads : Reads g.A.Recording.gives g.A.Recording.rest g.A.Recording.listed g.S.Store.recovers g.S.Store.is_shielded (standing g.A.Recording.rest l.fn.journal.now l.fn.dialogue.machine) l.fn.input_limit l.room l.dialogue l.fn.journal l.journal (g.R.Source.left l.fn.source) (g.R.Source.left l.source) (g.K.Sink.contents l.fn.sink) (g.K.Sink.contents l.sink);
      read : g.R.Source.faults l.source ≡ g.R.Source.faults l.fn.source;
      written : g.K.Sink.faults l.sink ≡ g.K.Sink.faults l.fn.sink;
    }

abbrev pub decreases-loop-count : goal.decreases-loop-count
decreases-loop-count g l = l.room
