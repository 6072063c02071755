-- What contracts see of the devices over the standard library.
use Rattle.std.specs.Prelude.{ℕ}
use Rattle.ded_io.specs.declared.standard.StdSource.{StdSource}
use Rattle.ded_io.specs.declared.standard.StdSink.{StdSink}

-- the reader under a source
abbrev pub source_reader : {R : Type 0} → StdSource R → R
source_reader s = s.reader

-- how many faults a source has counted
abbrev pub source_faults : {R : Type 0} → StdSource R → ℕ
source_faults s = s.faults

-- the writer under a sink
abbrev pub sink_writer : {W : Type 0} → StdSink W → W
sink_writer s = s.writer

-- how many faults a sink has counted
abbrev pub sink_faults : {W : Type 0} → StdSink W → ℕ
sink_faults s = s.faults
