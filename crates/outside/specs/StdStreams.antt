-- What a source or a sink over std's readers and writers is made of.
use Rattle.std.specs.Prelude.{ℕ}
use Rattle.outside.specs.declared.std_streams.StdSource.{StdSource}
use Rattle.outside.specs.declared.std_streams.StdSink.{StdSink}

-- the reader
abbrev pub source_inner : {R : Type 0} → StdSource R → R
source_inner source = source.inner

-- how many reads have failed
abbrev pub source_faults : {R : Type 0} → StdSource R → ℕ
source_faults source = source.faults

-- the writer
abbrev pub sink_inner : {W : Type 0} → StdSink W → W
sink_inner sink = sink.inner

-- how many writes have failed
abbrev pub sink_faults : {W : Type 0} → StdSink W → ℕ
sink_faults sink = sink.faults
