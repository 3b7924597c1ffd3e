-- What the standard output tells.
use Rattle.std.specs.Prelude.{None}
use Rattle.outside_io.specs.State.{SinkState}
use Rattle.outside_io.specs.declared.std_sink.StdSink.{StdSink}

-- It tells its count and no contents.
abbrev pub std_sink_state : {R : Type 0} → StdSink R → SinkState
std_sink_state sink = record { written = None; faults = sink.faults }
