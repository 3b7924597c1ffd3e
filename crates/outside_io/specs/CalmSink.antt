-- What a sink that never fails tells.
use Rattle.std.specs.Prelude.{ℕ, ◌+◌, ◌-◌, ◌^◌, min, None}
use Rattle.outside_io.specs.State.{SinkState}
use Rattle.outside_io.specs.declared.calm_sink.CalmSink.{CalmSink}

-- It tells no contents, and has no faults.
abbrev pub calm_sink_state : CalmSink → SinkState
calm_sink_state sink = record { written = None; faults = 0 }

-- how many bytes were written, at most 2^64 - 1
abbrev pub byte_count : CalmSink → ℕ
byte_count sink = sink.count

-- a count after so many more bytes
abbrev pub count_after : ℕ → ℕ → ℕ
count_after before more = min (before + more) (2 ^ 64 - 1)
