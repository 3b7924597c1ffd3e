-- What a sink in memory tells.
use Rattle.std.specs.Prelude.{◌≡◌, ◌↔◌, ℕ, ◌-◌, ◌≤◌, List, ◌++◌, take, length, Some, Result, IsOk, IsErr}
use Rattle.outside_io.specs.State.{SinkState}
use Rattle.outside_io.specs.declared.failing_calls.FailingCalls.{FailingCalls}
use Rattle.outside_io.specs.declared.mem_sink.MemSink.{MemSink}
use Rattle.outside_io.specs.declared.mem_sink.TheConstants.{ROOM}
use Rattle.outside_io.specs.declared.sink.SinkFailed.{SinkFailed}

-- the bytes that were written
abbrev pub mem_written : MemSink → List ℕ
mem_written sink = take sink.len sink.room

-- It tells all.
abbrev pub mem_sink_state : MemSink → SinkState
mem_sink_state sink = record { written = Some (mem_written sink); faults = sink.faults }

-- how many more bytes it has room for
abbrev pub room_left : MemSink → ℕ
room_left sink = ROOM - length (mem_written sink)

-- its writes, and which of them are to fail
abbrev pub sink_calls : MemSink → FailingCalls
sink_calls sink = sink.failing

-- A write that is to fail writes nothing.
pub record WritesNothing (old new : MemSink) (result : Result (Unit {0}) SinkFailed) : Type 0 where
  pub fails : IsErr result
  pub written : mem_written new ≡ mem_written old

-- Any other write appends what fits, and succeeds where that is all.
pub record AppendsWhatFits (old new : MemSink) (bytes : List ℕ) (result : Result (Unit {0}) SinkFailed) : Type 0 where
  pub written : mem_written new ≡ mem_written old ++ take (room_left old) bytes
  pub succeeds : IsOk result ↔ (length bytes ≤ room_left old)
