-- What a sink in memory has got, the room that it was made with, and its calls.
use Rattle.std.specs.Prelude.{◌⊎◌, ℕ, ◌+◌, ◌<◌, List, length, Contains}
use Rattle.outside_kit.specs.declared.calls.Calls.{Calls}
use Rattle.outside_kit.specs.declared.mem_sink.MemSink.{MemSink}

abbrev pub sink_bytes : MemSink → List ℕ
sink_bytes sink = sink.bytes.items

abbrev pub sink_room : MemSink → ℕ
sink_room sink = sink.room

abbrev pub sink_calls : MemSink → Calls
sink_calls sink = sink.calls

-- The next write of so many bytes fails: it is one of those that are to, or there is no room for it.
abbrev pub Fails : MemSink → ℕ → Type 0
Fails sink len =
    Contains sink.calls.failing sink.calls.next ⊎ (sink.room < length sink.bytes.items + len)
