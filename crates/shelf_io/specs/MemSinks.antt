-- A sink in memory.
use Rattle.std.specs.Prelude.{ℕ, ◌-◌, min, List, length, Option, Some, None}
use Rattle.shelf_io.specs.Seen.{SinkSeen}

pub record SinkState : Type 0 where
  pub written : List ℕ
  -- how many bytes it takes in all, where that is bounded
  pub room : Option ℕ
  -- how many bytes there is memory for, those that are written among them
  pub buffer : ℕ
  -- how often it failed
  pub faults : ℕ

-- What it shows as a sink. It tells what was written.
abbrev pub sink_seen : SinkState → SinkSeen
sink_seen sink = record { written = Some sink.written; faults = sink.faults }

-- How many of so many bytes fit into a room, after those that are written.
abbrev pub room_for : Option ℕ → ℕ → ℕ → ℕ
room_for None written bytes = bytes
room_for (Some room) written bytes = min bytes (room - written)

-- How many more bytes fit into the buffer and into the room.
abbrev pub space_of : SinkState → ℕ
space_of sink = room_for sink.room (length sink.written) (sink.buffer - length sink.written)
