-- The bytes of a reply, and its shape.
use Rattle.std.specs.Prelude.{ℕ, Bool, List, ◌++◌, length}
use Rattle.bus_types.specs.declared.change.Change.{Change}
use Rattle.bus_types.specs.Timeline.{end_of}
use Rattle.event_codec.specs.declared.reply.Shape.{Shape}
use Rattle.event_codec.specs.declared.reply.Shape.TheVariants as shapes
use Rattle.event_codec.specs.Bytes.{changes_bytes}
use Rattle.event_codec.specs.Frames.{Run, closing_bytes, answer_bytes}
use Rattle.event_codec.specs.Frames.Run.{Rows as OfRows, Changes as OfChanges}
use Rattle.event_codec.specs.Streams.{windows_bytes}
use Rattle.event_codec.specs.Questions.{Reply}
use Rattle.event_codec.specs.Questions.Reply.{Windows, Rows, Changes, Only}

-- items of one SCN, and the frame that closes them
abbrev pub run_bytes : Run → List Change → ℕ → Bool → List ℕ
run_bytes run cs scn more = changes_bytes scn cs ++ closing_bytes (record { run = run; scn = scn; more = more })

-- windows one after the other; rows or changes and their closing frame; or an answer
abbrev pub bytes_of : Reply → List ℕ
bytes_of (Windows ws) = windows_bytes ws
bytes_of (Rows cs scn more) = run_bytes OfRows cs scn more
bytes_of (Changes cs scn more) = run_bytes OfChanges cs scn more
bytes_of (Only answer) = answer_bytes answer

-- what is told of a reply
abbrev pub shape_of : Reply → Shape
shape_of (Windows ws) = shapes.Windows (length ws) (end_of ws)
shape_of (Rows cs scn more) = shapes.Rows (length cs) scn more
shape_of (Changes cs scn more) = shapes.Changes (length cs) more
shape_of (Only answer) = shapes.Only answer
