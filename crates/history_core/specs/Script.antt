-- The state of a script, and what is printed of it.
use Rattle.std.specs.Prelude.{ℕ, ◌+◌, Bool, false, List, [], ◌∷◌, ◌++◌, length, flat_map, codes, decimal, Option}
use Rattle.std.specs.Int.{w64, to_be_bytes}
use Rattle.hex.specs.Hex.{encode_lower}
use Rattle.bus_types.specs.Change.{changes_size}
use Rattle.bus_types.specs.Window.{Span}
use Rattle.bus_types.specs.Timeline.{end_of, total_size}
use Rattle.bus_types.specs.Table.{RowList}
use Rattle.bus_types.specs.View.{view}
use Rattle.bus_types.specs.Fnv.{fnv1a_of}
use Rattle.bus_types.specs.Relay.{Room, floor_of, Served}
use Rattle.bus_types.specs.Relay.Served.{NotFound as NoWindow, Empty as NothingNew, TooSmall as TooLarge, Windows as SomeWindows}
use Rattle.event_codec.specs.Chunks.{frame_size}
use Rattle.event_codec.specs.Forms.{shape_of}
use Rattle.partition_filter.specs.Selection.{Selection, test_of}
use Rattle.checkpoint.specs.declared.mark.Mark.{Mark}
use Rattle.checkpoint.specs.declared.mark.Mark.TheVariants.{Online, Delta, Snapshot, Scanned, Catchup}
use Rattle.bus_stores.specs.declared.keeper.Stop.{Stop}
use Rattle.bus_stores.specs.declared.keeper.Stop.TheVariants.{Before, After}
use Rattle.event_codec.specs.Questions.{Reply}
use Rattle.client_switch.specs.Moves.{Wish}
use Rattle.event_codec.specs.Questions.Reply.{Windows, Rows, Changes, Only}
use Rattle.bus_wire.specs.True.{Boot}
use Rattle.trace_script.specs.Printed.{line_with, boot_line, reply_line}
use Rattle.consumer_lines.specs.Shown.{stage_of, row_line, rows_text}

-- a consumer: its name, its filter, the mark that its keeper holds, what it wants beside it, the stop that its next commit
-- meets, the texts of the marks that its commits set, in order, and how often its rows were shown
pub record Follower : Type 0 where
  pub name : List ℕ
  pub filter : Selection
  pub mark : Mark
  pub wish : Wish
  pub armed : Option Stop
  pub marks : List (List ℕ)
  pub shows : ℕ

-- whether a line that isn't blank has come, the windows that the source committed, the room of the relay, the SCN of the
-- newest window that it published, or 0, the bootstrap's numbers, and the consumers in the order in which they were declared
pub record State : Type 0 where
  pub begun : Bool
  pub windows : List Span
  pub room : Room
  pub end : ℕ
  pub boot : Boot
  pub consumers : List Follower

-- the room of a relay of which no line says it
abbrev pub usual_room : Room
usual_room = record { bytes = 16777216; windows = 4096 }

-- a bootstrap of which nothing was logged
abbrev pub new_boot : Boot
new_boot = record { base = 0; applied = 0; high = 0 }

-- the bus before the first line
abbrev pub start : State
start = record { begun = false; windows = []; room = usual_room; end = 0; boot = new_boot; consumers = [] }

-- the SCN of the newest window that the relay has evicted, or 0
abbrev pub floor : State → ℕ
floor s = floor_of s.room s.windows s.end

-- ---- printed lines

-- the numbers of a bootstrap
abbrev pub numbers_line : Boot → List ℕ
numbers_line b = boot_line b.base b.applied b.high

-- the bytes that a reply takes
abbrev pub reply_size : Reply → ℕ
reply_size (Windows ws) = total_size ws
reply_size (Rows cs scn more) = changes_size cs + frame_size
reply_size (Changes cs scn more) = changes_size cs + frame_size
reply_size (Only answer) = 9

-- what a poll prints of a reply that a consumer took at this mark
abbrev pub reply_text : Mark → Reply → List ℕ
reply_text mark reply = reply_line (stage_of mark) (shape_of reply) (reply_size reply)

-- windows that no consumer took
abbrev pub sent_line : ℕ → ℕ → ℕ → List ℕ
sent_line count bytes last = codes "served " ++ decimal count ++ codes " " ++ decimal bytes ++ codes " last " ++ decimal last ++ codes "\n"

-- what a stream line prints of the relay's answer
abbrev pub stream_line : Served → List ℕ
stream_line (NoWindow floor) = line_with (codes "notfound") floor
stream_line (NothingNew end) = line_with (codes "empty") end
stream_line (TooLarge need) = line_with (codes "small") need
stream_line (SomeWindows ws) = sent_line (length ws) (total_size ws) (end_of ws)

-- what a poll prints whose commit met a stop
abbrev pub stopped_line : Stop → List ℕ
stopped_line Before = codes "stopped before\n"
stopped_line After = codes "stopped after\n"

-- what is shown of a consumer: online, its SCN and the view there; else its mode alone
abbrev pub shown : List Span → Follower → Mark → List ℕ
shown ws c (Online scn) = rows_text c.name scn (view (test_of c.filter) ws scn)
shown ws c (Delta since target cursor) = codes "show " ++ c.name ++ codes " delta\n"
shown ws c (Snapshot since begins top cursor) = codes "show " ++ c.name ++ codes " snapshot\n"
shown ws c (Scanned since begins top) = codes "show " ++ c.name ++ codes " scanned\n"
shown ws c (Catchup since begins target at) = codes "show " ++ c.name ++ codes " catchup\n"

-- the payloads' bytes in sum
abbrev pub rows_size : RowList → ℕ
rows_size [] = 0
rows_size (row ∷ rows) = length row.1 + rows_size rows

-- a hash in 16 lower-case digits
abbrev pub hash_text : ℕ → List ℕ
hash_text hash = encode_lower (to_be_bytes w64 hash)

abbrev pub sum_numbers : ℕ → ℕ → ℕ → List ℕ → List ℕ
sum_numbers scn count size hash = codes " online " ++ decimal scn ++ codes " " ++ decimal count ++ codes " " ++ decimal size ++ codes " " ++ hash ++ codes "\n"

abbrev pub sum_line : List ℕ → ℕ → ℕ → ℕ → List ℕ → List ℕ
sum_line name scn count size hash = codes "sum " ++ name ++ sum_numbers scn count size hash

-- the number of the rows, the bytes of their payloads, and the hash of their lines
abbrev pub sum_text : List ℕ → ℕ → RowList → List ℕ
sum_text name scn rows = sum_line name scn (length rows) (rows_size rows) (hash_text (fnv1a_of (flat_map row_line rows)))

-- the summary of a consumer: online, its SCN and that of the view there; else its mode alone
abbrev pub summed : List Span → Follower → Mark → List ℕ
summed ws c (Online scn) = sum_text c.name scn (view (test_of c.filter) ws scn)
summed ws c (Delta since target cursor) = codes "sum " ++ c.name ++ codes " delta\n"
summed ws c (Snapshot since begins top cursor) = codes "sum " ++ c.name ++ codes " snapshot\n"
summed ws c (Scanned since begins top) = codes "sum " ++ c.name ++ codes " scanned\n"
summed ws c (Catchup since begins target at) = codes "sum " ++ c.name ++ codes " catchup\n"
