-- How a client moves: what it asks by its mark and its wish, and what a reply makes of them.
use Rattle.std.specs.Prelude.{ℕ, max, Bool, true, false, if◌then◌else◌, ◌==◌, List, [], flat_map}
use Rattle.bus_types.specs.declared.change.Change.{Change}
use Rattle.bus_types.specs.declared.row.Cursor.TheVariants.{Start as Beginning}
use Rattle.bus_types.specs.Window.{Span}
use Rattle.bus_types.specs.Timeline.{end_from}
use Rattle.bus_types.specs.Table.{RowList, rows_after}
use Rattle.event_codec.specs.declared.answer.Answer.{Answer}
use Rattle.event_codec.specs.declared.answer.Answer.TheVariants.{NotFound, Empty, TooSmall, Behind, LogGone, StartDelta, StartSnapshot, Target as GoTo}
use Rattle.event_codec.specs.Chunks.{cursor_after}
use Rattle.event_codec.specs.Questions.{Question, Reply}
use Rattle.event_codec.specs.Questions.Question.{Stream, Start, Scan, Target, Catchup, Delta}
use Rattle.event_codec.specs.Questions.Reply.{Windows, Rows, Changes, Only}
use Rattle.checkpoint.specs.declared.mark.Mark.{Mark}
use Rattle.checkpoint.specs.declared.mark.Mark.TheVariants.{Online, Delta as Catching, Snapshot, Scanned, Catchup as Replaying}
use Rattle.checkpoint.specs.Mark.{floor_of}

-- what a client wants beside what its mark says: nothing, to begin again from its SCN, or to begin again from nothing
pub data Wish : Type 0 where
  NoWish : Wish
  StartWish : Wish
  FreshWish : Wish

-- to begin again from its SCN is wished only by who is online: windows after the SCN were asked for, and are gone
abbrev pub IsWished : Mark → Wish → Type 0
IsWished mark NoWish = Unit {0}
IsWished mark FreshWish = Unit {0}
IsWished (Online scn) StartWish = Unit {0}
IsWished (Catching since target cursor) StartWish = ⊥
IsWished (Snapshot since start top cursor) StartWish = ⊥
IsWished (Scanned since start top) StartWish = ⊥
IsWished (Replaying since start target at) StartWish = ⊥

-- what a mark asks next
abbrev pub next_question : Mark → ℕ → Question
next_question (Online scn) most = Stream scn most
next_question (Catching since target cursor) most = Delta since target cursor most
next_question (Snapshot since start top cursor) most = Scan start cursor most
next_question (Scanned since start top) most = Target start (max since top)
next_question (Replaying since start target at) most = Catchup at target most

-- what a client asks
abbrev pub question : Mark → Wish → ℕ → Question
question mark NoWish most = next_question mark most
question mark StartWish most = Start (floor_of mark) false
question mark FreshWish most = Start (floor_of mark) true

-- what a reply makes: the mark, whether it and the rest are committed, whether all rows are cleared first, the changes that
-- are then made in order, and the wish
pub record Turn : Type 0 where
  pub mark : Mark
  pub commits : Bool
  pub clear : Bool
  pub batch : List Change
  pub wish : Wish

-- nothing is committed
abbrev pub stay : Mark → Wish → Turn
stay mark wish = record { mark = mark; commits = false; clear = false; batch = []; wish = wish }

-- one commit, after which nothing is wished
abbrev pub go : Mark → Bool → List Change → Turn
go mark clear batch = record { mark = mark; commits = true; clear = clear; batch = batch; wish = NoWish }

abbrev pub changes_of : List Span → List Change
changes_of ws = flat_map (λ w. w.changes) ws

-- a replay that has come to an SCN: it ends at its target
abbrev pub replayed : ℕ → ℕ → ℕ → ℕ → Mark
replayed since start target at = if at == target then Online target else Replaying since start target at

-- windows are asked for by who is online, and in a replay
abbrev pub windows_turn : Mark → List Span → Turn
windows_turn (Online scn) ws = go (Online (end_from scn ws)) false (changes_of ws)
windows_turn (Replaying since start target at) ws = go (replayed since start target (end_from at ws)) false (changes_of ws)
windows_turn (Catching since target cursor) ws = stay (Catching since target cursor) NoWish
windows_turn (Snapshot since start top cursor) ws = stay (Snapshot since start top cursor) NoWish
windows_turn (Scanned since start top) ws = stay (Scanned since start top) NoWish

-- rows are asked for in a scan
abbrev pub rows_turn : Mark → List Change → ℕ → Bool → Turn
rows_turn (Snapshot since start top cursor) cs scn more =
    go (if more then Snapshot since start (max top scn) (cursor_after cursor cs) else Scanned since start (max top scn)) false cs
rows_turn (Online s) cs scn more = stay (Online s) NoWish
rows_turn (Catching since target cursor) cs scn more = stay (Catching since target cursor) NoWish
rows_turn (Scanned since start top) cs scn more = stay (Scanned since start top) NoWish
rows_turn (Replaying since start target at) cs scn more = stay (Replaying since start target at) NoWish

-- changes are asked for in a delta
abbrev pub changes_turn : Mark → List Change → Bool → Turn
changes_turn (Catching since target cursor) cs more =
    go (if more then Catching since target (cursor_after cursor cs) else Online target) false cs
changes_turn (Online s) cs more = stay (Online s) NoWish
changes_turn (Snapshot since start top cursor) cs more = stay (Snapshot since start top cursor) NoWish
changes_turn (Scanned since start top) cs more = stay (Scanned since start top) NoWish
changes_turn (Replaying since start target at) cs more = stay (Replaying since start target at) NoWish

-- a target is asked for behind a scan: where nothing is to be replayed, the scan is a table
abbrev pub target_turn : Mark → ℕ → Turn
target_turn (Scanned since start top) t = go (if t == start then Online t else Replaying since start t start) false []
target_turn (Online s) t = stay (Online s) NoWish
target_turn (Catching since target cursor) t = stay (Catching since target cursor) NoWish
target_turn (Snapshot since start top cursor) t = stay (Snapshot since start top cursor) NoWish
target_turn (Replaying since start target at) t = stay (Replaying since start target at) NoWish

abbrev pub answer_turn : Mark → Answer → Turn
answer_turn mark (NotFound floor) = stay mark StartWish
answer_turn mark (Empty end) = stay mark NoWish
answer_turn mark (TooSmall need) = stay mark NoWish
answer_turn mark (Behind high) = stay mark NoWish
answer_turn mark (LogGone base) = stay mark FreshWish
answer_turn mark (StartDelta high) = go (Catching (floor_of mark) high Beginning) false []
answer_turn mark (StartSnapshot applied) = go (Snapshot (floor_of mark) applied applied Beginning) true []
answer_turn mark (GoTo t) = target_turn mark t

-- what a reply makes of a client with this mark, whatever it wished
abbrev pub turn : Mark → Reply → Turn
turn mark (Windows ws) = windows_turn mark ws
turn mark (Rows cs scn more) = rows_turn mark cs scn more
turn mark (Changes cs scn more) = changes_turn mark cs more
turn mark (Only answer) = answer_turn mark answer

-- the rows that it leaves
abbrev pub rows_left : RowList → Turn → RowList
rows_left rows t = rows_after (if t.clear then [] else rows) t.batch
