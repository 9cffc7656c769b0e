-- A lawful reply, read where its bytes stand.
use Rattle.std.specs.Prelude.{◌≡◌, ℕ, Bool, List}
use Rattle.bus_types.specs.declared.change.Change.{Change}
use Rattle.bus_types.specs.Window.{Span}
use Rattle.event_codec.specs.declared.reply.ReplyView.{ReplyView}
use Rattle.event_codec.specs.declared.reply.ReplyView.TheVariants as views
use Rattle.event_codec.specs.Bytes.{Event}
use Rattle.event_codec.specs.Frames.{answer_bytes}
use Rattle.event_codec.specs.Forms.{run_bytes}
use Rattle.event_codec.specs.Parsing.{events_of}
use Rattle.event_codec.specs.Streams.{windows_bytes}
use Rattle.bus_wire.specs.declared.ask.Ask.{Ask}
use Rattle.bus_wire.specs.Wanted.{Wanted, run_wanted, rows_wanted, changes_wanted, AreAsked}
use Rattle.bus_wire.specs.Lawful.{IsAnswerTo, IsRun, Body, body_of}
use Rattle.bus_wire.specs.Lawful.Body.{NoBody, WindowsOf, RowsOf, ChangesOf}

-- windows that were asked for
abbrev pub AreReplied : Body → List Span → Type 0
AreReplied NoBody ws = ⊥
AreReplied (WindowsOf floor top filter) ws = IsRun floor top filter ws
AreReplied (RowsOf start cursor filter) ws = ⊥
AreReplied (ChangesOf target cursor filter) ws = ⊥

-- the bytes are items that are wanted, in order, and their closing frame; the events are these
pub record AreItems (w : Wanted) (bytes : List ℕ) (events : List Event) (scn : ℕ) (more : Bool) : Type 0 where
  pub changes : List Change
  pub spelled : bytes ≡ run_bytes (run_wanted w) changes scn more
  pub asked : AreAsked w changes scn more
  pub are : events ≡ events_of scn changes

abbrev pub AreRows : Body → List ℕ → List Event → ℕ → Bool → Type 0
AreRows NoBody bytes events scn more = ⊥
AreRows (WindowsOf floor top filter) bytes events scn more = ⊥
AreRows (RowsOf start cursor filter) bytes events scn more = AreItems (rows_wanted start cursor filter) bytes events scn more
AreRows (ChangesOf target cursor filter) bytes events scn more = ⊥

abbrev pub AreChanges : Body → List ℕ → List Event → ℕ → Bool → Type 0
AreChanges NoBody bytes events scn more = ⊥
AreChanges (WindowsOf floor top filter) bytes events scn more = ⊥
AreChanges (RowsOf start cursor filter) bytes events scn more = ⊥
AreChanges (ChangesOf target cursor filter) bytes events scn more = AreItems (changes_wanted target cursor filter) bytes events scn more

-- the bytes are a lawful reply, which reads so
abbrev pub IsReply : Ask → List ℕ → ReplyView → Type 0
IsReply ask bytes (views.Windows ws) = (bytes ≡ windows_bytes ws) × AreReplied (body_of ask) ws
IsReply ask bytes (views.Rows run scn more) = AreRows (body_of ask) bytes run scn more
IsReply ask bytes (views.Changes run scn more) = AreChanges (body_of ask) bytes run scn more
IsReply ask bytes (views.Only answer) = (bytes ≡ answer_bytes answer) × IsAnswerTo ask answer
