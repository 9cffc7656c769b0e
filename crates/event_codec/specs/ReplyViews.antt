-- A reply, read where its bytes stand.
use Rattle.std.specs.Prelude.{◌≡◌, ℕ, ◌<◌, ◌≤◌, List, ◌++◌, length}
use Rattle.std.specs.List.{AllByRecursion}
use Rattle.bus_types.specs.declared.change.Change.{Change}
use Rattle.bus_types.specs.declared.limits.TheConstants.{MAX_SCN}
use Rattle.bus_types.specs.Change.{AreChanges}
use Rattle.bus_types.specs.Window.{IsSpan}
use Rattle.event_codec.specs.declared.reply.Shape.{Shape}
use Rattle.event_codec.specs.declared.reply.ReplyView.{ReplyView}
use Rattle.event_codec.specs.declared.reply.ReplyView.TheVariants as views
use Rattle.event_codec.specs.Bytes.{Event, IsEvent}
use Rattle.event_codec.specs.Frames.{Closing, IsClosing, closing_bytes, IsAnswer}
use Rattle.event_codec.specs.Questions.{Reply}
use Rattle.event_codec.specs.Questions.Reply.{Windows, Rows, Changes, Only}
use Rattle.event_codec.specs.Forms.{bytes_of, shape_of}
use Rattle.event_codec.specs.Parsing.{events_bytes, events_of}

-- a reply as it is read: rows and changes are events, which carry the SCN
abbrev pub view_of : Reply → ReplyView
view_of (Windows ws) = views.Windows ws
view_of (Rows cs scn more) = views.Rows (events_of scn cs) scn more
view_of (Changes cs scn more) = views.Changes (events_of scn cs) scn more
view_of (Only answer) = views.Only answer

-- rows or changes of one SCN that can be spelled
pub record IsRunOf (scn : ℕ) (changes : List Change) : Type 0 where
  pub within : AreChanges changes
  pub positive : 0 < length changes → 0 < scn
  pub bound : scn ≤ MAX_SCN

-- a reply whose numbers are in their ranges
abbrev pub IsFormed : Reply → Type 0
IsFormed (Windows ws) = AllByRecursion IsSpan ws
IsFormed (Rows cs scn more) = IsRunOf scn cs
IsFormed (Changes cs scn more) = IsRunOf scn cs
IsFormed (Only answer) = IsAnswer answer

-- the bytes spell a reply of that shape
pub record Spells (shape : Shape) (bytes : List ℕ) (reply : Reply) : Type 0 where
  pub formed : IsFormed reply
  pub spelled : bytes ≡ bytes_of reply
  pub shaped : shape ≡ shape_of reply

-- ---- the code's words

-- bytes are events and then a closing frame
pub record AreClosed (events : List Event) (closing : Closing) (bytes : List ℕ) : Type 0 where
  pub within : AllByRecursion IsEvent events
  pub frame : IsClosing closing
  pub parts : bytes ≡ events_bytes events ++ closing_bytes closing
