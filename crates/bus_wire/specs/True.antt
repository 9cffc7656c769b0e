-- What a relay and a bootstrap that follow a timeline reply.
use Rattle.std.specs.Prelude.{◌≡◌, ℕ, ◌≤◌, true, false, if◌then◌else◌, ◌||◌, nat_lt, nat_le, List, [], ◌∷◌}
use Rattle.bus_types.specs.Change.{Test}
use Rattle.bus_types.specs.Window.{Span}
use Rattle.bus_types.specs.Timeline.{windows_between}
use Rattle.bus_types.specs.Rows.{rest_of}
use Rattle.bus_types.specs.Latest.{last_changes, changes_after}
use Rattle.bus_types.specs.View.{view}
use Rattle.bus_types.specs.Cut.{cuts}
use Rattle.bus_types.specs.Relay.{Served, is_place, fitting, stream}
use Rattle.bus_types.specs.Relay.Served.{Windows as SomeWindows, NotFound as NoWindow, Empty as NothingNew, TooSmall as TooLarge}
use Rattle.event_codec.specs.declared.answer.Answer.TheVariants.{NotFound, Empty, TooSmall, Behind, LogGone, StartDelta, StartSnapshot, Target as GoTo}
use Rattle.event_codec.specs.Chunks.{chunk_of, puts_of}
use Rattle.event_codec.specs.Questions.{Question, Reply}
use Rattle.event_codec.specs.Questions.Question.{Stream, Start, Scan, Target, Catchup, Delta}
use Rattle.event_codec.specs.Questions.Reply.{Windows, Rows, Changes, Only}

-- what a relay serves, as a reply
abbrev pub reply_of : Served → Reply
reply_of (NoWindow floor) = Only (NotFound floor)
reply_of (NothingNew end) = Only (Empty end)
reply_of (TooLarge need) = Only (TooSmall need)
reply_of (SomeWindows ws) = Windows ws

-- the numbers of a bootstrap: its log has the windows with base < SCN <= high, its rows are the table at applied
pub record Boot : Type 0 where
  pub base : ℕ
  pub applied : ℕ
  pub high : ℕ

-- numbers that a bootstrap of a timeline can have
pub record IsBoot (ws : List Span) (b : Boot) : Type 0 where
  pub applied : b.base ≤ b.applied
  pub high : b.applied ≤ b.high
  pub base_place : is_place b.base ws ≡ true
  pub applied_place : is_place b.applied ws ≡ true
  pub high_place : is_place b.high ws ≡ true

-- ---- answers

-- of the windows of a replay, of which there is one: what fits
abbrev pub replay_of : ℕ → ℕ → List Span → Reply
replay_of high most [] = Only (Behind high)
replay_of high most (w ∷ ws) = reply_of (fitting most (w ∷ ws))

-- what a bootstrap of a timeline answers, by the first line that applies
abbrev pub boot_reply : List Span → Test → Boot → Question → Reply
boot_reply ws test b (Stream scn most) = Only (Behind b.high)
boot_reply ws test b (Start since false) =
    if nat_le b.high since then Only (Behind b.high) else if nat_le b.base since then Only (StartDelta b.high) else Only (StartSnapshot b.applied)
boot_reply ws test b (Start since true) = if nat_lt b.high since then Only (Behind b.high) else Only (StartSnapshot b.applied)
boot_reply ws test b (Scan start cursor most) =
    if nat_lt start b.base then Only (LogGone b.base) else if nat_lt b.applied start then Only (Behind b.applied)
    else chunk_of (λ cs more. Rows cs b.applied more) most (puts_of (rest_of cursor (view test ws b.applied)))
boot_reply ws test b (Target start least) =
    if nat_lt start b.base then Only (LogGone b.base)
    else if nat_lt b.high start || nat_lt b.high least then Only (Behind b.high)
    else Only (GoTo b.high)
boot_reply ws test b (Catchup at target most) =
    if nat_lt at b.base then Only (LogGone b.base) else if nat_lt b.high target then Only (Behind b.high)
    else replay_of b.high most (cuts test (windows_between at target ws))
boot_reply ws test b (Delta since target cursor most) =
    if nat_lt since b.base then Only (LogGone b.base) else if nat_lt b.high target then Only (Behind b.high)
    else chunk_of (λ cs more. Changes cs target more) most (changes_after cursor (last_changes ws test since target))

-- a relay's reply that is true of a timeline: for some floor and end that are places of it
pub record IsServedBy (ws : List Span) (test : Test) (scn most : ℕ) (reply : Reply) : Type 0 where
  pub floor : ℕ
  pub end : ℕ
  pub floor_place : is_place floor ws ≡ true
  pub end_place : is_place end ws ≡ true
  pub is : reply ≡ reply_of (stream ws floor end scn test most)

-- a bootstrap's reply that is true of a timeline: for some numbers that a bootstrap of it can have
pub record IsBootedBy (ws : List Span) (test : Test) (q : Question) (reply : Reply) : Type 0 where
  pub boot : Boot
  pub lawful : IsBoot ws boot
  pub is : reply ≡ boot_reply ws test boot q

-- a reply that is true of a timeline: the relay's to who asks for windows, the bootstrap's to every other question
abbrev pub IsTrueOf : List Span → Test → Question → Reply → Type 0
IsTrueOf ws test (Stream scn most) reply = IsServedBy ws test scn most reply
IsTrueOf ws test (Start since fresh) reply = IsBootedBy ws test (Start since fresh) reply
IsTrueOf ws test (Scan start cursor most) reply = IsBootedBy ws test (Scan start cursor most) reply
IsTrueOf ws test (Target start least) reply = IsBootedBy ws test (Target start least) reply
IsTrueOf ws test (Catchup at target most) reply = IsBootedBy ws test (Catchup at target most) reply
IsTrueOf ws test (Delta since target cursor most) reply = IsBootedBy ws test (Delta since target cursor most) reply
