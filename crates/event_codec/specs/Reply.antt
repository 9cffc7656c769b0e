-- What is told of a relay's answer, and what is sent of it.
use Rattle.std.specs.Prelude.{◌≡◌, ℕ, ◌<◌, ◌≤◌, List, [], length}
use Rattle.bus_types.specs.declared.limits.TheConstants.{MAX_SCN, MAX_WINDOW}
use Rattle.bus_types.specs.Window.{Span}
use Rattle.bus_types.specs.Timeline.{end_of, total_size}
use Rattle.bus_types.specs.Relay as relay
use Rattle.bus_types.specs.Relay.Served.{Windows as SomeWindows, NotFound as NoWindow, Empty as NothingNew, TooSmall as TooLarge}
use Rattle.event_codec.specs.declared.answer.Answer.TheVariants as frames
use Rattle.event_codec.specs.declared.reply.Served.{Served}
use Rattle.event_codec.specs.declared.reply.Served.TheVariants.{Windows, NotFound, Empty, TooSmall}
use Rattle.event_codec.specs.Frames.{answer_bytes}
use Rattle.event_codec.specs.Streams.{windows_bytes}

-- windows are told by their number, the SCN of the last one, and their bytes
pub record AreTold (number scn size : ℕ) (ws : List Span) : Type 0 where
  pub some : 0 < number
  pub count : number ≡ length ws
  pub last : scn ≡ end_of ws
  pub bytes : size ≡ total_size ws

-- what is told of an answer
abbrev pub IsServed : Served → relay.Served → Type 0
IsServed (Windows number scn size) (SomeWindows ws) = AreTold number scn size ws
IsServed (NotFound floor) (NoWindow n) = floor ≡ n
IsServed (Empty end) (NothingNew n) = end ≡ n
IsServed (TooSmall need) (TooLarge n) = need ≡ n
IsServed served answer = ⊥

-- the bytes of its windows; those of the other answers are for others to send
abbrev pub windows_sent : relay.Served → List ℕ
windows_sent (SomeWindows ws) = windows_bytes ws
windows_sent (NoWindow n) = []
windows_sent (NothingNew n) = []
windows_sent (TooLarge n) = []

-- the bytes of a reply: the windows one after the other, or the answer
abbrev pub reply_bytes : relay.Served → List ℕ
reply_bytes (SomeWindows ws) = windows_bytes ws
reply_bytes (NoWindow n) = answer_bytes (frames.NotFound n)
reply_bytes (NothingNew n) = answer_bytes (frames.Empty n)
reply_bytes (TooLarge n) = answer_bytes (frames.TooSmall n)

-- the numbers of what is told are such as a mark or an answer has
abbrev pub IsInRange : Served → Type 0
IsInRange (Windows number scn size) = scn ≤ MAX_SCN
IsInRange (NotFound floor) = floor ≤ MAX_SCN
IsInRange (Empty end) = end ≤ MAX_SCN
IsInRange (TooSmall need) = need ≤ MAX_WINDOW

-- the bytes of what is told where no window is sent
abbrev pub answer_sent : Served → List ℕ
answer_sent (Windows number scn size) = []
answer_sent (NotFound floor) = answer_bytes (frames.NotFound floor)
answer_sent (Empty end) = answer_bytes (frames.Empty end)
answer_sent (TooSmall need) = answer_bytes (frames.TooSmall need)
