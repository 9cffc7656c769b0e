-- When what a bootstrap answers is a lawful reply.
use Rattle.std.specs.Prelude.{◌≡◌, ℕ, ◌<◌, ◌^◌, ◌⊎◌, List, []}
use Rattle.bus_types.specs.Window.{Span}
use Rattle.bus_types.specs.Timeline.{windows_between}
use Rattle.event_codec.specs.declared.answer.Answer.TheVariants.{Behind}
use Rattle.event_codec.specs.Questions.{Reply}
use Rattle.event_codec.specs.Questions.Reply.{Only}
use Rattle.event_codec.specs.Forms.{bytes_of, shape_of}
use Rattle.event_codec.specs.ReplyViews.{IsFormed}
use Rattle.bus_wire.specs.declared.ask.Ask.{Ask}
use Rattle.bus_wire.specs.declared.ask.Ask.TheVariants as asks
use Rattle.bus_wire.specs.Lawful.{IsLawful}

-- the most bytes that are asked for are a number of 32 bits
abbrev pub IsLimited : Ask → Type 0
IsLimited (asks.Stream scn filter max) = max < 2 ^ 32
IsLimited (asks.Start since fresh) = Unit {0}
IsLimited (asks.Scan start cursor filter max) = max < 2 ^ 32
IsLimited (asks.Target start atleast) = Unit {0}
IsLimited (asks.Catchup at target filter max) = max < 2 ^ 32
IsLimited (asks.Delta since target cursor filter max) = max < 2 ^ 32

-- the reply is a lawful one, and its numbers are in their ranges
pub record RepliesLawfully (ask : Ask) (reply : Reply) : Type 0 where
  pub lawful : IsLawful ask (bytes_of reply) (shape_of reply)
  pub formed : IsFormed reply

-- a replay over no window of a timeline, to a target that the bootstrap has come to: it says how far it has come
abbrev pub ReplaysNothing : List Span → ℕ → Ask → Reply → Type 0
ReplaysNothing ws high (asks.Stream scn filter max) reply = ⊥
ReplaysNothing ws high (asks.Start since fresh) reply = ⊥
ReplaysNothing ws high (asks.Scan start cursor filter max) reply = ⊥
ReplaysNothing ws high (asks.Target start atleast) reply = ⊥
ReplaysNothing ws high (asks.Catchup at target filter max) reply = (windows_between at target ws ≡ []) × (reply ≡ Only (Behind high))
ReplaysNothing ws high (asks.Delta since target cursor filter max) reply = ⊥

-- a bootstrap's reply is lawful, but for the one to who asks for a replay over no window
abbrev pub IsLawfullyBooted : List Span → ℕ → Ask → Reply → Type 0
IsLawfullyBooted ws high ask reply = RepliesLawfully ask reply ⊎ ReplaysNothing ws high ask reply
