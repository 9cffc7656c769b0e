-- For private functions alone: what comes to a consumer that polls.
use Rattle.std.specs.Prelude.{ℕ, List}
use Rattle.bus_types.specs.Window.{Span}
use Rattle.bus_types.specs.Relay.{Relay, StandsFor}
use Rattle.event_codec.specs.Questions.{Reply}
use Rattle.bus_wire.specs.declared.ask.Ask.{Ask}
use Rattle.bus_wire.specs.Asks.{question_of, test_in}
use Rattle.bus_wire.specs.True.{Boot, IsBoot}
use Rattle.client_switch.specs.Client.{IsAskOf, asks}
use Rattle.history_core.specs.Steps.{replied}
use Rattle.history_core.specs.Bus.{MemberState, IsMember}
use Rattle.history_core.specs.Acting.{IsSent, replied_to}

-- the reply to an ask, of a relay and of a bootstrap of these windows
abbrev pub answered : List Span → Relay → Boot → Ask → Reply
answered ws r boot ask = replied ws r.floor r.tail boot (test_in ask) (question_of ask)

-- a consumer of these windows made this ask, for at most so many bytes, and these bytes are what a relay of the windows, or a
-- bootstrap of them, sent
pub record Comes (ws : List Span) (r : Relay) (boot : Boot) (most : ℕ) (old : MemberState) (ask : Ask) (bytes : List ℕ) : Type 0 where
  pub stands : StandsFor ws r
  pub lawful : IsBoot ws boot
  pub member : IsMember ws old
  pub asked : IsAskOf old.client.filter (asks old.client most) ask
  pub sent : IsSent ask bytes (replied_to ws r boot most old)
