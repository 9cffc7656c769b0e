-- For private functions alone: what the bus makes of its bootstrap.
use Rattle.std.specs.Prelude.{◌≡◌, ℕ, ◌<◌, ◌≤◌, min, true, List, length, take}
use Rattle.bus_types.specs.Window.{Span}
use Rattle.bus_types.specs.Timeline.{IsTimeline, end_from, windows_between}
use Rattle.bus_types.specs.Relay.{Relay, StandsFor, is_place}
use Rattle.bus_stores.specs.Memory.{MemoryStore}
use Rattle.bus_stores.specs.MemoryLog.{MemoryWindows}
use Rattle.bus_wire.specs.True.{Boot}
use Rattle.bootstrap_core.specs.Boot.{BootParts}
use Rattle.bootstrap_core.specs.Logging.{AreWindowsBehind, IsRelayReply}
use Rattle.history_core.specs.Steps.{most_commits, end_after}
use Rattle.history_core.specs.Bus.{boot_numbers, IsBooted}

-- a bootstrap in memory
abbrev pub MemoryParts : Type 0
MemoryParts = BootParts MemoryWindows MemoryStore

-- log and keeper are those of a bootstrap that stands for these windows
pub record AreParts (ws : List Span) (b : MemoryParts) (log : MemoryWindows) (keeper : MemoryStore) : Type 0 where
  pub booted : IsBooted ws b
  pub of_log : log ≡ b.log
  pub of_keeper : keeper ≡ b.keeper

-- a bootstrap stands for these windows at these numbers
pub record BootedAt (ws : List Span) (numbers : Boot) (b : MemoryParts) : Type 0 where
  pub booted : IsBooted ws b
  pub is : boot_numbers b ≡ numbers

-- the numbers after so many more of the windows that a relay published were logged
abbrev pub logged_to : List Span → Relay → Boot → ℕ → Boot
logged_to ws r n count = record n { high = end_after ws n.high r.tail count }

-- after so many more of the logged windows were applied
abbrev pub applied_to : List Span → Boot → ℕ → Boot
applied_to ws n count = record n { applied = end_after ws n.applied n.high count }

-- after its base was moved up to an SCN
abbrev pub trimmed_to : List Span → Boot → ℕ → Boot
trimmed_to ws n scn = record n { base = end_from n.base (windows_between n.base (min scn n.applied) ws) }

-- a relay of these windows has evicted none that wasn't logged
pub record CanLog (ws : List Span) (r : Relay) (b : MemoryParts) : Type 0 where
  pub few : length ws ≤ most_commits
  pub stands : StandsFor ws r
  pub booted : IsBooted ws b
  pub reach : r.floor ≤ (boot_numbers b).high

-- a relay of these windows keeps those behind an SCN, of which there is one
pub record HasNext (ws : List Span) (r : Relay) (scn : ℕ) : Type 0 where
  pub stands : StandsFor ws r
  pub place : is_place scn ws ≡ true
  pub reach : r.floor ≤ scn
  pub more : scn < r.tail

-- bytes are the relay's reply to who asks for them: the first so many, up to an end
pub record IsNextReply (ws : List Span) (end scn : ℕ) (bytes : List ℕ) (count : ℕ) : Type 0 where
  pub windows : List Span
  pub behind : AreWindowsBehind scn bytes windows
  pub counted : count ≡ length windows
  pub some : 0 < count
  pub front : windows ≡ take count (windows_between scn end ws)
  pub reply : IsRelayReply ws scn bytes

-- these bytes are the relay's reply to a bootstrap of these windows, with at least so many
pub record CanTake (ws : List Span) (end count : ℕ) (b : MemoryParts) (bytes : List ℕ) : Type 0 where
  pub few : length ws ≤ most_commits
  pub timeline : IsTimeline ws
  pub booted : IsBooted ws b
  pub held : ℕ
  pub enough : count ≤ held
  pub next : IsNextReply ws end (boot_numbers b).high bytes held
