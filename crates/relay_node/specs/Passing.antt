-- For private functions alone: a relay on a ring, of which all windows were published.
use Rattle.std.specs.Prelude.{◌≡◌, ℕ, List, [], length, Option, Some, None, IfSome}
use Rattle.bus_types.specs.Window.{Span}
use Rattle.bus_types.specs.Timeline.{end_of}
use Rattle.bus_types.specs.Relay.{Relay, Room, new_relay}
use Rattle.range_ring.specs.declared.words.Limits.{Limits}
use Rattle.range_ring.specs.declared.opened.Opened.{Opened}
use Rattle.range_ring.specs.declared.opened.Opened.TheVariants as opened
use Rattle.range_ring.specs.Words.{room_of, evicted_at}
use Rattle.range_ring.specs.Belonging.{RingIs, PassIs}
use Rattle.relay_node.specs.Feeding.{relay_after}

-- where windows are told, all of them were published, and those evicted that had to be
abbrev pub SeesAll : Limits → Option (List Span) → ℕ → ℕ → Type 0
SeesAll limits None evicted published = Unit {0}
SeesAll limits (Some windows) evicted published = (evicted ≡ evicted_at limits windows (length windows)) × (published ≡ length windows)

-- the floor that a pass tells to who asks behind SCN 0, or 0
abbrev pub floor_in : {T F : Type 0} → Opened T F → ℕ
floor_in (opened.Range range) = 0
floor_in (opened.NotFound floor) = floor
floor_in (opened.Empty tail) = 0
floor_in (opened.TooSmall need) = 0

-- the windows that a relay keeps, where those that it published are told
abbrev pub kept_of : Room → Option (List Span) → List Span
kept_of room None = []
kept_of room (Some windows) = (relay_after (new_relay room) windows).kept

-- the relay that published all windows, by the SCNs of the newest ones that it evicted and published
abbrev pub relay_told : Room → Option (List Span) → ℕ → ℕ → Relay
relay_told room told floor tail = record { room = room; floor = floor; tail = tail; kept = kept_of room told }

-- a pass of a ring sees this relay
pub record IsRelaying (told : Option (List Span)) (ring : RingIs) (pass : PassIs) (floor tail : ℕ) : Type 0 where
  pub home : pass.home ≡ ring
  pub sees : SeesAll ring.limits told pass.evicted pass.published
  pub floor_is : IfSome told (λ windows. floor ≡ (relay_after (new_relay (room_of ring.limits)) windows).floor)
  pub tail_is : IfSome told (λ windows. tail ≡ end_of windows)
