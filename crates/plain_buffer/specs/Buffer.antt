-- What holds of the windows that a relay keeps.
use Rattle.std.specs.Prelude.{◌≡◌, ℕ, ◌≤◌, true, List, take, drop}
use Rattle.bus_types.specs.declared.limits.TheConstants.{MAX_SCN}
use Rattle.bus_types.specs.Window.{Span}
use Rattle.bus_types.specs.Timeline.{IsTimelineFrom, end_from, total_size}
use Rattle.bus_types.specs.Relay.{Room, IsRoom, sizes, has_room, surplus, Relay}

-- a relay keeps windows that follow its floor and each other up to its tail, has room for them, and knows their bytes
pub record IsBuffer (r : Relay) (size : ℕ) : Type 0 where
  pub room : IsRoom r.room
  pub low : r.floor ≤ MAX_SCN
  pub high : r.tail ≤ MAX_SCN
  pub roomy : has_room r.room (sizes r.kept) ≡ true
  pub timeline : IsTimelineFrom r.floor r.kept
  pub tail : r.tail ≡ end_from r.floor r.kept
  pub bytes : size ≡ total_size r.kept

-- of old windows behind a floor the fewest are evicted that leave room for new ones, which take so many bytes and stand
-- behind the floor end
pub record Evicts (room : Room) (floor : ℕ) (old new : List Span) (size end : ℕ) : Type 0 where
  pub kept : new ≡ drop (surplus room (sizes old)) old
  pub behind : end ≡ end_from floor (take (surplus room (sizes old)) old)
  pub bytes : size ≡ total_size new
