-- What links and doors in memory are to a contract.
use Rattle.std.specs.Prelude.{ℕ, ◌+◌, ◌-◌, ◌^◌, min, ◌==◌, Bool, ◌||◌, if◌then◌else◌, List, [], ◌∷◌, ◌++◌, length, take, drop, map, find, Option, Some, None}
use Rattle.bus_types.specs.Counting.{next_count}
use Rattle.bus_io.specs.Memory.{Wire}
use Rattle.bus_link.specs.declared.fail.LinkFail.{LinkFail}
use Rattle.bus_link.specs.declared.fail.LinkFail.TheVariants.{Connect, Accept}
use Rattle.bus_link.specs.Handed.{Shelf, sum_over}
use Rattle.bus_link.specs.Links.{Told, IsFresh, IsUnused}
use Rattle.bus_link.specs.Listed.{is_listed}

-- a connection that gave nothing, to which nothing was written, and that has not failed
abbrev pub IsNewWire : Wire → Type 0
IsNewWire w = IsFresh (Some w.from.given) (Some w.to.bytes) w.from.faults w.to.faults

-- a door: its number, among how many, the place of its next connection in the list of those to accept, those that are left
-- to accept, those that were handed back, the calls that are to fail, and how often it has failed
pub record Doorway : Type 0 where
  pub number : ℕ
  pub doors : ℕ
  pub next : ℕ
  pub left : List Wire
  pub back : Shelf Wire
  pub fails : List LinkFail
  pub faults : ℕ

abbrev pub new_door : ℕ → ℕ → List Wire → List LinkFail → Doorway
new_door number doors left fails = record {
  number = number;
  doors = doors;
  next = number;
  left = left;
  back = record { all = []; room = length left };
  fails = fails;
  faults = 0;
}

-- whether the next accept is to fail
abbrev pub accept_fails : Doorway → Bool
accept_fails d = is_listed d.fails (Accept d.next) || length d.left == 0

-- the place of the connection behind the next one
abbrev pub next_accept : Doorway → ℕ
next_accept d = min (d.next + d.doors) (2 ^ 64 - 1)

-- what an accept leaves: a call that fails takes its connection away too
abbrev pub after_accept : Doorway → Doorway
after_accept d = record d {
  next = next_accept d;
  left = drop 1 d.left;
  faults = if accept_fails d then d.faults + 1 else d.faults;
}

-- a connection was handed back
abbrev pub with_back : Wire → Doorway → Doorway
with_back peer d = record d { back = record d.back { all = d.back.all ++ peer ∷ [] } }

-- a door that took no connection back, and that has not failed
abbrev pub IsNewDoor : Doorway → Type 0
IsNewDoor d = IsUnused (Some d.back.all) d.faults

-- what the first door with a number took back, as far as it keeps that
abbrev pub kept_at : Option Doorway → List Wire
kept_at None = []
kept_at (Some d) = take d.back.room d.back.all

abbrev pub served_of : ℕ → List Doorway → List Wire
served_of number doors = kept_at (find (λ d. d.number == number) doors)

-- connections that are dealt out in two
pub record Dealt : Type 0 where
  pub mine : List Wire
  pub others : List Wire

-- doors that were made
pub record Opened : Type 0 where
  pub made : List Doorway

-- a link: the connections to accept that no door has yet, those that are left to connect to, how many calls to listen and to
-- connect were made, the port at which it listened last, those that it connected to, what was handed back, the calls that are
-- to fail, and how often one has
pub record Linked : Type 0 where
  pub accepts : List Wire
  pub connects : List Wire
  pub listened : ℕ
  pub connected : ℕ
  pub port : Option ℕ
  pub ports : Shelf ℕ
  pub hung_up : Shelf Wire
  pub shut : Shelf Doorway
  pub fails : List LinkFail
  pub faults : ℕ

abbrev pub new_link : List Wire → List Wire → List LinkFail → Linked
new_link accepts connects fails = record {
  accepts = accepts;
  connects = connects;
  listened = 0;
  connected = 0;
  port = None;
  ports = record { all = []; room = length connects };
  hung_up = record { all = []; room = length connects };
  shut = record { all = []; room = 4 };
  fails = fails;
  faults = 0;
}

-- what it tells
abbrev pub told_of : Linked → Told Wire
told_of s = record {
  port = s.port;
  ports = s.ports.all;
  hung_up = s.hung_up.all;
  shut = map (λ d. Some d.back.all) s.shut.all;
}

-- how often a connection has failed
abbrev pub wire_faults : Wire → ℕ
wire_faults w = w.from.faults + w.to.faults

-- how often it has failed, with what was handed back
abbrev pub faults_of : Linked → ℕ
faults_of s = s.faults + sum_over wire_faults s.hung_up.all + sum_over (λ d. d.faults) s.shut.all

-- whether the next connect is to fail
abbrev pub connect_fails : Linked → Bool
connect_fails s = is_listed s.fails (Connect s.connected) || length s.connects == 0

-- a connect to a port takes the next connection, and so does one that fails
abbrev pub after_connect : ℕ → Linked → Linked
after_connect port s = record s {
  connects = drop 1 s.connects;
  connected = next_count s.connected;
  ports = record s.ports { all = s.ports.all ++ port ∷ [] };
}

abbrev pub after_failed_connect : Linked → Linked
after_failed_connect s = record s {
  connects = drop 1 s.connects;
  connected = next_count s.connected;
  faults = s.faults + 1;
}

-- a connection was handed back
abbrev pub with_wire : Wire → Linked → Linked
with_wire peer s = record s { hung_up = record s.hung_up { all = s.hung_up.all ++ peer ∷ [] } }

-- a door was handed back
abbrev pub with_door : Doorway → Linked → Linked
with_door door s = record s { shut = record s.shut { all = s.shut.all ++ door ∷ [] } }
