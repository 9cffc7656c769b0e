-- The parts of a window that a range lends: stretches of the items that a filter keeps.
use Rattle.std.specs.Prelude.{◌≡◌, ℕ, zero, suc, ◌<◌, ◌≤◌, if◌then◌else◌, List, [], ◌∷◌, ◌++◌, length, drop}
use Rattle.bus_types.specs.declared.change.Change.{Change}
use Rattle.bus_types.specs.Change.{Test}
use Rattle.bus_types.specs.Window.{Span}
use Rattle.bus_types.specs.Cut.{cuts}
use Rattle.event_codec.specs.Streams.{windows_bytes}
use Rattle.event_codec.specs.Parsing.{AreWindows, HaveWindows, behind_mark}
use Rattle.ring_cells.specs.Entries.{Held}

-- the bytes of the entry at a place, from 0 on
abbrev pub bytes_at : List Held → ℕ → List ℕ
bytes_at [] place = []
bytes_at (e ∷ es) zero = e.bytes
bytes_at (e ∷ es) (suc place) = bytes_at es place

-- at a place of bytes stand the items that are left of a window, or its end
pub record IsPlace (bytes : List ℕ) (place : ℕ) : Type 0 where
  pub within : place ≤ length bytes
  pub items : HaveWindows (drop place bytes)

-- changes from the first one on that a test accepts, and from the first one on that it refuses
abbrev pub from_accepted : Test → List Change → List Change
from_accepted test [] = []
from_accepted test (c ∷ cs) = if test c.source c.key then c ∷ cs else from_accepted test cs

abbrev pub from_refused : Test → List Change → List Change
from_refused test [] = []
from_refused test (c ∷ cs) = if test c.source c.key then from_refused test cs else c ∷ cs

-- what is left of items from the first one on that is kept, and what is left behind those that are. A mark is kept
abbrev pub from_kept : Test → List Span → List Span
from_kept test [] = []
from_kept test (w ∷ ws) = record { scn = w.scn; prev = w.prev; changes = from_accepted test w.changes } ∷ ws

abbrev pub past_events : Test → List Span → List Span
past_events test [] = []
past_events test (w ∷ ws) = record { scn = w.scn; prev = w.prev; changes = from_refused test w.changes } ∷ ws

abbrev pub behind_kept : Test → List Span → List Span
behind_kept test items = behind_mark (past_events test items)

-- what is left of items behind the next stretch of those that are kept
abbrev pub behind_part : Test → List Span → List Span
behind_part test items = behind_kept test (from_kept test items)

-- of the items that are left in bytes these are the next that are kept, up to a place at which the others stand. With
-- what a filter leaves of the others they are what it leaves of all
pub record IsPart (test : Test) (whole : List ℕ) (items : List Span) (bytes : List ℕ) (next : ℕ) : Type 0 where
  pub some : 0 < length items
  pub stretch : windows_bytes (from_kept test items) ≡ bytes ++ windows_bytes (behind_part test items)
  pub within : next ≤ length whole
  pub left : AreWindows (behind_part test items) (drop next whole)
  pub cut : windows_bytes (cuts test items) ≡ bytes ++ windows_bytes (cuts test (behind_part test items))

-- a part: its bytes, and the place after them
pub record PartIs : Type 0 where
  pub bytes : List ℕ
  pub next : ℕ

-- parts that come one after the other, until none is left
abbrev pub AreParts : Test → List ℕ → List Span → List PartIs → Type 0
AreParts test whole items [] = items ≡ []
AreParts test whole items (p ∷ ps) = IsPart test whole items p.bytes p.next × AreParts test whole (behind_part test items) ps
