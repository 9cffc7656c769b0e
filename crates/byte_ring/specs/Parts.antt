-- Windows where they stand in a ring's bytes, and parts of the bytes that await sending.
use Rattle.std.specs.Prelude.{◌≡◌, ℕ, ◌+◌, ◌-◌, ◌≤◌, List, ◌++◌, length, take, drop, Result, Ok, Err}
use Rattle.bus_types.specs.Window.{span_size, IsSpan}
use Rattle.bus_io.specs.declared.write.WriteFault.{WriteFault}
use Rattle.event_codec.specs.Bytes.{window_bytes}
use Rattle.plain_buffer.specs.Send.{Told, Sends}
use Rattle.byte_ring.specs.declared.kept.Slot.{Slot}
use Rattle.byte_ring.specs.declared.send.Pending.{Pending}

-- a text stands in bytes at a place
pub record Stands (bytes : List ℕ) (at : ℕ) (text : List ℕ) : Type 0 where
  pub rest : List ℕ
  pub there : drop at bytes ≡ text ++ rest

-- a slot's window stands at a place, and the slot tells its size and the number of its events
pub record WindowAt (bytes : List ℕ) (at : ℕ) (s : Slot) : Type 0 where
  pub size : s.size ≡ span_size s.window.value
  pub count : s.count ≡ length s.window.value.changes
  pub there : Stands bytes at (window_bytes s.window.value)
  pub is : IsSpan s.window.value

-- the bytes from one place to another
abbrev pub between : List ℕ → ℕ → ℕ → List ℕ
between bytes from to = take (to - from) (drop from bytes)

-- bytes that await sending stand in the ring
pub record Awaiting (bytes : List ℕ) (p : Pending) : Type 0 where
  pub order : p.from ≤ p.to
  pub within : p.to ≤ length bytes

-- how many bytes of a reply were sent or await sending
abbrev pub passed : Pending → ℕ
passed p = p.done + (p.to - p.from)

-- what was sent, and what then awaits sending, is what awaited it before and a text behind it
pub record Moved (bytes : List ℕ) (old new : Told) (p q : Pending) (text : List ℕ) : Type 0 where
  pub sent : List ℕ
  pub sends : Sends old new p.done (Ok q.done) sent
  pub joined : sent ++ between bytes q.from q.to ≡ between bytes p.from p.to ++ text
  pub awaiting : Awaiting bytes q
  pub count : passed q ≡ passed p + length text

-- or a fault came on the way
abbrev pub Moves : List ℕ → Told → Told → Pending → Result Pending WriteFault → List ℕ → Type 0
Moves bytes old new p (Ok q) text = Moved bytes old new p q text
Moves bytes old new p (Err fault) text = Sends old new p.done (Err fault) (between bytes p.from p.to ++ text)
