-- What contracts see of a ring, and of the passes, the notes and the feeder that belong to it.
use Rattle.std.specs.Prelude.{◌≡◌, ℕ, ◌+◌, true, List, [], ◌∷◌, ◌++◌, length, drop, replicate, Option}
use Rattle.atomic_table.specs.Table.{Me}
use Rattle.atomic_table.specs.Seated.{TableId}
use Rattle.bus_types.specs.Window.{Span}
use Rattle.bus_types.specs.Relay.{IsRoom}
use Rattle.range_ring.specs.declared.words.Limits.{Limits}
use Rattle.range_ring.specs.declared.words.View.{View}
use Rattle.range_ring.specs.Words.{room_of}
use Rattle.range_ring.specs.Stocked.{StockIs, IsStocked, surplus_for}

-- a ring: its two words, which no other ring has, and its limits
pub record RingIs : Type 0 where
  pub table : TableId
  pub limits : Limits

-- a pass: its ring, the greatest numbers that it has seen, and how often it loaded each word
pub record PassIs : Type 0 where
  pub home : RingIs
  pub evicted : ℕ
  pub published : ℕ
  pub floor_loads : ℕ
  pub tail_loads : ℕ

-- a note of what a pass or the feeder has seen
pub record NoteIs : Type 0 where
  pub home : RingIs
  pub evicted : ℕ
  pub published : ℕ

-- passes that were not taken yet
pub record PassesAre : Type 0 where
  pub home : RingIs
  pub count : ℕ

-- a feeder: its ring, how many windows it evicted and published, and the sizes of those between
pub record FeederIs : Type 0 where
  pub home : RingIs
  pub evicted : ℕ
  pub published : ℕ
  pub sizes : List ℕ

abbrev pub fresh_pass : RingIs → PassIs
fresh_pass home = record { home = home; evicted = 0; published = 0; floor_loads = 0; tail_loads = 0 }

abbrev pub new_feeder : RingIs → FeederIs
new_feeder home = record { home = home; evicted = 0; published = 0; sizes = [] }

-- it publishes one more window, of this size, and evicts the fewest oldest ones that make it fit
abbrev pub published_by : FeederIs → ℕ → FeederIs
published_by f size = record f {
  evicted = f.evicted + surplus_for f.home.limits f.sizes size;
  published = f.published + 1;
  sizes = drop (surplus_for f.home.limits f.sizes size) (f.sizes ++ size ∷ []);
}

-- ---- the code's words

-- a seat is at a ring's words and holds nothing
pub record Sits (ring : RingIs) (id : TableId) (me : Me ℕ View) : Type 0 where
  pub same : id ≡ ring.table
  pub words : ring.table.words ≡ 2
  pub empty : me.1 ≡ []
  pub limits : me.0.limits ≡ ring.limits

-- a ring has two words, limits in their ranges, and a cell for each window
pub record IsRing (ring : RingIs) (cell_count window_count : ℕ) : Type 0 where
  pub words : ring.table.words ≡ 2
  pub room : IsRoom (room_of ring.limits)
  pub cells : cell_count ≡ ring.limits.windows
  pub windows : window_count ≡ ring.limits.windows

abbrev pub pass_of : TableId → View → PassIs
pass_of id v = record { home = record { table = id; limits = v.limits }; evicted = v.evicted; published = v.published; floor_loads = v.floor_loads; tail_loads = v.tail_loads }

abbrev pub note_of : TableId → View → NoteIs
note_of id v = record { home = record { table = id; limits = v.limits }; evicted = v.evicted; published = v.published }

-- the seat knows these numbers, and holds nothing
pub record Knows (me : Me ℕ View) (gone come : ℕ) : Type 0 where
  pub empty : me.1 ≡ []
  pub evicted : me.0.evicted ≡ gone
  pub published : me.0.published ≡ come

-- all passes that were not taken are fresh
pub record ArePasses (id : TableId) (me : Me ℕ View) (passes : List PassIs) : Type 0 where
  pub empty : me.1 ≡ []
  pub fresh : passes ≡ replicate (length passes) (fresh_pass (record { table = id; limits = me.0.limits }))

abbrev pub feeder_of : TableId → View → StockIs → FeederIs
feeder_of id v s = record { home = record { table = id; limits = v.limits }; evicted = s.evicted; published = s.published; sizes = s.sizes }

-- the feeder's seat knows what its stock has
pub record Feeds (timeline : Option (List Span)) (me : Me ℕ View) (stock : StockIs) : Type 0 where
  pub knows : Knows me stock.evicted stock.published
  pub limits : me.0.limits ≡ stock.limits
  pub feeds : me.0.feeds ≡ true
  pub stocked : IsStocked stock.limits timeline stock

-- a ring of these limits with a feeder that published nothing, and so many passes that have seen nothing
pub record IsNewRing (limits : Limits) (count : ℕ) (ring : RingIs) (feeder : FeederIs) (passes : PassesAre) : Type 0 where
  pub within : ring.limits ≡ limits
  pub feeder_new : feeder ≡ new_feeder ring
  pub passes_fresh : passes ≡ record { home = ring; count = count }
