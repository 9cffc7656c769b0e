-- The sizes of the windows that a feeder has not evicted.
use Rattle.std.specs.Prelude.{◌≡◌, ℕ, ◌+◌, ◌≤◌, ◌^◌, true, List, [], ◌∷◌, ◌++◌, length, take, drop, Option, Some, None}
use Rattle.bus_types.specs.Window.{Span}
use Rattle.bus_types.specs.Relay.{IsRoom, sizes, has_room, surplus}
use Rattle.range_ring.specs.declared.words.Limits.{Limits}
use Rattle.range_ring.specs.Words.{room_of, evicted_at}

-- sizes, oldest first, and the most that there are
pub record SizesAre : Type 0 where
  pub most : ℕ
  pub sizes : List ℕ

-- how many windows were evicted and published, and the sizes of those between
pub record StockIs : Type 0 where
  pub limits : Limits
  pub evicted : ℕ
  pub published : ℕ
  pub sizes : List ℕ

abbrev pub new_stock : Limits → StockIs
new_stock limits = record { limits = limits; evicted = 0; published = 0; sizes = [] }

-- how many windows of these sizes are evicted for one of a size more
abbrev pub surplus_for : Limits → List ℕ → ℕ → ℕ
surplus_for limits xs size = surplus (room_of limits) (xs ++ size ∷ [])

-- one more window is published, and the fewest oldest ones are evicted that make it fit
abbrev pub grown : StockIs → ℕ → StockIs
grown s size = record s {
  evicted = s.evicted + surplus_for s.limits s.sizes size;
  published = s.published + 1;
  sizes = drop (surplus_for s.limits s.sizes size) (s.sizes ++ size ∷ []);
}

-- the sizes are those of the published windows that were not evicted, and there is room for them
pub record IsStock (s : StockIs) (bound : ℕ) : Type 0 where
  pub count : s.evicted + length s.sizes ≡ s.published
  pub fits : has_room (room_of s.limits) s.sizes ≡ true
  pub room : IsRoom (room_of s.limits)
  pub most : bound ≡ s.limits.windows
  pub small : s.published ≤ 2 ^ 63

-- where a timeline is told, they are of its windows, and no more were evicted than had to be
abbrev pub IsStocked : Limits → Option (List Span) → StockIs → Type 0
IsStocked limits None s = Unit {0}
IsStocked limits (Some windows) s = (s.evicted ≡ evicted_at limits windows s.published) × (s.sizes ≡ drop s.evicted (take s.published (sizes windows)))
