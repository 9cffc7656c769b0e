-- A feeder that has published nothing.
use Rattle.std.proofs.Common.{◌≡◌, ℕ, List, [], ◌∷◌, take, drop, Option, Some, None, refl, sym, subst}
use Rattle.atomic_table.specs.Table.{Me}
use Rattle.bus_types.specs.Window.{Span}
use Rattle.bus_types.specs.Relay.{sizes}
use Rattle.range_ring.specs.declared.words.Limits.{Limits}
use Rattle.range_ring.specs.declared.words.View.{View}
use Rattle.range_ring.specs.Words.{feeding}
use Rattle.range_ring.specs.Stocked.{StockIs, new_stock, IsStocked}
use Rattle.range_ring.specs.Belonging.{Feeds}
use Rattle.range_ring.proofs.Evictions.{evicts_nothing}

nothing : (xs : List ℕ) → [] ≡ drop 0 (take 0 xs)
nothing [] = refl
nothing (x ∷ xs) = refl

starts : (limits : Limits) (told : Option (List Span)) → IsStocked limits told (new_stock limits)
starts limits None = tt
starts limits (Some ws) = (sym (evicts_nothing limits ws), nothing (sizes ws))

pub feeds_new : (limits : Limits) (told : Option (List Span)) (me : Me ℕ View) (stock : StockIs) → me ≡ (feeding limits, []) → stock ≡ new_stock limits → Feeds told me stock
feeds_new limits told me stock m s =
    subst (λ (x : Me ℕ View). Feeds told x stock) (sym m)
    (subst (λ (x : StockIs). Feeds told (feeding limits, []) x) (sym s) (record {
      knows = record { empty = refl; evicted = refl; published = refl };
      limits = refl;
      feeds = refl;
      stocked = starts limits told;
    }))
