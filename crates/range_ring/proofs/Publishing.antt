-- A feeder publishes the next window of a told timeline.
use Rattle.std.proofs.Common.{◌≡◌, ℕ, ◌+◌, ◌<◌, ◌≤◌, max, List, [], ◌∷◌, ◌++◌, length, get_or, take, drop, Option, Some, None, refl, sym, ap, subst, ◌∙◌, arith}
use Rattle.std.specs.List.{slice_get}
use Rattle.std.proofs.lemmas.List.{take_more, drop-append-le, drop-drop, get_or-map, length-map}
use Rattle.std.proofs.Math.Nat.{max-eq_right}
use Rattle.std.proofs.lemmas.Option.{slice_get_within, get_or_from_slice_get}
use Rattle.bus_types.specs.Window.{Span, span_size}
use Rattle.bus_types.specs.Relay.{Room, sizes, surplus}
use Rattle.bus_types.proofs.Floors.{surplus_within, surplus_more}
use Rattle.event_codec.proofs.WindowBytes.{window_length}
use Rattle.ring_cells.specs.Entries.{Held, IsAt, IsEntry}
use Rattle.range_ring.specs.declared.words.Limits.{Limits}
use Rattle.range_ring.specs.declared.words.View.{View}
use Rattle.range_ring.specs.Words.{room_of, evicted_at, IsEvicted, MayEvict, MayPublish}
use Rattle.range_ring.specs.Stocked.{StockIs, surplus_for, grown, IsStocked}
use Rattle.range_ring.specs.Belonging.{FeederIs, Feeds, feeder_of, published_by}
use Rattle.atomic_table.specs.Table.{Me}
use Rattle.atomic_table.specs.Seated.{TableId}

-- an entry is as large as its window
pub entry_size : (told : Option (List Span)) (e : Held) (h : IsEntry told e) → length e.bytes ≡ span_size h.window
entry_size told e h = ap length h.spelled ∙ window_length h.window

pub entry_small : (told : Option (List Span)) (e : Held) → IsEntry told e → length e.bytes ≤ 1048576
entry_small told e h = let size = entry_size told e h in let small = h.within.size in omega arith

pub entry_early : (told : Option (List Span)) (e : Held) → IsEntry told e → e.position < 9223372036854775807
entry_early told e h = let below = h.below in let scn = h.within.scn in omega arith

-- the sizes of the windows published with the next one
one_more : (ws : List Span) (count size : ℕ) (window : Span) → slice_get ws count ≡ Some window → size ≡ span_size window → take (count + 1) (sizes ws) ≡ take count (sizes ws) ++ size ∷ []
one_more ws count size window there is =
    let within = slice_get_within ws count window there in
    let long = length-map ws span_size in
    let read : get_or (sizes ws) count size ≡ size = get_or-map span_size ws count window size within ∙ ap span_size (get_or_from_slice_get ws count window window there) ∙ sym is in
    take_more (sizes ws) count size (omega arith) ∙ ap (λ (n : ℕ). take count (sizes ws) ++ n ∷ []) read

record Grown (room : Room) (xs : List ℕ) (gone : ℕ) (kept : List ℕ) (size : ℕ) : Type 0 where
  count : surplus room (xs ++ size ∷ []) ≡ gone + surplus room (kept ++ size ∷ [])
  rest : drop (surplus room (kept ++ size ∷ [])) (kept ++ size ∷ []) ≡ drop (gone + surplus room (kept ++ size ∷ [])) (xs ++ size ∷ [])

grown_by : (room : Room) (xs : List ℕ) (gone : ℕ) (kept : List ℕ) (size : ℕ) → gone ≡ surplus room xs → kept ≡ drop gone xs → Grown room xs gone kept size
grown_by room xs gone kept size g k =
    let few : gone ≤ length xs = subst (λ (n : ℕ). n ≤ length xs) (sym g) (surplus_within room xs) in
    let behind : kept ++ size ∷ [] ≡ drop gone (xs ++ size ∷ []) = ap (λ (zs : List ℕ). zs ++ size ∷ []) k ∙ sym (drop-append-le gone xs (size ∷ []) few) in
    let more : surplus room (xs ++ size ∷ []) ≡ gone + surplus room (drop gone xs ++ size ∷ []) =
    subst (λ (n : ℕ). surplus room (xs ++ size ∷ []) ≡ n + surplus room (drop n xs ++ size ∷ [])) (sym g) (surplus_more room xs size) in
    record {
      count = more ∙ ap (λ (zs : List ℕ). gone + surplus room (zs ++ size ∷ [])) (sym k);
      rest = ap (drop (surplus room (kept ++ size ∷ []))) behind ∙ drop-drop (surplus room (kept ++ size ∷ [])) gone (xs ++ size ∷ []);
    }

-- where a timeline is told, the stock is of its windows still
pub stocked_next : (told : Option (List Span)) (s : StockIs) (size : ℕ) (window : Span) → IsStocked s.limits told s → IsAt told s.published window → size ≡ span_size window → IsStocked s.limits told (grown s size)
unfolding evicted_at
stocked_next None s size window h there is = tt
stocked_next (Some ws) s size window h there is =
    let next = one_more ws s.published size window there is in
    let more = grown_by (room_of s.limits) (take s.published (sizes ws)) s.evicted s.sizes size h.0 h.1 in
    (sym more.count ∙ ap (surplus (room_of s.limits)) (sym next), more.rest ∙ ap (drop (s.evicted + surplus_for s.limits s.sizes size)) (sym next))

-- what is evicted once the next window is published
pub evicted_next : (told : Option (List Span)) (s : StockIs) (size : ℕ) (window : Span) → IsStocked s.limits told s → IsAt told s.published window → size ≡ span_size window → IsEvicted s.limits told (s.published + 1) (s.evicted + surplus_for s.limits s.sizes size)
evicted_next None s size window h there is = tt
evicted_next (Some ws) s size window h there is = (stocked_next (Some ws) s size window h there is).0

pub evicted_now : (told : Option (List Span)) (s : StockIs) → IsStocked s.limits told s → IsEvicted s.limits told s.published s.evicted
evicted_now None s h = tt
evicted_now (Some ws) s h = h.0

entry_at : (told : Option (List Span)) (e : Held) (s : StockIs) (h : IsEntry told e) → e.position ≡ s.published → IsAt told s.published h.window
entry_at told e s h is = subst (λ (n : ℕ). IsAt told n h.window) is h.told

may_evict_at : (told : Option (List Span)) (v : View) (s : StockIs) (size : ℕ) (window : Span) → IsStocked s.limits told s → IsAt told s.published window → size ≡ span_size window → v.published ≡ s.published
    → s.evicted + surplus_for s.limits s.sizes size ≤ s.published → MayEvict s.limits told v (s.evicted + surplus_for s.limits s.sizes size)
may_evict_at None v s size window h there is same few = subst (λ (n : ℕ). s.evicted + surplus_for s.limits s.sizes size ≤ n) (sym same) few
may_evict_at (Some ws) v s size window h there is same few =
    let within = slice_get_within ws s.published window there in
    (omega arith, evicted_next (Some ws) s size window h there is ∙ ap (λ (n : ℕ). evicted_at s.limits ws (n + 1)) (sym same))

-- the feeder may evict for an entry that is next
pub may_evict : (told : Option (List Span)) (v : View) (s : StockIs) (e : Held) → IsEntry told e → e.position ≡ s.published → IsStocked s.limits told s → v.published ≡ s.published
    → s.evicted + surplus_for s.limits s.sizes (length e.bytes) ≤ s.published → MayEvict s.limits told v (s.evicted + surplus_for s.limits s.sizes (length e.bytes))
may_evict told v s e h is stocked same few = may_evict_at told v s (length e.bytes) h.window stocked (entry_at told e s h is) (entry_size told e h) same few

-- and once it has, it may publish it
pub may_publish : (limits : Limits) (told : Option (List Span)) (v w : View) (to : ℕ) → MayEvict limits told v to → w.published ≡ v.published → w.evicted ≡ to → MayPublish limits told w
may_publish limits None v w to may p e = tt
may_publish limits (Some ws) v w to may p e = (subst (λ (n : ℕ). n < length ws) (sym p) may.0, e ∙ may.1 ∙ ap (λ (n : ℕ). evicted_at limits ws (n + 1)) (sym p))

-- the stock behind an entry that was published
pub stocked_entry : (told : Option (List Span)) (s : StockIs) (e : Held) → IsEntry told e → e.position ≡ s.published → IsStocked s.limits told s → IsStocked s.limits told (grown s (length e.bytes))
stocked_entry told s e h is stocked = stocked_next told s (length e.bytes) h.window stocked (entry_at told e s h is) (entry_size told e h)

pub evicted_for : (told : Option (List Span)) (s : StockIs) (size : ℕ) (window : Span) (limits : Limits) (count result : ℕ) → IsStocked s.limits told s → s.limits ≡ limits → s.published ≡ count → result ≡ s.evicted + surplus_for s.limits s.sizes size
    → IsAt told count window → size ≡ span_size window → IsEvicted limits told (count + 1) result
evicted_for told s size window limits count result h l c r there is =
    let known = evicted_next told s size window h (subst (λ (n : ℕ). IsAt told n window) (sym c) there) is in
    subst (λ (n : ℕ). IsEvicted limits told (count + 1) n) (sym r)
    (subst (λ (n : ℕ). IsEvicted limits told (n + 1) (s.evicted + surplus_for s.limits s.sizes size)) c
    (subst (λ (x : Limits). IsEvicted x told (s.published + 1) (s.evicted + surplus_for s.limits s.sizes size)) l known))

-- what the feeder's seat knows once it has evicted and published
abbrev raised : Me ℕ View → ℕ → Me ℕ View
raised me to = (record me.0 { evicted = to; published = me.0.published + 1 }, [])

feeds_on : (told : Option (List Span)) (me : Me ℕ View) (s : StockIs) (e : Held) → IsEntry told e → e.position ≡ s.published → Feeds told me s → Feeds told (raised me (s.evicted + surplus_for s.limits s.sizes (length e.bytes))) (grown s (length e.bytes))
feeds_on told me s e h is feeds = record {
  knows = record { empty = refl; evicted = refl; published = ap (λ (n : ℕ). n + 1) feeds.knows.published };
  limits = feeds.limits;
  feeds = feeds.feeds;
  stocked = stocked_entry told s e h is feeds.stocked;
}

published_is : (id : TableId) (v w : View) (s : StockIs) (size : ℕ) → v.limits ≡ s.limits → w.limits ≡ v.limits → feeder_of id w (grown s size) ≡ published_by (feeder_of id v s) size
published_is id v w s size e same = λ i. record {
  home = record { table = id; limits = same i };
  evicted = s.evicted + surplus_for (sym e i) s.sizes size;
  published = s.published + 1;
  sizes = drop (surplus_for (sym e i) s.sizes size) (s.sizes ++ size ∷ []);
}

-- the same, of the words that the code has for them
pub evict_may : (told : Option (List Span)) (limits : Limits) (me : Me ℕ View) (s : StockIs) (e : Held) (bytes : List ℕ) (to : ℕ) → IsEntry told e → e.position ≡ s.published → Feeds told me s → bytes ≡ e.bytes → to ≡ s.evicted + surplus_for s.limits s.sizes (length bytes)
    → to ≤ s.published → s.limits ≡ limits → MayEvict limits told me.0 to
evict_may told limits me s e bytes to h next feeds read is few same =
    let value : to ≡ s.evicted + surplus_for s.limits s.sizes (length e.bytes) = is ∙ ap (λ (xs : List ℕ). s.evicted + surplus_for s.limits s.sizes (length xs)) read in
    let may = may_evict told me.0 s e h next feeds.stocked feeds.knows.published (subst (λ (n : ℕ). n ≤ s.published) value few) in
    subst (λ (l : Limits). MayEvict l told me.0 to) same (subst (λ (n : ℕ). MayEvict s.limits told me.0 n) (sym value) may)

pub publish_may : (told : Option (List Span)) (limits : Limits) (me new : Me ℕ View) (s : StockIs) (to : ℕ) → Feeds told me s → s.evicted ≤ to → MayEvict limits told me.0 to → new ≡ (record me.0 { evicted = max me.0.evicted to }, []) → MayPublish limits told new.0
publish_may told limits me new s to feeds le may is =
    let known = feeds.knows.evicted in
    may_publish limits told me.0 new.0 to may (ap (λ (m : Me ℕ View). m.0.published) is) (ap (λ (m : Me ℕ View). m.0.evicted) is ∙ max-eq_right (omega arith))

-- what the feeder's seat has become by its two steps
record Published (me mid new : Me ℕ View) (s after : StockIs) (e : Held) : Type 0 where
  seat : new ≡ raised me (s.evicted + surplus_for s.limits s.sizes (length e.bytes))
  stock : after ≡ grown s (length e.bytes)

by_steps : (me mid new : Me ℕ View) (s after : StockIs) (e : Held) (bytes : List ℕ) → bytes ≡ e.bytes → mid ≡ (record me.0 { evicted = s.evicted + surplus_for s.limits s.sizes (length e.bytes) }, []) → new ≡ (record mid.0 { published = mid.0.published + 1 }, [])
    → after ≡ grown s (length bytes) → Published me mid new s after e
by_steps me mid new s after e bytes read first second third = record {
  seat = second ∙ ap (λ (m : Me ℕ View). (record m.0 { published = m.0.published + 1 }, [])) first;
  stock = third ∙ ap (λ (xs : List ℕ). grown s (length xs)) read;
}

pub feeds_after : (told : Option (List Span)) (me mid new : Me ℕ View) (s after : StockIs) (e : Held) (bytes : List ℕ) → bytes ≡ e.bytes → mid ≡ (record me.0 { evicted = s.evicted + surplus_for s.limits s.sizes (length e.bytes) }, []) → new ≡ (record mid.0 { published = mid.0.published + 1 }, [])
    → after ≡ grown s (length bytes) → IsEntry told e → e.position ≡ s.published → Feeds told me s → Feeds told new after
feeds_after told me mid new s after e bytes read first second third h next feeds =
    let steps = by_steps me mid new s after e bytes read first second third in
    let on = feeds_on told me s e h next feeds in
    subst (λ (m : Me ℕ View). Feeds told m after) (sym steps.seat)
    (subst (λ (x : StockIs). Feeds told (raised me (s.evicted + surplus_for s.limits s.sizes (length e.bytes))) x) (sym steps.stock) on)

pub published_after : (told : Option (List Span)) (id now : TableId) (me mid new : Me ℕ View) (s after : StockIs) (e : Held) (bytes : List ℕ) (f : FeederIs) → bytes ≡ e.bytes → mid ≡ (record me.0 { evicted = s.evicted + surplus_for s.limits s.sizes (length e.bytes) }, []) → new ≡ (record mid.0 { published = mid.0.published + 1 }, [])
    → after ≡ grown s (length bytes) → Feeds told me s → now ≡ id → feeder_of id me.0 s ≡ f → feeder_of now new.0 after ≡ published_by f (length e.bytes)
published_after told id now me mid new s after e bytes f read first second third feeds same is =
    let steps = by_steps me mid new s after e bytes read first second third in
    (λ i. feeder_of (same i) (steps.seat i).0 (steps.stock i))
    ∙ published_is id me.0 (raised me (s.evicted + surplus_for s.limits s.sizes (length e.bytes))).0 s (length e.bytes) feeds.limits refl
    ∙ ap (λ (x : FeederIs). published_by x (length e.bytes)) is
