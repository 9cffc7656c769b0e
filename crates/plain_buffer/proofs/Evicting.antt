-- Windows that are evicted from the front, one after the other.
use Rattle.std.proofs.Common.{◌≡◌, ℕ, ◌+◌, true, false, ◌&&◌, nat_le, List, [], ◌∷◌, length, take, drop, refl, sym, ap, subst, ◌∙◌}
use Rattle.std.proofs.lemmas.Bool.{both_ways}
use Rattle.std.proofs.lemmas.List.{length-map}
use Rattle.bus_types.specs.Window.{Span, span_size}
use Rattle.bus_types.specs.Timeline.{end_from, total_size}
use Rattle.bus_types.specs.Relay.{Room, sizes, sum_of, has_room, surplus}
use Rattle.bus_types.proofs.Floors.{roomy_none, surplus_nil, surplus_none, surplus_first}
use Rattle.plain_buffer.specs.Buffer.{Evicts}

-- the bytes of windows are the sum of their sizes
pub total_is : (ws : List Span) → sum_of (sizes ws) ≡ total_size ws
total_is [] = refl
total_is (w ∷ ws) = ap (λ n. span_size w + n) (total_is ws)

-- whether there is room, by the number of windows and their bytes
pub room_is : (room : Room) (ws : List Span) (count size : ℕ) → count ≡ length ws → size ≡ total_size ws → (nat_le count room.windows && nat_le size room.bytes) ≡ has_room room (sizes ws)
room_is room ws count size c s = λ i. nat_le ((c ∙ sym (length-map ws span_size)) i) room.windows && nat_le ((s ∙ sym (total_is ws)) i) room.bytes

surplus_is_none : (room : Room) (ws : List Span) → has_room room (sizes ws) ≡ true → surplus room (sizes ws) ≡ 0
surplus_is_none room [] h = surplus_nil room
surplus_is_none room (w ∷ ws) h = surplus_none room (span_size w) (sizes ws) h

-- where there is room, none is evicted
pub evicts_none : (room : Room) (floor : ℕ) (ws : List Span) (size : ℕ) → has_room room (sizes ws) ≡ true → size ≡ total_size ws → Evicts room floor ws ws size floor
evicts_none room floor ws size h s =
    let none = surplus_is_none room ws h in
    record {
      kept = ap (λ n. drop n ws) (sym none);
      behind = ap (λ n. end_from floor (take n ws)) (sym none);
      bytes = s;
    }

-- where there is none, the oldest window is evicted, and as many of the rest as have to
evicts_more : (room : Room) (floor : ℕ) (old new : List Span) (size end : ℕ) → has_room room (sizes old) ≡ false → Evicts room (end_from floor (take 1 old)) (drop 1 old) new size end → Evicts room floor old new size end
evicts_more room floor [] new size end h e = absurd (both_ways (has_room room []) h (roomy_none room))
evicts_more room floor (w ∷ ws) new size end h e =
    let first = surplus_first room (span_size w) (sizes ws) h in
    record {
      kept = e.kept ∙ ap (λ n. drop n (w ∷ ws)) (sym first);
      behind = e.behind ∙ ap (λ n. end_from floor (take n (w ∷ ws))) (sym first);
      bytes = e.bytes;
    }

-- the same, of a floor and windows that are those without the oldest
pub evicts_step : (room : Room) (floor next : ℕ) (old rest : List Span) → has_room room (sizes old) ≡ false → next ≡ end_from floor (take 1 old) → rest ≡ drop 1 old
    → (new : List Span) (size end : ℕ) → Evicts room next rest new size end → Evicts room floor old new size end
evicts_step room floor next old rest h n r new size end e =
    evicts_more room floor old new size end h (subst (λ m. Evicts room m (drop 1 old) new size end) n (subst (λ ws. Evicts room next ws new size end) r e))
