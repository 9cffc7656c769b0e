-- Windows that are evicted one after the other, so that there is room for one more.
use Rattle.std.proofs.Common.{◌≡◌, ℕ, ◌+◌, ◌<◌, ◌≤◌, Bool, true, false, ◌&&◌, nat_le, List, [], ◌∷◌, ◌++◌, length, length-append, take, drop, refl, sym, ap, subst, ◌∙◌, arith}
use Rattle.std.proofs.lemmas.Bool.{both_ways, le-leb}
use Rattle.bus_types.specs.Window.{Span, span_size, IsSpan}
use Rattle.bus_types.specs.Timeline.{end_from, total_size}
use Rattle.bus_types.specs.Relay.{Room, IsRoom, sizes, has_room, published}
use Rattle.bus_types.proofs.Floors.{roomy_from, surplus_first}
use Rattle.plain_buffer.proofs.Evicting.{room_is, evicts_none}
use Rattle.plain_buffer.proofs.Publishing.{total_more}
use Rattle.byte_ring.specs.Kept.{Holds, MakesRoom}

-- whether there is room for one more, by the numbers of windows and of bytes
pub room_more : (room : Room) (ws : List Span) (w : Span) (count bytes size : ℕ) → count ≡ length ws → bytes ≡ total_size ws → size ≡ span_size w → (nat_le (count + 1) room.windows && nat_le (bytes + size) room.bytes) ≡ has_room room (sizes (ws ++ w ∷ []))
room_more room ws w count bytes size c b s = room_is room (ws ++ w ∷ []) (count + 1) (bytes + size) (omega (arith, c, length-append ws (w ∷ []))) (omega (arith, b, s, total_more ws w))

-- the same, where there are slots enough
pub room_left : (room : Room) (ws : List Span) (w : Span) (count bytes size slots most : ℕ) → count + 1 ≤ slots → slots ≡ room.windows → most ≡ room.bytes → count ≡ length ws → bytes ≡ total_size ws → size ≡ span_size w → nat_le (bytes + size) most ≡ has_room room (sizes (ws ++ w ∷ []))
room_left room ws w count bytes size slots most le s m c b z =
    ap (nat_le (bytes + size)) m
    ∙ ap (λ (first : Bool). first && nat_le (bytes + size) room.bytes) (sym (le-leb (count + 1) room.windows (omega arith)))
    ∙ room_more room ws w count bytes size c b z

-- there is room for one window alone
pub room_alone : (room : Room) (ws : List Span) (w : Span) → IsRoom room → IsSpan w → has_room room (sizes (ws ++ w ∷ [])) ≡ false → 0 < length ws
room_alone room [] w is fits none = absurd (both_ways (has_room room (span_size w ∷ [])) none (roomy_from room (span_size w ∷ []) (omega (arith, is.windows.0)) (omega (arith, is.bytes.0, fits.size))))
room_alone room (v ∷ ws) w is fits none = omega arith

-- none is evicted
pub makes_none : (k : Holds) (w : Span) → has_room k.room (sizes (k.windows ++ w ∷ [])) ≡ true → MakesRoom k k w
makes_none k w h =
    let e = evicts_none k.room k.floor (k.windows ++ w ∷ []) (total_size (k.windows ++ w ∷ [])) h refl in
    record { room = refl; kept = e.kept; floor = e.behind; roomy = h; end = refl }

-- the oldest one is evicted, and as many of the rest as have to
pub makes_more : (k next new : Holds) (w : Span) → 0 < length k.windows → has_room k.room (sizes (k.windows ++ w ∷ [])) ≡ false → next ≡ record { room = k.room; floor = end_from k.floor (take 1 k.windows); windows = drop 1 k.windows } → MakesRoom next new w → MakesRoom k new w
makes_more k next new w some none e m = one k.room k.floor k.windows some none (subst (λ (n : Holds). MakesRoom n new w) e m)
  where
    one : (room : Room) (floor : ℕ) (ws : List Span) → 0 < length ws → has_room room (sizes (ws ++ w ∷ [])) ≡ false → MakesRoom (record { room = room; floor = end_from floor (take 1 ws); windows = drop 1 ws }) new w → MakesRoom (record { room = room; floor = floor; windows = ws }) new w
    one room floor [] s h r = absurd (omega arith)
    one room floor (v ∷ ws) s h r =
        let gone = surplus_first room (span_size v) (sizes (ws ++ w ∷ [])) h in
        record {
          room = r.room;
          kept = r.kept ∙ ap (λ n. drop n (v ∷ ws ++ w ∷ [])) (sym gone);
          floor = r.floor ∙ ap (λ n. end_from floor (take n (v ∷ ws ++ w ∷ []))) (sym gone);
          roomy = r.roomy;
          end = r.end;
        }

-- a relay that made room and took the window is the one that published it
pub published_of : (old mid new : Holds) (w : Span) (before tail : ℕ) → MakesRoom old mid w → new ≡ record { room = mid.room; floor = mid.floor; windows = mid.windows ++ w ∷ [] } → tail ≡ w.scn
    → record { room = new.room; floor = new.floor; tail = tail; kept = new.windows } ≡ published (record { room = old.room; floor = old.floor; tail = before; kept = old.windows }) w
published_of old mid new w before tail m e t =
    let room = ap (λ (k : Holds). k.room) e ∙ m.room in
    let floor = ap (λ (k : Holds). k.floor) e ∙ m.floor in
    let kept = ap (λ (k : Holds). k.windows) e ∙ m.kept in
    λ i. record { room = room i; floor = floor i; tail = t i; kept = kept i }
