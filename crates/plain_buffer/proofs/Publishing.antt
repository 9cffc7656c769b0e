-- A relay before and after it published a window.
use Rattle.std.proofs.Common.{◌≡◌, ℕ, ◌+◌, ◌<◌, ◌≤◌, true, List, [], ◌∷◌, ◌++◌, length, take, drop, take-append-drop, refl, sym, ap, subst, ◌∙◌, arith}
use Rattle.bus_types.specs.declared.limits.TheConstants.{MAX_SCN}
use Rattle.bus_types.specs.Window.{Span, span_size, IsSpan}
use Rattle.bus_types.specs.Timeline.{Follows, IsTimelineFrom, end_from, total_size}
use Rattle.bus_types.specs.Relay.{sizes, has_room, surplus, Relay, published}
use Rattle.bus_types.proofs.Stretches.{end_from-append, timeline-append, timeline-take, timeline-drop}
use Rattle.bus_types.proofs.Floors.{roomy_parts, surplus_roomy}
use Rattle.std.proofs.lemmas.List.{drop-map}
use Rattle.plain_buffer.specs.Buffer.{IsBuffer, Evicts}
use Rattle.plain_buffer.proofs.Evicting.{total_is}

-- the bytes of windows and of one more
pub total_more : (ws : List Span) (w : Span) → total_size (ws ++ w ∷ []) ≡ total_size ws + span_size w
total_more [] w = omega arith
total_more (v ∷ ws) w = omega (arith, total_more ws w)

-- the bytes that a relay keeps are within its room
pub bytes_within : (r : Relay) (size : ℕ) → IsBuffer r size → size ≤ 268435456
bytes_within r size b = omega (arith, b.bytes, sym (total_is r.kept), (roomy_parts r.room (sizes r.kept) b.roomy).1, b.room.bytes.1)

-- a relay that evicted what it had to is the one that published the window
pub published_is : (r : Relay) (w : Span) (all new : List Span) (floor size end tail : ℕ) → all ≡ r.kept ++ w ∷ [] → floor ≡ r.floor → tail ≡ w.scn → Evicts r.room floor all new size end
    → record { room = r.room; floor = end; tail = tail; kept = new } ≡ published r w
published_is r w all new floor size end tail a f t e =
    let gone : List Span → ℕ = λ ws. surplus r.room (sizes ws) in
    let kept = e.kept ∙ ap (λ ws. drop (gone ws) ws) a in
    let behind = e.behind ∙ (λ i. end_from (f i) (take (gone (a i)) (a i))) in
    λ i. record { room = r.room; floor = behind i; tail = t i; kept = kept i }

-- a timeline ends within the limit, if it begins there
end_within : (prev : ℕ) (ws : List Span) → prev ≤ MAX_SCN → IsTimelineFrom prev ws → end_from prev ws ≤ MAX_SCN
end_within prev [] low t = low
end_within prev (w ∷ ws) low t = end_within w.scn ws t.0.within.scn t.1

-- what holds of a relay's windows holds after it published one more
pub buffer_published : (r : Relay) (size : ℕ) (w : Span) → IsBuffer r size → w.prev ≡ r.tail → 0 < length w.changes → IsSpan w → IsBuffer (published r w) (total_size (published r w).kept)
buffer_published r size w b chained full within =
    let all = r.kept ++ w ∷ [] in
    let gone = surplus r.room (sizes all) in
    let follows : Follows (end_from r.floor r.kept) w = record { chained = chained ∙ b.tail; full = full; within = within } in
    let next = timeline-append r.floor r.kept w b.timeline follows in
    record {
      room = b.room;
      low = end_within r.floor (take gone all) b.low (timeline-take r.floor gone all next);
      high = within.scn;
      roomy = subst (λ xs. has_room r.room xs ≡ true) (drop-map span_size gone all) (surplus_roomy r.room (sizes all));
      timeline = timeline-drop r.floor gone all next;
      tail = sym (end_from-append r.floor r.kept (w ∷ [])) ∙ ap (end_from r.floor) (sym (take-append-drop gone all)) ∙ end_from-append r.floor (take gone all) (drop gone all);
      bytes = refl;
    }

-- the same, of what the relay is
pub buffer_after : (r now : Relay) (size bytes : ℕ) (w : Span) → IsBuffer r size → w.prev ≡ r.tail → 0 < length w.changes → IsSpan w → now ≡ published r w → bytes ≡ total_size now.kept → IsBuffer now bytes
buffer_after r now size bytes w b chained full within e s =
    subst (λ n. IsBuffer now n) (sym s) (subst (λ (q : Relay). IsBuffer q (total_size q.kept)) (sym e) (buffer_published r size w b chained full within))
