-- Where windows stand in a ring, and which of them an index and their marks find.
use Rattle.std.proofs.Common.{◌≡◌, ℕ, zero, suc, ◌+◌, ◌-◌, ◌*◌, ◌%◌, ◌<◌, ◌≤◌, Bool, true, false, cond, eqb, List, [], ◌∷◌, ◌++◌, length, length-append, get_or, take, drop, Some, refl, sym, ap, subst, ◌∙◌, inl, inr, arith}
use Rattle.std.proofs.lemmas.Bool.{cases_lt, eqb-true, eq-eqb}
use Rattle.std.specs.Prelude.{slice_get}
use Rattle.std.specs.List.{Contains}
use Rattle.std.proofs.lemmas.List.{drop_at, take_all}
use Rattle.std.proofs.lemmas.List.Concat.{flat_map-append}
use Rattle.bus_types.specs.Window.{Span, IsSpan}
use Rattle.bus_types.specs.Timeline.{IsTimelineFrom, end_from, windows_between, total_size}
use Rattle.bus_types.specs.Relay.{sizes}
use Rattle.bus_types.proofs.Floors.{roomy_parts}
use Rattle.bus_types.proofs.Stretches.{Rises, rises_end, rises_all, rises_take, between_below}
use Rattle.circular_buffer.specs.Buffer.{Buffer}
use Rattle.event_codec.specs.Bytes.{window_bytes}
use Rattle.event_codec.specs.Streams.{windows_bytes}
use Rattle.plain_buffer.proofs.Evicting.{total_is}
use Rattle.scn_index.specs.Index.{Index, AreAbove, IsGreatest}
use Rattle.byte_ring.specs.declared.kept.Slot.{Slot}
use Rattle.byte_ring.specs.Kept.{Bytes, entries_of}
use Rattle.byte_ring.specs.Parts.{WindowAt}
use Rattle.byte_ring.specs.Slots.{windows_of, Tells, ArePlaced, IsKept}
use Rattle.byte_ring.proofs.Pushing.{bytes_long}

-- ---- where a window stands

-- a slot among others
record SlotAt (end i : ℕ) (slots : List Slot) (s : Slot) : Type 0 where
  before : List Span
  behind : List Slot
  parts : windows_of slots ≡ before ++ s.window.value ∷ windows_of behind
  tells : Tells end (total_size (windows_of behind)) s
  is : IsSpan s.window.value
  window : slice_get (windows_of slots) i ≡ Some s.window.value

slot_at : (end floor i : ℕ) (slots : List Slot) (s : Slot) → slice_get slots i ≡ Some s → ArePlaced end slots → IsTimelineFrom floor (windows_of slots) → SlotAt end i slots s
slot_at end floor i [] s e are t = absurd cc
slot_at end floor zero (v ∷ slots) s e are t =
    let same : v ≡ s = cc in
    subst (SlotAt end zero (v ∷ slots)) same (record { before = []; behind = slots; parts = refl; tells = are.0; is = t.0.within; window = refl })
slot_at end floor (suc i) (v ∷ slots) s e are t =
    let r = slot_at end v.window.value.scn i slots s e are.1 t.1 in
    record {
      before = v.window.value ∷ r.before;
      behind = r.behind;
      parts = ap (λ (x : List Span). v.window.value ∷ x) r.parts;
      tells = r.tells;
      is = r.is;
      window = r.window;
    }

-- its window stands where its bytes and those behind it are counted back from the end
pub record Found (circle : Bytes) (slots : Buffer Slot) (end i : ℕ) (s : Slot) : Type 0 where
  pub n : ℕ
  pub back : (s.begin + n) % 4294967296 ≡ end
  pub few : n < 4294967296
  pub within : n ≤ length circle.bytes
  pub there : (at : ℕ) → at ≡ length circle.bytes - n → WindowAt (windows_bytes (windows_of slots.items)) at s
  pub window : slice_get (windows_of slots.items) i ≡ Some s.window.value

pub found_of : (circle : Bytes) (slots : Buffer Slot) (floor end first : ℕ) (index : Index) (i : ℕ) (s : Slot) → IsKept circle slots floor end first index → slice_get slots.items i ≡ Some s → Found circle slots end i s
found_of circle slots floor end first index i s kept e =
    let r = slot_at end floor i slots.items s e kept.placed kept.timeline in
    let ws = windows_of slots.items in
    let w = s.window.value in
    let rest = windows_of r.behind in
    let n = s.size + total_size rest in
    let bytes : windows_bytes ws ≡ windows_bytes r.before ++ (window_bytes w ++ windows_bytes rest) = ap windows_bytes r.parts ∙ flat_map-append window_bytes r.before (w ∷ rest) in
    let long : length circle.bytes ≡ total_size ws = ap (λ (x : List ℕ). length x) kept.bytes ∙ bytes_long ws in
    let whole : total_size ws ≡ length (windows_bytes r.before) + n =
    sym (bytes_long ws) ∙ ap (λ (x : List ℕ). length x) bytes ∙ length-append (windows_bytes r.before) (windows_bytes (w ∷ rest)) ∙ ap (λ m. length (windows_bytes r.before) + m) (bytes_long (w ∷ rest) ∙ ap (λ m. m + total_size rest) (sym r.tells.size)) in
    let parts = roomy_parts (record { bytes = circle.room; windows = slots.capacity }) (sizes ws) kept.roomy in
    record {
      n = n;
      back = r.tells.place;
      few = omega (arith, whole, parts.1, total_is ws, kept.room.bytes.1);
      within = omega (arith, whole, long);
      there = λ at is. record {
        size = r.tells.size;
        count = r.tells.count;
        there = record {
          rest = windows_bytes rest;
          there =
              ap (drop at) bytes ∙ drop_at (windows_bytes r.before) (window_bytes w ++ windows_bytes rest) at (omega (arith, is, whole, long));
        };
        is = r.is;
      };
      window = r.window;
    }

-- ---- the windows after an SCN

-- a place behind windows at or below an SCN, whose own window is above it
pub place_found : (prev scn i : ℕ) (ws : List Span) → Rises prev ws → i < length ws → end_from prev (take i ws) ≤ scn → scn < end_from prev (take (suc i) ws) → drop i ws ≡ windows_between scn (end_from prev ws) ws
place_found prev scn i [] r lt low high = absurd (omega arith)
place_found prev scn zero (w ∷ ws) r lt low high =
    let above : scn < w.scn = high in
    let ends = rises_end w.scn ws r.1 in
    sym (rises_all scn scn (end_from w.scn ws) (w ∷ ws) (above, r.1) (omega arith) (omega arith))
place_found prev scn (suc i) (w ∷ ws) r lt low high =
    let front = rises_end w.scn (take i ws) (rises_take w.scn i ws r.1) in
    place_found w.scn scn i ws r.1 (omega arith) low high ∙ sym (between_below scn (end_from w.scn ws) w ws (omega arith))

-- a place behind windows at or below an SCN that is before their end
pub place_within : (prev scn i : ℕ) (ws : List Span) → i < length ws → end_from prev (take (suc i) ws) ≤ scn → scn < end_from prev ws → suc i < length ws
place_within prev scn i [] lt low high = absurd (omega arith)
place_within prev scn zero (w ∷ []) lt low high = absurd (omega (arith, low, high))
place_within prev scn zero (w ∷ v ∷ ws) lt low high = omega arith
place_within prev scn (suc i) (w ∷ ws) lt low high =
    let rest = place_within w.scn scn i ws (omega arith) low high in
    omega arith

-- there is a window where an SCN is before their end
pub some_window : (prev scn : ℕ) (ws : List Span) → prev ≤ scn → scn < end_from prev ws → 0 < length ws
some_window prev scn [] low high = absurd (omega (arith, low, high))
some_window prev scn (w ∷ ws) low high = omega arith

-- ---- the windows that an index has

-- an entry tells the SCN before a window, and its number
pub record Noted (n scn : ℕ) (ws : List Span) (e : ℕ × ℕ) : Type 0 where
  pub least : n ≤ e.1
  pub within : e.1 - n < length ws
  pub before : end_from scn (take (e.1 - n) ws) ≡ e.0
  pub sixteenth : e.1 % 16 ≡ 0

noted_later : (n scn : ℕ) (w : Span) (ws : List Span) (e : ℕ × ℕ) → Noted (n + 1) w.scn ws e → Noted n scn (w ∷ ws) e
noted_later n scn w ws e r =
    let more : e.1 - n ≡ suc (e.1 - (n + 1)) = omega (arith, r.least) in
    record {
      least = omega (arith, r.least);
      within = omega (arith, r.within, more);
      before = ap (λ k. end_from scn (take k (w ∷ ws))) more ∙ r.before;
      sixteenth = r.sixteenth;
    }

noted_first : (n scn : ℕ) (w : Span) (ws : List Span) → n % 16 ≡ 0 → Noted n scn (w ∷ ws) (scn, n)
noted_first n scn w ws is =
    let none : n - n ≡ 0 = omega arith in
    record {
      least = omega arith;
      within = omega (arith, none);
      before = ap (λ k. end_from scn (take k (w ∷ ws))) none;
      sixteenth = is;
    }

pub noted_at : (n scn k : ℕ) (ws : List Span) (e : ℕ × ℕ) → k < length (entries_of n scn ws) → get_or (entries_of n scn ws) k e ≡ e → Noted n scn ws e
noted_at n scn k [] e lt is = absurd (omega arith)
noted_at n scn k (w ∷ ws) e lt is = at (λ j l s. noted_at (n + 1) w.scn j ws e l s) (eqb (n % 16) 0) refl k lt is
  where
    at : ((j : ℕ) → j < length (entries_of (n + 1) w.scn ws) → get_or (entries_of (n + 1) w.scn ws) j e ≡ e → Noted (n + 1) w.scn ws e) → (b : Bool) → eqb (n % 16) 0 ≡ b → (j : ℕ) → j < length (cond b ((scn, n) ∷ []) [] ++ entries_of (n + 1) w.scn ws) → get_or (cond b ((scn, n) ∷ []) [] ++ entries_of (n + 1) w.scn ws) j e ≡ e → Noted n scn (w ∷ ws) e
    at later false t j l s = noted_later n scn w ws e (later j l s)
    at later true t zero l s = subst (Noted n scn (w ∷ ws)) s (noted_first n scn w ws (eqb-true (n % 16) 0 t))
    at later true t (suc j) l s = noted_later n scn w ws e (later j (omega arith) s)

-- an entry of an index
pub noted_of : (n scn : ℕ) (ws : List Span) (entries : List (ℕ × ℕ)) (e : ℕ × ℕ) → entries ≡ entries_of n scn ws → Contains entries e → Noted n scn ws e
noted_of n scn ws entries e same held = (let h = subst (λ (x : List (ℕ × ℕ)). Contains x e) same held in noted_at n scn h.0 ws e h.1 h.2)

-- ---- how near an entry is

-- later places end at greater SCNs
ends_rise : (prev i j : ℕ) (ws : List Span) → Rises prev ws → i < j → j ≤ length ws → end_from prev (take i ws) < end_from prev (take j ws)
ends_rise prev i zero ws r lt within = absurd (omega arith)
ends_rise prev i (suc j) [] r lt within = absurd (omega arith)
ends_rise prev zero (suc j) (w ∷ ws) r lt within =
    let rest = rises_end w.scn (take j ws) (rises_take w.scn j ws r.1) in
    omega (arith, r.0, rest)
ends_rise prev (suc i) (suc j) (w ∷ ws) r lt within = ends_rise w.scn i j ws r.1 (omega arith) (omega arith)

-- each sixteenth window has an entry
entry_here : (b : Bool) (e : ℕ × ℕ) (rest : List (ℕ × ℕ)) → b ≡ true → Contains (cond b (e ∷ []) [] ++ rest) e
entry_here true e rest t = (0, omega arith, refl)
entry_here false e rest t = absurd cc

entry_later : (b : Bool) (d e : ℕ × ℕ) (rest : List (ℕ × ℕ)) → Contains rest e → Contains (cond b (d ∷ []) [] ++ rest) e
entry_later true d e rest h = (suc h.0, omega (arith, h.1), h.2)
entry_later false d e rest h = h

entry_at : (n scn j : ℕ) (ws : List Span) → j < length ws → (n + j) % 16 ≡ 0 → Contains (entries_of n scn ws) (end_from scn (take j ws), n + j)
entry_at n scn j [] lt is = absurd (omega arith)
entry_at n scn zero (w ∷ ws) lt is =
    let same : n + 0 ≡ n = omega arith in
    let here = entry_here (eqb (n % 16) 0) (scn, n) (entries_of (n + 1) w.scn ws) (eq-eqb (n % 16) 0 (ap (λ m. m % 16) (sym same) ∙ is)) in
    subst (λ m. Contains (entries_of n scn (w ∷ ws)) (scn, m)) (sym same) here
entry_at n scn (suc j) (w ∷ ws) lt is =
    let same : (n + 1) + j ≡ n + suc j = omega arith in
    let rest = entry_at (n + 1) w.scn j ws (omega arith) (ap (λ m. m % 16) same ∙ is) in
    entry_later (eqb (n % 16) 0) (scn, n) (end_from w.scn (take j ws), n + suc j) (entries_of (n + 1) w.scn ws)
    (subst (λ m. Contains (entries_of (n + 1) w.scn ws) (end_from w.scn (take j ws), m)) same rest)

-- the sixteenth window from the one that was found on is above the SCN, where there is one
pub near_found : (n scn floor : ℕ) (ws : List Span) (entries : List (ℕ × ℕ)) (e : ℕ × ℕ) → entries ≡ entries_of n floor ws → Rises floor ws → scn < end_from floor ws → IsGreatest scn entries e
    → (e.1 - n) + 16 ≤ length ws → scn < end_from floor (take ((e.1 - n) + 16) ws)
near_found n scn floor ws entries e same r high g within =
    let f = noted_of n floor ws entries e same g.held in
    let k = e.1 - n in
    elim (cases_lt (k + 16) (length ws)) [
      | inr whole ↦ subst (λ (x : List Span). scn < end_from floor x) (sym (take_all (k + 16) ws whole)) high
      | inl less ↦ (
          let at : n + (k + 16) ≡ e.1 + 16 = omega (arith, f.least) in
          let sixteenth : (n + (k + 16)) % 16 ≡ 0 = omega (arith, at, f.sixteenth) in
          let next : ℕ × ℕ = (end_from floor (take (k + 16) ws), n + (k + 16)) in
          let held = subst (λ (x : List (ℕ × ℕ)). Contains x next) (sym same) (entry_at n floor (k + 16) ws less sixteenth) in
          elim (cases_lt scn (end_from floor (take (k + 16) ws))) [
            | inl above ↦ above
            | inr low ↦ (
                let first = ap (λ (x : ℕ × ℕ). x.0) held.2 in
                let most = g.greatest held.0 next held.1 (omega (arith, first, low)) in
                absurd (omega (arith, most, first, f.before, ends_rise floor k (k + 16) ws r (omega arith) within)))
          ])
    ]

-- where none was found, the sixteenth window of all is above the SCN, where there is one
pub near_none : (n scn floor : ℕ) (ws : List Span) (entries : List (ℕ × ℕ)) → entries ≡ entries_of n floor ws → Rises floor ws → AreAbove scn entries → 16 ≤ length ws → scn < end_from floor (take 16 ws)
near_none n scn floor ws entries same r above within =
    let k = (15 * n) % 16 in
    let sixteenth : (n + k) % 16 ≡ 0 = omega arith in
    let few : k < 16 = omega arith in
    let next : ℕ × ℕ = (end_from floor (take k ws), n + k) in
    let held = subst (λ (x : List (ℕ × ℕ)). Contains x next) (sym same) (entry_at n floor k ws (omega arith) sixteenth) in
    let first = ap (λ (x : ℕ × ℕ). x.0) held.2 in
    omega (arith, above held.0 next held.1, first, ends_rise floor k 16 ws r few within)
