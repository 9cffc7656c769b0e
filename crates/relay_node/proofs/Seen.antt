-- What a pass sees of a ring on which all windows of a timeline were published.
use Rattle.std.proofs.Common.{◌≡◌, ℕ, ◌+◌, ◌≤◌, min, inl, inr, Bool, true, false, cond, nat_lt, nat_le, List, [], ◌∷◌, Option, Some, None, length, take, refl, sym, ap, ◌∙◌, subst, arith}
use Rattle.std.specs.Prelude.{IfSome}
use Rattle.std.proofs.Math.Nat.{min-eq_right}
use Rattle.std.proofs.lemmas.Bool.{cases_Bool, ltb-false}
use Rattle.std.proofs.Math.Seq.{take-length}
use Rattle.bus_types.specs.Change.{Test}
use Rattle.bus_types.specs.Window.{Span, span_size}
use Rattle.bus_types.specs.Timeline.{IsTimeline, IsTold, end_of, windows_between}
use Rattle.bus_types.specs.Cut.{cuts}
use Rattle.bus_types.specs.Relay.{Relay, Room, new_relay, Served, NotFound, Empty, TooSmall, Windows, most_windows, longest_run, stream, fitting, answer_of, floor_of}
use Rattle.bus_types.proofs.Floors.{floor_evicted, stands_answers}
use Rattle.range_ring.specs.declared.words.Limits.{Limits}
use Rattle.range_ring.specs.declared.opened.Opened.{Opened}
use Rattle.range_ring.specs.declared.opened.Opened.TheVariants as opened
use Rattle.range_ring.specs.Words.{room_of, evicted_at, IsEvicted}
use Rattle.range_ring.specs.Belonging.{RingIs, PassIs}
use Rattle.range_ring.specs.Answering.{scn_before, answer_at, HasLooked, IsLawful}
use Rattle.range_ring.specs.Opening.{Opens}
use Rattle.relay_node.specs.Feeding.{relay_after}
use Rattle.relay_node.specs.Passing.{SeesAll, floor_in, relay_told}
use Rattle.relay_node.proofs.Published.{relay_after-tail, relay_after-room}
use Rattle.relay_node.proofs.Timelines.{all_stand}

-- the relay of all windows
abbrev pub relay_of : Limits → List Span → Relay
relay_of limits ws = relay_after (new_relay (room_of limits)) ws

-- ---- the numbers

-- what a pass sees that met the feeder's note
pub sees_note : (told : Option (List Span)) (limits : Limits) (windows : List Span) (gone count : ℕ) → count ≡ length windows → IfSome told (λ all. windows ≡ all) → IsEvicted limits told count gone → SeesAll limits told gone count
sees_note None limits windows gone count is all evicted = tt
sees_note (Some ws) limits windows gone count is all evicted =
    let same : count ≡ length ws = is ∙ ap (λ (l : List Span). length l) all in
    (evicted ∙ ap (λ n. evicted_at limits ws n) same, same)

-- it sees the same where it looks again
pub sees_still : (told : Option (List Span)) (s t : PassIs) → SeesAll s.home.limits told s.evicted s.published → HasLooked s t → IsLawful told t → SeesAll s.home.limits told t.evicted t.published
sees_still None s t h looked lawful = tt
sees_still (Some ws) s t h looked lawful =
    let n = length ws in
    let count : t.published ≡ n = omega (arith, h.1, looked.published, lawful.seen.0) in
    let past : n ≤ t.published + 1 = omega (arith, count) in
    let last : min (t.published + 1) n ≡ n = min-eq_right past in
    let most : t.evicted ≤ evicted_at s.home.limits ws n =
    subst (λ m. t.evicted ≤ evicted_at s.home.limits ws m) last
    (subst (λ (q : RingIs). t.evicted ≤ evicted_at q.limits ws (min (t.published + 1) n)) looked.home lawful.seen.1) in
    (omega (arith, h.0, looked.evicted, most), count)

pub sees_at : (told : Option (List Span)) (ring : RingIs) (s t : PassIs) → s.home ≡ ring → SeesAll ring.limits told s.evicted s.published → HasLooked s t → IsLawful told t → SeesAll ring.limits told t.evicted t.published
sees_at told ring s t home sees looked lawful =
    subst (λ (q : RingIs). SeesAll q.limits told t.evicted t.published) home
    (sees_still told s t (subst (λ (q : RingIs). SeesAll q.limits told s.evicted s.published) (sym home) sees) looked lawful)

-- ---- the relay

tail_of : (limits : Limits) (ws : List Span) → (relay_of limits ws).tail ≡ end_of ws
tail_of limits ws = relay_after-tail (new_relay (room_of limits)) ws

floor_at : (limits : Limits) (ws : List Span) → IsTimeline ws → (relay_of limits ws).floor ≡ scn_before ws (evicted_at limits ws (length ws))
unfolding evicted_at
floor_at limits ws t =
    let r = relay_of limits ws in
    let whole : end_of (take (length ws) ws) ≡ end_of ws = ap end_of (take-length ws) in
    (all_stand (room_of limits) ws t).floor
    ∙ (λ i. floor_of (relay_after-room (new_relay (room_of limits)) ws i) ws (tail_of limits ws i))
    ∙ ap (floor_of (room_of limits) ws) (sym whole)
    ∙ floor_evicted (room_of limits) ws (length ws) t

-- what a ring answers is the relay's answer
pub answers_as : (limits : Limits) (ws : List Span) (gone count scn : ℕ) (test : Test) (max : ℕ) (answer : Served) → IsTimeline ws → SeesAll limits (Some ws) gone count → answer ≡ answer_at ws gone count scn test max
    → answer ≡ answer_of (relay_of limits ws) scn test max
answers_as limits ws gone count scn test max answer t sees is =
    let r = relay_of limits ws in
    let floor : r.floor ≡ scn_before ws gone = floor_at limits ws t ∙ ap (scn_before ws) (sym sees.0) in
    let tail : r.tail ≡ scn_before ws count = tail_of limits ws ∙ sym (ap end_of (take-length ws)) ∙ ap (scn_before ws) (sym sees.1) in
    is
    ∙ (λ i. stream ws (sym floor i) (sym tail i) scn test max)
    ∙ sym (stands_answers ws r scn test max (all_stand (room_of limits) ws t))

-- ---- the floor

-- the floor that an answer tells
abbrev pub told_floor : Served → ℕ
told_floor (NotFound floor) = floor
told_floor (Empty tail) = 0
told_floor (TooSmall need) = 0
told_floor (Windows ws) = 0

small_none : (b : Bool) (n : ℕ) (run : List Span) → told_floor (cond b (TooSmall n) (Windows run)) ≡ 0
small_none true n run = refl
small_none false n run = refl

fits_none : (max : ℕ) (ws : List Span) → told_floor (fitting max ws) ≡ 0
fits_none max [] = refl
fits_none max (w ∷ ws) = small_none (nat_lt max (span_size w)) (span_size w) (longest_run most_windows max (w ∷ ws))

empty_none : (b : Bool) (end : ℕ) (fits : Served) → told_floor fits ≡ 0 → told_floor (cond b (Empty end) fits) ≡ 0
empty_none true end fits h = refl
empty_none false end fits h = h

-- a relay tells its floor to who asks behind 0
stream_floor : (ws : List Span) (floor end : ℕ) (test : Test) (max : ℕ) → told_floor (stream ws floor end 0 test max) ≡ floor
stream_floor ws floor end test max =
    let fits : Served = fitting max (cuts test (windows_between 0 end ws)) in
    let rest : Served = cond (nat_le end 0) (Empty end) fits in
    elim (cases_Bool (nat_lt 0 floor)) [
      | inl h ↦ ap (λ (b : Bool). told_floor (cond b (NotFound floor) rest)) h
      | inr h ↦
          let low = ltb-false 0 floor h in
          let zero_is : 0 ≡ floor = omega (arith, low) in
          ap (λ (b : Bool). told_floor (cond b (NotFound floor) rest)) h ∙ empty_none (nat_le end 0) end fits (fits_none max (cuts test (windows_between 0 end ws))) ∙ zero_is
    ]

opens_floor : {T F : Type 0} (windows : List Span) (pass : PassIs) (test : Test) (max : ℕ) (filter : F) (found : Opened T F) → Opens (Some windows) pass 0 test max filter found
    → floor_in found ≡ told_floor (answer_at windows pass.evicted pass.published 0 test max)
opens_floor windows pass test max filter (opened.Range range) h = ap told_floor h.1.3
opens_floor windows pass test max filter (opened.NotFound floor) h = ap told_floor h.1
opens_floor windows pass test max filter (opened.Empty tail) h = ap told_floor h.1
opens_floor windows pass test max filter (opened.TooSmall need) h = ap told_floor h.1

pub finds_floor : {T F : Type 0} (told : Option (List Span)) (limits : Limits) (pass : PassIs) (test : Test) (max floor : ℕ) (filter : F) (found : Opened T F) → IsTold told → SeesAll limits told pass.evicted pass.published
    → Opens told pass 0 test max filter found → floor ≡ floor_in found → IfSome told (λ windows. floor ≡ (relay_of limits windows).floor)
finds_floor None limits pass test max floor filter found t sees h is = tt
finds_floor (Some ws) limits pass test max floor filter found t sees h is =
    let r = relay_of limits ws in
    is
    ∙ opens_floor ws pass test max filter found h
    ∙ ap told_floor (answers_as limits ws pass.evicted pass.published 0 test max _ t sees refl)
    ∙ stream_floor r.kept r.floor r.tail test max

-- ---- the relay that a pass sees

told_same : (room : Room) (ws : List Span) (floor tail : ℕ) → floor ≡ (relay_after (new_relay room) ws).floor → tail ≡ end_of ws → relay_told room (Some ws) floor tail ≡ relay_after (new_relay room) ws
told_same room ws floor tail f t =
    let r = relay_after (new_relay room) ws in
    let same_room : room ≡ r.room = sym (relay_after-room (new_relay room) ws) in
    let same_tail : tail ≡ r.tail = t ∙ sym (relay_after-tail (new_relay room) ws) in
    λ i. record { room = same_room i; floor = f i; tail = same_tail i; kept = r.kept }

pub relaying_is : (told : Option (List Span)) (limits : Limits) (floor tail : ℕ) → IfSome told (λ windows. floor ≡ (relay_of limits windows).floor) → IfSome told (λ windows. tail ≡ end_of windows)
    → IfSome told (λ windows. relay_told (room_of limits) told floor tail ≡ relay_of limits windows)
relaying_is None limits floor tail f t = tt
relaying_is (Some ws) limits floor tail f t = told_same (room_of limits) ws floor tail f t
