-- Windows that are published one after another.
use Rattle.std.proofs.Common.{◌≡◌, ℕ, suc, ◌+◌, ◌-◌, ◌<◌, ◌≤◌, cond, is_some, nat_le, List, [], ◌∷◌, ◌++◌, Option, Some, None, length, refl, sym, ap, ◌∙◌, subst, append_assoc, append-nil, arith}
use Rattle.std.specs.List.{slice_get}
use Rattle.std.proofs.lemmas.Bool.{lt-leb, le-ltb}
use Rattle.std.proofs.lemmas.List.{length-append}
use Rattle.bus_types.specs.declared.change.Change.{Change}
use Rattle.bus_types.specs.Window.{Span, IsSpan, window_fault}
use Rattle.bus_types.specs.Timeline.{end_from, end_of}
use Rattle.bus_types.specs.Relay.{Relay, published}
use Rattle.bus_types.proofs.Stretches.{end_from-append}
use Rattle.ring_cells.specs.Entries.{IsAt}
use Rattle.range_ring.specs.Belonging.{RingIs, FeederIs, published_by}
use Rattle.generated_windows.specs.Generated.{generated_window, after_window, generated}
use Rattle.trace_script.specs.declared.line.Line.{Line}
use Rattle.relay_node.specs.Feeding.{Given, most_windows, last_generated, commit_gives, gen_gives, line_gives, read_gives, relay_after}
use Rattle.relay_node.specs.Feeding.Given.{Windows, Bad}
use Rattle.relay_node.specs.Pieces.{Sent, sent_after, IsPublishing, BeginWith, StandNext, Publishes}

-- the newest window of a relay is the last one
pub relay_after-tail : (r : Relay) (ws : List Span) → (relay_after r ws).tail ≡ end_from r.tail ws
relay_after-tail r [] = refl
relay_after-tail r (w ∷ ws) = relay_after-tail (published r w) ws

-- its room stays
pub relay_after-room : (r : Relay) (ws : List Span) → (relay_after r ws).room ≡ r.room
relay_after-room r [] = refl
relay_after-room r (w ∷ ws) = relay_after-room (published r w) ws

-- windows behind others
pub sent_after-append : (s : Sent) (xs ys : List Span) → sent_after s (xs ++ ys) ≡ sent_after (sent_after s xs) ys
sent_after-append s xs ys = ap (λ (l : List Span). record s { windows = l }) (sym (append_assoc s.windows xs ys))

pub sent_after-none : (s : Sent) → sent_after s [] ≡ s
sent_after-none s = ap (λ (l : List Span). record s { windows = l }) (append-nil s.windows)

-- ---- where windows are told

get_behind : (front : List Span) (w : Span) (rest : List Span) → slice_get (front ++ w ∷ rest) (length front) ≡ Some w
get_behind [] w rest = refl
get_behind (x ∷ xs) w rest = get_behind xs w rest

-- the next window stands at its position
pub begin_at : (told : Option (List Span)) (front : List Span) (w : Span) (ws : List Span) → BeginWith told (front ++ w ∷ ws) → IsAt told (length front) w
begin_at None front w ws h = tt
begin_at (Some windows) front w ws h =
    ap (λ (l : List Span). slice_get l (length front)) (h.1 ∙ append_assoc front (w ∷ ws) h.0) ∙ get_behind front w (ws ++ h.0)

-- ---- one window

-- what a commit of this window gives
abbrev pub one_gives : ℕ → Span → Given
one_gives count w = cond (is_some (window_fault w)) Bad (cond (nat_le most_windows count) Bad (Windows (w ∷ [])))

one_given : (count : ℕ) (w : Span) → window_fault w ≡ None → count < most_windows → one_gives count w ≡ Windows (w ∷ [])
one_given count w none few = rw (none, lt-leb most_windows count few) refl

commit_given : (s : Sent) (last scn : ℕ) (changes : List Change) (w : Span) → last ≡ end_of s.windows → w ≡ record { scn = scn; prev = last; changes = changes } → window_fault w ≡ None → length s.windows < most_windows
    → commit_gives (end_of s.windows) (length s.windows) scn changes ≡ Windows (w ∷ [])
commit_given s last scn changes w l is none few =
    let same : w ≡ record { scn = scn; prev = end_of s.windows; changes = changes } = is ∙ ap (λ (n : ℕ). record { scn = scn; prev = n; changes = changes }) l in
    ap (one_gives (length s.windows)) (sym same) ∙ one_given (length s.windows) w none few

pub commit_published : (s s' : Sent) (last scn : ℕ) (changes : List Change) (w : Span) → last ≡ end_of s.windows → w ≡ record { scn = scn; prev = last; changes = changes } → window_fault w ≡ None → length s.windows < most_windows
    → s' ≡ sent_after s (w ∷ []) → Publishes (commit_gives (end_of s.windows) (length s.windows) scn changes) s s'
commit_published s s' last scn changes w l is none few p = record {
  windows = w ∷ [];
  is = commit_given s last scn changes w l is none few;
  sent = p;
}

-- where windows are told, it is the next one
pub commit_next : (told : Option (List Span)) (s : Sent) (last scn : ℕ) (changes : List Change) (w : Span) → last ≡ end_of s.windows → w ≡ record { scn = scn; prev = last; changes = changes } → window_fault w ≡ None → length s.windows < most_windows
    → StandNext told s (commit_gives (end_of s.windows) (length s.windows) scn changes) → IsAt told (length s.windows) w
commit_next told s last scn changes w l is none few h = begin_at told s.windows w [] (subst (StandNext told s) (commit_given s last scn changes w l is none few) h)

-- a line that was read
pub line_next : (told : Option (List Span)) (s : Sent) (last count : ℕ) (found : Option Line) (line : Line) → found ≡ Some line → StandNext told s (read_gives last count found) → StandNext told s (line_gives last count line)
line_next told s last count found line is h = subst (λ (f : Option Line). StandNext told s (read_gives last count f)) is h

-- no window is published by a blank one
pub blank_published : (s : Sent) → Publishes (Windows []) s s
blank_published s = record { windows = []; is = refl; sent = sym (sent_after-none s) }

-- ---- windows that are made

gen_given : (s : Sent) (seed more : ℕ) → end_of s.windows ≤ last_generated → length s.windows + more ≤ most_windows → gen_gives (end_of s.windows) (length s.windows) seed more ≡ Windows (generated more seed (end_of s.windows))
gen_given s seed more low few = rw (le-ltb last_generated (end_of s.windows) low, le-ltb most_windows (length s.windows + more) few) refl

pub gen_published : (s s' : Sent) (seed more : ℕ) → end_of s.windows ≤ last_generated → length s.windows + more ≤ most_windows → s' ≡ sent_after s (generated more seed (end_of s.windows))
    → Publishes (gen_gives (end_of s.windows) (length s.windows) seed more) s s'
gen_published s s' seed more low few p = record { windows = generated more seed (end_of s.windows); is = gen_given s seed more low few; sent = p }

pub gen_next : (told : Option (List Span)) (s : Sent) (seed more : ℕ) → end_of s.windows ≤ last_generated → length s.windows + more ≤ most_windows → StandNext told s (gen_gives (end_of s.windows) (length s.windows) seed more)
    → BeginWith told (s.windows ++ generated more seed (end_of s.windows))
gen_next told s seed more low few h = subst (StandNext told s) (gen_given s seed more low few) h

-- where a generator leads that still makes so many
abbrev pub made_on : Sent → ℕ → ℕ → Sent
made_on s n x = sent_after s (generated n x (end_of s.windows))

-- one window, and the others
made_first : (s : Sent) (x n : ℕ) → made_on s (suc n) x ≡ made_on (sent_after s (generated_window x (end_of s.windows) ∷ [])) n (after_window x)
unfolding generated_window
made_first s x n =
    let last = end_of s.windows in
    let w : Span = generated_window x last in
    let end : end_of (s.windows ++ w ∷ []) ≡ w.scn = end_from-append 0 s.windows (w ∷ []) in
    sent_after-append s (w ∷ []) (generated n (after_window x) w.scn)
    ∙ ap (λ (m : ℕ). sent_after (sent_after s (w ∷ [])) (generated n (after_window x) m)) (sym end)

-- one was published, and the others are still to be
pub made_more : (s s' all : Sent) (x i count : ℕ) (w : Span) → i < count → w ≡ generated_window x (end_of s.windows) → s' ≡ sent_after s (w ∷ []) → made_on s (count - i) x ≡ all → made_on s' (count - (i + 1)) (after_window x) ≡ all
made_more s s' all x i count w lt is p e =
    let n = count - (i + 1) in
    let left : count - i ≡ suc n = omega arith in
    ap (λ (q : Sent). made_on q n (after_window x)) (p ∙ ap (λ (v : Span). sent_after s (v ∷ [])) is)
    ∙ sym (made_first s x n)
    ∙ ap (λ m. made_on s m x) (sym left)
    ∙ e

-- where windows are told, it is the next one
pub made_next : (told : Option (List Span)) (s all : Sent) (x i count : ℕ) (w : Span) → i < count → w ≡ generated_window x (end_of s.windows) → made_on s (count - i) x ≡ all → BeginWith told all.windows → IsAt told (length s.windows) w
unfolding generated_window
made_next told s all x i count w lt is e h =
    let n = count - (i + 1) in
    let left : count - i ≡ suc n = omega arith in
    let v : Span = generated_window x (end_of s.windows) in
    let same : all.windows ≡ s.windows ++ v ∷ generated n (after_window x) v.scn = ap (λ (q : Sent). q.windows) (sym e) ∙ ap (λ m. s.windows ++ generated m x (end_of s.windows)) left in
    subst (IsAt told (length s.windows)) (sym is) (begin_at told s.windows v (generated n (after_window x) v.scn) (subst (BeginWith told) same h))

-- all were
pub made_all : (s all : Sent) (x i count : ℕ) → count ≤ i → made_on s (count - i) x ≡ all → s ≡ all
made_all s all x i count past e =
    let none : count - i ≡ 0 = omega arith in
    sym (sent_after-none s)
    ∙ ap (λ m. made_on s m x) (sym none)
    ∙ e

-- where they end then
pub made_near : (s s' : Sent) (w : Span) (last : ℕ) → last ≡ end_of s.windows → s' ≡ sent_after s (w ∷ []) → w.scn ≤ last + 3 → end_of s'.windows ≤ end_of s.windows + 3
made_near s s' w last is p near =
    let tail : end_of s'.windows ≡ w.scn = ap (λ (q : Sent). end_of q.windows) p ∙ end_from-append 0 s.windows (w ∷ []) in
    omega (arith, is, near, tail)

-- ---- a publisher

-- the position of the next window is below its SCN
pub position_below : (home : RingIs) (feeder : FeederIs) (tail : ℕ) (past : List Span) (w : Span) → IsPublishing home feeder tail past → w.prev ≡ end_of past → IsSpan w → feeder.published < w.scn
position_below home feeder tail past w h chained within =
    let count = h.count in
    let few = h.few in
    let end = h.end in
    let above = within.prev in
    omega (arith, count, few, end, chained, above)

-- one more window was published
pub publishing_more : (home : RingIs) (feeder after : FeederIs) (tail scn size : ℕ) (past : List Span) (w : Span) → IsPublishing home feeder tail past → w.prev ≡ end_of past → IsSpan w → after ≡ published_by feeder size → scn ≡ w.scn
    → IsPublishing home after scn (past ++ w ∷ [])
publishing_more home feeder after tail scn size past w h chained within is end =
    let count : after.published ≡ feeder.published + 1 = ap (λ (f : FeederIs). f.published) is in
    let long : length (past ++ w ∷ []) ≡ length past + 1 = length-append past (w ∷ []) in
    let below = position_below home feeder tail past w h chained within in
    let old = h.count in
    record {
      same = ap (λ (f : FeederIs). f.home) is ∙ h.same;
      count = omega (arith, count, long, old);
      end = end ∙ sym (end_from-append 0 past (w ∷ []));
      few = omega (arith, long, old, below, end);
    }
