-- Windows that a relay publishes one after the other, as a loop does.
use Rattle.std.proofs.Common.{◌≡◌, ℕ, zero, suc, ◌+◌, ◌<◌, ◌≤◌, List, [], ◌∷◌, length, get_or, take, drop, Some, refl, sym, ap, subst, ◌∙◌, add-one, arith}
use Rattle.std.specs.List.{slice_get}
use Rattle.std.proofs.lemmas.List.{take_all}
use Rattle.std.proofs.lemmas.Option.{slice_get_read, slice_get_within}
use Rattle.bus_types.specs.Window.{Span}
use Rattle.bus_types.specs.Timeline.{Follows, IsTimelineFrom, end_from, end_of, windows_between}
use Rattle.bus_types.specs.Relay.{Relay, StandsFor, published}
use Rattle.bus_types.proofs.Stretches.{Rises, follows_at, end_at, timeline_rises, rises_all, between_timeline, timeline-take}
use Rattle.bus_types.proofs.Floors.{stands_published, parted_at, rises_fore, between_fore}
use Rattle.bus_types.proofs.Feeding.{next_is}
use Rattle.source_db.specs.Queue.{Commits, waiting}
use Rattle.history_core.specs.Acting.{Publishes}

-- the first so many of some windows were published
pub record Published (windows : List Span) (count : ℕ) (old new : Relay) : Type 0 where
  pub room : new.room ≡ old.room
  pub tail : new.tail ≡ end_from old.tail (take count windows)
  pub stands : (ws : List Span) → StandsFor ws old → windows ≡ take (length windows) (windows_between old.tail (end_of ws) ws) → StandsFor ws new

published_none : (windows : List Span) (r : Relay) → Published windows 0 r r
published_none windows r = record { room = refl; tail = refl; stands = λ ws s e. s }

-- one more window was published
published_more : (windows : List Span) (i : ℕ) (old mid new : Relay) (w : Span) → IsTimelineFrom old.tail windows → i < length windows → w ≡ get_or windows i w → Published windows i old mid → new ≡ published mid w → Published windows (i + 1) old new
published_more windows i old mid new w c lt is p e =
    let at : slice_get windows i ≡ Some w = slice_get_read windows (length windows) i w refl lt is in
    record {
      room = ap (λ (r : Relay). r.room) e ∙ p.room;
      tail = ap (λ (r : Relay). r.tail) e ∙ sym (end_at old.tail i windows w at) ∙ ap (λ (n : ℕ). end_from old.tail (take n windows)) (sym (add-one i));
      stands = λ ws s next. subst (StandsFor ws) (sym e) (stands_published ws mid w (p.stands ws s next)
          (ap (λ (n : ℕ). windows_between n w.scn ws) p.tail ∙ next_is ws old.tail i windows w s.timeline c next lt is));
    }

-- all of them
published_all : (windows : List Span) (i : ℕ) (old new : Relay) → length windows ≤ i → Published windows i old new → Publishes windows old new
published_all windows i old new le p = record {
  room = p.room;
  tail = p.tail ∙ ap (end_from old.tail) (take_all i windows le);
  stands = p.stands;
}

-- ---- the source that they come from

-- of the next so many windows that waited in a source, the first ones were published, and wait no more
pub record Fed (count i : ℕ) (first now : Commits) (old new : Relay) : Type 0 where
  pub rest : waiting now ≡ drop i (waiting first)
  pub commits : now.windows ≡ first.windows
  pub at : now.passed ≡ new.tail
  pub run : Published (take count (waiting first)) i old new

pub fed_none : (count : ℕ) (first : Commits) (r : Relay) → first.passed ≡ r.tail → Fed count 0 first first r r
fed_none count first r at = record { rest = refl; commits = refl; at = at; run = published_none (take count (waiting first)) r }

at_drop : (i : ℕ) (ws : List Span) (w : Span) → slice_get (drop i ws) 0 ≡ Some w → slice_get ws i ≡ Some w
at_drop zero ws w e = e
at_drop (suc i) [] w e = absurd cc
at_drop (suc i) (v ∷ ws) w e = at_drop i ws w e

at_take : (n i : ℕ) (ws : List Span) (w : Span) → i < n → slice_get ws i ≡ Some w → slice_get (take n ws) i ≡ Some w
at_take zero i ws w lt e = absurd (omega arith)
at_take (suc n) i [] w lt e = e
at_take (suc n) zero (v ∷ ws) w lt e = e
at_take (suc n) (suc i) (v ∷ ws) w lt e = at_take n i ws w (omega arith) e

read_at : (i : ℕ) (ws : List Span) (w : Span) → slice_get ws i ≡ Some w → w ≡ get_or ws i w
read_at i [] w e = absurd cc
read_at zero (v ∷ ws) w e = sym (let same : v ≡ w = cc in same)
read_at (suc i) (v ∷ ws) w e = read_at i ws w e

drop_more : (i : ℕ) (ws : List Span) → drop 1 (drop i ws) ≡ drop (suc i) ws
drop_more zero ws = refl
drop_more (suc i) [] = refl
drop_more (suc i) (w ∷ ws) = drop_more i ws

first_end : (prev : ℕ) (ws : List Span) (w : Span) → slice_get ws 0 ≡ Some w → end_from prev (take 1 ws) ≡ w.scn
first_end prev [] w e = absurd cc
first_end prev (v ∷ ws) w e = ap (λ (u : Span). u.scn) (let same : v ≡ w = cc in same)

none_behind : (i : ℕ) (ws : List Span) → drop i ws ≡ [] → length ws ≤ i
none_behind zero [] e = omega arith
none_behind zero (w ∷ ws) e = absurd cc
none_behind (suc i) [] e = omega arith
none_behind (suc i) (w ∷ ws) e = let rest = none_behind i ws e in omega arith

take_short : (n : ℕ) (ws : List Span) → (length (take n ws) ≤ n) × (length (take n ws) ≤ length ws)
take_short zero ws = (omega arith, omega arith)
take_short (suc n) [] = (omega arith, omega arith)
take_short (suc n) (w ∷ ws) = let rest = take_short n ws in (omega arith, omega arith)

-- the window that waits next is the next one to publish
pub fed_next : (count i : ℕ) (first now : Commits) (old new : Relay) (w : Span) → i < count → slice_get (waiting now) 0 ≡ Some w → Fed count i first now old new → slice_get (take count (waiting first)) i ≡ Some w
fed_next count i first now old new w lt e f = at_take count i (waiting first) w lt (at_drop i (waiting first) w (ap (λ (l : List Span). slice_get l 0) (sym f.rest) ∙ e))

-- it follows what was published before
pub fed_follows : (count i : ℕ) (first now : Commits) (old new : Relay) (w : Span) → IsTimelineFrom old.tail (take count (waiting first)) → i < count → slice_get (waiting now) 0 ≡ Some w → Fed count i first now old new → Follows new.tail w
fed_follows count i first now old new w t lt e f =
    let run = take count (waiting first) in
    subst (λ (n : ℕ). Follows n w) (sym f.run.tail) (follows_at old.tail i run w t (fed_next count i first now old new w lt e f))

-- one more was published
pub fed_more : (count i : ℕ) (first now next : Commits) (old mid new : Relay) (w : Span) → IsTimelineFrom old.tail (take count (waiting first)) → i < count → slice_get (waiting now) 0 ≡ Some w → Fed count i first now old mid
    → new ≡ published mid w → next.windows ≡ now.windows → waiting next ≡ drop 1 (waiting now) → next.passed ≡ end_from now.passed (take 1 (waiting now)) → Fed count (i + 1) first next old new
fed_more count i first now next old mid new w t lt e f p commits waits passed =
    let run = take count (waiting first) in
    let at = fed_next count i first now old mid w lt e f in
    record {
      rest = waits ∙ ap (drop 1) f.rest ∙ drop_more i (waiting first) ∙ ap (λ n. drop n (waiting first)) (sym (add-one i));
      commits = commits ∙ f.commits;
      at = passed ∙ first_end now.passed (waiting now) w e ∙ sym (ap (λ (r : Relay). r.tail) p);
      run = published_more run i old mid new w t (slice_get_within run i w at) (read_at i run w at) f.run p;
    }

-- so many were published
pub fed_all : (count i : ℕ) (first now : Commits) (old new : Relay) → count ≤ i → Fed count i first now old new → Publishes (take count (waiting first)) old new
fed_all count i first now old new past f =
    let short = take_short count (waiting first) in
    published_all (take count (waiting first)) i old new (omega arith) f.run

-- or those there were
pub fed_out : (count i : ℕ) (first now : Commits) (old new : Relay) → waiting now ≡ [] → Fed count i first now old new → Publishes (take count (waiting first)) old new
fed_out count i first now old new none f =
    let short = take_short count (waiting first) in
    let past = none_behind i (waiting first) (sym f.rest ∙ none) in
    published_all (take count (waiting first)) i old new (omega arith) f.run

-- ---- the stretch that is fed

take_own : (n : ℕ) (ws : List Span) → take (length (take n ws)) ws ≡ take n ws
take_own zero ws = refl
take_own (suc n) [] = refl
take_own (suc n) (w ∷ ws) = ap (λ (l : List Span). w ∷ l) (take_own n ws)

-- the first of the windows that stand next
pub next_front : (ws : List Span) (tail count : ℕ) (windows : List Span) → windows ≡ take count (windows_between tail (end_of ws) ws) → windows ≡ take (length windows) (windows_between tail (end_of ws) ws)
next_front ws tail count windows e =
    let stretch : List Span = windows_between tail (end_of ws) ws in
    e ∙ sym (take_own count stretch) ∙ ap (λ (l : List Span). take (length l) stretch) (sym e)

-- the windows up to a relay's tail end there
tail_ends : (ws : List Span) (r : Relay) → StandsFor ws r → end_of (windows_between 0 r.tail ws) ≡ r.tail
tail_ends ws r h =
    let parts = parted_at 0 r.tail ws h.tail in
    let rising = subst (Rises 0) (sym parts.whole) (timeline_rises 0 ws h.timeline) in
    let front = rises_fore 0 parts.front parts.back rising in
    let upto : windows_between 0 r.tail ws ≡ parts.front =
    (λ i. windows_between 0 (sym parts.end i) (sym parts.whole i)) ∙ between_fore 0 0 parts.front parts.back rising ∙ rises_all 0 0 (end_from 0 parts.front) parts.front front (omega arith) (omega arith) in
    ap end_of upto ∙ parts.end

-- the windows that stand next follow the relay's newest one
pub next_follow : (ws : List Span) (r : Relay) (count : ℕ) (windows : List Span) → StandsFor ws r → windows ≡ take count (windows_between r.tail (end_of ws) ws) → IsTimelineFrom r.tail windows
next_follow ws r count windows h e =
    let all = between_timeline 0 r.tail (end_of ws) ws h.timeline in
    let from = subst (λ (n : ℕ). IsTimelineFrom n (windows_between r.tail (end_of ws) ws)) (tail_ends ws r h) all in
    subst (IsTimelineFrom r.tail) (sym e) (timeline-take r.tail count (windows_between r.tail (end_of ws) ws) from)
