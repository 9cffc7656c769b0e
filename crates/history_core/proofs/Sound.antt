-- What each line leaves: the defined state and text, and a bus that works.
use Rattle.std.proofs.Common.{◌≡◌, ℕ, zero, suc, ◌<◌, ◌≤◌, Bool, true, false, cond, List, [], ◌∷◌, ◌++◌, length, length-append, get_or, take, ◌==◌, option_map, is_some, Option, Some, None, slice_set, refl, sym, ap, subst, ◌∙◌, arith}
use Rattle.std.specs.List.{AllByRecursion, slice_get}
use Rattle.std.proofs.lemmas.Bool.{eqb-false, lt-leb}
use Rattle.std.proofs.lemmas.List.{length-map, map-set, map-append}
use Rattle.std.proofs.lemmas.Option.{slice_get-map, slice_get_read}
use Rattle.bus_types.specs.declared.change.Change.{Change}
use Rattle.bus_types.specs.declared.window.WindowFault.{WindowFault}
use Rattle.bus_types.specs.declared.window.WindowFault.TheVariants.{BadScn, Empty as NoChange}
use Rattle.bus_types.specs.Change.{Test}
use Rattle.bus_types.specs.Window.{Span, bad_scn, cut_fault, window_fault, IsSpan}
use Rattle.bus_types.specs.Timeline.{Follows, end_from, end_of, windows_between}
use Rattle.bus_types.specs.Relay.{Relay, StandsFor, new_relay, answer_of, stream}
use Rattle.bus_types.proofs.Floors.{stands_fresh, stands_committed, stands_answers}
use Rattle.partition_filter.specs.Selection.{Selection, test_of}
use Rattle.bus_stores.specs.declared.keeper.Stop.{Stop}
use Rattle.bus_stores.specs.Memory.{MemoryStore}
use Rattle.bus_stores.specs.MemoryLog.{MemoryWindows}
use Rattle.bootstrap_core.specs.Boot.{BootParts}
use Rattle.checkpoint.specs.declared.mark.Mark.{Mark}
use Rattle.checkpoint.specs.declared.mark.Mark.TheVariants as marks
use Rattle.client_switch.specs.Moves.{question}
use Rattle.client_switch.specs.Moves.Wish.{NoWish}
use Rattle.client_switch.proofs.Growing.{good_stays}
use Rattle.trace_script.specs.declared.line.Line.{Line}
use Rattle.trace_script.specs.declared.line.Line.TheVariants.{Show, Sum}
use Rattle.trace_script.specs.Printed.{relay_line}
use Rattle.history_core.specs.Script.{Follower, State, floor, stream_line, shown, summed}
use Rattle.history_core.specs.Steps.{Step, place_of, at_name, with_consumer, most_consumers, most_commits, new_follower, next_window, fed, replied, after_reply, asked, looked_at, relay_step, consumer_step, commit_step, feed_step, stream_step, poll_step, crash_step, stop_step, show_step, sum_step}
use Rattle.history_core.specs.Bus.{MemberState, Parts, follower, followers, boot_numbers, state_of, IsHeaded, IsMember, IsBooted, IsSound, WasCalled, Calls}
use Rattle.history_core.specs.Acting.{IsWorking, Becomes, Polls, Shows, Sums, Publishes}
use Rattle.history_core.specs.Booting.{BootedAt}
use Rattle.history_core.proofs.Booted.{place_within, place_stays, booted_stays}

-- ---- lists

-- what holds of each element, under a weaker fact
all_weaker : {X : Type 0} (P Q : X → Type 0) (xs : List X) → ((x : X) → P x → Q x) → AllByRecursion P xs → AllByRecursion Q xs
all_weaker P Q [] f h = tt
all_weaker P Q (x ∷ xs) f h = (f x h.0, all_weaker P Q xs f h.1)

-- of one more element
all_push : {X : Type 0} (P : X → Type 0) (xs : List X) (x : X) → AllByRecursion P xs → P x → AllByRecursion P (xs ++ x ∷ [])
all_push P [] x h p = (p, tt)
all_push P (y ∷ ys) x h p = (h.0, all_push P ys x h.1 p)

-- of another element at a place
all_set : {X : Type 0} (P : X → Type 0) (xs : List X) (i : ℕ) (x : X) → AllByRecursion P xs → P x → AllByRecursion P (slice_set xs i x)
all_set P [] i x h p = tt
all_set P (y ∷ ys) zero x h p = (p, h.1)
all_set P (y ∷ ys) (suc i) x h p = (h.0, all_set P ys i x h.1 p)

-- of the element at a place
all_at : {X : Type 0} (P : X → Type 0) (xs : List X) (i : ℕ) (x : X) → slice_get xs i ≡ Some x → AllByRecursion P xs → P x
all_at P [] i x e h = absurd cc
all_at P (y ∷ ys) zero x e h = subst P (let same : y ≡ x = cc in same) h.0
all_at P (y ∷ ys) (suc i) x e h = all_at P ys i x e h.1

-- ---- windows

-- where there is no fault, the second test fails
not_empty : (bad none : Bool) (rest : Option WindowFault) → cond bad (Some BadScn) (cond none (Some NoChange) rest) ≡ None → none ≡ false
not_empty true none rest e = absurd (cc)
not_empty false true rest e = absurd (cc)
not_empty false false rest e = refl

-- a window without a fault that is chained to a last one follows it
pub window_follows : (last : ℕ) (w : Span) → w.prev ≡ last → window_fault w ≡ None → IsSpan w → Follows last w
window_follows last w p f s = record {
  chained = p;
  full = (let some = eqb-false (length w.changes) 0 (not_empty (bad_scn w) (length w.changes == 0) (cut_fault w) f) in omega arith);
  within = s;
}

-- what a relay has published is committed
pub tail_within : (ws : List Span) (r : Relay) → StandsFor ws r → r.tail ≤ end_of ws
tail_within ws r h = place_within r.tail ws h.timeline h.tail

-- where no line has come that isn't blank, it has published none
pub none_published : (b : Parts) → IsSound b → b.begun ≡ false → b.relay.tail ≡ 0
none_published b h fresh =
    let within = tail_within b.source b.relay h.relay in
    let ends : end_of b.source ≡ 0 = ap end_of (h.untouched fresh).0 in
    omega arith

-- ---- a bus that works

-- a bus with nothing, and a relay of some room
pub works_room : (b : Parts) (r : Relay) (bytes windows : ℕ) → IsSound b → b.begun ≡ false → r ≡ new_relay (record { bytes = bytes; windows = windows }) → IsWorking (record b { relay = r })
works_room b r bytes windows h fresh e =
    let none = h.untouched fresh in
    record { few = h.few; relay = rw (e, none.0) (stands_fresh [] (record { bytes = bytes; windows = windows }) tt); boot = h.boot; members = rw none.1 tt }

-- a bus with one more consumer
pub works_member : (b : Parts) (m : MemberState) (after : List MemberState) → IsSound b → after ≡ b.members ++ m ∷ [] → IsMember b.source m → IsWorking (record b { members = after })
works_member b m after h e member = record { few = h.few; relay = h.relay; boot = h.boot; members = rw e (all_push (IsMember b.source) b.members m h.members member) }

headed_stays : (ws : List Span) (w : Span) (mark : Mark) → IsHeaded ws mark → IsHeaded (ws ++ w ∷ []) mark
headed_stays ws w (marks.Online scn) h = tt
headed_stays ws w (marks.Delta since target cursor) h = tt
headed_stays ws w (marks.Snapshot since start top cursor) h = tt
headed_stays ws w (marks.Scanned since start top) h = tt
headed_stays ws w (marks.Catchup since start target at) h = place_stays target ws w h

-- a window that is committed leaves a consumer as it is
member_stays : (ws : List Span) (w : Span) → Follows (end_of ws) w → (m : MemberState) → IsMember ws m → IsMember (ws ++ w ∷ []) m
member_stays ws w f m h = record {
  runs = h.runs;
  sound = h.sound;
  stored = h.stored;
  good = good_stays ws w f (test_of m.client.filter) m.client.mark m.store.rows h.good;
  shown = h.shown;
  wished = h.wished;
  headed = headed_stays ws w m.client.mark h.headed;
}

-- a bus with one more window
pub works_commit : (b : Parts) (w : Span) (after : List Span) → IsSound b → length b.source < most_commits → Follows (end_of b.source) w → after ≡ b.source ++ w ∷ [] → IsWorking (record b { source = after })
works_commit b w after h few f e = record {
  few = rw e (omega (arith, length-append b.source (w ∷ [])));
  boot = rw e (booted_stays b.source w h.relay.timeline f b.boot h.boot);
  relay = rw e (stands_committed b.source b.relay w h.relay f);
  members = rw e (all_weaker (IsMember b.source) (IsMember (b.source ++ w ∷ [])) b.members (member_stays b.source w f) h.members);
}

-- a bus whose relay published more
pub works_feed : (b : Parts) (r : Relay) (windows : List Span) → IsSound b → windows ≡ take (length windows) (windows_between b.relay.tail (end_of b.source) b.source) → Publishes windows b.relay r → IsWorking (record b { relay = r })
works_feed b r windows h e p = record { few = h.few; relay = p.stands b.source h.relay e; boot = h.boot; members = h.members }

-- a bus with another consumer at a place
works_set : (b : Parts) (i : ℕ) (m : MemberState) → IsSound b → IsMember b.source m → IsWorking (record b { members = slice_set b.members i m })
works_set b i m h member = record { few = h.few; relay = h.relay; boot = h.boot; members = all_set (IsMember b.source) b.members i m h.members member }

-- ---- lines

-- a relay's room
pub roomed : (s next : State) (bytes windows : ℕ) (text : List ℕ) → s.begun ≡ false → next ≡ record s { room = record { bytes = bytes; windows = windows } } → text ≡ [] → relay_step s bytes windows ≡ Some (next, text)
unfolding relay_step
roomed s next bytes windows text fresh e t =
    ap (λ (b : Bool). cond {A = Step} b None (Some (record s { room = record { bytes = bytes; windows = windows } }, []))) fresh ∙ (λ i. Some (sym e i, sym t i))

-- the state of a bus with another relay that published nothing, where nothing was committed
pub roomed_state : (b : Parts) (r : Relay) (bytes windows : ℕ) → IsSound b → b.begun ≡ false → r ≡ new_relay (record { bytes = bytes; windows = windows }) → state_of (record b { relay = r }) ≡ record (state_of b) { room = record { bytes = bytes; windows = windows } }
roomed_state b r bytes windows h fresh e =
    let within = tail_within b.source b.relay h.relay in
    let ends : end_of b.source ≡ 0 = ap end_of (h.untouched fresh).0 in
    let none : 0 ≡ b.relay.tail = omega arith in
    (λ i. record { begun = b.begun; windows = b.source; room = (e i).room; end = (e i).tail; boot = boot_numbers b.boot; consumers = followers b.members })
    ∙ (λ i. record { begun = b.begun; windows = b.source; room = record { bytes = bytes; windows = windows }; end = none i; boot = boot_numbers b.boot; consumers = followers b.members })

-- a new consumer
pub declared : (b : Parts) (name : List ℕ) (filter : Selection) (m : MemberState) (after : List MemberState) (text : List ℕ) → is_some (place_of name (followers b.members)) ≡ false → length b.members < most_consumers → follower m ≡ new_follower name filter → after ≡ b.members ++ m ∷ [] → text ≡ [] → consumer_step (state_of b) name filter ≡ Some (state_of (record b { members = after }), text)
unfolding consumer_step
declared b name filter m after text p l f a t =
    let few = lt-leb most_consumers (length (followers b.members)) (rw (length-map b.members follower) l) in
    let all : followers after ≡ followers b.members ++ new_follower name filter ∷ [] = ap followers a ∙ map-append follower b.members (m ∷ []) ∙ ap (λ (c : Follower). followers b.members ++ c ∷ []) f in
    rw (p, few) (λ i. Some (record (state_of b) { consumers = sym all i }, sym t i))

-- a commit
pub committed : (s : State) (scn last : ℕ) (changes : List Change) (w : Span) (after : List Span) (text : List ℕ) → last ≡ end_of s.windows → w ≡ record { scn = scn; prev = last; changes = changes } → window_fault w ≡ None → length s.windows < most_commits → after ≡ s.windows ++ w ∷ [] → text ≡ [] → commit_step s scn changes ≡ Some (record s { windows = after }, text)
unfolding commit_step
committed s scn last changes w after text l e f c a t =
    let same : w ≡ next_window s scn changes = e ∙ ap (λ (p : ℕ). record { scn = scn; prev = p; changes = changes }) l in
    let fault = ap (λ (v : Span). is_some (window_fault v)) (sym same) ∙ ap is_some f in
    let few = lt-leb most_commits (length s.windows) c in
    let windows = ap (λ (v : Span). s.windows ++ v ∷ []) (sym same) ∙ sym a in
    rw (fault, few) (λ i. Some (record s { windows = windows i }, sym t i))

-- a feed
pub fed_on : (s next : State) (count : ℕ) (text : List ℕ) → next ≡ record s { end = fed s count } → text ≡ relay_line (floor next) next.end → feed_step s count ≡ Some (next, text)
unfolding feed_step
fed_on s next count text e t = λ i. Some (sym e i, (ap (λ (n : State). relay_line (floor n) n.end) (sym e) ∙ sym t) i)

-- the state of a bus whose relay published more
pub fed_state : (b : Parts) (r : Relay) (count : ℕ) (windows : List Span) → windows ≡ take count (windows_between b.relay.tail (end_of b.source) b.source) → Publishes windows b.relay r → state_of (record b { relay = r }) ≡ record (state_of b) { end = fed (state_of b) count }
fed_state b r count windows e p =
    let end : r.tail ≡ fed (state_of b) count = p.tail ∙ ap (end_from b.relay.tail) e in
    λ i. record { begun = b.begun; windows = b.source; room = p.room i; end = end i; boot = boot_numbers b.boot; consumers = followers b.members }

-- an ask of no consumer
pub streamed : (b : Parts) (scn : ℕ) (test : Test) (most : ℕ) (text : List ℕ) → StandsFor b.source b.relay → text ≡ stream_line (answer_of b.relay scn test most) → stream_step (state_of b) scn test most ≡ Some (state_of b, text)
unfolding stream_step
streamed b scn test most text h t =
    let line = ap stream_line (stands_answers b.source b.relay scn test most h ∙ (λ i. stream b.source (h.floor i) b.relay.tail scn test most)) in
    λ i. Some (state_of b, sym (t ∙ line) i)

-- a bus of which nothing has come
pub sound_new : (b : Parts) (bytes windows : ℕ) → b.source ≡ [] → b.relay ≡ new_relay (record { bytes = bytes; windows = windows }) → IsBooted [] b.boot → b.members ≡ [] → IsSound b
sound_new b bytes windows s r boot m = record {
  few = rw s (omega arith);
  relay = rw (s, r) (stands_fresh [] (record { bytes = bytes; windows = windows }) tt);
  boot = rw s boot;
  members = rw m tt;
  untouched = λ e. (s, m);
}

-- ---- lines that name a consumer

-- the consumer of this name stands at a place
pub record IsFoundAt (ms : List MemberState) (name : List ℕ) (i : ℕ) (m : MemberState) : Type 0 where
  pub place : Some i ≡ place_of name (followers ms)
  pub at : slice_get ms i ≡ Some m

pub found_at : (ms seen : List MemberState) (name said : List ℕ) (i : ℕ) (m : MemberState) → seen ≡ ms → said ≡ name → Some i ≡ place_of said (followers seen) → i < length seen → m ≡ get_or ms i m → IsFoundAt ms name i m
found_at ms seen name said i m s n place within is =
    let same = ap (λ (l : List MemberState). length l) s in
    record {
      place = place ∙ (λ j. place_of (n j) (followers (s j)));
      at = slice_get_read ms (length ms) i m refl (omega arith) is;
    }

-- the consumer there follows the source
pub member_at : (b : Parts) (name : List ℕ) (i : ℕ) (m : MemberState) → IsSound b → IsFoundAt b.members name i m → IsMember b.source m
member_at b name i m h f = all_at (IsMember b.source) b.members i m f.at h.members

-- a line did what is defined for it, and left a bus that works
abbrev Did : Step → Parts → List ℕ → Type 0
Did defined new text = (defined ≡ Some (state_of new, text)) × IsWorking new

-- the consumer there is another one now
changed_at : (b : Parts) (i : ℕ) (name : List ℕ) (act : ℕ → Follower → State × List ℕ) (m n : MemberState) (next : Follower) (text : List ℕ) → IsSound b → IsFoundAt b.members name i m → act i (follower m) ≡ (with_consumer (state_of b) i next, text) → Becomes b.source next n → Did (at_name (state_of b) name act) (record b { members = slice_set b.members i n }) text
changed_at b i name act m n next text h f is becomes =
    let place = f.place in
    let found : slice_get (followers b.members) i ≡ Some (follower m) = slice_get-map follower b.members i ∙ ap (option_map follower) f.at in
    let set : slice_set (followers b.members) i next ≡ followers (slice_set b.members i n) = ap (slice_set (followers b.members) i) (sym becomes.follows) ∙ sym (map-set follower b.members i n) in (
      rw (← place, found) (ap (λ (r : State × List ℕ). Some r) is ∙ (λ j. Some (record (state_of b) { consumers = set j }, text))),
      works_set b i n h becomes.member,
    )

pub crashed : (b : Parts) (i : ℕ) (name : List ℕ) (m n : MemberState) (text : List ℕ) → IsSound b → IsFoundAt b.members name i m → text ≡ [] → Becomes b.source (record (follower m) { wish = NoWish }) n → Did (crash_step (state_of b) name) (record b { members = slice_set b.members i n }) text
unfolding crash_step
crashed b i name m n text h f t becomes =
    let next : Follower = record (follower m) { wish = NoWish } in
    changed_at b i name (λ j c. (with_consumer (state_of b) j (record c { wish = NoWish }), [])) m n next text h f (λ j. (with_consumer (state_of b) i next, sym t j)) becomes

pub armed : (b : Parts) (i : ℕ) (name : List ℕ) (stop : Stop) (m n : MemberState) (text : List ℕ) → IsSound b → IsFoundAt b.members name i m → text ≡ [] → Becomes b.source (record (follower m) { armed = Some stop }) n → Did (stop_step (state_of b) name stop) (record b { members = slice_set b.members i n }) text
unfolding stop_step
armed b i name stop m n text h f t becomes =
    let next : Follower = record (follower m) { armed = Some stop } in
    changed_at b i name (λ j c. (with_consumer (state_of b) j (record c { armed = Some stop }), [])) m n next text h f (λ j. (with_consumer (state_of b) i next, sym t j)) becomes

-- the bootstrap is another one with the same numbers
works_boot : (b : Parts) (boot : BootParts MemoryWindows MemoryStore) → IsWorking b → BootedAt b.source (boot_numbers b.boot) boot → IsWorking (record b { boot = boot })
works_boot b boot h at = record { few = h.few; relay = h.relay; boot = at.booted; members = h.members }

pub polled : (b : Parts) (i : ℕ) (name : List ℕ) (most : ℕ) (m n : MemberState) (boot : BootParts MemoryWindows MemoryStore) (text : List ℕ) → IsSound b → IsFoundAt b.members name i m → Polls b.source b.relay (boot_numbers b.boot) most text m n
    → BootedAt b.source (boot_numbers b.boot) boot → Did (poll_step (state_of b) name most) (record b { boot = boot; members = slice_set b.members i n }) text
unfolding poll_step
polled b i name most m n boot text h f p at =
    let floors = h.relay.floor in
    let is : asked (state_of b) (follower m) most ≡ (follower n, text) =
    (λ j. after_reply (follower m) (replied b.source (sym floors j) b.relay.tail (boot_numbers b.boot) (test_of m.client.filter) (question m.client.mark m.client.wish most))) ∙ p.turn in
    let numbers = at.is in
    let did =
    changed_at b i name (λ j c. (with_consumer (state_of b) j (asked (state_of b) c most).0, (asked (state_of b) c most).1)) m n (follower n) text h f
    (λ j. (with_consumer (state_of b) i (is j).0, (is j).1)) (record { follows = refl; member = p.member }) in (
      did.0 ∙ (λ j. Some (record (state_of (record b { members = slice_set b.members i n })) { boot = sym numbers j }, text)),
      works_boot (record b { members = slice_set b.members i n }) boot did.1 at,
    )

pub seen : (b : Parts) (i : ℕ) (name : List ℕ) (m n : MemberState) (text : List ℕ) → IsSound b → IsFoundAt b.members name i m → Shows b.source m n text → Did (show_step (state_of b) name) (record b { members = slice_set b.members i n }) text
unfolding show_step
seen b i name m n text h f s =
    let next : Follower = looked_at m.client.mark (follower m) in
    let printed = s.printed in
    changed_at b i name (λ j c. (with_consumer (state_of b) j (looked_at c.mark c), shown b.source c c.mark)) m n next text h f (λ j. (with_consumer (state_of b) i next, sym printed j)) (record { follows = s.follows; member = s.member })

pub summed_at : (b : Parts) (i : ℕ) (name : List ℕ) (m n : MemberState) (text : List ℕ) → IsSound b → IsFoundAt b.members name i m → Sums b.source m n text → Did (sum_step (state_of b) name) (record b { members = slice_set b.members i n }) text
unfolding sum_step
summed_at b i name m n text h f s =
    let next : Follower = looked_at m.client.mark (follower m) in
    let printed = s.printed in
    changed_at b i name (λ j c. (with_consumer (state_of b) j (looked_at c.mark c), summed b.source c c.mark)) m n next text h f (λ j. (with_consumer (state_of b) i next, sym printed j)) (record { follows = s.follows; member = s.member })

-- what is set at a place stands there
set_there : (ms : List MemberState) (i : ℕ) (m n : MemberState) → slice_get ms i ≡ Some m → slice_get (slice_set ms i n) i ≡ Some n
set_there [] i m n at = absurd cc
set_there (x ∷ ms) zero m n at = refl
set_there (x ∷ ms) (suc i) m n at = set_there ms i m n at

-- its keeper was called
pub called_at : (ms : List MemberState) (name : List ℕ) (i : ℕ) (m n : MemberState) → IsFoundAt ms name i m → WasCalled m n → (j : ℕ) (old new : MemberState) → place_of name (followers ms) ≡ Some j → slice_get ms j ≡ Some old → slice_get (slice_set ms i n) j ≡ Some new → WasCalled old new
called_at ms name i m n f called j old new place at set =
    let same : i ≡ j = cc (f.place ∙ place) in
    let before : m ≡ old = cc (sym f.at ∙ ap (slice_get ms) same ∙ at) in
    let after : n ≡ new = cc (sym (set_there ms i m n f.at) ∙ ap (slice_get (slice_set ms i n)) same ∙ set) in
    subst (λ (x : MemberState). WasCalled x new) before (subst (λ (y : MemberState). WasCalled m y) after called)

-- what a line calls shows in the consumers alone
pub calls_same : (line : Line) (first b d : Parts) → d.members ≡ b.members → Calls line first b → Calls line first d
calls_same (Show name) first b d same h = λ i m n place at new. h i m n place at (ap (λ (ms : List MemberState). slice_get ms i) (sym same) ∙ new)
calls_same (Sum name) first b d same h = λ i m n place at new. h i m n place at (ap (λ (ms : List MemberState). slice_get ms i) (sym same) ∙ new)
calls_same line first b d same h = tt
