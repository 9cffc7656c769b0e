-- What a ring answers at the numbers of windows that were evicted and published.
use Rattle.std.proofs.Common.{None, Option, ◌≡◌, ℕ, ◌+◌, ◌<◌, ◌≤◌, inl, inr, cond, nat_lt, nat_le, List, [], ◌∷◌, ◌++◌, append-nil, length, take, drop, Some, refl, sym, ap, subst, ◌∙◌, add-one, arith, take-append-drop}
use Rattle.std.specs.List.{slice_get}
use Rattle.std.proofs.lemmas.Bool.{cond-true, cond-false, lt-ltb, le-ltb, le-leb, lt-leb, cases_lt}
use Rattle.std.proofs.lemmas.List.{length-take-le, take-take, drop_more}
use Rattle.std.proofs.lemmas.Option.{slice_get_within, get_or_from_slice_get}
use Rattle.bus_types.specs.Change.{Test}
use Rattle.bus_types.specs.Window.{Span}
use Rattle.bus_types.specs.Timeline.{IsTimeline, IsTold, end_of, windows_between}
use Rattle.bus_types.specs.Cut.{cuts}
use Rattle.bus_types.specs.Relay.{Served, NotFound, Empty, fitting, stream}
use Rattle.bus_types.proofs.Stretches.{Rises, rises_take, rises_drop, rises_past, rises_before, rises_front_end, timeline_rises, between-append, between-split, between_is_part, between_upto_place, follows_at, end_at}
use Rattle.bus_types.proofs.Floors.{between-after}
use Rattle.range_ring.specs.Answering.{scn_before, windows_from, answer_at, IsNext, IsBefore, IsFirst, IsMissed, Misses}
use Rattle.range_ring.specs.declared.first.Miss.{Miss}
use Rattle.range_ring.specs.declared.first.Miss.TheVariants as misses
use Rattle.ring_cells.specs.Entries.{Held, IsEntry}

-- ---- positions and SCNs

pub before_is : (ws : List Span) (position : ℕ) (w : Span) → IsTimeline ws → slice_get ws position ≡ Some w → scn_before ws position ≡ w.prev
before_is ws position w t there = sym (follows_at 0 position ws w t there).chained

pub past_is : (ws : List Span) (position : ℕ) (w : Span) → slice_get ws position ≡ Some w → scn_before ws (position + 1) ≡ w.scn
past_is ws position w there = ap (scn_before ws) (add-one position) ∙ end_at 0 position ws w there

-- an earlier position has no later SCN
pub before_rises : (ws : List Span) (a b : ℕ) → IsTimeline ws → a ≤ b → scn_before ws a ≤ scn_before ws b
before_rises ws a b t le = subst (λ (front : List Span). end_of front ≤ scn_before ws b) (take-take a b ws le) (rises_front_end 0 a (take b ws) (rises_take 0 b ws (timeline_rises 0 ws t)))

-- the windows between two positions are those between their SCNs
pub part_is : (ws : List Span) (first past : ℕ) → IsTimeline ws → first ≤ past → past ≤ length ws → windows_between (scn_before ws first) (scn_before ws past) ws ≡ windows_from ws first past
part_is ws first past t le within =
    let low = ap length (between_upto_place 0 first ws t) ∙ length-take-le first ws (omega arith) in
    let high = ap length (between_upto_place 0 past ws t) ∙ length-take-le past ws within in
    between_is_part 0 (scn_before ws first) (scn_before ws past) ws t (before_rises ws first past t le) ∙ (λ i. drop (low i) (take (high i) ws))

-- ---- the answer

-- an answer by the windows between an SCN and the end
answered : ℕ → ℕ → ℕ → Test → ℕ → List Span → Served
answered floor end scn test max ws = cond (nat_lt scn floor) (NotFound floor) (cond (nat_le end scn) (Empty end) (fitting max (cuts test ws)))

pub alone : (ws : List Span) (evicted published scn : ℕ) (test : Test) (max : ℕ) → IsTimeline ws → evicted ≤ published → published ≤ length ws → answer_at ws evicted published scn test max ≡ stream (windows_from ws evicted published) (scn_before ws evicted) (scn_before ws published) scn test max
alone ws evicted published scn test max t le within =
    let floor = scn_before ws evicted in
    let end = scn_before ws published in
    let low = nat_lt scn floor in
    let kept = part_is ws evicted published t le within in
    let at : List Span → Served = λ xs. cond (nat_le end scn) (Empty end) (fitting max (cuts test (windows_between scn end xs))) in
    elim (cases_lt scn floor) [
      | inl below ↦
          cond-true low (NotFound floor) (at ws) (lt-ltb scn floor below)
          ∙ sym (cond-true low (NotFound floor) (at (windows_from ws evicted published)) (lt-ltb scn floor below))
      | inr above ↦
          cond-false low (NotFound floor) (at ws) (le-ltb scn floor above)
          ∙ ap (λ (xs : List Span). cond (nat_le end scn) (Empty end) (fitting max (cuts test xs))) (sym (between-after floor scn end ws above) ∙ ap (windows_between scn end) kept)
          ∙ sym (cond-false low (NotFound floor) (at (windows_from ws evicted published)) (le-ltb scn floor above))
    ]

pub not_found : (ws : List Span) (evicted published scn : ℕ) (test : Test) (max : ℕ) → scn < scn_before ws evicted → answer_at ws evicted published scn test max ≡ NotFound (scn_before ws evicted)
not_found ws evicted published scn test max below = cond-true (nat_lt scn (scn_before ws evicted)) _ _ (lt-ltb scn (scn_before ws evicted) below)

pub empty : (ws : List Span) (evicted published scn : ℕ) (test : Test) (max : ℕ) → scn_before ws evicted ≤ scn → scn_before ws published ≤ scn → answer_at ws evicted published scn test max ≡ Empty (scn_before ws published)
empty ws evicted published scn test max above past =
    cond-false (nat_lt scn (scn_before ws evicted)) _ _ (le-ltb scn (scn_before ws evicted) above)
    ∙ cond-true (nat_le (scn_before ws published) scn) _ _ (le-leb (scn_before ws published) scn past)

-- the windows up to an SCN that stands between a window and the one before it
upto_next : (ws : List Span) (scn position : ℕ) (w : Span) → IsTimeline ws → slice_get ws position ≡ Some w → w.prev ≤ scn → scn < w.scn → windows_between 0 scn ws ≡ take position ws
upto_next ws scn position w t there before after =
    let floor = scn_before ws position in
    let is = before_is ws position w t there in
    let rises = timeline_rises 0 ws t in
    let within = slice_get_within ws position w there in
    let head : drop position ws ≡ w ∷ drop (position + 1) ws = drop_more ws position w within ∙ ap (λ (v : Span). v ∷ drop (position + 1) ws) (get_or_from_slice_get ws position w w there) in
    let behind : Rises w.scn (drop (position + 1) ws) = subst (λ (n : ℕ). Rises n (drop (position + 1) ws)) (past_is ws position w there) (rises_drop 0 (position + 1) ws rises) in
    let back : windows_between floor scn (drop position ws) ≡ [] = ap (windows_between floor scn) head ∙ rises_before scn floor scn (w ∷ drop (position + 1) ws) (after, behind) (omega arith) in
    let front : windows_between floor scn (take position ws) ≡ [] = rises_past 0 floor scn (take position ws) (rises_take 0 position ws rises) (omega arith) in
    let none : windows_between floor scn ws ≡ [] =
    ap (windows_between floor scn) (sym (take-append-drop position ws)) ∙ between-append floor scn (take position ws) (drop position ws) ∙ (λ i. front i ++ back i) in
    between-split 0 0 floor scn ws t (omega arith) (omega arith) ∙ ap (λ (xs : List Span). xs ++ windows_between floor scn ws) (between_upto_place 0 position ws t) ∙ ap (λ (xs : List Span). take position ws ++ xs) none ∙ append-nil (take position ws)

pub next : (ws : List Span) (evicted published scn position : ℕ) (w : Span) (test : Test) (max : ℕ) → IsTimeline ws → published ≤ length ws → IsNext ws evicted published scn position w → answer_at ws evicted published scn test max ≡ fitting max (cuts test (windows_from ws position published))
next ws evicted published scn position w test max t within is =
    let order = is.low in
    let place = is.high in
    let before = is.before in
    let after = is.after in
    let floor = scn_before ws evicted in
    let end = scn_before ws published in
    let low = before_rises ws evicted position t order in
    let high = before_rises ws (position + 1) published t (omega arith) in
    let here = before_is ws position w t is.there in
    let past = past_is ws position w is.there in
    let left = ap length (upto_next ws scn position w t is.there is.before is.after) ∙ length-take-le position ws (omega arith) in
    let right = ap length (between_upto_place 0 published ws t) ∙ length-take-le published ws within in
    let run : windows_between scn end ws ≡ windows_from ws position published = between_is_part 0 scn end ws t (omega arith) ∙ (λ i. drop (left i) (take (right i) ws)) in
    cond-false (nat_lt scn floor) _ _ (le-ltb scn floor (omega arith))
    ∙ cond-false (nat_le end scn) _ _ (lt-leb end scn (omega arith))
    ∙ ap (λ (xs : List Span). fitting max (cuts test xs)) run

-- ---- shown windows

-- the SCN before the position of an entry, and the one behind it
pub entry_before : (told : Option (List Span)) (e : Held) (h : IsEntry told e) (position scn : ℕ) → IsTold told → e.position ≡ position → scn ≡ h.window.prev → IsBefore told position scn
entry_before None e h position scn t at is = tt
entry_before (Some ws) e h position scn t at is = is ∙ sym (before_is ws e.position h.window t h.told) ∙ ap (scn_before ws) at

pub entry_past : (told : Option (List Span)) (e : Held) (h : IsEntry told e) (position scn : ℕ) → IsTold told → e.position ≡ position → scn ≡ h.window.scn → IsBefore told (position + 1) scn
entry_past None e h position scn t at is = tt
entry_past (Some ws) e h position scn t at is = is ∙ sym (past_is ws e.position h.window h.told) ∙ ap (λ (n : ℕ). scn_before ws (n + 1)) at

pub none_before : (told : Option (List Span)) → IsBefore told 0 0
none_before None = tt
none_before (Some []) = refl
none_before (Some (w ∷ ws)) = refl

-- the answer from the entry that was found, or missed
pub found : (ws : List Span) (evicted published scn : ℕ) (e : Held) (test : Test) (max : ℕ) → IsTimeline ws → published ≤ length ws → IsFirst (Some ws) evicted published scn e → answer_at ws evicted published scn test max ≡ fitting max (cuts test (windows_from ws e.position published))
found ws evicted published scn e test max t within is =
    next ws evicted published scn e.position is.entry.window test max t within (record { low = is.low; high = is.high; there = is.entry.told; before = is.before; after = is.after })

not_found_is : (ws : List Span) (evicted published scn floor : ℕ) (test : Test) (max : ℕ) → scn < floor → floor ≡ scn_before ws evicted → answer_at ws evicted published scn test max ≡ NotFound floor
not_found_is ws evicted published scn floor test max below is = not_found ws evicted published scn test max (subst (λ (n : ℕ). scn < n) is below) ∙ ap NotFound (sym is)

empty_is : (ws : List Span) (evicted published scn tail : ℕ) (test : Test) (max : ℕ) → IsTimeline ws → evicted ≤ published → tail ≤ scn → tail ≡ scn_before ws published → answer_at ws evicted published scn test max ≡ Empty tail
empty_is ws evicted published scn tail test max t order past is =
    let low = before_rises ws evicted published t order in
    empty ws evicted published scn test max (omega arith) (omega arith) ∙ ap Empty (sym is)

pub missed : (ws : List Span) (evicted published scn : ℕ) (miss : Miss) (test : Test) (max : ℕ) → IsTimeline ws → evicted ≤ published → IsMissed (Some ws) evicted published scn miss → Misses miss (answer_at ws evicted published scn test max)
missed ws evicted published scn (misses.NotFound floor) test max t order h = not_found_is ws evicted published scn floor test max h.0 h.2
missed ws evicted published scn (misses.Empty tail) test max t order h = empty_is ws evicted published scn tail test max t order h.0 h.2
missed ws evicted published scn misses.Again test max t order h = tt
