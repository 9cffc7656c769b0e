-- The windows of a range, written one after another, part by part.
use Rattle.std.proofs.Common.{◌≡◌, ℕ, ◌+◌, ◌<◌, ◌≤◌, inl, inr, List, [], ◌∷◌, ◌++◌, append-nil, append_assoc, length, length-append, take, drop, get_or, Option, Some, refl, sym, ap, subst, ◌∙◌, arith}
use Rattle.std.specs.List.{slice_get}
use Rattle.std.proofs.lemmas.Bool.{cond-true, cond-false, cases_Bool}
use Rattle.std.proofs.lemmas.List.{take_more, take-append-drop, length-drop, take_all}
use Rattle.std.proofs.lemmas.Option.{slice_get-get_or, get_or_from_slice_get}
use Rattle.bus_types.specs.declared.change.Key.{Key}
use Rattle.bus_types.specs.declared.change.Key.TheVariants.{Long}
use Rattle.bus_types.specs.declared.change.Change.{Change}
use Rattle.bus_types.specs.Change.{Test, head_size}
use Rattle.bus_types.specs.Window.{Span}
use Rattle.bus_types.specs.Timeline.{total_size}
use Rattle.bus_types.specs.Cut.{cut, cuts}
use Rattle.event_codec.specs.Bytes.{event_bytes, changes_bytes, mark_bytes, window_bytes}
use Rattle.event_codec.specs.Streams.{windows_bytes}
use Rattle.event_codec.specs.Parsing.{AreWindows, others_of}
use Rattle.event_codec.proofs.WindowBytes.{window_length}
use Rattle.event_codec.proofs.EventBytes.{event_length}
use Rattle.ring_cells.specs.Entries.{Held}
use Rattle.range_ring.specs.Ranges.{HoldAll, IsRange}
use Rattle.range_ring.specs.Parts.{bytes_at, from_accepted, from_refused, behind_part, IsPlace, IsPart}
use Rattle.range_ring.proofs.Lending.{as_many, held_whole}
use Rattle.bus_http.specs.Replies.{reply_head}
use Rattle.bus_http.specs.Talks.{reply_text}
use Rattle.bus_http.specs.Sent.{WroteFront}
use Rattle.std.specs.Io.KnownBytes.{Appends}
use Rattle.std.proofs.KnownBytes.{Appends-trans}
use Rattle.bus_http.proofs.Sendings.{nothing, first_part, second_part}

-- ---- what is left behind a part is shorter than what was left

key_some : (k : Key) → 0 < head_size k
key_some (Long k) = omega arith

refused_less : (test : Test) (n : ℕ) (cs : List Change) → length (changes_bytes n (from_refused test cs)) ≤ length (changes_bytes n cs)
refused_less test n [] = omega arith
refused_less test n (c ∷ cs) =
    let b = test c.source c.key in
    let e = event_bytes (record { scn = n; change = c }) in
    elim (cases_Bool b) [
      | inl t ↦ omega (arith, ap (λ (ds : List Change). length (changes_bytes n ds)) (cond-true b (from_refused test cs) (c ∷ cs) t), refused_less test n cs, length-append e (changes_bytes n cs))
      | inr f ↦ omega (arith, ap (λ (ds : List Change). length (changes_bytes n ds)) (cond-false b (from_refused test cs) (c ∷ cs) f))
    ]

accepted_less : (test : Test) (n : ℕ) (cs : List Change) → length (changes_bytes n (from_accepted test cs)) ≤ length (changes_bytes n cs)
accepted_less test n [] = omega arith
accepted_less test n (c ∷ cs) =
    let b = test c.source c.key in
    let e = event_bytes (record { scn = n; change = c }) in
    elim (cases_Bool b) [
      | inl t ↦ omega (arith, ap (λ (ds : List Change). length (changes_bytes n ds)) (cond-true b (c ∷ cs) (from_accepted test cs) t))
      | inr f ↦ omega (arith, ap (λ (ds : List Change). length (changes_bytes n ds)) (cond-false b (c ∷ cs) (from_accepted test cs) f), accepted_less test n cs, length-append e (changes_bytes n cs))
    ]

behind_less : (test : Test) (n : ℕ) (cs : List Change) → 0 < length (from_refused test (from_accepted test cs)) → length (changes_bytes n (from_refused test (from_accepted test cs))) < length (changes_bytes n cs)
behind_less test n [] some = absurd (omega (arith, some))
behind_less test n (c ∷ cs) some =
    let b = test c.source c.key in
    let e = event_bytes (record { scn = n; change = c }) in
    let size = event_length (record { scn = n; change = c }) in
    let long = length-append e (changes_bytes n cs) in
    elim (cases_Bool b) [
      | inl t ↦
          omega (
            arith,
            ap (λ (ds : List Change). length (changes_bytes n (from_refused test ds))) (cond-true b (c ∷ cs) (from_accepted test cs) t),
            ap (λ (ds : List Change). length (changes_bytes n ds)) (cond-true b (from_refused test cs) (c ∷ cs) t),
            refused_less test n cs,
            long,
            size,
            key_some c.key,
          )
      | inr f ↦
          omega (
            arith,
            ap (λ (ds : List Change). length (changes_bytes n (from_refused test ds))) (cond-false b (c ∷ cs) (from_accepted test cs) f),
            refused_less test n (from_accepted test cs),
            accepted_less test n cs,
            long,
            size,
            key_some c.key,
          )
    ]

others_less : (n p : ℕ) (old new : List Change) (ws : List Span) → (0 < length new → length (changes_bytes n new) < length (changes_bytes n old))
    → length (windows_bytes (others_of new (record { scn = n; prev = p; changes = new }) ws)) < length (windows_bytes (record { scn = n; prev = p; changes = old } ∷ ws))
others_less n p old [] ws less =
    let w : Span = record { scn = n; prev = p; changes = old } in
    omega (arith, length-append (window_bytes w) (windows_bytes ws), window_length w)
others_less n p old (c ∷ cs) ws less =
    let w : Span = record { scn = n; prev = p; changes = old } in
    let v : Span = record { scn = n; prev = p; changes = c ∷ cs } in
    omega (
      arith,
      less (omega arith),
      length-append (window_bytes w) (windows_bytes ws),
      length-append (window_bytes v) (windows_bytes ws),
      length-append (changes_bytes n old) (mark_bytes n p),
      length-append (changes_bytes n (c ∷ cs)) (mark_bytes n p),
    )

part_less : (test : Test) (items : List Span) → 0 < length items → length (windows_bytes (behind_part test items)) < length (windows_bytes items)
part_less test [] some = absurd (omega (arith, some))
part_less test (w ∷ ws) some = others_less w.scn w.prev w.changes (from_refused test (from_accepted test w.changes)) ws (behind_less test w.scn w.changes)

-- the place behind a part is a later one
pub place_later : (test : Test) (whole bytes : List ℕ) (place next : ℕ) → IsPlace whole place → ((items : List Span) → AreWindows items (drop place whole) → IsPart test whole items bytes next) → place < next
place_later test whole bytes place next at part =
    let items = at.items.0 in
    let is = part items at.items.1 in
    omega (
      arith,
      at.within,
      is.within,
      part_less test items is.some,
      ap length at.items.1.spelled,
      ap length is.left.spelled,
      length-drop place whole,
      length-drop next whole,
    )

-- ---- the parts of a window

-- of items so much was written, and these are left at a place
pub record PartsSent (test : Test) (whole : List ℕ) (old new : Option (List ℕ)) (items : List Span) (place : ℕ) : Type 0 where
  pub left : List Span
  pub are : AreWindows left (drop place whole)
  pub done : List ℕ
  pub written : Appends old new done
  pub parts : done ++ windows_bytes (cuts test left) ≡ windows_bytes (cuts test items)

pub parts_begin : (test : Test) (whole : List ℕ) (w : Option (List ℕ)) (items : List Span) → AreWindows items whole → PartsSent test whole w w items 0
parts_begin test whole w items are = record { left = items; are = are; done = []; written = nothing w; parts = refl }

pub parts_more : (test : Test) (whole bytes : List ℕ) (old mid new : Option (List ℕ)) (items : List Span) (place next : ℕ) → PartsSent test whole old mid items place
    → ((us : List Span) → AreWindows us (drop place whole) → IsPart test whole us bytes next) → Appends mid new bytes → PartsSent test whole old new items next
parts_more test whole bytes old mid new items place next p part w =
    let is = part p.left p.are in
    record {
      left = behind_part test p.left;
      are = is.left;
      done = p.done ++ bytes;
      written = Appends-trans old mid new p.done bytes p.written w;
      parts = append_assoc p.done bytes (windows_bytes (cuts test (behind_part test p.left))) ∙ ap (λ (x : List ℕ). p.done ++ x) (sym is.cut) ∙ p.parts;
    }

pub parts_done : (test : Test) (whole : List ℕ) (old new : Option (List ℕ)) (items : List Span) (place : ℕ) → PartsSent test whole old new items place
    → ((us : List Span) → AreWindows us (drop place whole) → us ≡ []) → Appends old new (windows_bytes (cuts test items))
parts_done test whole old new items place p none =
    let all : p.done ≡ windows_bytes (cuts test items) =
    sym (append-nil p.done) ∙ ap (λ (us : List Span). p.done ++ windows_bytes (cuts test us)) (sym (none p.left p.are)) ∙ p.parts in
    subst (λ (x : List ℕ). Appends old new x) all p.written

-- a fault behind what was written, of which a rest was left
rest_fault : (old mid new : Option (List ℕ)) (done bytes rest all : List ℕ) → Appends old mid done → WroteFront mid new bytes → done ++ (bytes ++ rest) ≡ all → WroteFront old new all
rest_fault old mid new done bytes rest all first w is =
    subst (λ (x : List ℕ). WroteFront old new x) is (second_part old mid new done (bytes ++ rest) first (first_part mid new bytes rest w))

pub parts_fault : (test : Test) (whole bytes : List ℕ) (old mid new : Option (List ℕ)) (items : List Span) (place next : ℕ) → PartsSent test whole old mid items place
    → ((us : List Span) → AreWindows us (drop place whole) → IsPart test whole us bytes next) → WroteFront mid new bytes → WroteFront old new (windows_bytes (cuts test items))
parts_fault test whole bytes old mid new items place next p part w =
    let is = part p.left p.are in
    let rest = windows_bytes (cuts test (behind_part test p.left)) in
    rest_fault old mid new p.done bytes rest (windows_bytes (cuts test items)) p.written w (ap (λ (x : List ℕ). p.done ++ x) (sym is.cut) ∙ p.parts)

-- ---- the windows of a range

cuts_append : (test : Test) (xs ys : List Span) → windows_bytes (cuts test (xs ++ ys)) ≡ windows_bytes (cuts test xs) ++ windows_bytes (cuts test ys)
cuts_append test [] ys = refl
cuts_append test (x ∷ xs) ys =
    ap (λ (b : List ℕ). window_bytes (cut test x) ++ b) (cuts_append test xs ys) ∙ sym (append_assoc (window_bytes (cut test x)) (windows_bytes (cuts test xs)) (windows_bytes (cuts test ys)))

-- the bytes of their cuts, one after the other
pub cuts_length : (test : Test) (ws : List Span) → length (windows_bytes (cuts test ws)) ≡ total_size (cuts test ws)
cuts_length test [] = refl
cuts_length test (w ∷ ws) = omega (arith, length-append (window_bytes (cut test w)) (windows_bytes (cuts test ws)), window_length (cut test w), cuts_length test ws)

-- so many windows of a range were written
abbrev pub WindowsSent : Option (List Span) → List Held → Test → Option (List ℕ) → Option (List ℕ) → ℕ → Type 0
WindowsSent told entries test old new i =
    (position : ℕ) (windows : List Span) → HoldAll told position entries windows → Appends old new (windows_bytes (cuts test (take i windows)))

pub windows_begin : (told : Option (List Span)) (entries : List Held) (test : Test) (w : Option (List ℕ)) → WindowsSent told entries test w w 0
windows_begin told entries test w position windows h = nothing w

-- the window at a place
at_place : (told : Option (List Span)) (position i : ℕ) (entries : List Held) (windows : List Span) → HoldAll told position entries windows → i < length entries → (w : Span) × (slice_get windows i ≡ Some w)
at_place told position i entries windows h within =
    let none : Span = record { scn = 0; prev = 0; changes = [] } in
    (get_or windows i none, slice_get-get_or windows i none (omega (arith, within, as_many told position entries windows h)))

front_is : (windows : List Span) (i : ℕ) (w : Span) → i < length windows → slice_get windows i ≡ Some w → take (i + 1) windows ≡ take i windows ++ w ∷ []
front_is windows i w within there = take_more windows i w within ∙ ap (λ (x : Span). take i windows ++ x ∷ []) (get_or_from_slice_get windows i w w there)

whole_is : (windows : List Span) (i : ℕ) (w : Span) → i < length windows → slice_get windows i ≡ Some w → take i windows ++ (w ∷ []) ++ drop (i + 1) windows ≡ windows
whole_is windows i w within there = ap (λ (x : List Span). x ++ drop (i + 1) windows) (sym (front_is windows i w within there)) ∙ take-append-drop (i + 1) windows

pub windows_more : (told : Option (List Span)) (entries : List Held) (test : Test) (old mid new : Option (List ℕ)) (i : ℕ) → WindowsSent told entries test old mid i → i < length entries
    → ((items : List Span) → AreWindows items (bytes_at entries i) → Appends mid new (windows_bytes (cuts test items))) → WindowsSent told entries test old new (i + 1)
windows_more told entries test old mid new i sent within one position windows h =
    let at = at_place told position i entries windows h within in
    let w = one (at.0 ∷ []) (held_whole told position i entries windows at.0 h at.1) in
    let inside : i < length windows = omega (arith, within, as_many told position entries windows h) in
    subst (λ (x : List ℕ). Appends old new x)
    (sym (cuts_append test (take i windows) (at.0 ∷ [])) ∙ ap (λ (x : List Span). windows_bytes (cuts test x)) (sym (front_is windows i at.0 inside at.1)))
    (Appends-trans old mid new (windows_bytes (cuts test (take i windows))) (windows_bytes (cuts test (at.0 ∷ []))) (sent position windows h) w)

pub windows_fault : (told : Option (List Span)) (entries : List Held) (test : Test) (old mid new : Option (List ℕ)) (i : ℕ) → WindowsSent told entries test old mid i → i < length entries
    → ((items : List Span) → AreWindows items (bytes_at entries i) → WroteFront mid new (windows_bytes (cuts test items))) → (position : ℕ) (windows : List Span) → HoldAll told position entries windows
    → WroteFront old new (windows_bytes (cuts test windows))
windows_fault told entries test old mid new i sent within one position windows h =
    let at = at_place told position i entries windows h within in
    let w = one (at.0 ∷ []) (held_whole told position i entries windows at.0 h at.1) in
    let inside : i < length windows = omega (arith, within, as_many told position entries windows h) in
    let front = windows_bytes (cuts test (take i windows)) in
    let own = windows_bytes (cuts test (at.0 ∷ [])) in
    let rest = windows_bytes (cuts test (drop (i + 1) windows)) in
    let parts : front ++ (own ++ rest) ≡ windows_bytes (cuts test windows) =
    sym (append_assoc front own rest)
    ∙ ap (λ (x : List ℕ). x ++ rest) (sym (cuts_append test (take i windows) (at.0 ∷ [])))
    ∙ sym (cuts_append test (take i windows ++ (at.0 ∷ [])) (drop (i + 1) windows))
    ∙ ap (λ (x : List Span). windows_bytes (cuts test x)) (whole_is windows i at.0 inside at.1) in
    rest_fault old mid new front own rest (windows_bytes (cuts test windows)) (sent position windows h) w parts

pub windows_done : (told : Option (List Span)) (entries : List Held) (test : Test) (old new : Option (List ℕ)) (i : ℕ) → WindowsSent told entries test old new i → length entries ≤ i → (position : ℕ) (windows : List Span)
    → HoldAll told position entries windows → Appends old new (windows_bytes (cuts test windows))
windows_done told entries test old new i sent all position windows h =
    let full : take i windows ≡ windows = take_all i windows (omega (arith, all, as_many told position entries windows h)) in
    subst (λ (x : List Span). Appends old new (windows_bytes (cuts test x))) full (sent position windows h)

-- ---- a whole reply

-- the head says how long the windows' bytes are
size_is : (told : Option (List Span)) (position : ℕ) (test : Test) (max : ℕ) (entries : List Held) (size : ℕ) (windows : List Span) → IsRange told position test max entries size windows → size ≡ length (windows_bytes (cuts test windows))
size_is told position test max entries size windows r = r.total ∙ sym (cuts_length test windows)

pub range_sent : (told : Option (List Span)) (test : Test) (entries : List Held) (size : ℕ) (old mid new : Option (List ℕ)) → Appends old mid (reply_head size)
    → ((position : ℕ) (windows : List Span) → HoldAll told position entries windows → Appends mid new (windows_bytes (cuts test windows))) → (position max : ℕ) (windows : List Span)
    → IsRange told position test max entries size windows → Appends old new (reply_text (windows_bytes (cuts test windows)))
range_sent told test entries size old mid new head sent position max windows r =
    let body = windows_bytes (cuts test windows) in
    subst (λ (n : ℕ). Appends old new (reply_head n ++ body)) (size_is told position test max entries size windows r)
    (Appends-trans old mid new (reply_head size) body head (sent position windows r.holds))

pub range_headless : (told : Option (List Span)) (test : Test) (entries : List Held) (size : ℕ) (old new : Option (List ℕ)) → WroteFront old new (reply_head size) → (position max : ℕ) (windows : List Span)
    → IsRange told position test max entries size windows → WroteFront old new (reply_text (windows_bytes (cuts test windows)))
range_headless told test entries size old new w position max windows r =
    let body = windows_bytes (cuts test windows) in
    subst (λ (n : ℕ). WroteFront old new (reply_head n ++ body)) (size_is told position test max entries size windows r) (first_part old new (reply_head size) body w)

pub range_fault : (told : Option (List Span)) (test : Test) (entries : List Held) (size : ℕ) (old mid new : Option (List ℕ)) → Appends old mid (reply_head size)
    → ((position : ℕ) (windows : List Span) → HoldAll told position entries windows → WroteFront mid new (windows_bytes (cuts test windows))) → (position max : ℕ) (windows : List Span)
    → IsRange told position test max entries size windows → WroteFront old new (reply_text (windows_bytes (cuts test windows)))
range_fault told test entries size old mid new head sent position max windows r =
    let body = windows_bytes (cuts test windows) in
    subst (λ (n : ℕ). WroteFront old new (reply_head n ++ body)) (size_is told position test max entries size windows r)
    (second_part old mid new (reply_head size) body head (sent position windows r.holds))
