-- The items of a chunk are those that were asked for.
use Rattle.std.proofs.Common.{◌≡◌, ℕ, ◌+◌, ◌-◌, ◌*◌, ◌<◌, ◌≤◌, ◌^◌, Bool, true, false, cond, IsTrue, T, ◌&&◌, ◌||◌, nat_lt, nat_le, List, [], ◌∷◌, ◌++◌, length, map, filter, flat_map, Less, Equal, Greater, Option, Some, None, is_some, is_lt, refl, sym, ap, subst, arith}
use Rattle.std.specs.Ordering.{match_ordering}
use Rattle.std.specs.List.{AllByRecursion}
use Rattle.std.specs.Map.{remove_entry}
use Rattle.std.specs.BTreeMap.{is_at, insert_entry}
use Rattle.std.specs.FinMap.{is_sorted}
use Rattle.std.specs.FinMap.Entries.{below_all}
use Rattle.std.proofs.lemmas.Bool.{cond_both, and_from, le-leb, lt-ltb, eq-eqb, ltb-false, ltb-true, leb-true}
use Rattle.bus_types.specs.declared.change.Key.{Key}
use Rattle.bus_types.specs.declared.change.Key.TheVariants.{Long}
use Rattle.bus_types.specs.declared.change.Change.{Change}
use Rattle.bus_types.specs.declared.change.RowName.{RowName}
use Rattle.bus_types.specs.declared.row.Cursor.{Cursor}
use Rattle.bus_types.specs.declared.row.Cursor.TheVariants.{After}
use Rattle.bus_types.specs.declared.limits.TheConstants.{MAX_SCN, MAX_PAYLOAD}
use Rattle.bus_types.specs.Change.{Test, accepted, name_cmp, name_of, IsKey, IsChange, AreChanges, change_size, head_size, payload_size}
use Rattle.bus_types.specs.Window.{Span}
use Rattle.bus_types.specs.Timeline.{IsTimelineFrom, IsTimeline, changes_between}
use Rattle.bus_types.specs.Table.{RowList, row_after, rows_after}
use Rattle.bus_types.specs.Rows.{is_after, rest_of}
use Rattle.bus_types.specs.Latest.{Latest, latest_after, last_changes, changes_after}
use Rattle.bus_types.specs.View.{view}
use Rattle.bus_types.proofs.Names.{name_cmp_total}
use Rattle.bus_types.proofs.Entries.{holds, is_true, ordered-insert, ordered-where}
use Rattle.bus_types.proofs.TableLaws.{rows_after-ordered, shown-after}
use Rattle.bus_types.proofs.Stretches.{between_cases}
use Rattle.partition_filter.specs.Selection.{test_of}
use Rattle.event_codec.specs.declared.answer.Answer.TheVariants.{TooSmall}
use Rattle.event_codec.specs.Chunks.{frame_size, items_within, chunk_of, puts_of}
use Rattle.event_codec.specs.Frames.{run_kind}
use Rattle.event_codec.specs.Questions.{Reply, Only}
use Rattle.bus_wire.specs.Wanted.{Wanted, run_wanted, is_scn_wanted, is_wanted, wanted_behind, wanted_after, AreWanted, can_end, AreAsked}
use Rattle.bus_wire.specs.Lawful.{most_chunk}

-- ---- elements

module _ {X : Type 0} (P : X → Type 0) where
  pub all_fore : (xs ys : List X) → AllByRecursion P (xs ++ ys) → AllByRecursion P xs
  all_fore [] ys h = tt
  all_fore (x ∷ xs) ys h = (h.0, all_fore xs ys h.1)

  all_joined : (xs ys : List X) → AllByRecursion P xs → AllByRecursion P ys → AllByRecursion P (xs ++ ys)
  all_joined [] ys g h = h
  all_joined (x ∷ xs) ys g h = (g.0, all_joined xs ys g.1 h)

  all_kept : (p : X → Bool) (xs : List X) → AllByRecursion P xs → AllByRecursion P (filter p xs)
  all_kept p [] h = tt
  all_kept p (x ∷ xs) h =
      let rest = all_kept p xs h.1 in
      elim (p x) as (λ b. AllByRecursion P (cond b (x ∷ filter p xs) (filter p xs))) [ true ↦ (h.0, rest) | false ↦ rest ]

-- ---- changes that a filter accepts

-- within the ranges, and accepted
pub record IsItem (test : Test) (c : Change) : Type 0 where
  pub within : IsChange c
  pub accepted : test c.source c.key ≡ true

accepted_items : (test : Test) (cs : List Change) → AreChanges cs → AllByRecursion (IsItem test) (accepted test cs)
accepted_items test [] h = tt
accepted_items test (c ∷ cs) h =
    let rest = accepted_items test cs h.1 in
    elim (test c.source c.key) as (λ b. test c.source c.key ≡ b → AllByRecursion (IsItem test) (cond b (c ∷ accepted test cs) (accepted test cs))) [
      | true ↦ λ e. (record { within = h.0; accepted = e }, rest)
      | false ↦ λ e. rest
    ] refl

between_within : (prev low high : ℕ) (ws : List Span) → IsTimelineFrom prev ws → AreChanges (changes_between low high ws)
between_within prev low high [] t = tt
between_within prev low high (w ∷ ws) t =
    let rest = between_within w.scn low high ws t.1 in
    between_cases (λ (l : List Span). AreChanges (flat_map (λ w. w.changes) l)) low high w ws
    (λ l u. all_joined IsChange w.changes (changes_between low high ws) t.0.within.changes rest)
    (λ l. rest) (λ u. rest)

-- ---- entries of names and values

-- the numbers of a name are in their ranges, and the row is accepted
record IsRow (test : Test) (name : RowName) : Type 0 where
  source : name.source < 2 ^ 16
  key : IsKey name.key
  accepted : test name.source name.key ≡ true

row_of : (test : Test) (c : Change) → IsItem test c → IsRow test (name_of c)
row_of test c h = record { source = h.within.source; key = h.within.key; accepted = h.accepted }

-- each puts what its value says, which has a greatest size
abbrev AreRows : {X : Type 0} → Test → (X → Option (List ℕ)) → List (RowName × X) → Type 0
AreRows test put es = AllByRecursion (λ e. IsRow test e.0 × (payload_size (put e.1) ≤ MAX_PAYLOAD)) es

insert_rows : {X : Type 0} (test : Test) (put : X → Option (List ℕ)) (es : List (RowName × X)) (name : RowName) (v : X) → AreRows test put es → IsRow test name → payload_size (put v) ≤ MAX_PAYLOAD → AreRows test put (insert_entry name_cmp es name v)
insert_rows test put [] name v h n s = ((n, s), tt)
insert_rows test put (e ∷ es) name v h n s =
    let rest = insert_rows test put es name v h.1 n s in
    elim (name_cmp name e.0) as (λ r. AreRows test put (match_ordering r ((name, v) ∷ e ∷ es) ((e.0, v) ∷ es) (e ∷ insert_entry name_cmp es name v))) [
      | Less ↦ ((n, s), h)
      | Equal ↦ ((h.0.0, s), h.1)
      | Greater ↦ (h.0, rest)
    ]

remove_rows : {X : Type 0} (test : Test) (put : X → Option (List ℕ)) (p : RowName → Bool) (es : List (RowName × X)) → AreRows test put es → AreRows test put (remove_entry p es)
remove_rows test put p [] h = tt
remove_rows test put p (e ∷ es) h =
    let rest = remove_rows test put p es h.1 in
    elim (p e.0) as (λ b. AreRows test put (cond b es (e ∷ remove_entry p es))) [ true ↦ h.1 | false ↦ (h.0, rest) ]

row_rows : (test : Test) (rows : RowList) (name : RowName) (put : Option (List ℕ)) → AreRows test Some rows → IsRow test name → payload_size put ≤ MAX_PAYLOAD → AreRows test Some (row_after rows name put)
row_rows test rows name None h n s = remove_rows test Some (is_at (name_cmp name)) rows h
row_rows test rows name (Some payload) h n s = insert_rows test Some rows name payload h n s

rows_rows : (test : Test) (rows : RowList) (cs : List Change) → AreRows test Some rows → AllByRecursion (IsItem test) cs → AreRows test Some (rows_after rows cs)
rows_rows test rows [] h n = h
rows_rows test rows (c ∷ cs) h n = rows_rows test (row_after rows (name_of c) c.put) cs (row_rows test rows (name_of c) c.put h (row_of test c n.0) n.0.within.payload) n.1

latest_rows : (test : Test) (es : Latest) (cs : List Change) → AreRows test (λ p. p) es → AllByRecursion (IsItem test) cs → AreRows test (λ p. p) (latest_after es cs)
latest_rows test es [] h n = h
latest_rows test es (c ∷ cs) h n = latest_rows test (insert_entry name_cmp es (name_of c) c.put) cs (insert_rows test (λ p. p) es (name_of c) c.put h (row_of test c n.0) n.0.within.payload) n.1

latest-ordered : (es : Latest) (cs : List Change) → is_sorted name_cmp es ≡ true → is_sorted name_cmp (latest_after es cs) ≡ true
latest-ordered es [] h = h
latest-ordered es (c ∷ cs) h = latest-ordered (insert_entry name_cmp es (name_of c) c.put) cs (ordered-insert name_cmp name_cmp_total es (name_of c) c.put h)

-- ---- entries behind a cursor, as changes

abbrev changes_from : {X : Type 0} → (X → Option (List ℕ)) → List (RowName × X) → List Change
changes_from put es = map (λ e. record { source = e.0.source; key = e.0.key; put = put e.1 }) es

abbrev behind : {X : Type 0} → Cursor → List (RowName × X) → List (RowName × X)
behind cursor es = filter (λ e. is_after cursor e.0) es

-- names that rise strictly from a cursor on
abbrev Rise : Cursor → List Change → Type 0
Rise cursor [] = Unit {0}
Rise cursor (c ∷ cs) = (is_after cursor (name_of c) ≡ true) × Rise (After c.source c.key) cs

rise_fore : (cursor : Cursor) (xs ys : List Change) → Rise cursor (xs ++ ys) → Rise cursor xs
rise_fore cursor [] ys r = tt
rise_fore cursor (x ∷ xs) ys r = (r.0, rise_fore (After x.source x.key) xs ys r.1)

parts : (a b : Bool) → T (a && b) → T a × T b
parts true b h = (tt, h)
parts false b h = absurd h

rise_above : {X : Type 0} (put : X → Option (List ℕ)) (name : RowName) (es : List (RowName × X)) → T (below_all name_cmp name es) → T (is_sorted name_cmp es) → Rise (After name.source name.key) (changes_from put es)
rise_above put name [] p h = tt
rise_above put name (e ∷ es) p h =
    let q = parts (is_lt (name_cmp name e.0)) (below_all name_cmp name es) p in
    let t = parts (below_all name_cmp e.0 es) (is_sorted name_cmp es) h in
    (is_true (is_lt (name_cmp name e.0)) q.0, rise_above put e.0 es t.0 t.1)

rise_first : {X : Type 0} (put : X → Option (List ℕ)) (cursor : Cursor) (es : List (RowName × X)) → T (is_sorted name_cmp es) → AllByRecursion (λ e. is_after cursor e.0 ≡ true) es → Rise cursor (changes_from put es)
rise_first put cursor [] h first = tt
rise_first put cursor (e ∷ es) h first =
    let t = parts (below_all name_cmp e.0 es) (is_sorted name_cmp es) h in
    (first.0, rise_above put e.0 es t.0 t.1)

all_behind : {X : Type 0} (cursor : Cursor) (es : List (RowName × X)) → AllByRecursion (λ e. is_after cursor e.0 ≡ true) (behind cursor es)
all_behind cursor [] = tt
all_behind cursor (e ∷ es) =
    let rest = all_behind cursor es in
    elim (is_after cursor e.0) as (λ b. is_after cursor e.0 ≡ b → AllByRecursion (λ e. is_after cursor e.0 ≡ true) (cond b (e ∷ behind cursor es) (behind cursor es))) [
      | true ↦ λ t. (t, rest)
      | false ↦ λ t. rest
    ] refl

made_items : {X : Type 0} (test : Test) (put : X → Option (List ℕ)) (es : List (RowName × X)) → AreRows test put es → AllByRecursion (IsItem test) (changes_from put es)
made_items test put [] h = tt
made_items test put (e ∷ es) h =
    (record { within = record { source = h.0.0.source; key = h.0.0.key; payload = h.0.1 }; accepted = h.0.0.accepted }, made_items test put es h.1)

-- ---- items that can come

-- items behind a cursor in order of name, which the filter accepts, and none of which is a delete unless deletes may be
pub record AreItems (deletes : Bool) (test : Test) (cursor : Cursor) (cs : List Change) : Type 0 where
  pub each : AllByRecursion (IsItem test) cs
  pub kinds : AllByRecursion (λ c. (deletes || is_some c.put) ≡ true) cs
  pub rise : Rise cursor cs

made : {X : Type 0} (deletes : Bool) (test : Test) (cursor : Cursor) (put : X → Option (List ℕ)) (es : List (RowName × X)) → is_sorted name_cmp es ≡ true → AreRows test put es → AllByRecursion (λ c. (deletes || is_some c.put) ≡ true) (changes_from put (behind cursor es))
    → AreItems deletes test cursor (changes_from put (behind cursor es))
made {X = X} deletes test cursor put es h rows kinds = record {
  each = made_items test put (behind cursor es) (all_kept (λ (e : RowName × X). IsRow test e.0 × (payload_size (put e.1) ≤ MAX_PAYLOAD)) (λ e. is_after cursor e.0) es rows);
  kinds = kinds;
  rise = rise_first put cursor (behind cursor es) (holds _ (ordered-where name_cmp name_cmp_total (is_after cursor) es h)) (all_behind cursor es);
}

puts_put : (rows : RowList) → AllByRecursion (λ c. (false || is_some c.put) ≡ true) (puts_of rows)
puts_put [] = tt
puts_put (r ∷ rs) = (refl, puts_put rs)

any_put : (cs : List Change) → AllByRecursion (λ c. (true || is_some c.put) ≡ true) cs
any_put [] = tt
any_put (c ∷ cs) = (refl, any_put cs)

-- the rows of a scan
pub scan_items : (test : Test) (ws : List Span) (scn : ℕ) (cursor : Cursor) → IsTimeline ws → AreItems false test cursor (puts_of (rest_of cursor (view test ws scn)))
scan_items test ws scn cursor t =
    let cs = changes_between 0 scn ws in
    let kept = accepted test cs in
    subst (λ rows. AreItems false test cursor (puts_of (rest_of cursor rows))) (sym (shown-after test [] cs refl))
    (made false test cursor Some (rows_after [] kept) (rows_after-ordered [] kept refl) (rows_rows test [] kept tt (accepted_items test cs (between_within 0 0 scn ws t))) (puts_put (rest_of cursor (rows_after [] kept))))

behind_changes : (cursor : Cursor) (es : Latest) → changes_after cursor (changes_from (λ p. p) es) ≡ changes_from (λ p. p) (behind cursor es)
behind_changes cursor [] = refl
behind_changes cursor (e ∷ es) =
    let c : Change = record { source = e.0.source; key = e.0.key; put = e.1 } in
    let rest = behind_changes cursor es in
    elim (is_after cursor e.0) as (λ b. cond b (c ∷ changes_after cursor (changes_from (λ p. p) es)) (changes_after cursor (changes_from (λ p. p) es)) ≡ changes_from (λ p. p) (cond b (e ∷ behind cursor es) (behind cursor es))) [
      | true ↦ ap (λ l. c ∷ l) rest
      | false ↦ rest
    ]

-- the changes of a delta
pub delta_items : (test : Test) (ws : List Span) (low high : ℕ) (cursor : Cursor) → IsTimeline ws → AreItems true test cursor (changes_after cursor (last_changes ws test low high))
delta_items test ws low high cursor t =
    let cs = changes_between low high ws in
    let es = latest_after [] (accepted test cs) in
    subst (AreItems true test cursor) (sym (behind_changes cursor es))
    (made true test cursor (λ p. p) es (latest-ordered [] (accepted test cs) refl) (latest_rows test [] (accepted test cs) tt (accepted_items test cs (between_within 0 low high ws t))) (any_put _))

-- ---- what was asked for

wanted_is : (w : Wanted) (n : ℕ) (c : Change) → is_scn_wanted w n ≡ true → IsItem (test_of w.filter) c → (w.deletes || is_some c.put) ≡ true → is_after w.cursor (name_of c) ≡ true → IsTrue (is_wanted w n c)
wanted_is w n c scn item kind after = and_from _ _ (and_from _ _ (and_from _ _ scn kind) item.accepted) after

same_scn : (n : ℕ) → (nat_le n n && nat_le n n) ≡ true
same_scn n = and_from _ _ (le-leb n n (omega arith)) (le-leb n n (omega arith))

are_wanted : (w : Wanted) (n : ℕ) (cs : List Change) → is_scn_wanted w n ≡ true → AllByRecursion (IsItem (test_of w.filter)) cs → AllByRecursion (λ c. (w.deletes || is_some c.put) ≡ true) cs → Rise w.cursor cs → AreWanted w n cs
are_wanted w n [] scn each kinds rise = tt
are_wanted w n (c ∷ cs) scn each kinds rise =
    (wanted_is w n c scn each.0 kinds.0 rise.0, are_wanted (wanted_behind w n c) n cs (same_scn n) each.1 kinds.1 rise.1)

within_of : (test : Test) (cs : List Change) → AllByRecursion (IsItem test) cs → AreChanges cs
within_of test [] h = tt
within_of test (c ∷ cs) h = (h.0.within, within_of test cs h.1)

enough_items : (more : Bool) (count : ℕ) → (more ≡ true → 0 < count) → (cond more (nat_lt 0 count) true) ≡ true
enough_items true count h = lt-ltb 0 count (h refl)
enough_items false count h = refl

ends_after : (w : Wanted) (n : ℕ) (cs : List Change) (count : ℕ) (more : Bool) → is_scn_wanted w n ≡ true → (more ≡ true → 0 < count) → IsTrue (can_end (wanted_after w n cs) count (record { run = run_wanted w; scn = n; more = more }))
ends_after w n [] count more scn some =
    and_from _ _ (and_from _ _ (eq-eqb (run_kind (run_wanted w)) (run_kind (run_wanted w)) refl) scn) (enough_items more count some)
ends_after w n (c ∷ cs) count more scn some = ends_after (wanted_behind w n c) n cs count more (same_scn n) some

-- ---- a chunk

size_least : (c : Change) → 23 ≤ change_size c
size_least c = key_least c.key (payload_size c.put)
  where
    key_least : (key : Key) (size : ℕ) → 23 ≤ head_size key + size
    key_least (Long k) size = omega arith

size_most : (test : Test) (c : Change) → IsItem test c → change_size c + frame_size ≤ most_chunk
size_most test c h = key_most c.key (payload_size c.put) h.within.payload
  where
    key_most : (key : Key) (size : ℕ) → size ≤ MAX_PAYLOAD → head_size key + size + frame_size ≤ most_chunk
    key_most (Long k) size s = omega (arith, s)

-- a run that fits is a front, and has no more items than fit
pub record IsFront (room : ℕ) (run cs : List Change) : Type 0 where
  pub rest : List Change
  pub whole : run ++ rest ≡ cs
  pub few : length run * 23 ≤ room

items_front : (room : ℕ) (cs : List Change) → IsFront room (items_within room cs) cs
items_front room [] = record { rest = []; whole = refl; few = omega arith }
items_front room (c ∷ cs) =
    let more = items_front (room - change_size c) cs in
    cond_both (nat_le (change_size c) room) (c ∷ items_within (room - change_size c) cs) [] (λ run. IsFront room run (c ∷ cs))
    (λ fits. record { rest = more.rest; whole = ap (λ l. c ∷ l) more.whole; few = omega (arith, more.few, size_least c, leb-true (change_size c) room fits) })
    (λ large. record { rest = c ∷ cs; whole = refl; few = omega arith })

-- a run of the items is what was asked for
pub front_asked : (w : Wanted) (n most : ℕ) (run cs : List Change) (more : Bool) → n ≤ MAX_SCN → most < 2 ^ 32 → is_scn_wanted w n ≡ true → (0 < length cs → 0 < n) → AreItems w.deletes (test_of w.filter) w.cursor cs → IsFront most run cs → (more ≡ true → 0 < length run)
    → AreAsked w run n more
front_asked w n most run cs more bound limited scn later items front some =
    let all : AreItems w.deletes (test_of w.filter) w.cursor (run ++ front.rest) = subst (AreItems w.deletes (test_of w.filter) w.cursor) (sym front.whole) items in
    let each = all_fore (IsItem (test_of w.filter)) run front.rest all.each in
    record {
      formed = record { within = within_of (test_of w.filter) run each; positive = λ has. later (longer run front.rest cs front.whole has); bound = bound };
      wanted = are_wanted w n run scn each (all_fore (λ c. (w.deletes || is_some c.put) ≡ true) run front.rest all.kinds) (rise_fore w.cursor run front.rest all.rise);
      few = omega (arith, front.few, limited);
      ends = ends_after w n run (length run) more scn some;
    }
  where
    longer : (xs ys zs : List Change) → xs ++ ys ≡ zs → 0 < length xs → 0 < length zs
    longer [] ys zs e h = absurd (omega arith)
    longer (x ∷ xs) ys zs e h = subst (λ (l : List Change). 0 < length l) e (omega arith)

-- a chunk: the smallest reply is too large, or a run of the items
pub small_or : (P : Reply → Type 0) (make : List Change → Bool → Reply) (most : ℕ) (cs : List Change) → ((need : ℕ) → most < need → need ≤ most_chunk → P (Only (TooSmall need)))
    → (test : Test) → AllByRecursion (IsItem test) cs → ((run : List Change) (more : Bool) → IsFront most run cs → (more ≡ true → 0 < length run) → P (make run more)) → P (chunk_of make most cs)
small_or P make most [] small test each run =
    cond_both (nat_lt most frame_size) (Only (TooSmall frame_size)) (make [] false) P
    (λ t. small frame_size (ltb-true most frame_size t) (omega arith))
    (λ f. run [] false (record { rest = []; whole = refl; few = omega arith }) (λ e. absurd (cc)))
small_or P make most (c ∷ cs) small test each run =
    let all = c ∷ cs in
    let room = most - frame_size in
    let front = items_front room all in
    let some = items_within room all in
    cond_both (nat_lt most (change_size c + frame_size)) (Only (TooSmall (change_size c + frame_size))) (make some (nat_lt (length some) (length all))) P
    (λ t. small (change_size c + frame_size) (ltb-true most (change_size c + frame_size) t) (size_most test c each.0))
    (λ f.
    let fits : change_size c ≤ room = omega (arith, ltb-false most (change_size c + frame_size) f) in
    run some (nat_lt (length some) (length all)) (record { rest = front.rest; whole = front.whole; few = omega (arith, front.few) }) (λ e. first_fits room c cs fits))
  where
    first_fits : (room : ℕ) (c : Change) (cs : List Change) → change_size c ≤ room → 0 < length (items_within room (c ∷ cs))
    first_fits room c cs h = subst (λ b. 0 < length (cond b (c ∷ items_within (room - change_size c) cs) [])) (sym (le-leb (change_size c) room h)) (omega arith)
