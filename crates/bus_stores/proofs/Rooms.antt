-- Entries, and the rows in them.
use Rattle.std.proofs.Common.{◌≡◌, ℕ, ◌+◌, ◌<◌, arith, map, length, take, drop, set, get_or, ◌&&◌, Bool, true, false, cond, T, List, [], ◌∷◌, ◌++◌, Ordering, Less, Equal, Greater, Option, Some, None, option_and_then, is_some, is_eq, is_lt, true≢false, refl, sym, ap, ap₂, subst, ◌∙◌}
use Rattle.std.proofs.lemmas.List.{take_more, take_more_set, take-set, drop_more, drop-set-lt, map-append}
use Rattle.std.specs.Option.{IsSome}
use Rattle.std.specs.Prelude.{Result, Ok, Err, IfOk, OnOk, OnErr, IsOk}
use Rattle.std.specs.Ordering.{match_ordering}
use Rattle.std.specs.List.{AllByRecursion}
use Rattle.std.specs.List.Sorted.{IsStrictlySortedBy}
use Rattle.std.specs.Map.{keys_of, lookup, remove_entry}
use Rattle.std.specs.BTreeMap.{BTreeMap, IsOrdered, is_at, insert_entry}
use Rattle.std.specs.Cmp.{Equal-is}
use Rattle.std.specs.FinMap.{is_sorted}
use Rattle.std.specs.FinMap.Entries.{below_all}
use Rattle.bus_types.specs.declared.change.Change.{Change}
use Rattle.bus_types.specs.declared.change.Key.{Key}
use Rattle.bus_types.specs.declared.change.Key.TheVariants.{Long}
use Rattle.bus_types.specs.declared.change.RowName.{RowName}
use Rattle.bus_types.specs.contracts.change.RowNameOrd.TheImpl.{cmp-value}
use Rattle.bus_types.specs.Change.{name_cmp, is_name, name_of}
use Rattle.bus_types.specs.Table.{RowList, row_after, rows_after, payload_at}
use Rattle.bus_types.proofs.Names.{name_cmp_total, name_cmp_exact}
use Rattle.bus_types.proofs.Entries.{holds, is_true, ordered-insert, lookup-insert}
use Rattle.bus_types.proofs.TableLaws.{rows_after-ordered, payload_at-row_after, same_rows}
use Rattle.bus_stores.specs.Keeper.{IsTable}
use Rattle.bus_stores.specs.Entries.{EntryList, row_in, rows_in, entry_of, undone, HasRoom, HaveRoom}

-- ---- the order of names, as their type has it

same_at : (s t : ℕ) (j k : Key) → cmp-value.it (record { source = s; key = j }) (record { source = t; key = k }) ≡ name_cmp (record { source = s; key = j }) (record { source = t; key = k })
same_at s t (Long a) (Long b) = refl

-- the order that the type derives is that of names
pub names_cmp : cmp-value.it ≡ name_cmp
names_cmp = λ i a b. same_at a.source b.source a.key b.key i

-- both parts of a test that holds
pub parts : (a b : Bool) → T (a && b) → T a × T b
parts true b h = (tt, h)
parts false b h = absurd h

joined : (a b : Bool) → T a → T b → T (a && b)
joined true b p q = q
joined false b p q = absurd p

less : (r : Ordering) → T (is_lt r) → r ≡ Less
less Less h = refl
less Equal h = absurd h
less Greater h = absurd h

both : (a b : Bool) → a ≡ true → b ≡ true → (a && b) ≡ true
both true b p q = q
both false b p q = absurd (true≢false (sym p))

module _ {K X : Type 0} (R : K → K → Ordering) where
  below_from : (x : K) (es : List (K × X)) → AllByRecursion (λ y. R x y ≡ Less) (keys_of es) → below_all R x es ≡ true
  below_from x [] h = refl
  below_from x (e ∷ es) h = ap (λ r. is_lt r && below_all R x es) h.0 ∙ below_from x es h.1

  -- entries whose keys rise are in order
  pub sorted_from : (es : List (K × X)) → IsStrictlySortedBy R (keys_of es) → is_sorted R es ≡ true
  unfolding IsStrictlySortedBy
  sorted_from [] h = refl
  sorted_from (e ∷ es) h = both (below_all R e.0 es) (is_sorted R es) (below_from e.0 es h.0) (sorted_from es h.1)

-- the entries of a map are in order
pub entries_sorted : (es : EntryList) → IsStrictlySortedBy cmp-value.it (keys_of es) → is_sorted name_cmp es ≡ true
entries_sorted es h = subst (λ R. is_sorted R es ≡ true) names_cmp (sorted_from cmp-value.it es h)

-- ---- room

no_room : (b : Bool) (v : Option (List ℕ)) (o : Option (Option (List ℕ))) → cond b (Some v) o ≡ None → (b ≡ false) × (o ≡ None)
no_room true v o e = absurd (cc)
no_room false v o e = (refl, e)

-- room for a name that has none changes no row
pub rows_in-room : (R : RowName → RowName → Ordering) (k : RowName) (es : EntryList) → lookup (is_at (R k)) es ≡ None → rows_in (insert_entry R es k None) ≡ rows_in es
rows_in-room R k [] absent = refl
rows_in-room R k (e ∷ es) absent =
    let rest = no_room (is_eq (R k e.0)) e.1 (lookup (is_at (R k)) es) absent in
    let more = rows_in-room R k es rest.1 in
    elim (R k e.0) as (λ r. is_eq r ≡ false → rows_in (match_ordering r ((k, None) ∷ e ∷ es) ((e.0, None) ∷ es) (e ∷ insert_entry R es k None)) ≡ row_in e.0 e.1 ++ rows_in es) [
      | Less ↦ λ _. refl
      | Equal ↦ λ t. absurd (true≢false t)
      | Greater ↦ λ _. ap (λ rows. row_in e.0 e.1 ++ rows) more
    ] rest.0

no_row : (name : RowName) (put : Option (List ℕ)) (rows : RowList) → Some put ≡ Some None → rows ≡ row_in name put ++ rows
no_row name None rows e = refl
no_row name (Some payload) rows e = absurd (cc)

-- nor does a name that loses its room
pub rows_in-remove : (test : RowName → Bool) (es : EntryList) → lookup test es ≡ Some None → rows_in (remove_entry test es) ≡ rows_in es
rows_in-remove test [] e = refl
rows_in-remove test (e ∷ es) found =
    let more = rows_in-remove test es in
    elim (test e.0) as (λ b. cond b (Some e.1) (lookup test es) ≡ Some None → rows_in (cond b es (e ∷ remove_entry test es)) ≡ row_in e.0 e.1 ++ rows_in es) [
      | true ↦ λ f. no_row e.0 e.1 (rows_in es) f
      | false ↦ λ f. ap (λ rows. row_in e.0 e.1 ++ rows) (more f)
    ] found

-- ---- rows by name

abbrev flat : Option (Option (List ℕ)) → Option (List ℕ)
flat o = option_and_then (λ p. p) o

alone : (q x : RowName) (es : EntryList) → name_cmp q x ≡ Equal → T (below_all name_cmp x es) → lookup (is_at (name_cmp q)) es ≡ None
alone q x [] same h = refl
alone q x (e ∷ es) same h =
    let p = parts (is_lt (name_cmp x e.0)) (below_all name_cmp x es) h in
    let above = name_cmp_total.congr q x e.0 same ∙ less (name_cmp x e.0) p.0 in
    ap (λ r. cond (is_eq r) (Some e.1) (lookup (is_at (name_cmp q)) es)) above ∙ alone q x es same p.1

row_by_name : (q name : RowName) (put : Option (List ℕ)) (rows : RowList) (found : Option (Option (List ℕ))) → payload_at rows q ≡ flat found → (is_name q name ≡ true → found ≡ None) → payload_at (row_in name put ++ rows) q ≡ flat (cond (is_name q name) (Some put) found)
row_by_name q name None rows found e none = elim (is_name q name) as (λ b. (b ≡ true → found ≡ None) → payload_at rows q ≡ flat (cond b (Some None) found)) [ true ↦ λ n. e ∙ ap flat (n refl) | false ↦ λ n. e ] none
row_by_name q name (Some payload) rows found e none = elim (is_name q name) as (λ b. cond b (Some payload) (payload_at rows q) ≡ flat (cond b (Some (Some payload)) found)) [ true ↦ refl | false ↦ e ]

-- what the rows of entries have of a name
payload_at-rows_in : (es : EntryList) (q : RowName) → T (is_sorted name_cmp es) → payload_at (rows_in es) q ≡ flat (lookup (is_at (name_cmp q)) es)
payload_at-rows_in [] q h = refl
payload_at-rows_in (e ∷ es) q h =
    let p = parts (below_all name_cmp e.0 es) (is_sorted name_cmp es) h in
    row_by_name q e.0 e.1 (rows_in es) (lookup (is_at (name_cmp q)) es) (payload_at-rows_in es q p.1) (λ t. alone q e.0 es ((Equal-is (name_cmp q e.0)).0 t) p.0)

below_row : (x name : RowName) (put : Option (List ℕ)) (rows : RowList) → T (is_lt (name_cmp x name)) → T (below_all name_cmp x rows) → T (below_all name_cmp x (row_in name put ++ rows))
below_row x name None rows p h = h
below_row x name (Some payload) rows p h = joined (is_lt (name_cmp x name)) (below_all name_cmp x rows) p h

below_rows : (x : RowName) (es : EntryList) → T (below_all name_cmp x es) → T (below_all name_cmp x (rows_in es))
below_rows x [] h = tt
below_rows x (e ∷ es) h =
    let p = parts (is_lt (name_cmp x e.0)) (below_all name_cmp x es) h in
    below_row x e.0 e.1 (rows_in es) p.0 (below_rows x es p.1)

sorted_row : (name : RowName) (put : Option (List ℕ)) (rows : RowList) → T (below_all name_cmp name rows) → T (is_sorted name_cmp rows) → T (is_sorted name_cmp (row_in name put ++ rows))
sorted_row name None rows p h = h
sorted_row name (Some payload) rows p h = joined (below_all name_cmp name rows) (is_sorted name_cmp rows) p h

sorted_rows : (es : EntryList) → T (is_sorted name_cmp es) → T (is_sorted name_cmp (rows_in es))
sorted_rows [] h = tt
sorted_rows (e ∷ es) h =
    let p = parts (below_all name_cmp e.0 es) (is_sorted name_cmp es) h in
    sorted_row e.0 e.1 (rows_in es) (below_rows e.0 es p.0) (sorted_rows es p.1)

-- rows of entries in order are a table
pub rows_in-ordered : (es : EntryList) → is_sorted name_cmp es ≡ true → is_sorted name_cmp (rows_in es) ≡ true
rows_in-ordered es h = is_true (is_sorted name_cmp (rows_in es)) (sorted_rows es (holds (is_sorted name_cmp es) h))

-- rows of the entries of a map are a table
pub map_table : (m : BTreeMap RowName (Option (List ℕ))) → IsOrdered cmp-value.it m → IsTable (rows_in m.entries)
map_table m h = rows_in-ordered m.entries (entries_sorted m.entries h)

-- what a map's rows have of a name
pub payload_at-map : (m : BTreeMap RowName (Option (List ℕ))) (name : RowName) (found : Option (Option (List ℕ))) → IsOrdered cmp-value.it m → found ≡ lookup (is_at (cmp-value.it name)) m.entries → flat found ≡ payload_at (rows_in m.entries) name
payload_at-map m name found h e = ap flat e ∙ ap (λ R. flat (lookup (is_at (R name)) m.entries)) names_cmp ∙ sym (payload_at-rows_in m.entries name (holds (is_sorted name_cmp m.entries) (entries_sorted m.entries h)))

-- what is copied of what a map has of a name
pub copied_at-map : {E : Type 0} (m : BTreeMap RowName (Option (List ℕ))) (name : RowName) (put : Option (List ℕ)) (r : Result (Option (List ℕ)) E) → IsOrdered cmp-value.it m → Some put ≡ lookup (is_at (cmp-value.it name)) m.entries → IfOk r (λ copy. copy ≡ put) → IfOk r (λ copy. copy ≡ payload_at (rows_in m.entries) name)
copied_at-map m name put r h e copied = subst (λ found. IfOk r (λ copy. copy ≡ found)) (payload_at-map m name (Some put) h e) copied

flat_cond : (b : Bool) (put : Option (List ℕ)) (found : Option (Option (List ℕ))) → flat (cond b (Some put) found) ≡ cond b put (flat found)
flat_cond true put found = refl
flat_cond false put found = refl

-- an entry that is written makes its change
pub rows_in-write : (es : EntryList) (k : RowName) (put : Option (List ℕ)) → is_sorted name_cmp es ≡ true → rows_in (insert_entry name_cmp es k put) ≡ row_after (rows_in es) k put
rows_in-write es k put h =
    let rows = rows_in-ordered es h in
    let after = ordered-insert name_cmp name_cmp_total es k put h in
    same_rows _ _ (rows_in-ordered (insert_entry name_cmp es k put) after) (rows_after-ordered (rows_in es) (record { source = k.source; key = k.key; put = put } ∷ []) rows) (λ q.
    payload_at-rows_in (insert_entry name_cmp es k put) q (holds (is_sorted name_cmp (insert_entry name_cmp es k put)) after)
    ∙ ap flat (lookup-insert name_cmp name_cmp_total es k put q)
    ∙ flat_cond (is_name q k) put (lookup (is_at (name_cmp q)) es)
    ∙ ap (cond (is_name q k) put) (sym (payload_at-rows_in es q (holds (is_sorted name_cmp es) h)))
    ∙ sym (payload_at-row_after (rows_in es) k put q rows))

-- ---- what an insert leaves

-- what isn't there is None
pub absent : {A : Type 0} (o : Option A) → is_some o ≡ false → o ≡ None
absent None e = refl
absent (Some x) e = absurd (true≢false e)

found_ok : {X E A : Type 0} (r : Result X E) (found : Option A) → IsSome found → OnErr r (found ≡ None) → IsOk r
found_ok (Ok x) found some none = refl
found_ok (Err e) found some none = absurd (true≢false (sym some ∙ ap is_some none))

-- it succeeds where there is room
pub has_room_ok : {X E : Type 0} (r : Result X E) (es : EntryList) (k name : RowName) → k ≡ name → HasRoom es name → OnErr r (lookup (is_at (cmp-value.it k)) es ≡ None) → IsOk r
has_room_ok r es k name e room h = found_ok r (lookup (is_at (name_cmp k)) es) (subst (HasRoom es) (sym e) room) (subst (λ R. OnErr r (lookup (is_at (R k)) es ≡ None)) names_cmp h)

-- what it leaves where it answered
pub unwrapped : {X E : Type 0} (P : Type 0) (r : Result X E) (x : X) → r ≡ Ok x → OnOk r P → P
unwrapped P r x e h = subst (λ s. OnOk s P) e h

-- it makes its change
pub written : (old new : EntryList) (k : RowName) (put : Option (List ℕ)) → IsStrictlySortedBy cmp-value.it (keys_of old) → new ≡ insert_entry cmp-value.it old k put → rows_in new ≡ row_after (rows_in old) k put
written old new k put h e = ap rows_in e ∙ ap (λ R. rows_in (insert_entry R old k put)) names_cmp ∙ rows_in-write old k put (entries_sorted old h)

still_some : {A : Type 0} (b : Bool) (x : A) (old new : Option A) → new ≡ cond b (Some x) old → IsSome old → IsSome new
still_some true x old new e h = ap is_some e
still_some false x old new e h = ap is_some e ∙ h

-- it keeps the room that there was
pub room_kept : (old new : EntryList) (k : RowName) (put : Option (List ℕ)) → ((q : RowName) → lookup (is_at (cmp-value.it q)) new ≡ cond (is_at (cmp-value.it k) q) (Some put) (lookup (is_at (cmp-value.it q)) old)) → (q : RowName) → HasRoom old q → HasRoom new q
room_kept old new k put updates q h =
    let found = subst (λ R. lookup (is_at (R q)) new ≡ cond (is_at (R k) q) (Some put) (lookup (is_at (R q)) old)) names_cmp (updates q) in
    still_some (is_at (name_cmp k) q) put (lookup (is_at (name_cmp q)) old) (lookup (is_at (name_cmp q)) new) found h

-- ---- changes that are undone

room_push : (old new : EntryList) (before : EntryList) (b : RowName × Option (List ℕ)) → ((q : RowName) → HasRoom old q → HasRoom new q) → HaveRoom old before → HasRoom new b.0 → HaveRoom new (before ++ b ∷ [])
room_push old new [] b kept h one = (one, tt)
room_push old new (d ∷ ds) b kept h one = (kept d.0 h.0, room_push old new ds b kept h.1 one)

-- room for one name more
pub room_more : (old new before after : EntryList) (name : RowName) (had : Option (List ℕ)) → after ≡ before ++ (name, had) ∷ [] → ((q : RowName) → HasRoom old q → HasRoom new q) → HasRoom new name → HaveRoom old before → HaveRoom new after
room_more old new before after name had is kept one h = subst (HaveRoom new) (sym is) (room_push old new before (name, had) kept h one)

-- room for the names but the last one
pub room_left : (es before rest : EntryList) (b : RowName × Option (List ℕ)) → before ≡ rest ++ b ∷ [] → HaveRoom es before → HaveRoom es rest × HasRoom es b.0
room_left es before rest b is h = split rest (subst (HaveRoom es) is h) where
  split : (rest : EntryList) → HaveRoom es (rest ++ b ∷ []) → HaveRoom es rest × HasRoom es b.0
  split [] p = (tt, p.0)
  split (d ∷ ds) p = let more = split ds p.1 in ((p.0, more.0), more.1)

pub rooms_kept : (old new before : EntryList) → ((q : RowName) → HasRoom old q → HasRoom new q) → HaveRoom old before → HaveRoom new before
rooms_kept old new [] kept h = tt
rooms_kept old new (b ∷ before) kept h = (kept b.0 h.0, rooms_kept old new before kept h.1)

same_if : (q name : RowName) (rows : RowList) (put : Option (List ℕ)) (b : Bool) → (b ≡ true → q ≡ name) → cond b (payload_at rows name) (cond b put (payload_at rows q)) ≡ payload_at rows q
same_if q name rows put true is = ap (payload_at rows) (sym (is refl))
same_if q name rows put false is = refl

-- a row that has again what it had
pub restored : (rows : RowList) (name : RowName) (put : Option (List ℕ)) → is_sorted name_cmp rows ≡ true → row_after (row_after rows name put) name (payload_at rows name) ≡ rows
restored rows name put h =
    let after = rows_after-ordered rows (record { source = name.source; key = name.key; put = put } ∷ []) h in
    let back = rows_after-ordered (row_after rows name put) (record { source = name.source; key = name.key; put = payload_at rows name } ∷ []) after in
    same_rows _ rows back h (λ q.
    payload_at-row_after (row_after rows name put) name (payload_at rows name) q after
    ∙ ap (cond (is_name q name) (payload_at rows name)) (payload_at-row_after rows name put q h)
    ∙ same_if q name rows put (is_name q name) (λ t. name_cmp_exact q name ((Equal-is (name_cmp q name)).0 t)))

undone_push : (rows : RowList) (before : EntryList) (b : RowName × Option (List ℕ)) → undone rows (before ++ b ∷ []) ≡ undone (row_after rows b.0 b.1) before
undone_push rows [] b = refl
undone_push rows (d ∷ ds) b = ap (λ r. row_after r d.0 d.1) (undone_push rows ds b)

-- one change more is undone
pub undone_more : (now new all : RowList) (before after : EntryList) (name : RowName) (put had : Option (List ℕ)) → is_sorted name_cmp now ≡ true → after ≡ before ++ (name, had) ∷ [] → had ≡ payload_at now name → new ≡ row_after now name put
    → undone now before ≡ all → undone new after ≡ all
undone_more now new all before after name put had h is found made e =
    let again : row_after new name had ≡ now = ap₂ (λ rows payload. row_after rows name payload) made found ∙ restored now name put h in
    ap (undone new) is ∙ undone_push new before (name, had) ∙ ap (λ rows. undone rows before) again ∙ e

-- the last one was undone
pub undone_left : (now new all : RowList) (before rest : EntryList) (b : RowName × Option (List ℕ)) → before ≡ rest ++ b ∷ [] → new ≡ row_after now b.0 b.1 → undone now before ≡ all → undone new rest ≡ all
undone_left now new all before rest b is made e = ap (λ rows. undone rows rest) made ∙ sym (undone_push now rest b) ∙ sym (ap (undone now) is) ∙ e

-- one change more is made, the first of those that are left
pub made_first : (now new : RowList) (changes rest : List Change) (c : Change) (all : RowList) → changes ≡ c ∷ rest → new ≡ row_after now (name_of c) c.put → rows_after now changes ≡ all → rows_after new rest ≡ all
made_first now new changes rest c all is made e = ap (λ rows. rows_after rows rest) made ∙ ap (rows_after now) (sym is) ∙ e

-- ---- changes that have what their rows had before

-- one change more has it
pub back_more : (cs : List Change) (at : ℕ) (c : Change) → at < length cs → map entry_of (take (at + 1) (set cs at c)) ≡ map entry_of (take at cs) ++ (name_of c, c.put) ∷ []
back_more cs at c lt = ap (map entry_of) (take_more_set cs at c lt) ∙ map-append entry_of (take at cs) (c ∷ [])

-- the last one that has it
pub back_last : (cs : List Change) (at : ℕ) (d : Change) → at < length cs → map entry_of (take (at + 1) cs) ≡ map entry_of (take at cs) ++ (name_of (get_or cs at d), (get_or cs at d).put) ∷ []
back_last cs at d lt = ap (map entry_of) (take_more cs at d lt) ∙ map-append entry_of (take at cs) (get_or cs at d ∷ [])

-- the changes from a place on, of which the first is made
pub made_at : (now new all : RowList) (cs : List Change) (at : ℕ) (c d : Change) → at < length cs → new ≡ row_after now (name_of (get_or cs at d)) (get_or cs at d).put → rows_after now (drop at cs) ≡ all → rows_after new (drop (at + 1) (set cs at c)) ≡ all
made_at now new all cs at c d lt made e =
    let first : drop at cs ≡ get_or cs at d ∷ drop (at + 1) (set cs at c) = drop_more cs at d lt ∙ ap (λ rest. get_or cs at d ∷ rest) (sym (drop-set-lt (at + 1) cs at c (omega arith))) in
    made_first now new (drop at cs) (drop (at + 1) (set cs at c)) (get_or cs at d) all first made e

-- those before it are as they were
pub back_same : (cs : List Change) (at : ℕ) (c : Change) → map entry_of (take at (set cs at c)) ≡ map entry_of (take at cs)
back_same cs at c = ap (map entry_of) (take-set cs at c)
