-- Pages of rows, read from entries.
use Rattle.std.proofs.Common.{◌≡◌, ℕ, zero, suc, T, ◌+◌, ◌-◌, ◌<◌, ◌&&◌, Bool, true, false, cond, List, [], ◌∷◌, ◌++◌, length, take, map, filter, Option, Some, None, refl, sym, ap, subst, ◌∙◌, arith, length-append, length-take, append_assoc, append-nil}
use Rattle.std.proofs.lemmas.List.{length-map}
use Rattle.std.specs.Ordering.{is_lt}
use Rattle.std.specs.FinMap.{is_sorted}
use Rattle.std.specs.FinMap.Entries.{below_all}
use Rattle.std.specs.BTreeMap.Range.{entries_between, range_contains}
use Rattle.std.specs.declared.ops.Bound.{Bound}
use Rattle.std.specs.declared.ops.Bound.TheVariants.{Unbounded}
use Rattle.bus_types.specs.declared.change.RowName.{RowName}
use Rattle.bus_types.specs.declared.row.Row.{Row}
use Rattle.bus_types.specs.declared.row.Cursor.{Cursor}
use Rattle.bus_types.specs.declared.row.Cursor.TheVariants.{Start, After}
use Rattle.bus_types.specs.contracts.change.RowNameOrd.TheImpl.{cmp-value}
use Rattle.bus_types.specs.Change.{name_cmp}
use Rattle.bus_types.specs.Rows.{pair_of, is_after, rest_of, page_of, RiseAfter, IsPage}
use Rattle.bus_types.specs.Table.{RowList}
use Rattle.bus_types.proofs.Names.{name_cmp_total}
use Rattle.bus_types.proofs.Entries.{holds, is_true, ordered-where}
use Rattle.bus_stores.specs.Keeper.{IsTable}
use Rattle.bus_stores.specs.Entries.{EntryList, row_in, rows_in, bound_of}
use Rattle.bus_stores.proofs.Rooms.{names_cmp, parts}

row_in-where : (p : RowName → Bool) (name : RowName) (put : Option (List ℕ)) (rows kept : RowList) → filter (λ r. p r.0) rows ≡ kept → filter (λ r. p r.0) (row_in name put ++ rows) ≡ cond (p name) (row_in name put ++ kept) kept
row_in-where p name None rows kept e = elim (p name) as (λ b. filter (λ r. p r.0) rows ≡ cond b kept kept) [ true ↦ e | false ↦ e ]
row_in-where p name (Some payload) rows kept e = elim (p name) as (λ b. cond b ((name, payload) ∷ filter (λ r. p r.0) rows) (filter (λ r. p r.0) rows) ≡ cond b ((name, payload) ∷ kept) kept) [ true ↦ ap (λ l. (name, payload) ∷ l) e | false ↦ e ]

-- a filter of the names filters the rows
rows_in-where : (p : RowName → Bool) (es : EntryList) → rows_in (filter (λ e. p e.0) es) ≡ filter (λ r. p r.0) (rows_in es)
rows_in-where p [] = refl
rows_in-where p (e ∷ es) =
    elim (p e.0) as (λ b. rows_in (cond b (e ∷ filter (λ e. p e.0) es) (filter (λ e. p e.0) es)) ≡ cond b (row_in e.0 e.1 ++ rows_in (filter (λ e. p e.0) es)) (rows_in (filter (λ e. p e.0) es))) [ true ↦ refl | false ↦ refl ]
    ∙ sym (row_in-where p e.0 e.1 (rows_in es) _ (sym (rows_in-where p es)))

from_cursor : (cursor : Cursor) (q : RowName) → range_contains name_cmp (bound_of cursor) Unbounded q ≡ is_after cursor q
from_cursor Start q = refl
from_cursor (After source key) q = elim (is_lt (name_cmp (record { source = source; key = key }) q)) as (λ b. (b && true) ≡ b) [ true ↦ refl | false ↦ refl ]

-- the entries after a cursor have the rows after it
rows_after_cursor : (cursor : Cursor) (es : EntryList) → rows_in (entries_between cmp-value.it (bound_of cursor) Unbounded es) ≡ rest_of cursor (rows_in es)
rows_after_cursor cursor es =
    ap (λ R. rows_in (entries_between R (bound_of cursor) Unbounded es)) names_cmp
    ∙ ap (λ (p : RowName → Bool). rows_in (filter (λ e. p e.0) es)) (λ i q. from_cursor cursor q i)
    ∙ rows_in-where (is_after cursor) es

-- a page before its first entry
pub page_start : (max : ℕ) (items : List Row) (left es : EntryList) (start : Bound RowName) (cursor : Cursor) → items ≡ [] → left ≡ entries_between cmp-value.it start Unbounded es → start ≡ bound_of cursor → map pair_of items ++ take (max - length items) (rows_in left) ≡ page_of cursor max (rows_in es)
page_start max items left es start cursor none e b =
    let all : max - 0 ≡ max = omega arith in
    ap (λ (xs : List Row). map pair_of xs ++ take (max - length xs) (rows_in left)) none
    ∙ ap (λ n. take n (rows_in left)) all
    ∙ ap (λ l. take max (rows_in l)) (e ∙ ap (λ from. entries_between cmp-value.it from Unbounded es) b)
    ∙ ap (take max) (rows_after_cursor cursor es)

page_grown : (max : ℕ) (old new : List Row) (name : RowName) (put : Option (List ℕ)) (rest all : RowList) → length old < max → map pair_of new ≡ map pair_of old ++ row_in name put → map pair_of old ++ take (max - length old) (row_in name put ++ rest) ≡ all → map pair_of new ++ take (max - length new) rest ≡ all
page_grown max old new name None rest all room pushed h =
    let same : length new ≡ length old = sym (length-map new pair_of) ∙ ap length (pushed ∙ append-nil (map pair_of old)) ∙ length-map old pair_of in
    ap (λ l. l ++ take (max - length new) rest) (pushed ∙ append-nil (map pair_of old)) ∙ ap (λ n. map pair_of old ++ take (max - n) rest) same ∙ h
page_grown max old new name (Some payload) rest all room pushed h =
    let more : length new ≡ length old + 1 = sym (length-map new pair_of) ∙ ap length pushed ∙ length-append (map pair_of old) ((name, payload) ∷ []) ∙ ap (λ n. n + 1) (length-map old pair_of) in
    let one : max - length old ≡ suc (max - length new) = omega arith in
    ap (λ l. l ++ take (max - length new) rest) pushed ∙ append_assoc (map pair_of old) ((name, payload) ∷ []) (take (max - length new) rest)
    ∙ ap (λ n. map pair_of old ++ take n ((name, payload) ∷ rest)) (sym one) ∙ h

-- one entry more of a page that isn't full
pub page_more : (max : ℕ) (old new : List Row) (name : RowName) (put : Option (List ℕ)) (left rest : EntryList) (all : RowList) → length old < max → left ≡ (name, put) ∷ rest → map pair_of new ≡ map pair_of old ++ row_in name put → map pair_of old ++ take (max - length old) (rows_in left) ≡ all → map pair_of new ++ take (max - length new) (rows_in rest) ≡ all
page_more max old new name put left rest all room e pushed h =
    page_grown max old new name put (rows_in rest) all room pushed (subst (λ es. map pair_of old ++ take (max - length old) (rows_in es) ≡ all) e h)

-- ---- the order of a page

rises_above : (name : RowName) (rows : RowList) → T (below_all name_cmp name rows) → T (is_sorted name_cmp rows) → RiseAfter (After name.source name.key) rows
rises_above name [] p h = tt
rises_above name (r ∷ rs) p h =
    let q = parts (is_lt (name_cmp name r.0)) (below_all name_cmp name rs) p in
    let t = parts (below_all name_cmp r.0 rs) (is_sorted name_cmp rs) h in
    (is_true (is_lt (name_cmp name r.0)) q.0, rises_above r.0 rs t.0 t.1)

-- rows in order of which the first stands after a cursor
rises_from : (cursor : Cursor) (rows : RowList) → T (is_sorted name_cmp rows) → ((r : RowName × List ℕ) (rs : RowList) → rows ≡ r ∷ rs → is_after cursor r.0 ≡ true) → RiseAfter cursor rows
rises_from cursor [] h first = tt
rises_from cursor (r ∷ rs) h first =
    let t = parts (below_all name_cmp r.0 rs) (is_sorted name_cmp rs) h in
    (first r rs refl, rises_above r.0 rs t.0 t.1)

first_passes : (p : RowName → Bool) (rows : RowList) (r : RowName × List ℕ) (rs : RowList) → filter (λ r. p r.0) rows ≡ r ∷ rs → p r.0 ≡ true
first_passes p [] r rs e = absurd (cc)
first_passes p (x ∷ xs) r rs e =
    elim (p x.0) as (λ b. p x.0 ≡ b → cond b (x ∷ filter (λ r. p r.0) xs) (filter (λ r. p r.0) xs) ≡ r ∷ rs → p r.0 ≡ true) [
      | true ↦ λ t f. let same : x ≡ r = cc in ap (λ (y : RowName × List ℕ). p y.0) (sym same) ∙ t
      | false ↦ λ t f. first_passes p xs r rs f
    ] refl e

-- the rows of a table that stand after a cursor rise
pub rest_rises : (cursor : Cursor) (rows : RowList) → IsTable rows → RiseAfter cursor (rest_of cursor rows)
rest_rises cursor rows h =
    let kept = ordered-where name_cmp name_cmp_total (is_after cursor) rows h in
    rises_from cursor (rest_of cursor rows) (holds (is_sorted name_cmp (rest_of cursor rows)) kept) (first_passes (is_after cursor) rows)

front_rises : (n : ℕ) (cursor : Cursor) (rows : RowList) → RiseAfter cursor rows → RiseAfter cursor (take n rows)
front_rises zero cursor rows h = tt
front_rises (suc n) cursor [] h = tt
front_rises (suc n) cursor (r ∷ rs) h = (h.0, front_rises n (After r.0.source r.0.key) rs h.1)

-- a page of a table is one
pub table_page : (cursor : Cursor) (max : ℕ) (rows page : RowList) → IsTable rows → page ≡ page_of cursor max rows → IsPage cursor max page
table_page cursor max rows page h e = record {
  few = omega (arith, ap length e, length-take max (rest_of cursor rows));
  rising = subst (RiseAfter cursor) (sym e) (front_rises max cursor (rest_of cursor rows) (rest_rises cursor rows h));
}
