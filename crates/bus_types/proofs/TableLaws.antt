-- The table as what changes leave, and what a filter shows of it.
use Rattle.std.proofs.Common.{◌≡◌, ℕ, Bool, true, false, cond, if◌then◌else◌, List, [], ◌∷◌, ◌++◌, Option, Some, None, option_and_then, true≢false, refl, sym, ap, ◌∙◌}
use Rattle.std.specs.FinMap.{is_sorted}
use Rattle.std.specs.Cmp.{Equal-is}
use Rattle.bus_types.specs.declared.change.Change.{Change}
use Rattle.bus_types.specs.declared.change.RowName.{RowName}
use Rattle.bus_types.specs.Change.{name_cmp, is_name, name_of, Test, accepted}
use Rattle.bus_types.specs.Window.{Span}
use Rattle.bus_types.specs.Timeline.{changes_between}
use Rattle.bus_types.specs.Table.{RowList, row_after, rows_after, table, payload_at, later, last_change, HoldsLastPuts}
use Rattle.bus_types.specs.Cut.{cut, cuts}
use Rattle.bus_types.specs.View.{everything, shown}
use Rattle.bus_types.proofs.Names.{name_cmp_total, name_cmp_exact}
use Rattle.bus_types.proofs.Entries.{ordered-insert, ordered-remove, ordered-where, lookup-insert, lookup-remove, lookup-where, same_by_lookup}

-- the payload of a row after its last change, if there was one, where it was as given before
abbrev pub payload_after : Option Change → Option (List ℕ) → Option (List ℕ)
payload_after None before = before
payload_after (Some c) before = c.put

-- changes in two parts
pub rows_after-append : (rows : RowList) (cs ds : List Change) → rows_after rows (cs ++ ds) ≡ rows_after (rows_after rows cs) ds
rows_after-append rows [] ds = refl
rows_after-append rows (c ∷ cs) ds = rows_after-append (row_after rows (name_of c) c.put) cs ds

row_after-ordered : (rows : RowList) (name : RowName) (put : Option (List ℕ)) → is_sorted name_cmp rows ≡ true → is_sorted name_cmp (row_after rows name put) ≡ true
row_after-ordered rows name None h = ordered-remove name_cmp name_cmp_total rows name h
row_after-ordered rows name (Some payload) h = ordered-insert name_cmp name_cmp_total rows name payload h

-- changes keep the order of rows
pub rows_after-ordered : (rows : RowList) (cs : List Change) → is_sorted name_cmp rows ≡ true → is_sorted name_cmp (rows_after rows cs) ≡ true
rows_after-ordered rows [] h = h
rows_after-ordered rows (c ∷ cs) h = rows_after-ordered (row_after rows (name_of c) c.put) cs (row_after-ordered rows (name_of c) c.put h)

-- a table is in order
pub table-ordered : (windows : List Span) (scn : ℕ) → is_sorted name_cmp (table windows scn) ≡ true
table-ordered windows scn = rows_after-ordered [] (changes_between 0 scn windows) refl

-- what rows have of a name after one change
pub payload_at-row_after : (rows : RowList) (name : RowName) (put : Option (List ℕ)) (q : RowName) → is_sorted name_cmp rows ≡ true → payload_at (row_after rows name put) q ≡ cond (is_name q name) put (payload_at rows q)
payload_at-row_after rows name None q h = lookup-remove name_cmp name_cmp_total rows name q h
payload_at-row_after rows name (Some payload) q h = lookup-insert name_cmp name_cmp_total rows name payload q

joined : (b : Bool) (c : Change) (last : Option Change) (before : Option (List ℕ)) → payload_after last (cond b c.put before) ≡ payload_after (later (cond b (Some c) None) last) before
joined true c None before = refl
joined false c None before = refl
joined b c (Some d) before = refl

-- what rows have of a name after changes: the last of them that names it decides
pub payload_at-after : (rows : RowList) (cs : List Change) (q : RowName) → is_sorted name_cmp rows ≡ true → payload_at (rows_after rows cs) q ≡ payload_after (last_change q cs) (payload_at rows q)
payload_at-after rows [] q h = refl
payload_at-after rows (c ∷ cs) q h =
    payload_at-after (row_after rows (name_of c) c.put) cs q (row_after-ordered rows (name_of c) c.put h)
    ∙ ap (payload_after (last_change q cs)) (payload_at-row_after rows (name_of c) c.put q h)
    ∙ joined (is_name q (name_of c)) c (last_change q cs) (payload_at rows q)

-- rows in order that have the same of each name are equal
pub same_rows : (rows others : RowList) → is_sorted name_cmp rows ≡ true → is_sorted name_cmp others ≡ true → ((q : RowName) → payload_at rows q ≡ payload_at others q) → rows ≡ others
same_rows rows others g h alike = same_by_lookup name_cmp name_cmp_total name_cmp_exact rows others g h alike

put_of_last : (last : Option Change) → payload_after last None ≡ option_and_then (λ c. c.put) last
put_of_last None = refl
put_of_last (Some c) = refl

-- a table has each row exactly where its last change is a put
pub table_holds : (windows : List Span) (scn : ℕ) → HoldsLastPuts windows scn (table windows scn)
table_holds windows scn = record {
  ordered = table-ordered windows scn;
  each = λ q. payload_at-after [] (changes_between 0 scn windows) q refl ∙ put_of_last (last_change q (changes_between 0 scn windows));
}

-- a filter keeps the order of rows
pub shown-ordered : (test : Test) (rows : RowList) → is_sorted name_cmp rows ≡ true → is_sorted name_cmp (shown test rows) ≡ true
shown-ordered test rows h = ordered-where name_cmp name_cmp_total (λ n. test n.source n.key) rows h

-- what a filter shows of a name
pub payload_at-shown : (test : Test) (rows : RowList) (q : RowName) → payload_at (shown test rows) q ≡ cond (test q.source q.key) (payload_at rows q) None
payload_at-shown test rows q = lookup-where name_cmp name_cmp_total name_cmp_exact (λ n. test n.source n.key) rows q

passed : (b : Bool) (q : RowName) (c : Change) (cs : List Change) → last_change q (cond b (c ∷ cs) cs) ≡ cond b (later (if is_name q (name_of c) then Some c else None) (last_change q cs)) (last_change q cs)
passed true q c cs = refl
passed false q c cs = refl

kept_last : (b n t : Bool) (c : Change) (last : Option Change) → (n ≡ true → b ≡ t) → cond b (later (if n then Some c else None) (cond t last None)) (cond t last None) ≡ cond t (later (if n then Some c else None) last) None
kept_last true true true c last alike = refl
kept_last true true false c last alike = absurd (true≢false (alike refl))
kept_last true false true c last alike = refl
kept_last true false false c last alike = refl
kept_last false true true c last alike = absurd (true≢false (sym (alike refl)))
kept_last false true false c last alike = refl
kept_last false false true c None alike = refl
kept_last false false true c (Some d) alike = refl
kept_last false false false c last alike = refl

-- the last accepted change of a name is its last change, if it is accepted at all
pub last_change-accepted : (test : Test) (cs : List Change) (q : RowName) → last_change q (accepted test cs) ≡ cond (test q.source q.key) (last_change q cs) None
last_change-accepted test [] q = elim (test q.source q.key) as (λ t. None ≡ cond {A = Option Change} t None None) [ true ↦ refl | false ↦ refl ]
last_change-accepted test (c ∷ cs) q =
    let t = test q.source q.key in
    let b = test c.source c.key in
    let n = is_name q (name_of c) in
    let alike : n ≡ true → b ≡ t = λ e. ap (λ (name : RowName). test name.source name.key) (sym (name_cmp_exact q (name_of c) ((Equal-is (name_cmp q (name_of c))).0 e))) in
    passed b q c (accepted test cs)
    ∙ ap (λ last. cond b (later (if n then Some c else None) last) last) (last_change-accepted test cs q)
    ∙ kept_last b n t c (last_change q cs) alike

kept_payload : (t : Bool) (last : Option Change) (before : Option (List ℕ)) → cond t (payload_after last before) None ≡ payload_after (cond t last None) (cond t before None)
kept_payload true last before = refl
kept_payload false last before = refl

-- a filter commutes with changes
pub shown-after : (test : Test) (rows : RowList) (cs : List Change) → is_sorted name_cmp rows ≡ true → shown test (rows_after rows cs) ≡ rows_after (shown test rows) (accepted test cs)
shown-after test rows cs h =
    let kept = shown-ordered test rows h in
    same_rows _ _ (shown-ordered test (rows_after rows cs) (rows_after-ordered rows cs h)) (rows_after-ordered (shown test rows) (accepted test cs) kept) (λ q.
    let t = test q.source q.key in
    payload_at-shown test (rows_after rows cs) q
    ∙ ap (λ found. cond t found None) (payload_at-after rows cs q h)
    ∙ kept_payload t (last_change q cs) (payload_at rows q)
    ∙ sym (payload_at-after (shown test rows) (accepted test cs) q kept
    ∙ ap (payload_after (last_change q (accepted test cs))) (payload_at-shown test rows q)
    ∙ ap (λ last. payload_after last (cond t (payload_at rows q) None)) (last_change-accepted test cs q)))

-- everything shows each row
pub shown_everything : (rows : RowList) → shown everything rows ≡ rows
shown_everything [] = refl
shown_everything (row ∷ rows) = ap (λ l. row ∷ l) (shown_everything rows)

-- everything accepts each change
pub accepted_everything : (cs : List Change) → accepted everything cs ≡ cs
accepted_everything [] = refl
accepted_everything (c ∷ cs) = ap (λ l. c ∷ l) (accepted_everything cs)

-- everything leaves a window as it is
pub cut_everything : (w : Span) → cut everything w ≡ w
cut_everything w = ap (λ (cs : List Change). record w { changes = cs }) (accepted_everything w.changes)

-- everything leaves windows as they are
pub cuts_everything : (ws : List Span) → cuts everything ws ≡ ws
cuts_everything [] = refl
cuts_everything (w ∷ ws) = λ i. cut_everything w i ∷ cuts_everything ws i
