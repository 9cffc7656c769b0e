-- Entries in order of name as changes: their names rise, and the last change of a row is its entry.
use Rattle.std.proofs.Common.{◌≡◌, ℕ, ◌&&◌, Bool, true, false, cond, T, subst, List, [], ◌∷◌, map, filter, Option, Some, None, is_lt, refl, sym, ap, ◌∙◌}
use Rattle.std.specs.Map.{lookup}
use Rattle.std.specs.BTreeMap.{is_at, insert_entry}
use Rattle.std.specs.FinMap.{is_sorted}
use Rattle.std.specs.FinMap.Entries.{below_all}
use Rattle.std.proofs.lemmas.Bool.{cond-true}
use Rattle.bus_types.specs.declared.change.Change.{Change}
use Rattle.bus_types.specs.declared.change.RowName.{RowName}
use Rattle.bus_types.specs.declared.row.Cursor.{Cursor}
use Rattle.bus_types.specs.declared.row.Cursor.TheVariants.{After}
use Rattle.bus_types.specs.Change.{Test, accepted, name_cmp, is_name, name_of}
use Rattle.bus_types.specs.Window.{Span}
use Rattle.bus_types.specs.Timeline.{changes_between}
use Rattle.bus_types.specs.Table.{table, payload_at, later, last_change}
use Rattle.bus_types.specs.Rows.{is_after, rest_of}
use Rattle.bus_types.specs.View.{view}
use Rattle.bus_types.proofs.Names.{name_cmp_total, name_cmp_exact}
use Rattle.bus_types.proofs.Entries.{holds, is_true, ordered-insert, ordered-where, lookup-insert, lookup-where}
use Rattle.bus_types.proofs.TableLaws.{payload_after, table-ordered, shown-ordered}
use Rattle.bus_types.specs.Latest.{Latest, latest_after, last_changes, changes_after}
use Rattle.event_codec.specs.Chunks.{puts_of}
use Rattle.client_switch.proofs.Payloads.{later_none}
use Rattle.client_switch.proofs.Cursors.{RisesFrom, same_name, not_after_itself, none_before}

parts : (a b : Bool) → T (a && b) → T a × T b
parts true b h = (tt, h)
parts false b h = absurd h

-- entries as changes, each putting what its value says
abbrev pub changes_from : {X : Type 0} → (X → Option (List ℕ)) → List (RowName × X) → List Change
changes_from put es = map (λ e. record { source = e.0.source; key = e.0.key; put = put e.1 }) es

-- what an entry that was found puts, or what there was before
abbrev pub entry_put : {X : Type 0} → (X → Option (List ℕ)) → Option X → Option (List ℕ) → Option (List ℕ)
entry_put put None before = before
entry_put put (Some v) before = put v

-- ---- their names rise

rises_above : {X : Type 0} (put : X → Option (List ℕ)) (name : RowName) (es : List (RowName × X)) → T (below_all name_cmp name es) → T (is_sorted name_cmp es) → RisesFrom (After name.source name.key) (changes_from put es)
rises_above put name [] p h = tt
rises_above put name (e ∷ es) p h =
    let q = parts (is_lt (name_cmp name e.0)) (below_all name_cmp name es) p in
    let t = parts (below_all name_cmp e.0 es) (is_sorted name_cmp es) h in
    (is_true (is_lt (name_cmp name e.0)) q.0, rises_above put e.0 es t.0 t.1)

rises_first : {X : Type 0} (put : X → Option (List ℕ)) (cursor : Cursor) (es : List (RowName × X)) → T (is_sorted name_cmp es) → ((e : RowName × X) (rest : List (RowName × X)) → es ≡ e ∷ rest → is_after cursor e.0 ≡ true) → RisesFrom cursor (changes_from put es)
rises_first put cursor [] h first = tt
rises_first put cursor (e ∷ es) h first =
    let t = parts (below_all name_cmp e.0 es) (is_sorted name_cmp es) h in
    (first e es refl, rises_above put e.0 es t.0 t.1)

first_passes : {X : Type 0} (p : RowName → Bool) (es : List (RowName × X)) (e : RowName × X) (rest : List (RowName × X)) → filter (λ e. p e.0) es ≡ e ∷ rest → p e.0 ≡ true
first_passes p [] e rest f = absurd (cc)
first_passes {X = X} p (x ∷ xs) e rest f =
    elim (p x.0) as (λ b. p x.0 ≡ b → cond b (x ∷ filter (λ e. p e.0) xs) (filter (λ e. p e.0) xs) ≡ e ∷ rest → p e.0 ≡ true) [
      | true ↦ λ t g. let same : x ≡ e = cc in ap (λ (y : RowName × X). p y.0) (sym same) ∙ t
      | false ↦ λ t g. first_passes p xs e rest g
    ] refl f

-- entries behind a cursor
abbrev pub behind : {X : Type 0} → Cursor → List (RowName × X) → List (RowName × X)
behind cursor es = filter (λ e. is_after cursor e.0) es

-- those of a map that stand behind a cursor rise from it on
pub behind_rises : {X : Type 0} (put : X → Option (List ℕ)) (cursor : Cursor) (es : List (RowName × X)) → is_sorted name_cmp es ≡ true → RisesFrom cursor (changes_from put (behind cursor es))
behind_rises put cursor es h =
    let kept = ordered-where name_cmp name_cmp_total (is_after cursor) es h in
    rises_first put cursor (behind cursor es) (holds (is_sorted name_cmp (behind cursor es)) kept) (first_passes (is_after cursor) es)

-- ---- the last change of a row

found_step : {X : Type 0} (put : X → Option (List ℕ)) (b : Bool) (c : Change) (last : Option Change) (found : Option X) (v : X) (before : Option (List ℕ)) → c.put ≡ put v → (b ≡ true → last ≡ None) → payload_after last before ≡ entry_put put found before → payload_after (later (cond b (Some c) None) last) before ≡ entry_put put (cond b (Some v) found) before
found_step put true c last found v before p none rest = ap (λ l. payload_after (later (Some c) l) before) (none refl) ∙ p
found_step put false c last found v before p none rest = ap (λ l. payload_after l before) (later_none last) ∙ rest

-- of entries whose names rise, what the last change of a row puts is what its entry says
pub last_is_entry : {X : Type 0} (put : X → Option (List ℕ)) (cursor : Cursor) (es : List (RowName × X)) (q : RowName) (before : Option (List ℕ)) → RisesFrom cursor (changes_from put es) → payload_after (last_change q (changes_from put es)) before ≡ entry_put put (lookup (is_at (name_cmp q)) es) before
last_is_entry put cursor [] q before r = refl
last_is_entry put cursor (e ∷ es) q before r =
    let next = After e.0.source e.0.key in
    let rest = last_is_entry put next es q before r.1 in
    found_step put (is_name q e.0) (record { source = e.0.source; key = e.0.key; put = put e.1 }) (last_change q (changes_from put es)) (lookup (is_at (name_cmp q)) es) e.1 before refl
    (λ same. none_before next (changes_from put es) q r.1 (ap (is_after next) (same_name q e.0 same) ∙ not_after_itself e.0))
    rest

-- of a row behind the cursor, what the last change behind the cursor puts is what its entry says
pub last_behind : {X : Type 0} (put : X → Option (List ℕ)) (cursor : Cursor) (es : List (RowName × X)) (q : RowName) (before : Option (List ℕ)) → is_sorted name_cmp es ≡ true → is_after cursor q ≡ true → payload_after (last_change q (changes_from put (behind cursor es))) before ≡ entry_put put (lookup (is_at (name_cmp q)) es) before
last_behind put cursor es q before h after =
    last_is_entry put cursor (behind cursor es) q before (behind_rises put cursor es h)
    ∙ ap (λ found. entry_put put found before) (lookup-where name_cmp name_cmp_total name_cmp_exact (is_after cursor) es q ∙ cond-true (is_after cursor q) (lookup (is_at (name_cmp q)) es) None after)

-- ---- the rows of a scan

found_put : (found : Option (List ℕ)) → entry_put Some found None ≡ found
found_put None = refl
found_put (Some v) = refl

pub puts_rise : (test : Test) (ws : List Span) (scn : ℕ) (cursor : Cursor) → RisesFrom cursor (puts_of (rest_of cursor (view test ws scn)))
puts_rise test ws scn cursor = behind_rises Some cursor (view test ws scn) (shown-ordered test (table ws scn) (table-ordered ws scn))

-- a row behind the cursor that wasn't there is then as in the view
pub puts_give : (test : Test) (ws : List Span) (scn : ℕ) (cursor : Cursor) (q : RowName) → is_after cursor q ≡ true → payload_after (last_change q (puts_of (rest_of cursor (view test ws scn)))) None ≡ payload_at (view test ws scn) q
puts_give test ws scn cursor q after =
    last_behind Some cursor (view test ws scn) q None (shown-ordered test (table ws scn) (table-ordered ws scn)) after
    ∙ found_put (lookup (is_at (name_cmp q)) (view test ws scn))

-- ---- the last changes of a stretch

latest-ordered : (es : Latest) (cs : List Change) → is_sorted name_cmp es ≡ true → is_sorted name_cmp (latest_after es cs) ≡ true
latest-ordered es [] h = h
latest-ordered es (c ∷ cs) h = latest-ordered (insert_entry name_cmp es (name_of c) c.put) cs (ordered-insert name_cmp name_cmp_total es (name_of c) c.put h)

inserted : (b : Bool) (c : Change) (last : Option Change) (found : Option (Option (List ℕ))) (before : Option (List ℕ)) → payload_after last (entry_put (λ p. p) (cond b (Some c.put) found) before) ≡ payload_after (later (cond b (Some c) None) last) (entry_put (λ p. p) found before)
inserted true c None found before = refl
inserted false c None found before = refl
inserted b c (Some d) found before = refl

-- what the latest of changes has of a row is what the last of them puts
latest_has : (es : Latest) (cs : List Change) (q : RowName) (before : Option (List ℕ)) → entry_put (λ p. p) (lookup (is_at (name_cmp q)) (latest_after es cs)) before ≡ payload_after (last_change q cs) (entry_put (λ p. p) (lookup (is_at (name_cmp q)) es) before)
latest_has es [] q before = refl
latest_has es (c ∷ cs) q before =
    latest_has (insert_entry name_cmp es (name_of c) c.put) cs q before
    ∙ ap (λ found. payload_after (last_change q cs) (entry_put (λ p. p) found before)) (lookup-insert name_cmp name_cmp_total es (name_of c) c.put q)
    ∙ inserted (is_name q (name_of c)) c (last_change q cs) (lookup (is_at (name_cmp q)) es) before

-- entries behind a cursor, as changes
behind_changes : {X : Type 0} (put : X → Option (List ℕ)) (cursor : Cursor) (es : List (RowName × X)) → changes_after cursor (changes_from put es) ≡ changes_from put (behind cursor es)
behind_changes put cursor [] = refl
behind_changes {X = X} put cursor (e ∷ es) =
    let c : Change = record { source = e.0.source; key = e.0.key; put = put e.1 } in
    let rest = behind_changes put cursor es in
    elim (is_after cursor e.0) as (λ b. cond b (c ∷ changes_after cursor (changes_from put es)) (changes_after cursor (changes_from put es)) ≡ changes_from put (cond b (e ∷ behind cursor es) (behind cursor es))) [
      | true ↦ ap (λ l. c ∷ l) rest
      | false ↦ rest
    ]

-- the last changes of a stretch, in order of name
abbrev latest : List Span → Test → ℕ → ℕ → Latest
latest ws test low high = latest_after [] (accepted test (changes_between low high ws))

pub changes_rise : (ws : List Span) (test : Test) (low high : ℕ) (cursor : Cursor) → RisesFrom cursor (changes_after cursor (last_changes ws test low high))
changes_rise ws test low high cursor =
    let es = latest ws test low high in
    subst (RisesFrom cursor) (sym (behind_changes (λ p. p) cursor es)) (behind_rises (λ p. p) cursor es (latest-ordered [] (accepted test (changes_between low high ws)) refl))

-- a row behind the cursor is then as after all accepted changes of the stretch
pub changes_give : (ws : List Span) (test : Test) (low high : ℕ) (cursor : Cursor) (q : RowName) (before : Option (List ℕ)) → is_after cursor q ≡ true → payload_after (last_change q (changes_after cursor (last_changes ws test low high))) before ≡ payload_after (last_change q (accepted test (changes_between low high ws))) before
changes_give ws test low high cursor q before after =
    let es = latest ws test low high in
    let cs = accepted test (changes_between low high ws) in
    ap (λ all. payload_after (last_change q all) before) (behind_changes (λ p. p) cursor es)
    ∙ last_behind (λ p. p) cursor es q before (latest-ordered [] cs refl) after
    ∙ latest_has [] cs q before
