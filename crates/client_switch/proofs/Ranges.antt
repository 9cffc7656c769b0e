-- The numbers of names and SCNs: those of a timeline are in their ranges, and so are those of the marks that it leads to.
use Rattle.std.proofs.Common.{ℕ, ◌≤◌, Bool, true, false, cond, List, [], ◌∷◌, ◌++◌, map, filter, flat_map, Less, Equal, Greater, Option, Some, None, arith}
use Rattle.std.specs.Ordering.{match_ordering}
use Rattle.std.specs.List.{AllByRecursion}
use Rattle.std.specs.Map.{remove_entry}
use Rattle.std.specs.BTreeMap.{is_at, insert_entry}
use Rattle.bus_types.specs.declared.change.Change.{Change}
use Rattle.bus_types.specs.declared.change.RowName.{RowName}
use Rattle.bus_types.specs.declared.row.Cursor.{Cursor}
use Rattle.bus_types.specs.declared.row.Cursor.TheVariants.{After}
use Rattle.bus_types.specs.declared.limits.TheConstants.{MAX_SCN}
use Rattle.bus_types.specs.Change.{Test, accepted, name_cmp, name_of, IsChange}
use Rattle.bus_types.specs.Window.{Span}
use Rattle.bus_types.specs.Timeline.{IsTimelineFrom, IsTimeline, end_from, end_of, changes_between}
use Rattle.bus_types.specs.Table.{RowList, row_after, rows_after, table}
use Rattle.bus_types.specs.Rows.{is_after, rest_of}
use Rattle.bus_types.specs.View.{view}
use Rattle.bus_types.proofs.Stretches.{between_cases}
use Rattle.bus_types.specs.Text.{IsCursor}
use Rattle.event_codec.specs.Chunks.{cursor_after}
use Rattle.bus_types.specs.Latest.{Latest, latest_after, last_changes, changes_after}
use Rattle.event_codec.specs.Chunks.{puts_of}

-- ---- elements

module _ {X : Type 0} (P : X → Type 0) where
  pub all_fore : (xs ys : List X) → AllByRecursion P (xs ++ ys) → AllByRecursion P xs
  all_fore [] ys h = tt
  all_fore (x ∷ xs) ys h = (h.0, all_fore xs ys h.1)

  all_joined : (xs ys : List X) → AllByRecursion P xs → AllByRecursion P ys → AllByRecursion P (xs ++ ys)
  all_joined [] ys g h = h
  all_joined (x ∷ xs) ys g h = (g.0, all_joined xs ys g.1 h)

  all_kept : (p : X → Bool) (xs : List X) → AllByRecursion P xs → AllByRecursion P (filter p xs)
  all_kept p [] h = tt
  all_kept p (x ∷ xs) h =
      let rest = all_kept p xs h.1 in
      elim (p x) as (λ b. AllByRecursion P (cond b (x ∷ filter p xs) (filter p xs))) [ true ↦ (h.0, rest) | false ↦ rest ]

-- ---- names

-- the numbers of a name are in their ranges
abbrev pub IsNamed : RowName → Type 0
IsNamed name = IsCursor (After name.source name.key)

abbrev pub AreNamed : List Change → Type 0
AreNamed cs = AllByRecursion (λ c. IsNamed (name_of c)) cs

abbrev EntriesNamed : {X : Type 0} → List (RowName × X) → Type 0
EntriesNamed es = AllByRecursion (λ e. IsNamed e.0) es

-- the cursor behind changes that are named
pub cursor_named : (cursor : Cursor) (cs : List Change) → IsCursor cursor → AreNamed cs → IsCursor (cursor_after cursor cs)
cursor_named cursor [] h n = h
cursor_named cursor (c ∷ cs) h n = cursor_named (After c.source c.key) cs n.0 n.1

changes_named : (cs : List Change) → AllByRecursion IsChange cs → AreNamed cs
changes_named [] h = tt
changes_named (c ∷ cs) h = ((h.0.source, h.0.key), changes_named cs h.1)

-- the changes of a timeline
between_named : (prev low high : ℕ) (ws : List Span) → IsTimelineFrom prev ws → AreNamed (changes_between low high ws)
between_named prev low high [] t = tt
between_named prev low high (w ∷ ws) t =
    let rest = between_named w.scn low high ws t.1 in
    between_cases (λ (l : List Span). AreNamed (flat_map (λ w. w.changes) l)) low high w ws
    (λ l u. all_joined (λ c. IsNamed (name_of c)) w.changes (changes_between low high ws) (changes_named w.changes t.0.within.changes) rest)
    (λ l. rest) (λ u. rest)

insert_named : {X : Type 0} (es : List (RowName × X)) (name : RowName) (v : X) → EntriesNamed es → IsNamed name → EntriesNamed (insert_entry name_cmp es name v)
insert_named [] name v h n = (n, tt)
insert_named (e ∷ es) name v h n =
    let rest = insert_named es name v h.1 n in
    elim (name_cmp name e.0) as (λ r. EntriesNamed (match_ordering r ((name, v) ∷ e ∷ es) ((e.0, v) ∷ es) (e ∷ insert_entry name_cmp es name v))) [
      | Less ↦ (n, h)
      | Equal ↦ (h.0, h.1)
      | Greater ↦ (h.0, rest)
    ]

remove_named : {X : Type 0} (p : RowName → Bool) (es : List (RowName × X)) → EntriesNamed es → EntriesNamed (remove_entry p es)
remove_named p [] h = tt
remove_named p (e ∷ es) h =
    let rest = remove_named p es h.1 in
    elim (p e.0) as (λ b. EntriesNamed (cond b es (e ∷ remove_entry p es))) [ true ↦ h.1 | false ↦ (h.0, rest) ]

row_named : (rows : RowList) (name : RowName) (put : Option (List ℕ)) → EntriesNamed rows → IsNamed name → EntriesNamed (row_after rows name put)
row_named rows name None h n = remove_named (is_at (name_cmp name)) rows h
row_named rows name (Some payload) h n = insert_named rows name payload h n

rows_named : (rows : RowList) (cs : List Change) → EntriesNamed rows → AreNamed cs → EntriesNamed (rows_after rows cs)
rows_named rows [] h n = h
rows_named rows (c ∷ cs) h n = rows_named (row_after rows (name_of c) c.put) cs (row_named rows (name_of c) c.put h n.0) n.1

puts_named : (rows : RowList) → EntriesNamed rows → AreNamed (puts_of rows)
puts_named [] h = tt
puts_named (r ∷ rs) h = (h.0, puts_named rs h.1)

-- the rows of a scan
pub scan_named : (test : Test) (ws : List Span) (scn : ℕ) (cursor : Cursor) → IsTimeline ws → AreNamed (puts_of (rest_of cursor (view test ws scn)))
scan_named test ws scn cursor t =
    let rows = rows_named [] (changes_between 0 scn ws) tt (between_named 0 0 scn ws t) in
    let shown = all_kept (λ (r : RowName × List ℕ). IsNamed r.0) (λ r. test r.0.source r.0.key) (table ws scn) rows in
    puts_named (rest_of cursor (view test ws scn)) (all_kept (λ (r : RowName × List ℕ). IsNamed r.0) (λ r. is_after cursor r.0) (view test ws scn) shown)

latest_named : (es : Latest) (cs : List Change) → EntriesNamed es → AreNamed cs → EntriesNamed (latest_after es cs)
latest_named es [] h n = h
latest_named es (c ∷ cs) h n = latest_named (insert_entry name_cmp es (name_of c) c.put) cs (insert_named es (name_of c) c.put h n.0) n.1

made_named : (es : Latest) → EntriesNamed es → AreNamed (map (λ e. record { source = e.0.source; key = e.0.key; put = e.1 }) es)
made_named [] h = tt
made_named (e ∷ es) h = (h.0, made_named es h.1)

-- the changes of a delta
pub delta_named : (ws : List Span) (test : Test) (low high : ℕ) (cursor : Cursor) → IsTimeline ws → AreNamed (changes_after cursor (last_changes ws test low high))
delta_named ws test low high cursor t =
    let IsNamedChange = λ (c : Change). IsNamed (name_of c) in
    let cs = changes_between low high ws in
    let kept = all_kept IsNamedChange (λ c. test c.source c.key) cs (between_named 0 low high ws t) in
    all_kept IsNamedChange (λ c. is_after cursor (name_of c)) (last_changes ws test low high) (made_named (latest_after [] (accepted test cs)) (latest_named [] (accepted test cs) tt kept))

-- ---- SCNs

timeline_below : (prev : ℕ) (ws : List Span) → prev ≤ MAX_SCN → IsTimelineFrom prev ws → end_from prev ws ≤ MAX_SCN
timeline_below prev [] h t = h
timeline_below prev (w ∷ ws) h t = timeline_below w.scn ws t.0.within.scn t.1

-- a timeline ends within the range of SCNs
pub end_below : (ws : List Span) → IsTimeline ws → end_of ws ≤ MAX_SCN
end_below ws t = timeline_below 0 ws (omega arith) t
