-- The last changes between two SCNs, and the table at the upper one.
use Rattle.std.proofs.Common.{◌≡◌, ℕ, ◌≤◌, ◌&&◌, Bool, true, false, cond, T, List, [], ◌∷◌, map, Option, Some, None, IfSome, Ordering, Less, Equal, Greater, is_eq, is_lt, refl, sym, ap, subst, ◌∙◌}
use Rattle.std.specs.Map.{lookup}
use Rattle.std.specs.BTreeMap.{is_at, insert_entry}
use Rattle.std.specs.FinMap.{is_sorted}
use Rattle.std.specs.FinMap.Entries.{below_all}
use Rattle.std.specs.Cmp.{Equal-is}
use Rattle.bus_types.specs.declared.change.Change.{Change}
use Rattle.bus_types.specs.declared.change.RowName.{RowName}
use Rattle.bus_types.specs.Change.{Test, accepted, name_cmp, is_name, name_of}
use Rattle.bus_types.specs.Window.{Span}
use Rattle.bus_types.specs.Timeline.{IsTimeline, changes_between}
use Rattle.bus_types.specs.Table.{table, payload_at, later, last_change}
use Rattle.bus_types.specs.Latest.{Latest, latest_after, last_changes}
use Rattle.bus_types.proofs.Names.{name_cmp_total, name_cmp_exact}
use Rattle.bus_types.proofs.Entries.{holds, ordered-insert, lookup-insert}
use Rattle.bus_types.proofs.TableLaws.{payload_after, payload_at-after, table-ordered, last_change-accepted}
use Rattle.bus_types.proofs.Stretches.{table_moves}
use Rattle.delta_consolidate.specs.Latest.{changes_of}
use Rattle.delta_consolidate.specs.Leading.{AreLast, LeadTo}

parts : (a b : Bool) → T (a && b) → T a × T b
parts true b h = (tt, h)
parts false b h = absurd h

less : (r : Ordering) → T (is_lt r) → r ≡ Less
less Less h = refl
less Equal h = absurd h
less Greater h = absurd h

later_none : (last : Option Change) → later None last ≡ last
later_none None = refl
later_none (Some c) = refl

same_name : (q k : RowName) → is_name q k ≡ true → q ≡ k
same_name q k e = name_cmp_exact q k ((Equal-is (name_cmp q k)).0 e)

-- ---- entries in order of name

-- they stay so as changes are taken
latest-ordered : (es : Latest) (cs : List Change) → is_sorted name_cmp es ≡ true → is_sorted name_cmp (latest_after es cs) ≡ true
latest-ordered es [] h = h
latest-ordered es (c ∷ cs) h = latest-ordered (insert_entry name_cmp es (name_of c) c.put) cs (ordered-insert name_cmp name_cmp_total es (name_of c) c.put h)

-- entries as changes, and back
entries_back : (es : Latest) → map (λ c. (name_of c, c.put)) (changes_of es) ≡ es
entries_back [] = refl
entries_back (e ∷ es) = ap (λ l. e ∷ l) (entries_back es)

-- what a row's entry puts, as a change of the row
abbrev change_at : RowName → Option (Option (List ℕ)) → Option Change
change_at q None = None
change_at q (Some put) = Some (record { source = q.source; key = q.key; put = put })

none_above : (q x : RowName) (es : Latest) → name_cmp q x ≡ Equal → T (below_all name_cmp x es) → last_change q (changes_of es) ≡ None
none_above q x [] same h = refl
none_above q x (e ∷ es) same h =
    let p = parts (is_lt (name_cmp x e.0)) (below_all name_cmp x es) h in
    let above = name_cmp_total.congr q x e.0 same ∙ less (name_cmp x e.0) p.0 in
    let c : Change = record { source = e.0.source; key = e.0.key; put = e.1 } in
    ap (λ r. later (cond (is_eq r) (Some c) None) (last_change q (changes_of es))) above ∙ ap (later None) (none_above q x es same p.1)

at_first : (b : Bool) (q name : RowName) (put : Option (List ℕ)) (last : Option Change) (found : Option (Option (List ℕ))) → (b ≡ true → q ≡ name) → (b ≡ true → last ≡ None) → last ≡ change_at q found
    → later (cond b (Some (record { source = name.source; key = name.key; put = put })) None) last ≡ change_at q (cond b (Some put) found)
at_first true q name put last found same none rest = ap (later (Some (record { source = name.source; key = name.key; put = put }))) (none refl) ∙ ap (λ n. change_at n (Some put)) (sym (same refl))
at_first false q name put last found same none rest = later_none last ∙ rest

-- of entries in order, the last change of a row is its entry
last_is_entry : (q : RowName) (es : Latest) → T (is_sorted name_cmp es) → last_change q (changes_of es) ≡ change_at q (lookup (is_at (name_cmp q)) es)
last_is_entry q [] h = refl
last_is_entry q (e ∷ es) h =
    let p = parts (below_all name_cmp e.0 es) (is_sorted name_cmp es) h in
    at_first (is_name q e.0) q e.0 e.1 (last_change q (changes_of es)) (lookup (is_at (name_cmp q)) es) (same_name q e.0)
    (λ e1. none_above q e.0 es ((Equal-is (name_cmp q e.0)).0 e1) p.0) (last_is_entry q es p.1)

-- ---- the last change of a row

-- what a change puts, or what there was before
abbrev put_after : Option Change → Option (Option (List ℕ)) → Option (Option (List ℕ))
put_after None before = before
put_after (Some c) before = Some c.put

inserted : (b : Bool) (c : Change) (last : Option Change) (found : Option (Option (List ℕ))) → put_after last (cond b (Some c.put) found) ≡ put_after (later (cond b (Some c) None) last) found
inserted true c None found = refl
inserted false c None found = refl
inserted b c (Some d) found = refl

-- what the latest of changes has of a row is what the last of them puts
latest_has : (q : RowName) (es : Latest) (cs : List Change) → lookup (is_at (name_cmp q)) (latest_after es cs) ≡ put_after (last_change q cs) (lookup (is_at (name_cmp q)) es)
latest_has q es [] = refl
latest_has q es (c ∷ cs) =
    latest_has q (insert_entry name_cmp es (name_of c) c.put) cs
    ∙ ap (put_after (last_change q cs)) (lookup-insert name_cmp name_cmp_total es (name_of c) c.put q)
    ∙ inserted (is_name q (name_of c)) c (last_change q cs) (lookup (is_at (name_cmp q)) es)

named : (b : Bool) (q : RowName) (c : Change) (last : Option Change) → (b ≡ true → q ≡ name_of c) → change_at q (put_after last None) ≡ last → change_at q (put_after (later (cond b (Some c) None) last) None) ≡ later (cond b (Some c) None) last
named true q c None same rest = ap (λ n. change_at n (Some c.put)) (same refl)
named false q c None same rest = refl
named b q c (Some d) same rest = rest

-- the last change of a row is of that row
last_named : (q : RowName) (cs : List Change) → change_at q (put_after (last_change q cs) None) ≡ last_change q cs
last_named q [] = refl
last_named q (c ∷ cs) = named (is_name q (name_of c)) q c (last_change q cs) (same_name q (name_of c)) (last_named q cs)

-- the last changes between two SCNs
pub are_last : (ws : List Span) (test : Test) (low high : ℕ) → AreLast ws test low high (last_changes ws test low high)
are_last ws test low high =
    let all = changes_between low high ws in
    let es = latest_after [] (accepted test all) in
    let ordered = latest-ordered [] (accepted test all) refl in
    record {
      ordered = ap (is_sorted name_cmp) (entries_back es) ∙ ordered;
      each = λ q.
          last_is_entry q es (holds (is_sorted name_cmp es) ordered)
          ∙ ap (change_at q) (latest_has q [] (accepted test all))
          ∙ last_named q (accepted test all)
          ∙ last_change-accepted test all q;
    }

leads : (t : Bool) (last : Option Change) (before now : Option (List ℕ)) → now ≡ payload_after last before → IfSome (cond t last None) (λ c. c.put ≡ now)
leads true None before now e = tt
leads true (Some c) before now e = sym e
leads false last before now e = tt

-- they lead to the table at the upper SCN
pub lead_to : (ws : List Span) (test : Test) (low high : ℕ) → IsTimeline ws → low ≤ high → LeadTo ws high (last_changes ws test low high)
lead_to ws test low high t h q =
    let all = changes_between low high ws in
    let now = ap (λ rows. payload_at rows q) (table_moves ws low high t h) ∙ payload_at-after (table ws low) all q (table-ordered ws low) in
    subst (λ o. IfSome o (λ c. c.put ≡ payload_at (table ws high) q)) (sym ((are_last ws test low high).each q))
    (leads (test q.source q.key) (last_change q all) (payload_at (table ws low) q) (payload_at (table ws high) q) now)
