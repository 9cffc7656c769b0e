-- What the table has of a row at one SCN and at another, and rows that are as a view.
use Rattle.std.proofs.Common.{◌≡◌, ℕ, ◌≤◌, true, false, cond, List, [], ◌∷◌, ◌++◌, Option, Some, None, is_some, true≢false, refl, sym, ap, ◌∙◌}
use Rattle.std.specs.FinMap.{is_sorted}
use Rattle.std.proofs.lemmas.Bool.{cond-true, cond-false}
use Rattle.bus_types.specs.declared.change.Change.{Change}
use Rattle.bus_types.specs.declared.change.RowName.{RowName}
use Rattle.bus_types.specs.Change.{Test, name_cmp, is_name, name_of}
use Rattle.bus_types.specs.Window.{Span}
use Rattle.bus_types.specs.Timeline.{IsTimeline, changes_between}
use Rattle.bus_types.specs.Table.{RowList, table, payload_at, later, last_change, last_between}
use Rattle.bus_types.specs.View.{view}
use Rattle.bus_types.proofs.TableLaws.{payload_after, payload_at-after, table-ordered, shown-ordered, payload_at-shown, same_rows}
use Rattle.bus_types.proofs.Stretches.{changes_between-split, table_moves}
use Rattle.client_switch.specs.Good.{IsAsAt, changed}

-- ---- the last change

pub later_none : (a : Option Change) → later None a ≡ a
later_none None = refl
later_none (Some c) = refl

later-assoc : (a b c : Option Change) → later a (later b c) ≡ later (later a b) c
later-assoc a b None = refl
later-assoc a b (Some c) = refl

-- the last of changes in two parts
pub last_change-append : (name : RowName) (xs ys : List Change) → last_change name (xs ++ ys) ≡ later (last_change name xs) (last_change name ys)
last_change-append name [] ys = sym (later_none (last_change name ys))
last_change-append name (x ∷ xs) ys =
    let here = cond (is_name name (name_of x)) (Some x) None in
    ap (later here) (last_change-append name xs ys) ∙ later-assoc here (last_change name xs) (last_change name ys)

-- where there is no later change, there is none of either
pub not_later : (a b : Option Change) → later a b ≡ None → (a ≡ None) × (b ≡ None)
not_later a None e = (e, refl)
not_later a (Some c) e = absurd (cc)

pub none_of : (a : Option Change) → is_some a ≡ false → a ≡ None
none_of None e = refl
none_of (Some c) e = absurd (true≢false e)

-- the last change of a row between two SCNs, split at an SCN between them
pub last_between-split : (ws : List Span) (name : RowName) (low mid high : ℕ) → IsTimeline ws → low ≤ mid → mid ≤ high → last_between ws name low high ≡ later (last_between ws name low mid) (last_between ws name mid high)
last_between-split ws name low mid high t l h = ap (last_change name) (changes_between-split 0 low mid high ws t l h) ∙ last_change-append name (changes_between low mid ws) (changes_between mid high ws)

-- ---- one SCN and another

-- what the later table has of a row: what the last change between puts, or what the earlier one has
pub changed_at : (ws : List Span) (name : RowName) (low high : ℕ) → IsTimeline ws → low ≤ high → payload_at (table ws high) name ≡ payload_after (last_between ws name low high) (payload_at (table ws low) name)
changed_at ws name low high t h = ap (λ (rows : RowList). payload_at rows name) (table_moves ws low high t h) ∙ payload_at-after (table ws low) (changes_between low high ws) name (table-ordered ws low)

-- a row that doesn't change between two SCNs is the same at each SCN from one to the other
pub unchanged : (ws : List Span) (name : RowName) (low high at : ℕ) → IsTimeline ws → changed ws name low high ≡ false → low ≤ at → at ≤ high → payload_at (table ws at) name ≡ payload_at (table ws low) name
unchanged ws name low high at t e l h =
    let none = not_later (last_between ws name low at) (last_between ws name at high) (sym (last_between-split ws name low at high t l h) ∙ none_of (last_between ws name low high) e) in
    changed_at ws name low at t l ∙ ap (λ last. payload_after last (payload_at (table ws low) name)) none.0

-- ---- views

-- rows that are as a view have of each name what the table has, or nothing
pub view_has : (test : Test) (ws : List Span) (scn : ℕ) (rows : RowList) (name : RowName) → rows ≡ view test ws scn → test name.source name.key ≡ true → IsAsAt ws rows name scn
view_has test ws scn rows name e t = ap (λ (l : RowList). payload_at l name) e ∙ payload_at-shown test (table ws scn) name ∙ cond-true (test name.source name.key) (payload_at (table ws scn) name) None t

pub view_lacks : (test : Test) (ws : List Span) (scn : ℕ) (rows : RowList) (name : RowName) → rows ≡ view test ws scn → test name.source name.key ≡ false → payload_at rows name ≡ None
view_lacks test ws scn rows name e f = ap (λ (l : RowList). payload_at l name) e ∙ payload_at-shown test (table ws scn) name ∙ cond-false (test name.source name.key) (payload_at (table ws scn) name) None f

-- and rows that have just that are as the view
pub view_is : (test : Test) (ws : List Span) (scn : ℕ) (rows : RowList) → is_sorted name_cmp rows ≡ true → ((name : RowName) → test name.source name.key ≡ false → payload_at rows name ≡ None) → ((name : RowName) → test name.source name.key ≡ true → IsAsAt ws rows name scn) → rows ≡ view test ws scn
view_is test ws scn rows ordered lacks has =
    same_rows rows (view test ws scn) ordered (shown-ordered test (table ws scn) (table-ordered ws scn)) (λ q.
    elim (test q.source q.key) as (λ b. test q.source q.key ≡ b → payload_at rows q ≡ cond b (payload_at (table ws scn) q) None) [
      | true ↦ λ t. has q t
      | false ↦ λ f. lacks q f
    ] refl ∙ sym (payload_at-shown test (table ws scn) q))
