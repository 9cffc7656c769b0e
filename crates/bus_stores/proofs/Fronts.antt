-- Rows that were read so far, and the rest.
use Rattle.std.proofs.Common.{◌≡◌, ℕ, zero, suc, ◌-◌, ◌<◌, Bool, true, false, cond, List, [], ◌∷◌, ◌++◌, Ordering, Less, Equal, Greater, length, take, drop, map, Option, Some, None, IfSome, is_lt, true≢false, refl, sym, ap, subst, ◌∙◌, arith, append_assoc}
use Rattle.std.specs.Prelude.{Ok, slice_get}
use Rattle.std.proofs.lemmas.List.{take_all, take-append-drop, length-take}
use Rattle.std.proofs.lemmas.Option.{slice_get_within}
use Rattle.std.proofs.lemmas.Cmp.{tied_itself}
use Rattle.bus_types.specs.declared.change.RowName.{RowName}
use Rattle.bus_types.specs.declared.row.Row.{Row}
use Rattle.bus_types.specs.declared.row.Cursor.{Cursor}
use Rattle.bus_types.specs.declared.row.Cursor.TheVariants.{Start, After}
use Rattle.bus_types.specs.Change.{name_cmp}
use Rattle.bus_types.specs.Rows.{pair_of, is_after, rest_of, page_of, last_from, RiseAfter, IsPage}
use Rattle.bus_types.specs.Table.{RowList}
use Rattle.bus_types.proofs.Names.{name_cmp_total}
use Rattle.bus_stores.specs.Keeper.{KeeperState, Content, IsTable, Reads}
use Rattle.bus_stores.proofs.Pages.{rest_rises}
use Rattle.bus_stores.proofs.Held.{Kept, kept_more, kept_ok, told_on}

last_at : (n : ℕ) (cursor : Cursor) (rows : List Row) (x : Row) → length rows ≡ suc n → slice_get rows n ≡ Some x → last_from cursor (map pair_of rows) ≡ After x.source x.key
last_at n cursor [] x e f = absurd (omega arith)
last_at zero cursor (r ∷ []) x e f = let same : r ≡ x = cc in ap (λ (y : Row). After y.source y.key) same
last_at zero cursor (r ∷ s ∷ rs) x e f = absurd (omega arith)
last_at (suc n) cursor (r ∷ rs) x e f = last_at n (After r.source r.key) rs x (omega arith) f

-- the cursor behind rows of which this is the last
pub last_row : (cursor : Cursor) (rows : List Row) (x : Row) → slice_get rows (length rows - 1) ≡ Some x → After x.source x.key ≡ last_from cursor (map pair_of rows)
last_row cursor rows x f = sym (last_at (length rows - 1) cursor rows x (omega (arith, slice_get_within rows (length rows - 1) x f)) f)

-- ---- the rows behind those that were read

less : (r : Ordering) → is_lt r ≡ true → r ≡ Less
less Less e = refl
less Equal e = absurd (true≢false (sym e))
less Greater e = absurd (true≢false (sym e))

above : (a b : RowName) (c : RowName) → is_lt (name_cmp a b) ≡ true → is_lt (name_cmp b c) ≡ true → is_lt (name_cmp a c) ≡ true
above a b c p q = ap is_lt (name_cmp_total.trans a b c (less (name_cmp a b) p) (less (name_cmp b c) q))

after_later : (cursor : Cursor) (name later : RowName) → is_after cursor name ≡ true → is_lt (name_cmp name later) ≡ true → is_after cursor later ≡ true
after_later Start name later p q = refl
after_later (After source key) name later p q = above (record { source = source; key = key }) name later p q

rises_later : (cursor : Cursor) (name : RowName) (rows : RowList) → is_after cursor name ≡ true → RiseAfter (After name.source name.key) rows → RiseAfter cursor rows
rises_later cursor name [] p h = tt
rises_later cursor name (r ∷ rs) p h = (after_later cursor name r.0 p h.0, h.1)

all_after : (cursor : Cursor) (rows : RowList) → RiseAfter cursor rows → rest_of cursor rows ≡ rows
all_after cursor [] h = refl
all_after cursor (r ∷ rs) h = ap (λ b. cond b (r ∷ rest_of cursor rs) (rest_of cursor rs)) h.0 ∙ ap (λ l. r ∷ l) (all_after cursor rs (rises_later cursor r.0 rs h.0 h.1))

never : (b : Bool) → (b ≡ true → ⊥) → b ≡ false
never true h = absurd (h refl)
never false h = refl

not_above : (x y z : RowName) → is_lt (name_cmp y x) ≡ false → is_lt (name_cmp y z) ≡ true → is_lt (name_cmp z x) ≡ false
not_above x y z p q = never (is_lt (name_cmp z x)) (λ t. true≢false (sym (above y z x q t) ∙ p))

-- a name that isn't after another isn't after a later one
not_after : (x y : RowName) (rows : RowList) → is_lt (name_cmp y x) ≡ false → RiseAfter (After y.source y.key) rows → is_after (last_from (After y.source y.key) rows) x ≡ false
not_after x y [] below h = below
not_after x y (r ∷ rs) below h = not_after x r.0 rs (not_above x y r.0 below h.0) h.1

front_of : (cursor : Cursor) (xs ys : RowList) → RiseAfter cursor (xs ++ ys) → RiseAfter cursor xs
front_of cursor [] ys h = tt
front_of cursor (x ∷ xs) ys h = (h.0, front_of (After x.0.source x.0.key) xs ys h.1)

itself : (x : RowName) → is_lt (name_cmp x x) ≡ false
itself x = ap is_lt (tied_itself name_cmp_total x)

-- what stands behind the last row that was read
pub rest_behind : (cursor : Cursor) (xs ys : RowList) → RiseAfter cursor (xs ++ ys) → rest_of (last_from cursor xs) (xs ++ ys) ≡ ys
rest_behind cursor [] ys h = all_after cursor ys h
rest_behind cursor (x ∷ xs) ys h =
    let next = After x.0.source x.0.key in
    ap (λ b. cond b (x ∷ rest_of (last_from next xs) (xs ++ ys)) (rest_of (last_from next xs) (xs ++ ys))) (not_after x.0 x.0 xs (itself x.0) (front_of next xs ys h.1))
    ∙ rest_behind next xs ys h.1

-- ---- pages

-- all rows stand after the start
pub everything : (rows : RowList) → rest_of Start rows ≡ rows
everything [] = refl
everything (r ∷ rs) = ap (λ l. r ∷ l) (everything rs)

-- the rows read so far and those behind them are all
abbrev pub AreAll : RowList → RowList → Type 0
AreAll rows all = all ++ rest_of (last_from Start all) rows ≡ rows

none_read : (rows : RowList) → AreAll rows []
none_read rows = everything rows

-- a page more
page_read : (max : ℕ) (rows all page : RowList) → IsTable rows → page ≡ page_of (last_from Start all) max rows → AreAll rows all → AreAll rows (all ++ page)
page_read max rows all page table e h =
    let rest = rest_of (last_from Start all) rows in
    let whole : (all ++ page) ++ drop max rest ≡ rows = append_assoc all page (drop max rest) ∙ ap (λ p. all ++ (p ++ drop max rest)) e ∙ ap (λ l. all ++ l) (take-append-drop max rest) ∙ h in
    let rises = subst (RiseAfter Start) (everything rows ∙ sym whole) (rest_rises Start rows table) in
    ap (λ l. (all ++ page) ++ rest_of (last_from Start (all ++ page)) l) (sym whole)
    ∙ ap (λ l. (all ++ page) ++ l) (rest_behind Start (all ++ page) (drop max rest) rises) ∙ whole

-- the last page
last_read : (max : ℕ) (rows all page : RowList) → page ≡ page_of (last_from Start all) max rows → length page < max → AreAll rows all → all ++ page ≡ rows
last_read max rows all page e few h =
    let rest = rest_of (last_from Start all) rows in
    let whole : take max rest ≡ rest = take_all max rest (omega (arith, ap length e, length-take max rest)) in
    ap (λ p. all ++ p) (e ∙ whole) ∙ h

-- rows that rise, and a page behind them
pub rises_on : (cursor : Cursor) (all page : RowList) → RiseAfter cursor all → RiseAfter (last_from cursor all) page → RiseAfter cursor (all ++ page)
rises_on cursor [] page p q = q
rises_on cursor (r ∷ rs) page p q = (p.0, rises_on (After r.0.source r.0.key) rs page p.1 q)

pub page_rises : (max : ℕ) (cursor : Cursor) (all page total : RowList) → total ≡ all ++ page → cursor ≡ last_from Start all → RiseAfter Start all → IsPage cursor max page → RiseAfter Start total
page_rises max cursor all page total e behind p q = subst (RiseAfter Start) (sym e) (rises_on Start all page p (subst (λ at. RiseAfter at page) behind q.rising))

-- ---- keepers of which rows were read

-- what a keeper tells of the rows read so far
abbrev pub ToldAll : KeeperState → RowList → Type 0
ToldAll state all = IfSome state.content (λ c. AreAll c.rows all)

pub told_none : (state : KeeperState) → ToldAll state []
told_none state = each state.content
  where
    each : (o : Option Content) → IfSome o (λ c. AreAll c.rows [])
    each None = tt
    each (Some c) = none_read c.rows

told_page : (max : ℕ) (o : Option Content) (cursor : Cursor) (all page total : RowList) → total ≡ all ++ page → cursor ≡ last_from Start all → IfSome o (λ c. page ≡ page_of cursor max c.rows) → IfSome o (λ c. IsTable c.rows) → IfSome o (λ c. AreAll c.rows all) → IfSome o (λ c. AreAll c.rows total)
told_page max None cursor all page total e behind answer table h = tt
told_page max (Some c) cursor all page total e behind answer table h =
    subst (AreAll c.rows) (sym e) (page_read max c.rows all page table (answer ∙ ap (λ at. page_of at max c.rows) behind) h)

told_last : (max : ℕ) (o : Option Content) (cursor : Cursor) (all page total : RowList) → total ≡ all ++ page → cursor ≡ last_from Start all → length page < max → IfSome o (λ c. page ≡ page_of cursor max c.rows) → IfSome o (λ c. AreAll c.rows all) → IfSome o (λ c. total ≡ c.rows)
told_last max None cursor all page total e behind few answer h = tt
told_last max (Some c) cursor all page total e behind few answer h = e ∙ last_read max c.rows all page (answer ∙ ap (λ at. page_of at max c.rows) behind) few h

-- a page more
pub told_more : (max : ℕ) (now new : KeeperState) (cursor : Cursor) (all page total : RowList) → Reads (λ c. page_of cursor max c.rows) now new (Ok page) → IfSome new.content (λ c. IsTable c.rows) → cursor ≡ last_from Start all → total ≡ all ++ page → ToldAll now all → ToldAll new total
told_more max now new cursor all page total r table behind e h =
    told_page max new.content cursor all page total e behind r.answer table (told_on (λ c. AreAll c.rows all) now.content new.content r.same.content h)

-- the last page
pub told_done : (max : ℕ) (old now new : KeeperState) (cursor : Cursor) (all page total : RowList) → Kept old now → Reads (λ c. page_of cursor max c.rows) now new (Ok page) → cursor ≡ last_from Start all → total ≡ all ++ page → length page < max → ToldAll now all → Reads (λ c. c.rows) old new (Ok total)
told_done max old now new cursor all page total k r behind e few h =
    kept_ok (λ c. c.rows) old new total (kept_more (λ c. page_of cursor max c.rows) old now new (Ok page) k r)
    (told_last max new.content cursor all page total e behind few r.answer (told_on (λ c. AreAll c.rows all) now.content new.content r.same.content h))
