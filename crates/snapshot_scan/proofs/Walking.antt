-- The rows behind those that were read, and a measure of cursors.
use Rattle.std.proofs.Common.{◌≡◌, ℕ, ◌+◌, ◌*◌, ◌<◌, ◌^◌, Bool, true, false, cond, List, [], ◌∷◌, ◌++◌, Ordering, Less, Equal, Greater, length, drop, Option, Some, None, IfSome, is_lt, true≢false, nat_cmp, refl, sym, ap, subst, ◌∙◌, arith}
use Rattle.std.proofs.lemmas.List.{take-append-drop, drop_all, length-take}
use Rattle.std.specs.Prelude.{Ok, is_some}
use Rattle.std.specs.Ordering.{ordering_then, MatchOrdering}
use Rattle.std.specs.Cmp.{ranks}
use Rattle.bus_types.specs.declared.change.Key.{Key}
use Rattle.bus_types.specs.declared.change.Key.TheVariants.{Long}
use Rattle.bus_types.specs.declared.change.RowName.{RowName}
use Rattle.bus_types.specs.declared.row.Cursor.{Cursor}
use Rattle.bus_types.specs.declared.row.Cursor.TheVariants.{Start, After}
use Rattle.bus_types.specs.Change.{Test, name_cmp, key_cmp, IsKey}
use Rattle.bus_types.specs.Rows.{is_after, rest_of, page_of, last_from, RiseAfter, IsPage}
use Rattle.bus_types.specs.Table.{RowList}
use Rattle.bus_types.proofs.Names.{name_cmp_total}
use Rattle.bus_stores.specs.Keeper.{Content, KeeperState, Reads, IsTable}
use Rattle.bus_stores.proofs.Pages.{rest_rises}
use Rattle.bus_stores.proofs.Fronts.{rest_behind, rises_on}
use Rattle.bus_stores.proofs.Held.{told_on}
use Rattle.snapshot_scan.specs.Filling.{Filled, put_of, with_item, with_row, with_rows}
use Rattle.snapshot_scan.specs.Paging.{IsPlace, FilledFrom}

less : (r : Ordering) → is_lt r ≡ true → r ≡ Less
less Less e = refl
less Equal e = absurd (true≢false (sym e))
less Greater e = absurd (true≢false (sym e))

above : (a b c : RowName) → is_lt (name_cmp a b) ≡ true → is_lt (name_cmp b c) ≡ true → is_lt (name_cmp a c) ≡ true
above a b c p q = ap is_lt (name_cmp_total.trans a b c (less (name_cmp a b) p) (less (name_cmp b c) q))

after_later : (cursor : Cursor) (name later : RowName) → is_after cursor name ≡ true → is_after (After name.source name.key) later ≡ true → is_after cursor later ≡ true
after_later Start name later p q = refl
after_later (After source key) name later p q = above (record { source = source; key = key }) name later p q

-- what stands behind the last of some rows stands behind the cursor
behind_last : (cursor : Cursor) (rows : RowList) (name : RowName) → RiseAfter cursor rows → is_after (last_from cursor rows) name ≡ true → is_after cursor name ≡ true
behind_last cursor [] name h p = p
behind_last cursor (r ∷ rs) name h p = after_later cursor r.0 name h.0 (behind_last (After r.0.source r.0.key) rs name h.1 p)

kept_behind : (b : Cursor) (r : RowName × List ℕ) (rest : RowList) (p q : Bool) → is_after b r.0 ≡ q → (q ≡ true → p ≡ true) → rest_of b (cond p (r ∷ rest) rest) ≡ cond q (r ∷ rest_of b rest) (rest_of b rest)
kept_behind b r rest true q e k = ap (λ x. cond x (r ∷ rest_of b rest) (rest_of b rest)) e
kept_behind b r rest false true e k = absurd (true≢false (sym (k refl)))
kept_behind b r rest false false e k = refl

-- behind a cursor, and then behind a later one
twice : (a b : Cursor) (rows : RowList) → ((name : RowName) → is_after b name ≡ true → is_after a name ≡ true) → rest_of b (rest_of a rows) ≡ rest_of b rows
twice a b [] h = refl
twice a b (r ∷ rs) h =
    kept_behind b r (rest_of a rs) (is_after a r.0) (is_after b r.0) refl (h r.0)
    ∙ ap (λ l. cond (is_after b r.0) (r ∷ l) l) (twice a b rs h)

-- the rows behind a page
behind_page : (max : ℕ) (cursor : Cursor) (rows page : RowList) → IsTable rows → page ≡ page_of cursor max rows → RiseAfter cursor page → rest_of (last_from cursor page) rows ≡ drop max (rest_of cursor rows)
behind_page max cursor rows page table e h =
    let rest = rest_of cursor rows in
    let last = last_from cursor page in
    let whole : page ++ drop max rest ≡ rest = ap (λ p. p ++ drop max rest) e ∙ take-append-drop max rest in
    let rises : RiseAfter cursor (page ++ drop max rest) = subst (RiseAfter cursor) (sym whole) (rest_rises cursor rows table) in
    sym (twice cursor last rows (λ name p. behind_last cursor page name h p)) ∙ ap (rest_of last) (sym whole) ∙ rest_behind cursor page (drop max rest) rises

page_then : (max : ℕ) (cursor : Cursor) (rows page : RowList) → IsTable rows → page ≡ page_of cursor max rows → RiseAfter cursor page → page ++ rest_of (last_from cursor page) rows ≡ rest_of cursor rows
page_then max cursor rows page table e h =
    let rest = rest_of cursor rows in
    ap (λ l. page ++ l) (behind_page max cursor rows page table e h) ∙ ap (λ p. p ++ drop max rest) e ∙ take-append-drop max rest

-- nothing stands behind a page that isn't full
none_behind : (max : ℕ) (cursor : Cursor) (rows page : RowList) → IsTable rows → page ≡ page_of cursor max rows → RiseAfter cursor page → length page < max → rest_of (last_from cursor page) rows ≡ []
none_behind max cursor rows page table e h few =
    behind_page max cursor rows page table e h ∙ drop_all max (rest_of cursor rows) (omega (arith, ap length e, length-take max (rest_of cursor rows)))

last_on : (cursor : Cursor) (xs ys : RowList) → last_from cursor (xs ++ ys) ≡ last_from (last_from cursor xs) ys
last_on cursor [] ys = refl
last_on cursor (x ∷ xs) ys = last_on (After x.0.source x.0.key) xs ys

-- ---- filling

rows_on : (test : Test) (scn : ℕ) (f : Filled) (xs ys : RowList) → with_rows test scn f (xs ++ ys) ≡ with_rows test scn (with_rows test scn f xs) ys
rows_on test scn f [] ys = refl
rows_on test scn f (x ∷ xs) ys = rows_on test scn (with_row test scn f x) xs ys

-- an item that has not fitted ends it
stays_full : (test : Test) (scn : ℕ) (f : Filled) (rows : RowList) → is_some f.unfit ≡ true → with_rows test scn f rows ≡ f
stays_full test scn f [] h = refl
stays_full test scn f (r ∷ rs) h = ap (λ b. with_rows test scn (cond b f (cond (test r.0.source r.0.key) (with_item scn f (put_of r)) f)) rs) h ∙ stays_full test scn f rs h

-- ---- what was read of a keeper

-- rows were read up to a cursor, and the chunk was filled with them; those behind it are the rest
pub record HasWalked (test : Test) (scn : ℕ) (cursor place : Cursor) (content : Option Content) (start now : Filled) : Type 0 where
  pub rows : RowList
  pub rising : RiseAfter cursor rows
  pub at : place ≡ last_from cursor rows
  pub some : now ≡ with_rows test scn start rows
  pub all : IfSome content (λ c. with_rows test scn now (rest_of place c.rows) ≡ with_rows test scn start (rest_of cursor c.rows))

pub none_walked : (test : Test) (scn : ℕ) (cursor place : Cursor) (content : Option Content) (start now : Filled) → place ≡ cursor → now ≡ start → HasWalked test scn cursor place content start now
none_walked test scn cursor place content start now at is = record {
  rows = [];
  rising = tt;
  at = at;
  some = is;
  all = each content;
}
  where
    each : (o : Option Content) → IfSome o (λ c. with_rows test scn now (rest_of place c.rows) ≡ with_rows test scn start (rest_of cursor c.rows))
    each None = tt
    each (Some c) = ap (λ f. with_rows test scn f (rest_of place c.rows)) is ∙ ap (λ p. with_rows test scn start (rest_of p c.rows)) at

told_page : (test : Test) (scn max : ℕ) (cursor place next : Cursor) (o : Option Content) (start f g : Filled) (page : RowList)
    → RiseAfter place page → next ≡ last_from place page → g ≡ with_rows test scn f page
    → IfSome o (λ c. page ≡ page_of place max c.rows) → IfSome o (λ c. IsTable c.rows)
    → IfSome o (λ c. with_rows test scn f (rest_of place c.rows) ≡ with_rows test scn start (rest_of cursor c.rows))
    → IfSome o (λ c. with_rows test scn g (rest_of next c.rows) ≡ with_rows test scn start (rest_of cursor c.rows))
told_page test scn max cursor place next None start f g page rises behind filled answer table h = tt
told_page test scn max cursor place next (Some c) start f g page rises behind filled answer table h =
    ap (λ x. with_rows test scn x (rest_of next c.rows)) filled
    ∙ ap (λ n. with_rows test scn (with_rows test scn f page) (rest_of n c.rows)) behind
    ∙ sym (rows_on test scn f page (rest_of (last_from place page) c.rows))
    ∙ ap (with_rows test scn f) (page_then max place c.rows page table answer rises)
    ∙ h

-- a page more
pub page_walked : (test : Test) (scn max : ℕ) (cursor place next : Cursor) (now new : KeeperState) (start f g : Filled) (page : RowList)
    → Reads (λ c. page_of place max c.rows) now new (Ok page) → IfSome new.content (λ c. IsTable c.rows) → IsPage place max page
    → next ≡ last_from place page → g ≡ with_rows test scn f page
    → HasWalked test scn cursor place now.content start f → HasWalked test scn cursor next new.content start g
page_walked test scn max cursor place next now new start f g page r table is behind filled w = record {
  rows = w.rows ++ page;
  rising = rises_on cursor w.rows page w.rising (subst (λ p. RiseAfter p page) w.at is.rising);
  at = behind ∙ ap (λ p. last_from p page) w.at ∙ sym (last_on cursor w.rows page);
  some = filled ∙ ap (λ h. with_rows test scn h page) w.some ∙ sym (rows_on test scn start w.rows page);
  all =
      told_page test scn max cursor place next new.content start f g page is.rising behind filled r.answer table
      (told_on (λ c. with_rows test scn f (rest_of place c.rows) ≡ with_rows test scn start (rest_of cursor c.rows)) now.content new.content r.same.content w.all);
}

-- the rows behind a cursor that was walked to change nothing
all_walked : (test : Test) (scn : ℕ) (cursor place : Cursor) (state : KeeperState) (start f : Filled)
    → HasWalked test scn cursor place state.content start f → IfSome state.content (λ c. with_rows test scn f (rest_of place c.rows) ≡ f) → FilledFrom test scn cursor state start f
all_walked test scn cursor place state start f w none = record { rows = w.rows; rising = w.rising; some = w.some; all = each state.content none w.all }
  where
    each : (o : Option Content) → IfSome o (λ c. with_rows test scn f (rest_of place c.rows) ≡ f)
        → IfSome o (λ c. with_rows test scn f (rest_of place c.rows) ≡ with_rows test scn start (rest_of cursor c.rows)) → IfSome o (λ c. f ≡ with_rows test scn start (rest_of cursor c.rows))
    each None p q = tt
    each (Some c) p q = sym p ∙ q

told_last : (test : Test) (scn max : ℕ) (place next : Cursor) (o : Option Content) (g : Filled) (page : RowList)
    → RiseAfter place page → next ≡ last_from place page → length page < max → IfSome o (λ c. page ≡ page_of place max c.rows) → IfSome o (λ c. IsTable c.rows) → IfSome o (λ c. with_rows test scn g (rest_of next c.rows) ≡ g)
told_last test scn max place next None g page rises behind few answer table = tt
told_last test scn max place next (Some c) g page rises behind few answer table =
    ap (λ n. with_rows test scn g (rest_of n c.rows)) behind ∙ ap (with_rows test scn g) (none_behind max place c.rows page table answer rises few)

-- the last page
pub last_walked : (test : Test) (scn max : ℕ) (cursor place next : Cursor) (now new : KeeperState) (start f g : Filled) (page : RowList)
    → Reads (λ c. page_of place max c.rows) now new (Ok page) → IfSome new.content (λ c. IsTable c.rows) → IsPage place max page
    → next ≡ last_from place page → g ≡ with_rows test scn f page → length page < max
    → HasWalked test scn cursor place now.content start f → FilledFrom test scn cursor new start g
last_walked test scn max cursor place next now new start f g page r table is behind filled few w =
    all_walked test scn cursor next new start g (page_walked test scn max cursor place next now new start f g page r table is behind filled w)
    (told_last test scn max place next new.content g page is.rising behind few r.answer table)

-- a page with a row that doesn't fit
pub full_walked : (test : Test) (scn max : ℕ) (cursor place next : Cursor) (now new : KeeperState) (start f g : Filled) (page : RowList)
    → Reads (λ c. page_of place max c.rows) now new (Ok page) → IfSome new.content (λ c. IsTable c.rows) → IsPage place max page
    → next ≡ last_from place page → g ≡ with_rows test scn f page → is_some g.unfit ≡ true
    → HasWalked test scn cursor place now.content start f → FilledFrom test scn cursor new start g
full_walked test scn max cursor place next now new start f g page r table is behind filled full w =
    all_walked test scn cursor next new start g (page_walked test scn max cursor place next now new start f g page r table is behind filled w) (each new.content)
  where
    each : (o : Option Content) → IfSome o (λ c. with_rows test scn g (rest_of next c.rows) ≡ g)
    each None = tt
    each (Some c) = stays_full test scn g (rest_of next c.rows) full

-- ---- a measure of cursors

abbrev pub key_rank : Key → ℕ
key_rank (Long k) = k

abbrev pub rank_of : Cursor → ℕ
rank_of Start = 0
rank_of (After source key) = source * 2 ^ 64 + key_rank key + 1

key_within : (key : Key) → IsKey key → key_rank key < 2 ^ 64
key_within (Long k) h = h

key_ranks : (a b : Key) → MatchOrdering (key_cmp a b) (key_rank a < key_rank b) (key_rank a ≡ key_rank b) (key_rank b < key_rank a)
key_ranks (Long a) (Long b) = ranks a b

less_by : (r s : Ordering) (a b i j : ℕ) → MatchOrdering r (a < b) (a ≡ b) (b < a) → MatchOrdering s (i < j) (i ≡ j) (j < i) → is_lt (ordering_then r s) ≡ true → i < 2 ^ 64 → a * 2 ^ 64 + i + 1 < b * 2 ^ 64 + j + 1
less_by Less s a b i j p q e low = omega (arith, p, low)
less_by Equal Less a b i j p q e low = omega (arith, p, q)
less_by Equal Equal a b i j p q e low = absurd (true≢false (sym e))
less_by Equal Greater a b i j p q e low = absurd (true≢false (sym e))
less_by Greater s a b i j p q e low = absurd (true≢false (sym e))

pub rank_within : (cursor : Cursor) → IsPlace cursor → rank_of cursor < 2 ^ 81
rank_within Start h = omega arith
rank_within (After source key) h = omega (arith, h.low, key_within key h.within)

rank_less : (cursor : Cursor) (name : RowName) → IsPlace cursor → is_after cursor name ≡ true → rank_of cursor < rank_of (After name.source name.key)
rank_less Start name h a = omega arith
rank_less (After source key) name h a =
    less_by (nat_cmp source name.source) (key_cmp key name.key) source name.source (key_rank key) (key_rank name.key) (ranks source name.source) (key_ranks key name.key) a (key_within key h.within)

-- what is true of each name after a cursor is true of the last row's
last_some : (P : Cursor → Type 0) (cursor : Cursor) (r : RowName × List ℕ) (rs : RowList) → RiseAfter cursor (r ∷ rs) → ((name : RowName) → is_after cursor name ≡ true → P (After name.source name.key)) → P (last_from cursor (r ∷ rs))
last_some P cursor r [] h k = k r.0 h.0
last_some P cursor r (s ∷ rs) h k = last_some P (After r.0.source r.0.key) s rs h.1 (λ name a. k name (after_later cursor r.0 name h.0 a))

pub rank_later : (cursor next : Cursor) (page : RowList) → IsPlace cursor → 0 < length page → RiseAfter cursor page → next ≡ last_from cursor page → rank_of cursor < rank_of next
rank_later cursor next [] h some rises e = absurd (omega arith)
rank_later cursor next (r ∷ rs) h some rises e = subst (λ n. rank_of cursor < rank_of n) (sym e) (last_some (λ n. rank_of cursor < rank_of n) cursor r rs rises (λ name a. rank_less cursor name h a))
