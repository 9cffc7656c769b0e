-- Changes whose names rise from a cursor on: which of a front of them names a row.
use Rattle.std.proofs.Common.{◌≡◌, true, false, cond, List, [], ◌∷◌, ◌++◌, Ordering, Less, Equal, Greater, is_lt, Some, None, true≢false, refl, sym, ap, ◌∙◌}
use Rattle.std.specs.Cmp.{Equal-is}
use Rattle.std.specs.FinMap.{is_sorted}
use Rattle.std.proofs.lemmas.Bool.{false_from_ne_true}
use Rattle.std.proofs.lemmas.Cmp.{tied_itself}
use Rattle.bus_types.specs.declared.change.Change.{Change}
use Rattle.bus_types.specs.declared.change.RowName.{RowName}
use Rattle.bus_types.specs.declared.row.Cursor.{Cursor}
use Rattle.bus_types.specs.declared.row.Cursor.TheVariants.{Start, After}
use Rattle.bus_types.specs.Change.{name_cmp, is_name, name_of}
use Rattle.bus_types.specs.Rows.{is_after}
use Rattle.bus_types.specs.Table.{RowList, rows_after, payload_at, later, last_change}
use Rattle.bus_types.proofs.Names.{name_cmp_total, name_cmp_exact}
use Rattle.bus_types.proofs.TableLaws.{payload_after, payload_at-after}
use Rattle.event_codec.specs.Chunks.{cursor_after}
use Rattle.client_switch.proofs.Payloads.{last_change-append}

less : (r : Ordering) → is_lt r ≡ true → r ≡ Less
less Less e = refl
less Equal e = absurd (true≢false (sym e))
less Greater e = absurd (true≢false (sym e))

above : (a b c : RowName) → is_lt (name_cmp a b) ≡ true → is_lt (name_cmp b c) ≡ true → is_lt (name_cmp a c) ≡ true
above a b c p q = ap is_lt (name_cmp_total.trans a b c (less (name_cmp a b) p) (less (name_cmp b c) q))

-- what stands after a name that stands after a cursor stands after the cursor
pub after_later : (cursor : Cursor) (name next : RowName) → is_after cursor name ≡ true → is_after (After name.source name.key) next ≡ true → is_after cursor next ≡ true
after_later Start name next p q = refl
after_later (After source key) name next p q = above (record { source = source; key = key }) name next p q

pub same_name : (a b : RowName) → is_name a b ≡ true → a ≡ b
same_name a b e = name_cmp_exact a b ((Equal-is (name_cmp a b)).0 e)

-- no name stands after itself
pub not_after_itself : (name : RowName) → is_after (After name.source name.key) name ≡ false
not_after_itself name = ap is_lt (tied_itself name_cmp_total name)

-- of two names of which one stands after a cursor and the other doesn't
pub apart : (cursor : Cursor) (a b : RowName) → is_after cursor a ≡ false → is_after cursor b ≡ true → is_name a b ≡ false
apart cursor a b f t = false_from_ne_true (is_name a b) (λ e. true≢false (sym t ∙ ap (is_after cursor) (sym (same_name a b e)) ∙ f))

-- names that rise strictly from a cursor on
abbrev pub RisesFrom : Cursor → List Change → Type 0
RisesFrom cursor [] = Unit {0}
RisesFrom cursor (c ∷ cs) = (is_after cursor (name_of c) ≡ true) × RisesFrom (After c.source c.key) cs

pub rises_fore : (cursor : Cursor) (xs ys : List Change) → RisesFrom cursor (xs ++ ys) → RisesFrom cursor xs
rises_fore cursor [] ys r = tt
rises_fore cursor (x ∷ xs) ys r = (r.0, rises_fore (After x.source x.key) xs ys r.1)

pub rises_back : (cursor : Cursor) (xs ys : List Change) → RisesFrom cursor (xs ++ ys) → RisesFrom (cursor_after cursor xs) ys
rises_back cursor [] ys r = r
rises_back cursor (x ∷ xs) ys r = rises_back (After x.source x.key) xs ys r.1

-- none of them names a row that isn't after the cursor
pub none_before : (cursor : Cursor) (cs : List Change) (q : RowName) → RisesFrom cursor cs → is_after cursor q ≡ false → last_change q cs ≡ None
none_before cursor [] q r f = refl
none_before cursor (c ∷ cs) q r f =
    let below : is_after (After c.source c.key) q ≡ false = false_from_ne_true (is_after (After c.source c.key) q) (λ e. true≢false (sym (after_later cursor (name_of c) q r.0 e) ∙ f)) in
    let rest = none_before (After c.source c.key) cs q r.1 below in
    λ i. later (cond (apart cursor q (name_of c) f r.0 i) (Some c) None) (rest i)

-- a row behind the last of them is named by none, and is after the cursor
pub none_behind : (cursor : Cursor) (cs : List Change) (q : RowName) → RisesFrom cursor cs → is_after (cursor_after cursor cs) q ≡ true → (last_change q cs ≡ None) × (is_after cursor q ≡ true)
none_behind cursor [] q r e = (refl, e)
none_behind cursor (c ∷ cs) q r e =
    let rest = none_behind (After c.source c.key) cs q r.1 e in
    let other = false_from_ne_true (is_name q (name_of c)) (λ same. true≢false (sym rest.1 ∙ ap (is_after (After c.source c.key)) (same_name q (name_of c) same) ∙ not_after_itself (name_of c))) in
    (λ i. later (cond (other i) (Some c) None) (rest.0 i), after_later cursor (name_of c) q r.0 rest.1)

-- of a row that isn't behind a front of them, the front has what all have
pub front_decides : (cursor : Cursor) (xs ys : List Change) (q : RowName) → RisesFrom cursor (xs ++ ys) → is_after (cursor_after cursor xs) q ≡ false → last_change q xs ≡ last_change q (xs ++ ys)
front_decides cursor xs ys q r f =
    sym (last_change-append q xs ys ∙ ap (later (last_change q xs)) (none_before (cursor_after cursor xs) ys q (rises_back cursor xs ys r) f))

-- ---- rows after a front of them

-- a row that isn't behind the front is as after all
pub upto_front : (rows : RowList) (cursor : Cursor) (xs ys : List Change) (q : RowName) → is_sorted name_cmp rows ≡ true → RisesFrom cursor (xs ++ ys) → is_after (cursor_after cursor xs) q ≡ false → payload_at (rows_after rows xs) q ≡ payload_after (last_change q (xs ++ ys)) (payload_at rows q)
upto_front rows cursor xs ys q h r f = payload_at-after rows xs q h ∙ ap (λ last. payload_after last (payload_at rows q)) (front_decides cursor xs ys q r f)

-- a row behind the front is as it was, and was behind the cursor
pub behind_front : (rows : RowList) (cursor : Cursor) (xs ys : List Change) (q : RowName) → is_sorted name_cmp rows ≡ true → RisesFrom cursor (xs ++ ys) → is_after (cursor_after cursor xs) q ≡ true → (payload_at (rows_after rows xs) q ≡ payload_at rows q) × (is_after cursor q ≡ true)
behind_front rows cursor xs ys q h r e =
    let behind = none_behind cursor xs q (rises_fore cursor xs ys r) e in
    (payload_at-after rows xs q h ∙ ap (λ last. payload_after last (payload_at rows q)) behind.0, behind.1)
