-- The rows of a table at an SCN.
use Rattle.std.proofs.Common.{◌≡◌, ℕ, ◌==◌, Bool, true, false, cond, List, [], ◌∷◌, ◌++◌, filter, Option, Some, None, IfSome, refl, sym, ap, ◌∙◌}
use Rattle.std.specs.Prelude.{is_some}
use Rattle.bus_types.specs.declared.change.RowName.{RowName}
use Rattle.bus_types.specs.declared.row.Cursor.{Cursor}
use Rattle.bus_types.specs.Change.{Test}
use Rattle.bus_types.specs.Rows.{is_after, rest_of}
use Rattle.bus_types.specs.Table.{RowList}
use Rattle.bus_stores.specs.Keeper.{Content, KeeperState}
use Rattle.bus_stores.proofs.Fronts.{rest_behind}
use Rattle.event_codec.specs.declared.reply.Shape.{Shape}
use Rattle.event_codec.specs.Chunks.{puts_of}
use Rattle.snapshot_scan.specs.Chunk.{scan_chunk, Appends, AppendsSome}
use Rattle.snapshot_scan.specs.Filling.{Filled, empty_in, put_of, with_item, with_rows, with_items, shape_at, tail_of}
use Rattle.snapshot_scan.specs.Paging.{FilledFrom, ScannedFrom, scan_items}
use Rattle.snapshot_scan.proofs.Fills.{appends}

same_either : (b : Bool) (f : Filled) → cond b f f ≡ f
same_either true f = refl
same_either false f = refl

-- the accepted rows, as items
rows_are_items : (test : Test) (scn : ℕ) (f : Filled) (rows : RowList) → with_rows test scn f rows ≡ with_items scn f (puts_of (filter (λ r. test r.0.source r.0.key) rows))
rows_are_items test scn f [] = refl
rows_are_items test scn f (r ∷ rs) =
    let kept : RowList = filter (λ r. test r.0.source r.0.key) rs in
    elim (test r.0.source r.0.key) as (λ b. with_rows test scn (cond (is_some f.unfit) f (cond b (with_item scn f (put_of r)) f)) rs ≡ with_items scn f (puts_of (cond b (r ∷ kept) kept))) [
      | true ↦ rows_are_items test scn (cond (is_some f.unfit) f (with_item scn f (put_of r))) rs
      | false ↦ ap (λ g. with_rows test scn g rs) (same_either (is_some f.unfit) f) ∙ rows_are_items test scn f rs
    ]

kept_both : {X : Type 0} (p q : X → Bool) (a b : Bool) (x : X) (l m : List X) → p x ≡ a → q x ≡ b → filter p l ≡ filter q m → filter p (cond b (x ∷ l) l) ≡ filter q (cond a (x ∷ m) m)
kept_both p q true true x l m e f h = ap (λ c. cond c (x ∷ filter p l) (filter p l)) e ∙ ap (λ k. x ∷ k) h ∙ sym (ap (λ c. cond c (x ∷ filter q m) (filter q m)) f)
kept_both p q true false x l m e f h = h ∙ sym (ap (λ c. cond c (x ∷ filter q m) (filter q m)) f)
kept_both p q false true x l m e f h = ap (λ c. cond c (x ∷ filter p l) (filter p l)) e ∙ h
kept_both p q false false x l m e f h = h

-- two filters, in either order
filters : {X : Type 0} (p q : X → Bool) (xs : List X) → filter p (filter q xs) ≡ filter q (filter p xs)
filters p q [] = refl
filters p q (x ∷ xs) = kept_both p q (p x) (q x) x (filter q xs) (filter p xs) refl refl (filters p q xs)

-- the items of a scan at an SCN above 0
scan_is : (test : Test) (scn : ℕ) (cursor : Cursor) (rows : RowList) (start : Filled) → (scn == 0) ≡ false → with_rows test scn start (rest_of cursor rows) ≡ with_items scn start (scan_items test scn cursor rows)
scan_is test scn cursor rows start later =
    rows_are_items test scn start (rest_of cursor rows)
    ∙ ap (λ l. with_items scn start (puts_of l)) (filters (λ (r : RowName × List ℕ). test r.0.source r.0.key) (λ (r : RowName × List ℕ). is_after cursor r.0) rows)
    ∙ ap (λ b. with_items scn start (puts_of (rest_of cursor (cond b [] (filter (λ r. test r.0.source r.0.key) rows))))) (sym later)

pub scanned : (test : Test) (scn : ℕ) (cursor : Cursor) (state : KeeperState) (start end : Filled) → (scn == 0) ≡ false → FilledFrom test scn cursor state start end → ScannedFrom test scn cursor state start end
scanned test scn cursor state start end later h = record {
  rows = h.rows;
  rising = h.rising;
  some = h.some ∙ ap (with_rows test scn start) (sym (rest_behind cursor [] h.rows h.rising)) ∙ scan_is test scn cursor h.rows start later;
  all = each state.content h.all;
}
  where
    each : (o : Option Content) → IfSome o (λ c. end ≡ with_rows test scn start (rest_of cursor c.rows)) → IfSome o (λ c. end ≡ with_items scn start (scan_items test scn cursor c.rows))
    each None p = tt
    each (Some c) p = p ∙ scan_is test scn cursor c.rows start later

none_at_0 : (test : Test) (scn : ℕ) (cursor : Cursor) (rows : RowList) → scn ≡ 0 → scan_items test scn cursor rows ≡ []
none_at_0 test scn cursor rows zero = ap (λ n. puts_of (rest_of cursor (cond (n == 0) [] (filter (λ r. test r.0.source r.0.key) rows)))) zero

pub unscanned : (test : Test) (scn : ℕ) (cursor : Cursor) (state : KeeperState) (start end : Filled) → scn ≡ 0 → end ≡ start → ScannedFrom test scn cursor state start end
unscanned test scn cursor state start end zero e = record {
  rows = [];
  rising = tt;
  some = e ∙ ap (with_items scn start) (sym (none_at_0 test scn cursor [] zero));
  all = each state.content;
}
  where
    each : (o : Option Content) → IfSome o (λ c. end ≡ with_items scn start (scan_items test scn cursor c.rows))
    each None = tt
    each (Some c) = e ∙ ap (with_items scn start) (sym (none_at_0 test scn cursor c.rows zero))

-- ---- the reply

pub appends_told : (test : Test) (scn : ℕ) (cursor : Cursor) (most : ℕ) (state : KeeperState) (before : List ℕ) (end : Filled) (s : Shape) (new : List ℕ)
    → ScannedFrom test scn cursor state (empty_in most before) end → s ≡ shape_at scn most end.count end.unfit → new ≡ end.bytes ++ tail_of (shape_at scn most end.count end.unfit)
    → IfSome state.content (λ c. Appends (scan_chunk test scn cursor most c.rows) s before new)
appends_told test scn cursor most state before end s new h told written = each state.content h.all
  where
    each : (o : Option Content) → IfSome o (λ c. end ≡ with_items scn (empty_in most before) (scan_items test scn cursor c.rows)) → IfSome o (λ c. Appends (scan_chunk test scn cursor most c.rows) s before new)
    each None p = tt
    each (Some c) p = appends scn most before (scan_items test scn cursor c.rows) end s new p told written

pub appends_some : (test : Test) (scn : ℕ) (cursor : Cursor) (most : ℕ) (state : KeeperState) (before : List ℕ) (end : Filled) (s : Shape) (new : List ℕ)
    → ScannedFrom test scn cursor state (empty_in most before) end → s ≡ shape_at scn most end.count end.unfit → new ≡ end.bytes ++ tail_of (shape_at scn most end.count end.unfit)
    → AppendsSome test scn cursor most s before new
appends_some test scn cursor most state before end s new h told written = record {
  rows = h.rows;
  rising = h.rising;
  chunk = appends scn most before (scan_items test scn cursor h.rows) end s new h.some told written;
}
