-- The chunk of the last changes that were gathered.
use Rattle.std.proofs.Common.{◌≡◌, ℕ, ◌-◌, ◌*◌, ◌<◌, ◌≤◌, List, [], ◌∷◌, ◌++◌, flat_map, Option, Some, None, IfSome, refl, sym, ap, subst, ◌∙◌, arith}
use Rattle.bus_types.specs.declared.row.Cursor.{Cursor}
use Rattle.bus_types.specs.Change.{Test, accepted}
use Rattle.bus_types.specs.Window.{Span}
use Rattle.bus_types.specs.Timeline.{windows_between}
use Rattle.bus_types.specs.Latest.{Latest, latest_after, changes_after}
use Rattle.bus_types.proofs.Stretches.{between_in}
use Rattle.bus_stores.specs.Log.{LogState}
use Rattle.bus_stores.specs.Following.{RiseBetween}
use Rattle.event_codec.specs.declared.reply.Shape.{Shape}
use Rattle.event_codec.specs.Chunks.{frame_size, chunk_of}
use Rattle.event_codec.specs.Questions.Reply.{Changes}
use Rattle.delta_consolidate.specs.declared.filling.Filling.{Filling}
use Rattle.delta_consolidate.specs.Delta.{delta_chunk, Appends, AppendsSome}
use Rattle.delta_consolidate.specs.Filling.{Filled, filled, empty_in, with_items, shape_at, tail_of}
use Rattle.delta_consolidate.specs.Latest.{kept_after, changes_of}
use Rattle.delta_consolidate.specs.Gathering.{GatheredFrom}
use Rattle.delta_consolidate.proofs.Fills.{appends}
use Rattle.delta_consolidate.proofs.Keeping.{chunk_kept}

-- nothing is filled yet
pub fresh : (f : Filling) (most : ℕ) (bytes : List ℕ) → f.count ≡ 0 → f.room ≡ most - frame_size → f.unfit ≡ None → filled bytes f ≡ empty_in most bytes
fresh f most bytes count room unfit = λ i. record { bytes = bytes; count = count i; room = room i; unfit = unfit i }

lower_rise : (low scn high : ℕ) (ws : List Span) → low ≤ scn → RiseBetween scn high ws → RiseBetween low high ws
lower_rise low scn high [] h r = tt
lower_rise low scn high (w ∷ ws) h r = (omega (arith, h, r.0), r.1, r.2)

-- windows that rise between two SCNs are all between them
all_between : (low high : ℕ) (ws : List Span) → RiseBetween low high ws → windows_between low high ws ≡ ws
all_between low high [] r = refl
all_between low high (w ∷ ws) r =
    between_in low high w ws r.0 r.1 ∙ ap (λ rest. w ∷ rest) (all_between low high ws (lower_rise low w.scn high ws (omega (arith, r.0)) r.2))

-- the chunk of the changes of windows
chunk_from : (test : Test) (cursor : Cursor) (most n target : ℕ) (windows : List Span) (es : Latest) → most - frame_size < 23 * n → es ≡ kept_after test cursor n [] (flat_map (λ w. w.changes) windows)
    → chunk_of (λ cs more. Changes cs target more) most (changes_of es) ≡ chunk_of (λ cs more. Changes cs target more) most (changes_after cursor (changes_of (latest_after [] (accepted test (flat_map (λ w. w.changes) windows)))))
chunk_from test cursor most n target windows es h e =
    ap (λ kept. chunk_of (λ cs more. Changes cs target more) most (changes_of kept)) e
    ∙ chunk_kept (λ cs more. Changes cs target more) test cursor most n (flat_map (λ w. w.changes) windows) h

-- it is the chunk of those between two SCNs
chunk_between : (test : Test) (cursor : Cursor) (most n since target : ℕ) (windows ws : List Span) (es : Latest) → most - frame_size < 23 * n → es ≡ kept_after test cursor n [] (flat_map (λ w. w.changes) windows) → windows ≡ windows_between since target ws
    → chunk_of (λ cs more. Changes cs target more) most (changes_of es) ≡ delta_chunk test since target cursor most ws
chunk_between test cursor most n since target windows ws es h e same =
    chunk_from test cursor most n target windows es h e
    ∙ ap (λ vs. chunk_of (λ cs more. Changes cs target more) most (changes_after cursor (changes_of (latest_after [] (accepted test (flat_map (λ (w : Span). w.changes) vs)))))) same

told : (test : Test) (cursor : Cursor) (most n since target : ℕ) (o : Option (List Span)) (windows : List Span) (es : Latest) (s : Shape) (before new : List ℕ) → most - frame_size < 23 * n → es ≡ kept_after test cursor n [] (flat_map (λ w. w.changes) windows)
    → Appends (chunk_of (λ cs more. Changes cs target more) most (changes_of es)) s before new → IfSome o (λ ws. windows ≡ windows_between since target ws) → IfSome o (λ ws. Appends (delta_chunk test since target cursor most ws) s before new)
told test cursor most n since target None windows es s before new h e it same = tt
told test cursor most n since target (Some ws) windows es s before new h e it same = subst (λ reply. Appends reply s before new) (chunk_between test cursor most n since target windows ws es h e same) it

-- where the log tells its windows, it is their chunk
pub delta_told : (test : Test) (cursor : Cursor) (most n since target : ℕ) (log : LogState) (es : Latest) (before : List ℕ) (end : Filled) (s : Shape) (new : List ℕ)
    → most - frame_size < 23 * n → GatheredFrom test cursor n since target log es
    → end ≡ with_items target (empty_in most before) (changes_of es) → s ≡ shape_at most end.count end.unfit → new ≡ end.bytes ++ tail_of target (shape_at most end.count end.unfit)
    → IfSome log.windows (λ ws. Appends (delta_chunk test since target cursor most ws) s before new)
delta_told test cursor most n since target log es before end s new h g e shape written =
    told test cursor most n since target log.windows g.windows es s before new h g.some (appends target most before (changes_of es) end s new e shape written) g.all

-- whatever it tells, it is the chunk of some windows
pub delta_some : (test : Test) (cursor : Cursor) (most n since target : ℕ) (log : LogState) (es : Latest) (before : List ℕ) (end : Filled) (s : Shape) (new : List ℕ)
    → most - frame_size < 23 * n → GatheredFrom test cursor n since target log es
    → end ≡ with_items target (empty_in most before) (changes_of es) → s ≡ shape_at most end.count end.unfit → new ≡ end.bytes ++ tail_of target (shape_at most end.count end.unfit)
    → AppendsSome test since target cursor most s before new
delta_some test cursor most n since target log es before end s new h g e shape written = record {
  windows = g.windows;
  rising = g.rising;
  chunk =
      subst (λ reply. Appends reply s before new) (chunk_between test cursor most n since target g.windows g.windows es h g.some (sym (all_between since target g.windows g.rising)))
      (appends target most before (changes_of es) end s new e shape written);
}
