-- What is appended to an ask is what a bootstrap of the timeline answers.
use Rattle.std.proofs.Common.{◌≡◌, ℕ, ◌≤◌, true, nat_lt, List, [], map, flat_map, Option, Some, None, IfSome, is_some, true≢false, sym, ap, subst, ◌∙◌, arith}
use Rattle.std.proofs.lemmas.Bool.{cond-false, le-ltb}
use Rattle.bus_types.specs.declared.row.Cursor.{Cursor}
use Rattle.bus_types.specs.Change.{Test, accepted}
use Rattle.bus_types.specs.Window.{Span}
use Rattle.bus_types.specs.Timeline.{windows_between}
use Rattle.bus_types.specs.Table.{table}
use Rattle.bus_types.specs.Rows.{rest_of}
use Rattle.bus_types.specs.Latest.{latest_after, changes_after}
use Rattle.bus_types.specs.View.{view}
use Rattle.bus_types.specs.Cut.{cuts}
use Rattle.bus_types.proofs.Stretches.{between_none}
use Rattle.event_codec.specs.declared.reply.Shape.{Shape}
use Rattle.event_codec.specs.declared.answer.Answer.{Answer}
use Rattle.event_codec.specs.Chunks.{chunk_of, puts_of}
use Rattle.event_codec.specs.Questions.{Reply}
use Rattle.event_codec.specs.Questions.Question.{Scan, Catchup, Delta}
use Rattle.event_codec.specs.Questions.Reply.{Rows, Changes, Only}
use Rattle.bus_wire.specs.True.{Boot, boot_reply, replay_of}
use Rattle.bus_stores.specs.Keeper.{Content}
use Rattle.bus_stores.specs.Log.{LogState}
use Rattle.snapshot_scan.specs.Chunk.{Appends, scan_chunk}
use Rattle.snapshot_scan.proofs.Viewed.{rows_are_viewed}
use Rattle.delta_consolidate.specs.Delta.{delta_chunk}
use Rattle.delta_consolidate.specs.Delta as deltas
use Rattle.snapshot_applier.specs.declared.boot.BootMark.{BootMark}
use Rattle.bootstrap_core.specs.Boot.{HoldsStretch, numbers}
use Rattle.bootstrap_core.specs.Moving.{TellsWindows}
use Rattle.bootstrap_core.proofs.StretchEnds.{between_within}
use Rattle.bootstrap_core.proofs.StandingMoves.{stretch_told, if_told}

-- an answer alone
pub answer_replies : (reply : Reply) (answer : Answer) (shape : Shape) (old new : List ℕ) → reply ≡ Only answer → Appends (Only answer) shape old new → Appends reply shape old new
answer_replies reply answer shape old new e a = subst (λ r. Appends r shape old new) (sym e) a

-- the rows of a keeper that holds the table
pub scan_replies : (ws : List Span) (test : Test) (b : Boot) (start : ℕ) (cursor : Cursor) (most : ℕ) (kept : Option Content) (shape : Shape) (old new : List ℕ) → b.base ≤ start → start ≤ b.applied → is_some kept ≡ true
    → IfSome kept (λ c. c.rows ≡ table ws b.applied) → IfSome kept (λ c. Appends (scan_chunk test b.applied cursor most c.rows) shape old new) → Appends (boot_reply ws test b (Scan start cursor most)) shape old new
scan_replies ws test b start cursor most None shape old new low high tells rows a = absurd (true≢false (sym tells))
scan_replies ws test b start cursor most (Some c) shape old new low high tells rows a =
    let reply : boot_reply ws test b (Scan start cursor most) ≡ chunk_of (λ cs more. Rows cs b.applied more) most (puts_of (rest_of cursor (view test ws b.applied))) =
    cond-false (nat_lt start b.base) _ _ (le-ltb start b.base low) ∙ cond-false (nat_lt b.applied start) _ _ (le-ltb b.applied start high) in
    let chunk : scan_chunk test b.applied cursor most c.rows ≡ boot_reply ws test b (Scan start cursor most) =
    ap (scan_chunk test b.applied cursor most) rows ∙ ap (λ rows. chunk_of (λ cs more. Rows cs b.applied more) most (puts_of (rest_of cursor rows))) (rows_are_viewed test b.applied ws) ∙ sym reply in
    subst (λ r. Appends r shape old new) chunk a

-- the stretch of a log that holds a timeline's windows
held_stretch : (ws : List Span) (log : LogState) (P : List Span → Type 0) (low high : ℕ) → HoldsStretch ws log → TellsWindows log → log.floor ≤ low → high ≤ log.high → IfSome log.windows (λ held. P (windows_between low high held)) → P (windows_between low high ws)
held_stretch ws log P low high holds tells l h p =
    let held = if_told (λ held. P (windows_between low high held)) log.windows (windows_between log.floor log.high ws) (stretch_told ws log holds tells) p in
    subst P (between_within log.floor low high log.high ws l h) held

pub catch_up_replies : (ws : List Span) (test : Test) (log : LogState) (mark : BootMark) (at target most : ℕ) (shape : Shape) (old new : List ℕ) → log.floor ≤ mark.base → mark.base ≤ at → target ≤ log.high → HoldsStretch ws log → TellsWindows log
    → IfSome log.windows (λ held. Appends (replay_of log.high most (cuts test (windows_between at target held))) shape old new) → Appends (boot_reply ws test (numbers log mark) (Catchup at target most)) shape old new
catch_up_replies ws test log mark at target most shape old new floor low high holds tells a =
    let stretch = held_stretch ws log (λ stretch. Appends (replay_of log.high most (cuts test stretch)) shape old new) at target holds tells (omega arith) high a in
    let reply : boot_reply ws test (numbers log mark) (Catchup at target most) ≡ replay_of log.high most (cuts test (windows_between at target ws)) =
    cond-false (nat_lt at mark.base) _ _ (le-ltb at mark.base low) ∙ cond-false (nat_lt log.high target) _ _ (le-ltb log.high target high) in
    subst (λ r. Appends r shape old new) (sym reply) stretch

-- the changes of a stretch, consolidated
abbrev consolidated : Test → ℕ → Cursor → ℕ → List Span → Reply
consolidated test target cursor most stretch =
    chunk_of (λ cs more. Changes cs target more) most (changes_after cursor (map (λ e. record { source = e.0.source; key = e.0.key; put = e.1 }) (latest_after [] (accepted test (flat_map (λ (w : Span). w.changes) stretch)))))

delta_is : (ws : List Span) (test : Test) (log : LogState) (mark : BootMark) (since target : ℕ) (cursor : Cursor) (most : ℕ) → mark.base ≤ since → target ≤ log.high
    → boot_reply ws test (numbers log mark) (Delta since target cursor most) ≡ consolidated test target cursor most (windows_between since target ws)
delta_is ws test log mark since target cursor most low high =
    cond-false (nat_lt since mark.base) _ _ (le-ltb since mark.base low) ∙ cond-false (nat_lt log.high target) _ _ (le-ltb log.high target high)

told_appends : (told : Option (List Span)) (reply : List Span → Reply) (shape : Shape) (old new : List ℕ) → IfSome told (λ held. deltas.Appends (reply held) shape old new) → IfSome told (λ held. Appends (reply held) shape old new)
told_appends None reply shape old new a = tt
told_appends (Some held) reply shape old new a = record { told = a.told; bytes = a.bytes }

pub delta_replies : (ws : List Span) (test : Test) (log : LogState) (mark : BootMark) (since target : ℕ) (cursor : Cursor) (most : ℕ) (shape : Shape) (old new : List ℕ) → log.floor ≤ mark.base → mark.base ≤ since → target ≤ log.high → HoldsStretch ws log → TellsWindows log
    → IfSome log.windows (λ held. deltas.Appends (delta_chunk test since target cursor most held) shape old new) → Appends (boot_reply ws test (numbers log mark) (Delta since target cursor most)) shape old new
delta_replies ws test log mark since target cursor most shape old new floor low high holds tells a =
    let appends = told_appends log.windows (delta_chunk test since target cursor most) shape old new a in
    let stretch = held_stretch ws log (λ stretch. Appends (consolidated test target cursor most stretch) shape old new) since target holds tells (omega arith) high appends in
    subst (λ r. Appends r shape old new) (sym (delta_is ws test log mark since target cursor most low high)) stretch

pub empty_delta_replies : (ws : List Span) (test : Test) (log : LogState) (mark : BootMark) (since target : ℕ) (cursor : Cursor) (most : ℕ) (shape : Shape) (old new : List ℕ) → mark.base ≤ since → target ≤ log.high → target ≤ since
    → Appends (chunk_of (λ cs more. Changes cs target more) most []) shape old new → Appends (boot_reply ws test (numbers log mark) (Delta since target cursor most)) shape old new
empty_delta_replies ws test log mark since target cursor most shape old new low high none a =
    subst (λ r. Appends r shape old new) (sym (delta_is ws test log mark since target cursor most low high ∙ ap (consolidated test target cursor most) (between_none since target ws none))) a
