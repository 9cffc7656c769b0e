-- What a lawful reply to an ask of a client is to its mark.
use Rattle.std.proofs.Common.{ℕ, ◌<◌, ◌≤◌, max, Bool, true, false, leb, IsTrue, List, [], ◌∷◌, length, true≢false, refl, sym, subst, arith}
use Rattle.std.specs.List.{AllByRecursion}
use Rattle.std.proofs.lemmas.Bool.{ltb-true, leb-true, and_parts}
use Rattle.bus_types.specs.declared.change.Change.{Change}
use Rattle.bus_types.specs.declared.limits.TheConstants.{MAX_SCN}
use Rattle.bus_types.specs.Window.{Span}
use Rattle.bus_types.specs.Timeline.{end_from, end_of}
use Rattle.partition_filter.specs.Selection.{Selection}
use Rattle.event_codec.specs.declared.answer.Answer.{Answer}
use Rattle.event_codec.specs.declared.answer.Answer.TheVariants.{NotFound, Empty, TooSmall, Behind, LogGone, StartDelta, StartSnapshot, Target}
use Rattle.event_codec.specs.declared.reply.Shape.{Shape}
use Rattle.event_codec.specs.Items.{Since}
use Rattle.event_codec.specs.Streams.{Come}
use Rattle.event_codec.specs.Questions.{Question, Reply}
use Rattle.event_codec.specs.Questions.Reply.{Windows, Rows, Changes, Only}
use Rattle.event_codec.specs.Forms.{shape_of}
use Rattle.event_codec.specs.ReplyViews.{view_of, IsRunOf, Spells}
use Rattle.checkpoint.specs.declared.mark.Mark.{Mark}
use Rattle.checkpoint.specs.declared.mark.Mark.TheVariants.{Online, Delta, Snapshot, Scanned, Catchup}
use Rattle.checkpoint.specs.Mark.{floor_of}
use Rattle.bus_wire.specs.declared.ask.Ask.{Ask}
use Rattle.bus_wire.specs.Asks.{ask_of}
use Rattle.bus_wire.specs.Lawful.{IsLawful, IsAnswerTo, IsAskedFor, HoldsRun, HoldsWindows, HoldsRows, HoldsChanges, body_of, after_floor}
use Rattle.bus_wire.proofs.Reading.{lawful_read}
use Rattle.dispatcher.specs.Callbacks.{Callback, reply_calls, Describes}
use Rattle.client_switch.specs.Moves.{Wish, question}
use Rattle.client_switch.specs.Moves.Wish.{NoWish, StartWish, FreshWish}
use Rattle.client_switch.specs.Client.{IsAskOf}
use Rattle.client_switch.specs.Turning.{CanAnswer, Follow, CanFollow, CanHold, CanChange, CanCome, HoldsComing}

-- ---- windows

rises : (s : Since) (ws : List Span) → Come s ws → s.floor ≤ end_from s.floor ws
rises s [] come = omega arith
rises s (w ∷ ws) come = omega (arith, come.0.above, rises (record { floor = w.scn; started = true }) ws come.1)

ends_above : (s : Since) (ws : List Span) → Come s ws → 0 < length ws → s.floor < end_of ws
ends_above s [] come some = absurd (omega arith)
ends_above s (w ∷ ws) come some = omega (arith, come.0.above, rises (record { floor = w.scn; started = true }) ws come.1)

ends_below : (top n : ℕ) (filter : Selection) (ws : List Span) → n ≤ top → AllByRecursion (IsAskedFor top filter) ws → end_from n ws ≤ top
ends_below top n filter [] low each = low
ends_below top n filter (w ∷ ws) low each = ends_below top w.scn filter ws each.0.below each.1

follow : (floor top : ℕ) (filter : Selection) (bytes : List ℕ) (ws : List Span) → HoldsRun floor top filter bytes (length ws) (end_of ws) → Follow floor top ws
follow floor top filter bytes ws h = record {
  some = omega (arith, h.counted, h.run.some);
  above = omega (arith, h.ends, ends_above (after_floor floor) h.windows h.run.asked.come h.run.some);
  bound = omega (arith, h.ends, ends_below top 0 filter h.windows (omega arith) h.run.asked.each);
}

windows_can : (mark : Mark) (wish : Wish) (filter : Selection) (most : ℕ) (bytes : List ℕ) (ws : List Span) → HoldsWindows (body_of (ask_of filter (question mark wish most))) bytes (length ws) (end_of ws) → CanFollow mark ws
windows_can (Online scn) NoWish filter most bytes ws holds = follow scn MAX_SCN filter bytes ws holds
windows_can (Delta since target cursor) NoWish filter most bytes ws holds = absurd holds
windows_can (Snapshot since start top cursor) NoWish filter most bytes ws holds = absurd holds
windows_can (Scanned since start top) NoWish filter most bytes ws holds = absurd holds
windows_can (Catchup since start target at) NoWish filter most bytes ws holds = follow at target filter bytes ws holds
windows_can mark StartWish filter most bytes ws holds = absurd holds
windows_can mark FreshWish filter most bytes ws holds = absurd holds

-- ---- rows and changes

rows_can : (mark : Mark) (wish : Wish) (filter : Selection) (most : ℕ) (bytes : List ℕ) (cs : List Change) (scn : ℕ) (more : Bool) → IsRunOf scn cs
    → HoldsRows (body_of (ask_of filter (question mark wish most))) bytes (length cs) scn more → CanHold mark cs scn
rows_can (Online s) NoWish filter most bytes cs scn more is holds = absurd holds
rows_can (Delta since target cursor) NoWish filter most bytes cs scn more is holds = absurd holds
rows_can (Snapshot since start top cursor) NoWish filter most bytes cs scn more is holds = (is.within, is.bound)
rows_can (Scanned since start top) NoWish filter most bytes cs scn more is holds = absurd holds
rows_can (Catchup since start target at) NoWish filter most bytes cs scn more is holds = absurd holds
rows_can mark StartWish filter most bytes cs scn more is holds = absurd holds
rows_can mark FreshWish filter most bytes cs scn more is holds = absurd holds

changes_can : (mark : Mark) (wish : Wish) (filter : Selection) (most : ℕ) (bytes : List ℕ) (cs : List Change) (scn : ℕ) (more : Bool) → IsRunOf scn cs
    → HoldsChanges (body_of (ask_of filter (question mark wish most))) bytes (length cs) more → CanChange mark cs
changes_can (Online s) NoWish filter most bytes cs scn more is holds = absurd holds
changes_can (Delta since target cursor) NoWish filter most bytes cs scn more is holds = is.within
changes_can (Snapshot since start top cursor) NoWish filter most bytes cs scn more is holds = absurd holds
changes_can (Scanned since start top) NoWish filter most bytes cs scn more is holds = absurd holds
changes_can (Catchup since start target at) NoWish filter most bytes cs scn more is holds = absurd holds
changes_can mark StartWish filter most bytes cs scn more is holds = absurd holds
changes_can mark FreshWish filter most bytes cs scn more is holds = absurd holds

-- ---- answers

no : {A : Type 0} → IsTrue false → A
no is = absurd (true≢false (sym is))

stream_can : (scn most : ℕ) (filter : Selection) (answer : Answer) → IsAnswerTo (ask_of filter (Question.Stream scn most)) answer → CanAnswer (Online scn) answer
stream_can scn most filter (NotFound floor) is = tt
stream_can scn most filter (Empty end) is = tt
stream_can scn most filter (TooSmall need) is = tt
stream_can scn most filter (Behind high) is = tt
stream_can scn most filter (LogGone base) is = tt
stream_can scn most filter (StartDelta high) is = no is.lawful
stream_can scn most filter (StartSnapshot applied) is = is.within.number
stream_can scn most filter (Target t) is = no is.lawful

-- what a log holds
log_can : (mark : Mark) (filter : Selection) (q : Question) (answer : Answer) → ((floor : ℕ) → IsAnswerTo (ask_of filter q) (NotFound floor) → ⊥) → ((high : ℕ) → IsAnswerTo (ask_of filter q) (StartDelta high) → ⊥)
    → ((t : ℕ) → IsAnswerTo (ask_of filter q) (Target t) → ⊥) → IsAnswerTo (ask_of filter q) answer → CanAnswer mark answer
log_can mark filter q (NotFound floor) gone delta to is = absurd (gone floor is)
log_can mark filter q (Empty end) gone delta to is = tt
log_can mark filter q (TooSmall need) gone delta to is = tt
log_can mark filter q (Behind high) gone delta to is = tt
log_can mark filter q (LogGone base) gone delta to is = tt
log_can mark filter q (StartDelta high) gone delta to is = absurd (delta high is)
log_can mark filter q (StartSnapshot applied) gone delta to is = is.within.number
log_can mark filter q (Target t) gone delta to is = absurd (to t is)

target_can : (since start top : ℕ) (filter : Selection) (answer : Answer) → IsAnswerTo (ask_of filter (Question.Target start (max since top))) answer → CanAnswer (Scanned since start top) answer
target_can since start top filter (NotFound floor) is = no is.lawful
target_can since start top filter (Empty end) is = tt
target_can since start top filter (TooSmall need) is = tt
target_can since start top filter (Behind high) is = tt
target_can since start top filter (LogGone base) is = tt
target_can since start top filter (StartDelta high) is = no is.lawful
target_can since start top filter (StartSnapshot applied) is = is.within.number
target_can since start top filter (Target t) is =
    let p = and_parts (leb (max since top) t) (leb start t) is.lawful in
    (leb-true start t p.1, omega (arith, leb-true (max since top) t p.0), is.within.number)

start_can : (mark : Mark) (fresh : Bool) (filter : Selection) (answer : Answer) → IsAnswerTo (ask_of filter (Question.Start (floor_of mark) fresh)) answer → CanAnswer mark answer
start_can mark fresh filter (NotFound floor) is = no is.lawful
start_can mark fresh filter (Empty end) is = tt
start_can mark fresh filter (TooSmall need) is = tt
start_can mark fresh filter (Behind high) is = tt
start_can mark fresh filter (LogGone base) is = tt
start_can mark false filter (StartDelta high) is = (ltb-true (floor_of mark) high is.lawful, is.within.number)
start_can mark true filter (StartDelta high) is = no is.lawful
start_can mark fresh filter (StartSnapshot applied) is = is.within.number
start_can mark fresh filter (Target t) is = no is.lawful

answer_can : (mark : Mark) (wish : Wish) (filter : Selection) (most : ℕ) (answer : Answer) → IsAnswerTo (ask_of filter (question mark wish most)) answer → CanAnswer mark answer
answer_can (Online scn) NoWish filter most answer is = stream_can scn most filter answer is
answer_can (Delta since target cursor) NoWish filter most answer is =
    log_can (Delta since target cursor) filter (Question.Delta since target cursor most) answer (λ n w. no w.lawful) (λ n w. no w.lawful) (λ n w. no w.lawful) is
answer_can (Snapshot since start top cursor) NoWish filter most answer is =
    log_can (Snapshot since start top cursor) filter (Question.Scan start cursor most) answer (λ n w. no w.lawful) (λ n w. no w.lawful) (λ n w. no w.lawful) is
answer_can (Scanned since start top) NoWish filter most answer is = target_can since start top filter answer is
answer_can (Catchup since start target at) NoWish filter most answer is =
    log_can (Catchup since start target at) filter (Question.Catchup at target most) answer (λ n w. no w.lawful) (λ n w. no w.lawful) (λ n w. no w.lawful) is
answer_can mark StartWish filter most answer is = start_can mark false filter answer is
answer_can mark FreshWish filter most answer is = start_can mark true filter answer is

-- ---- replies

reply_can : (mark : Mark) (wish : Wish) (filter : Selection) (most : ℕ) (bytes : List ℕ) (r : Reply) (shape : Shape) → Spells shape bytes r → IsLawful (ask_of filter (question mark wish most)) bytes (shape_of r) → CanCome mark r
reply_can mark wish filter most bytes (Windows ws) shape is lawful = windows_can mark wish filter most bytes ws lawful
reply_can mark wish filter most bytes (Rows cs scn more) shape is lawful = rows_can mark wish filter most bytes cs scn more is.formed lawful
reply_can mark wish filter most bytes (Changes cs scn more) shape is lawful = changes_can mark wish filter most bytes cs scn more is.formed lawful
reply_can mark wish filter most bytes (Only answer) shape is lawful = answer_can mark wish filter most answer lawful.1

-- a lawful reply to what was asked can come
pub can_come : (mark : Mark) (wish : Wish) (filter : Selection) (most : ℕ) (ask : Ask) (bytes : List ℕ) (shape : Shape) (r : Reply) → IsAskOf filter (question mark wish most) ask → IsLawful ask bytes shape → Spells shape bytes r
    → CanCome mark r
can_come mark wish filter most ask bytes shape r is lawful spells =
    let right : IsLawful (ask_of filter (question mark wish most)) bytes shape = subst (λ (a : Ask). IsLawful a bytes shape) is lawful in
    reply_can mark wish filter most bytes r shape spells (subst (λ (s : Shape). IsLawful (ask_of filter (question mark wish most)) bytes s) spells.shaped right)

-- ---- what a lawful reply is

-- it has callbacks
pub described : (ask : Ask) (bytes : List ℕ) (shape : Shape) → IsLawful ask bytes shape → (callbacks : List Callback) × Describes shape bytes callbacks
described ask bytes shape is = let spelled = lawful_read ask bytes shape is in (reply_calls (view_of spelled.0), record { reply = spelled.0; spells = spelled.1; told = refl })

-- it is a reply
pub read : (ask : Ask) (bytes : List ℕ) (shape : Shape) → IsLawful ask bytes shape → (r : Reply) × Spells shape bytes r
read ask bytes shape is = let spelled = lawful_read ask bytes shape is in (spelled.0, spelled.1)

pub coming : (mark : Mark) (wish : Wish) (filter : Selection) (most : ℕ) (ask : Ask) (bytes : List ℕ) (shape : Shape) → IsAskOf filter (question mark wish most) ask → IsLawful ask bytes shape → HoldsComing mark shape bytes
coming mark wish filter most ask bytes shape is lawful =
    let spelled = read ask bytes shape lawful in
    record { reply = spelled.0; spells = spelled.1; can = λ r spells. can_come mark wish filter most ask bytes shape r is lawful spells }
