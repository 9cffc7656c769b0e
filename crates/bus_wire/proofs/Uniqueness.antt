-- A reply is lawful in one way at most, or at fault at one place.
use Rattle.std.proofs.Common.{◌≡◌, ℕ, ◌≤◌, ◌⊎◌, inl, inr, Bool, List, [], ◌∷◌, ◌++◌, length, get_or, Result, Ok, Err, sym, ap, ◌∙◌, append_assoc, append-nil, arith}
use Rattle.std.specs.Prelude.{IfOk, IfErr, MatchResult}
use Rattle.std.proofs.lemmas.List.{length-append}
use Rattle.bus_types.specs.declared.change.Change.{Change}
use Rattle.bus_types.specs.declared.limits.TheConstants.{MAX_SCN}
use Rattle.bus_types.specs.Window.{Span}
use Rattle.bus_types.specs.Timeline.{end_of}
use Rattle.partition_filter.specs.Selection.{Selection}
use Rattle.event_codec.specs.declared.answer.Answer.{Answer}
use Rattle.event_codec.specs.declared.answer.Answer.TheVariants.{NotFound, Empty, TooSmall, Behind, LogGone, StartDelta, StartSnapshot, Target}
use Rattle.event_codec.specs.declared.reply.Shape.{Shape}
use Rattle.event_codec.specs.declared.reply.Shape.TheVariants as shapes
use Rattle.event_codec.specs.Bytes.{event_bytes, mark_bytes, changes_bytes}
use Rattle.event_codec.specs.Frames.{answer_kind, answer_bytes}
use Rattle.event_codec.specs.Streams.{windows_bytes}
use Rattle.event_codec.proofs.Begun.{event}
use Rattle.event_codec.proofs.EventBytes.{event_first, mark_first}
use Rattle.event_codec.proofs.Frames.{one_answer}
use Rattle.bus_wire.specs.declared.ask.Ask.{Ask}
use Rattle.bus_wire.specs.declared.fault.BadReply.{BadReply}
use Rattle.bus_wire.specs.Wanted.{Wanted, run_wanted, rows_wanted, changes_wanted, HoldsItems, ItemsStop}
use Rattle.bus_wire.specs.Lawful.{IsAnswerTo, IsRun, Body, body_of, HoldsWindows, HoldsRows, HoldsChanges, IsLawful, StandsBehindAnswer, HasNoAnswer, StopsIn, EndsAt, IsFaultAt}
use Rattle.bus_wire.specs.Lawful.Body.{NoBody, WindowsOf, RowsOf, ChangesOf}
use Rattle.bus_wire.proofs.ItemsOnce.{kind_above, one_items, no_items_stop, one_items_place, no_items_are_an_answer}
use Rattle.bus_wire.proofs.Walk.{one_run, no_run_stops, one_place}

-- ---- no window begins as an answer

window_first_at : (n p : ℕ) (cs : List Change) (rest : List ℕ) → get_or ((changes_bytes n cs ++ mark_bytes n p) ++ rest) 0 0 ≤ 3
window_first_at n p [] rest = omega (arith, mark_first n p rest)
window_first_at n p (c ∷ cs) rest =
    let behind = changes_bytes n cs ++ (mark_bytes n p ++ rest) in
    let group : ((event_bytes (event n c) ++ changes_bytes n cs) ++ mark_bytes n p) ++ rest ≡ event_bytes (event n c) ++ behind = simp append_assoc in
    let at = ap (λ (x : List ℕ). get_or x 0 0) group in
    elim (event_first (event n c) behind) [
      | inl one ↦ omega (arith, at, one)
      | inr two ↦ omega (arith, at, two)
    ]

no_run_is_an_answer : (floor top : ℕ) (filter : Selection) (ws : List Span) (answer : Answer) (rest : List ℕ) → IsRun floor top filter ws → windows_bytes ws ≡ answer_bytes answer ++ rest → ⊥
no_run_is_an_answer floor top filter [] answer rest run same = let some = run.some in omega arith
no_run_is_an_answer floor top filter (w ∷ ws) answer rest run same =
    let first : get_or (windows_bytes (w ∷ ws)) 0 0 ≡ answer_kind answer = ap (λ (x : List ℕ). get_or x 0 0) same in
    omega (arith, first, kind_above answer, window_first_at w.scn w.prev w.changes (windows_bytes ws))

-- ---- a reply at fault isn't lawful

windows_unlawful : (ask : Ask) (body : Body) (bytes : List ℕ) (place count last : ℕ) → StandsBehindAnswer ask bytes place ⊎ (HasNoAnswer ask bytes × StopsIn body bytes place) → HoldsWindows body bytes count last → ⊥
windows_unlawful ask NoBody bytes place count last fault lawful = lawful
windows_unlawful ask (WindowsOf floor top filter) bytes place count last (inl behind) lawful = no_run_is_an_answer floor top filter lawful.windows behind.answer behind.rest lawful.run (sym lawful.spelled ∙ behind.parts)
windows_unlawful ask (WindowsOf floor top filter) bytes place count last (inr stops) lawful = no_run_stops floor top filter bytes lawful.windows place lawful.run lawful.spelled stops.1
windows_unlawful ask (RowsOf start cursor filter) bytes place count last fault lawful = lawful
windows_unlawful ask (ChangesOf target cursor filter) bytes place count last fault lawful = lawful

items_unlawful : (ask : Ask) (w : Wanted) (bytes : List ℕ) (place count scn : ℕ) (more : Bool) → StandsBehindAnswer ask bytes place ⊎ (HasNoAnswer ask bytes × ItemsStop w bytes place) → HoldsItems w bytes count scn more → ⊥
items_unlawful ask w bytes place count scn more (inl behind) holds = no_items_are_an_answer (run_wanted w) holds.changes scn more behind.answer behind.rest (sym holds.spelled ∙ behind.parts)
items_unlawful ask w bytes place count scn more (inr stops) holds = no_items_stop w bytes count scn more place holds stops.1

rows_unlawful : (ask : Ask) (body : Body) (bytes : List ℕ) (place count scn : ℕ) (more : Bool) → StandsBehindAnswer ask bytes place ⊎ (HasNoAnswer ask bytes × StopsIn body bytes place) → HoldsRows body bytes count scn more → ⊥
rows_unlawful ask NoBody bytes place count scn more fault lawful = lawful
rows_unlawful ask (WindowsOf floor top filter) bytes place count scn more fault lawful = lawful
rows_unlawful ask (RowsOf start cursor filter) bytes place count scn more fault lawful = items_unlawful ask (rows_wanted start cursor filter) bytes place count scn more fault lawful
rows_unlawful ask (ChangesOf target cursor filter) bytes place count scn more fault lawful = lawful

changes_unlawful : (ask : Ask) (body : Body) (bytes : List ℕ) (place count : ℕ) (more : Bool) → StandsBehindAnswer ask bytes place ⊎ (HasNoAnswer ask bytes × StopsIn body bytes place) → HoldsChanges body bytes count more → ⊥
changes_unlawful ask NoBody bytes place count more fault lawful = lawful
changes_unlawful ask (WindowsOf floor top filter) bytes place count more fault lawful = lawful
changes_unlawful ask (RowsOf start cursor filter) bytes place count more fault lawful = lawful
changes_unlawful ask (ChangesOf target cursor filter) bytes place count more fault lawful = items_unlawful ask (changes_wanted target cursor filter) bytes place count target more fault lawful

only_unlawful : (ask : Ask) (bytes : List ℕ) (place : ℕ) (answer : Answer) → IsFaultAt ask bytes place → bytes ≡ answer_bytes answer → IsAnswerTo ask answer → ⊥
only_unlawful ask bytes place answer (inl behind) same lawful =
    let more = behind.more in
    let long : length (answer_bytes answer) ≡ length (answer_bytes behind.answer ++ behind.rest) = ap length (sym same ∙ behind.parts) in
    omega (arith, long, length-append (answer_bytes behind.answer) behind.rest)
only_unlawful ask bytes place answer (inr ends) same lawful = ends.0 answer [] lawful (same ∙ sym (append-nil (answer_bytes answer)))

pub fault_is_unlawful : (ask : Ask) (bytes : List ℕ) (place : ℕ) (shape : Shape) → IsFaultAt ask bytes place → IsLawful ask bytes shape → ⊥
fault_is_unlawful ask bytes place (shapes.Windows count last) fault lawful = windows_unlawful ask (body_of ask) bytes place count last fault lawful
fault_is_unlawful ask bytes place (shapes.Rows count scn more) fault lawful = rows_unlawful ask (body_of ask) bytes place count scn more fault lawful
fault_is_unlawful ask bytes place (shapes.Changes count more) fault lawful = changes_unlawful ask (body_of ask) bytes place count more fault lawful
fault_is_unlawful ask bytes place (shapes.Only answer) fault lawful = only_unlawful ask bytes place answer fault lawful.0 lawful.1

-- ---- one place

ends_once : (body : Body) (bytes : List ℕ) (place other : ℕ) → StopsIn body bytes place → StopsIn body bytes other → place ≡ other
ends_once NoBody bytes place other one two = one ∙ sym two
ends_once (WindowsOf floor top filter) bytes place other one two = one_place floor top filter bytes place other one two
ends_once (RowsOf start cursor filter) bytes place other one two = one_items_place (rows_wanted start cursor filter) bytes place other one two
ends_once (ChangesOf target cursor filter) bytes place other one two = one_items_place (changes_wanted target cursor filter) bytes place other one two

pub faults_once : (ask : Ask) (bytes : List ℕ) (place other : ℕ) → IsFaultAt ask bytes place → IsFaultAt ask bytes other → place ≡ other
faults_once ask bytes place other (inl one) (inl two) = one.there ∙ sym two.there
faults_once ask bytes place other (inl one) (inr two) = absurd (two.0 one.answer one.rest one.lawful one.parts)
faults_once ask bytes place other (inr one) (inl two) = absurd (one.0 two.answer two.rest two.lawful two.parts)
faults_once ask bytes place other (inr one) (inr two) = ends_once (body_of ask) bytes place other one.1 two.1

-- ---- one shape

runs_once : (body : Body) (bytes : List ℕ) (count last amount end : ℕ) → HoldsWindows body bytes count last → HoldsWindows body bytes amount end → shapes.Windows count last ≡ shapes.Windows amount end
runs_once NoBody bytes count last amount end one two = absurd one
runs_once (WindowsOf floor top filter) bytes count last amount end one two =
    let same = one_run floor top filter bytes one.windows two.windows one.run two.run one.spelled two.spelled in
    let counts : count ≡ amount = one.counted ∙ ap (λ (ws : List Span). length ws) same ∙ sym two.counted in
    let ends : last ≡ end = one.ends ∙ ap (λ (ws : List Span). end_of ws) same ∙ sym two.ends in
    (λ i. shapes.Windows (counts i) (ends i))
runs_once (RowsOf start cursor filter) bytes count last amount end one two = absurd one
runs_once (ChangesOf target cursor filter) bytes count last amount end one two = absurd one

rows_once : (body : Body) (bytes : List ℕ) (count n : ℕ) (more : Bool) (amount m : ℕ) (left : Bool) → HoldsRows body bytes count n more → HoldsRows body bytes amount m left → shapes.Rows count n more ≡ shapes.Rows amount m left
rows_once NoBody bytes count n more amount m left one two = absurd one
rows_once (WindowsOf floor top filter) bytes count n more amount m left one two = absurd one
rows_once (RowsOf start cursor filter) bytes count n more amount m left one two =
    let same = one_items (rows_wanted start cursor filter) bytes count n more amount m left one two in
    (λ i. shapes.Rows (same.counts i) (same.scns i) (same.mores i))
rows_once (ChangesOf target cursor filter) bytes count n more amount m left one two = absurd one

changes_once : (body : Body) (bytes : List ℕ) (count : ℕ) (more : Bool) (amount : ℕ) (left : Bool) → HoldsChanges body bytes count more → HoldsChanges body bytes amount left → shapes.Changes count more ≡ shapes.Changes amount left
changes_once NoBody bytes count more amount left one two = absurd one
changes_once (WindowsOf floor top filter) bytes count more amount left one two = absurd one
changes_once (RowsOf start cursor filter) bytes count more amount left one two = absurd one
changes_once (ChangesOf target cursor filter) bytes count more amount left one two =
    let same = one_items (changes_wanted target cursor filter) bytes count target more amount target left one two in
    (λ i. shapes.Changes (same.counts i) (same.mores i))

-- ---- one kind of body

windows_or_rows : (body : Body) (bytes : List ℕ) (count last amount n : ℕ) (more : Bool) → HoldsWindows body bytes count last → HoldsRows body bytes amount n more → ⊥
windows_or_rows NoBody bytes count last amount n more one two = one
windows_or_rows (WindowsOf floor top filter) bytes count last amount n more one two = two
windows_or_rows (RowsOf start cursor filter) bytes count last amount n more one two = one
windows_or_rows (ChangesOf target cursor filter) bytes count last amount n more one two = one

windows_or_changes : (body : Body) (bytes : List ℕ) (count last amount : ℕ) (more : Bool) → HoldsWindows body bytes count last → HoldsChanges body bytes amount more → ⊥
windows_or_changes NoBody bytes count last amount more one two = one
windows_or_changes (WindowsOf floor top filter) bytes count last amount more one two = two
windows_or_changes (RowsOf start cursor filter) bytes count last amount more one two = one
windows_or_changes (ChangesOf target cursor filter) bytes count last amount more one two = one

rows_or_changes : (body : Body) (bytes : List ℕ) (count n : ℕ) (left : Bool) (amount : ℕ) (more : Bool) → HoldsRows body bytes count n left → HoldsChanges body bytes amount more → ⊥
rows_or_changes NoBody bytes count n left amount more one two = one
rows_or_changes (WindowsOf floor top filter) bytes count n left amount more one two = one
rows_or_changes (RowsOf start cursor filter) bytes count n left amount more one two = two
rows_or_changes (ChangesOf target cursor filter) bytes count n left amount more one two = one

-- ---- no body is an answer alone

no_run_is_only : (body : Body) (bytes : List ℕ) (count last : ℕ) (answer : Answer) → HoldsWindows body bytes count last → bytes ≡ answer_bytes answer → ⊥
no_run_is_only NoBody bytes count last answer one same = one
no_run_is_only (WindowsOf floor top filter) bytes count last answer one same = no_run_is_an_answer floor top filter one.windows answer [] one.run (sym one.spelled ∙ same ∙ sym (append-nil (answer_bytes answer)))
no_run_is_only (RowsOf start cursor filter) bytes count last answer one same = one
no_run_is_only (ChangesOf target cursor filter) bytes count last answer one same = one

no_items_are_only : (w : Wanted) (bytes : List ℕ) (count n : ℕ) (more : Bool) (answer : Answer) → HoldsItems w bytes count n more → bytes ≡ answer_bytes answer → ⊥
no_items_are_only w bytes count n more answer holds same = no_items_are_an_answer (run_wanted w) holds.changes n more answer [] (sym holds.spelled ∙ same ∙ sym (append-nil (answer_bytes answer)))

no_rows_are_only : (body : Body) (bytes : List ℕ) (count n : ℕ) (more : Bool) (answer : Answer) → HoldsRows body bytes count n more → bytes ≡ answer_bytes answer → ⊥
no_rows_are_only NoBody bytes count n more answer one same = one
no_rows_are_only (WindowsOf floor top filter) bytes count n more answer one same = one
no_rows_are_only (RowsOf start cursor filter) bytes count n more answer one same = no_items_are_only (rows_wanted start cursor filter) bytes count n more answer one same
no_rows_are_only (ChangesOf target cursor filter) bytes count n more answer one same = one

no_changes_are_only : (body : Body) (bytes : List ℕ) (count : ℕ) (more : Bool) (answer : Answer) → HoldsChanges body bytes count more → bytes ≡ answer_bytes answer → ⊥
no_changes_are_only NoBody bytes count more answer one same = one
no_changes_are_only (WindowsOf floor top filter) bytes count more answer one same = one
no_changes_are_only (RowsOf start cursor filter) bytes count more answer one same = one
no_changes_are_only (ChangesOf target cursor filter) bytes count more answer one same = no_items_are_only (changes_wanted target cursor filter) bytes count target more answer one same

pub one_shape : (ask : Ask) (bytes : List ℕ) (one other : Shape) → IsLawful ask bytes one → IsLawful ask bytes other → one ≡ other
one_shape ask bytes (shapes.Windows count last) (shapes.Windows amount end) one two = runs_once (body_of ask) bytes count last amount end one two
one_shape ask bytes (shapes.Windows count last) (shapes.Rows rows scn more) one two = absurd (windows_or_rows (body_of ask) bytes count last rows scn more one two)
one_shape ask bytes (shapes.Windows count last) (shapes.Changes changes more) one two = absurd (windows_or_changes (body_of ask) bytes count last changes more one two)
one_shape ask bytes (shapes.Windows count last) (shapes.Only answer) one two = absurd (no_run_is_only (body_of ask) bytes count last answer one two.0)
one_shape ask bytes (shapes.Rows rows scn more) (shapes.Windows amount end) one two = absurd (windows_or_rows (body_of ask) bytes amount end rows scn more two one)
one_shape ask bytes (shapes.Rows rows scn more) (shapes.Rows amount m left) one two = rows_once (body_of ask) bytes rows scn more amount m left one two
one_shape ask bytes (shapes.Rows rows scn more) (shapes.Changes changes left) one two = absurd (rows_or_changes (body_of ask) bytes rows scn more changes left one two)
one_shape ask bytes (shapes.Rows rows scn more) (shapes.Only answer) one two = absurd (no_rows_are_only (body_of ask) bytes rows scn more answer one two.0)
one_shape ask bytes (shapes.Changes changes more) (shapes.Windows amount end) one two = absurd (windows_or_changes (body_of ask) bytes amount end changes more two one)
one_shape ask bytes (shapes.Changes changes more) (shapes.Rows rows scn left) one two = absurd (rows_or_changes (body_of ask) bytes rows scn left changes more two one)
one_shape ask bytes (shapes.Changes changes more) (shapes.Changes amount left) one two = changes_once (body_of ask) bytes changes more amount left one two
one_shape ask bytes (shapes.Changes changes more) (shapes.Only answer) one two = absurd (no_changes_are_only (body_of ask) bytes changes more answer one two.0)
one_shape ask bytes (shapes.Only answer) (shapes.Windows count last) one two = absurd (no_run_is_only (body_of ask) bytes count last answer two one.0)
one_shape ask bytes (shapes.Only answer) (shapes.Rows rows scn more) one two = absurd (no_rows_are_only (body_of ask) bytes rows scn more answer two one.0)
one_shape ask bytes (shapes.Only answer) (shapes.Changes changes more) one two = absurd (no_changes_are_only (body_of ask) bytes changes more answer two one.0)
one_shape ask bytes (shapes.Only answer) (shapes.Only reply) one two = ap shapes.Only (one_answer answer reply one.1.within two.1.within (sym one.0 ∙ two.0))

-- ---- what is refused

-- behind a lawful answer
pub answer_refused : (ask : Ask) (bytes : List ℕ) (result : Result Shape BadReply) → MatchResult result (λ shape. IsLawful ask bytes shape) (λ fault. IsFaultAt ask bytes fault.place)
    → IfErr result (λ _. (shape : Shape) → IsLawful ask bytes shape → ⊥)
answer_refused ask bytes (Ok shape) is = tt
answer_refused ask bytes (Err fault) is = λ shape lawful. fault_is_unlawful ask bytes fault.place shape is lawful

-- where no lawful answer stands
pub items_refused : (ask : Ask) (bytes : List ℕ) (result : Result Shape BadReply) → HasNoAnswer ask bytes → MatchResult result (λ shape. IsLawful ask bytes shape) (λ fault. EndsAt ask bytes fault.place)
    → IfErr result (λ _. (shape : Shape) → IsLawful ask bytes shape → ⊥)
items_refused ask bytes (Ok shape) none is = tt
items_refused ask bytes (Err fault) none is = λ shape lawful. fault_is_unlawful ask bytes fault.place shape (inr (none, is)) lawful

-- a lawful reply is taken, in its shape
pub lawful_is_taken : (ask : Ask) (bytes : List ℕ) (shape : Shape) (result : Result Shape BadReply) → IfOk result (λ found. IsLawful ask bytes found) → IfErr result (λ fault. IsFaultAt ask bytes fault.place)
    → IsLawful ask bytes shape → result ≡ Ok shape
lawful_is_taken ask bytes shape (Ok found) taken refused lawful = ap Ok (one_shape ask bytes found shape taken lawful)
lawful_is_taken ask bytes shape (Err fault) taken refused lawful = absurd (fault_is_unlawful ask bytes fault.place shape refused lawful)
