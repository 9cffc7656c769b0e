-- A reply that bytes spell is read as itself.
use Rattle.std.proofs.Common.{◌≡◌, ℕ, ◌+◌, ◌-◌, ◌<◌, ◌≤◌, Bool, cond, List, [], ◌∷◌, ◌++◌, length, get_or, take, drop, Option, Some, None, Bor, refl, sym, ap, subst, ◌∙◌, append_assoc, arith}
use Rattle.std.specs.Prelude.{MatchOption}
use Rattle.std.specs.Array.{IsWholeChunk}
use Rattle.std.specs.List.{AllByRecursion}
use Rattle.std.specs.Int.{w64, from_be_bytes, to_be_bytes}
use Rattle.std.proofs.lemmas.List.{length-append, take_at, drop_at}
use Rattle.std.proofs.lemmas.Nat.{from_be_bytes-to_be_bytes_8}
use Rattle.bus_types.specs.declared.change.Change.{Change}
use Rattle.bus_types.specs.Change.{AreChanges}
use Rattle.bus_types.specs.Window.{Span}
use Rattle.bus_types.specs.Timeline.{end_of}
use Rattle.event_codec.specs.declared.answer.Answer.{Answer}
use Rattle.event_codec.specs.declared.reply.Shape.{Shape}
use Rattle.event_codec.specs.declared.reply.Shape.TheVariants as shapes
use Rattle.event_codec.specs.declared.reply.ReplyView.{ReplyView}
use Rattle.event_codec.specs.declared.reply.ReplyView.TheVariants as views
use Rattle.event_codec.specs.Bytes.{Event, IsEvent, changes_bytes}
use Rattle.event_codec.specs.Frames.{Run, run_kind, Closing, IsClosing, closing_bytes}
use Rattle.event_codec.specs.Frames.Run.{Rows as OfRows, Changes as OfChanges}
use Rattle.event_codec.specs.Questions.{Reply}
use Rattle.event_codec.specs.Questions.Reply.{Windows, Rows, Changes, Only}
use Rattle.event_codec.specs.Forms.{run_bytes}
use Rattle.event_codec.specs.Parsing.{events_bytes, events_of, AreEvents, HaveEvents, HaveWindows, AreWindows}
use Rattle.event_codec.specs.ReplyViews.{view_of, IsRunOf, Spells, AreClosed}
use Rattle.event_codec.proofs.Parsings.{events_spelled, events_within, events_are, windows_are}

-- ---- the closing frame

frame_long : (c : Closing) → length (closing_bytes c) ≡ 10
frame_long c = refl

pub closed_long : (es : List Event) (c : Closing) (bytes : List ℕ) → AreClosed es c bytes → 10 ≤ length bytes
closed_long es c bytes are = omega (arith, ap length are.parts, length-append (events_bytes es) (closing_bytes c), frame_long c)

pub closed_events : (es : List Event) (c : Closing) (bytes front : List ℕ) → AreClosed es c bytes → front ≡ take (length bytes - 10) bytes → AreEvents es front
closed_events es c bytes front are is =
    let long : length (events_bytes es) ≡ length bytes - 10 = omega (arith, ap length are.parts, length-append (events_bytes es) (closing_bytes c), frame_long c) in
    record { within = are.within; spelled = is ∙ ap (take (length bytes - 10)) are.parts ∙ take_at (events_bytes es) (closing_bytes c) (length bytes - 10) long }

-- the last nine bytes, which begin with the SCN
last_nine : (es : List Event) (c : Closing) (bytes : List ℕ) → AreClosed es c bytes → drop (length bytes - 9) bytes ≡ to_be_bytes w64 c.scn ++ (cond c.more 1 0 ∷ [])
last_nine es c bytes are =
    let kind = run_kind c.run in
    let behind = to_be_bytes w64 c.scn ++ (cond c.more 1 0 ∷ []) in
    let front = events_bytes es in
    let parts : bytes ≡ (front ++ kind ∷ []) ++ behind = are.parts ∙ sym (append_assoc front (kind ∷ []) behind) in
    let long : length (front ++ kind ∷ []) ≡ length bytes - 9 = omega (arith, ap length parts, length-append (front ++ kind ∷ []) behind) in
    ap (drop (length bytes - 9)) parts ∙ drop_at (front ++ kind ∷ []) behind (length bytes - 9) long

abbrev number : List ℕ → ℕ
number x = from_be_bytes w64 (get_or x 0 0 ∷ get_or x 1 0 ∷ get_or x 2 0 ∷ get_or x 3 0 ∷ get_or x 4 0 ∷ get_or x 5 0 ∷ get_or x 6 0 ∷ get_or x 7 0 ∷ [])

-- the number that they begin with is the SCN
pub closing_is : (es : List Event) (c : Closing) (bytes : List ℕ) (found : Option (Bor (List ℕ))) (chunk : Bor (List ℕ)) (n : ℕ) → AreClosed es c bytes
    → MatchOption found (length bytes < 9) (λ y. (9 ≤ length bytes) × IsWholeChunk (drop (length bytes - 9) bytes) y.now 9) → found ≡ Some chunk
    → n ≡ from_be_bytes w64 (get_or chunk.now 0 0 ∷ get_or chunk.now 1 0 ∷ get_or chunk.now 2 0 ∷ get_or chunk.now 3 0 ∷ get_or chunk.now 4 0 ∷ get_or chunk.now 5 0 ∷ get_or chunk.now 6 0 ∷ get_or chunk.now 7 0 ∷ [])
    → n ≡ c.scn
closing_is es c bytes found chunk n are last is read =
    let whole : (9 ≤ length bytes) × IsWholeChunk (drop (length bytes - 9) bytes) chunk.now 9 =
    subst (λ (o : Option (Bor (List ℕ))). MatchOption o (length bytes < 9) (λ y. (9 ≤ length bytes) × IsWholeChunk (drop (length bytes - 9) bytes) y.now 9)) is last in
    read ∙ ap number (whole.1.same ∙ last_nine es c bytes are) ∙ from_be_bytes-to_be_bytes_8 c.scn (omega (arith, are.frame.scn))

-- ---- runs

run_within : (n : ℕ) (cs : List Change) → IsRunOf n cs → AllByRecursion IsEvent (events_of n cs)
run_within n [] is = tt
run_within n (c ∷ cs) is = events_within n (c ∷ cs) (is.positive (omega arith)) is.bound is.within

run_closed : (run : Run) (n : ℕ) (cs : List Change) (more : Bool) (bytes : List ℕ) → IsRunOf n cs → bytes ≡ run_bytes run cs n more → AreClosed (events_of n cs) (record { run = run; scn = n; more = more }) bytes
run_closed run n cs more bytes is spelled =
    let c : Closing = record { run = run; scn = n; more = more } in
    record { within = run_within n cs is; frame = record { scn = is.bound }; parts = spelled ∙ ap (λ (x : List ℕ). x ++ closing_bytes c) (events_spelled n cs) }

-- ---- by the shape

pub windows_had : (shape : Shape) (bytes : List ℕ) (count last : ℕ) (reply : Reply) → Spells shape bytes reply → shape ≡ shapes.Windows count last → HaveWindows bytes
windows_had shape bytes count last (Windows ws) is e = (ws, record { within = is.formed; spelled = is.spelled })
windows_had shape bytes count last (Rows cs scn more) is e = (let f = sym is.shaped ∙ e in absurd cc)
windows_had shape bytes count last (Changes cs scn more) is e = (let f = sym is.shaped ∙ e in absurd cc)
windows_had shape bytes count last (Only answer) is e = (let f = sym is.shaped ∙ e in absurd cc)

pub rows_had : (shape : Shape) (bytes : List ℕ) (count scn : ℕ) (more : Bool) (reply : Reply) → Spells shape bytes reply → shape ≡ shapes.Rows count scn more → (events : List Event) × (closing : Closing) × AreClosed events closing bytes
rows_had shape bytes count scn more (Windows ws) is e = (let f = sym is.shaped ∙ e in absurd cc)
rows_had shape bytes count scn more (Rows cs n m) is e = (events_of n cs, record { run = OfRows; scn = n; more = m }, run_closed OfRows n cs m bytes is.formed is.spelled)
rows_had shape bytes count scn more (Changes cs n m) is e = (let f = sym is.shaped ∙ e in absurd cc)
rows_had shape bytes count scn more (Only answer) is e = (let f = sym is.shaped ∙ e in absurd cc)

pub changes_had : (shape : Shape) (bytes : List ℕ) (count : ℕ) (more : Bool) (reply : Reply) → Spells shape bytes reply → shape ≡ shapes.Changes count more → (events : List Event) × (closing : Closing) × AreClosed events closing bytes
changes_had shape bytes count more (Windows ws) is e = (let f = sym is.shaped ∙ e in absurd cc)
changes_had shape bytes count more (Rows cs n m) is e = (let f = sym is.shaped ∙ e in absurd cc)
changes_had shape bytes count more (Changes cs n m) is e = (events_of n cs, record { run = OfChanges; scn = n; more = m }, run_closed OfChanges n cs m bytes is.formed is.spelled)
changes_had shape bytes count more (Only answer) is e = (let f = sym is.shaped ∙ e in absurd cc)

pub windows_viewed : (shape : Shape) (bytes : List ℕ) (count last : ℕ) (ws : List Span) (reply : Reply) → Spells shape bytes reply → shape ≡ shapes.Windows count last → ((vs : List Span) → AreWindows vs bytes → ws ≡ vs) → views.Windows ws ≡ view_of reply
windows_viewed shape bytes count last ws (Windows vs) is e read = ap views.Windows (read vs (record { within = is.formed; spelled = is.spelled }))
windows_viewed shape bytes count last ws (Rows cs scn more) is e read = (let f = sym is.shaped ∙ e in absurd cc)
windows_viewed shape bytes count last ws (Changes cs scn more) is e read = (let f = sym is.shaped ∙ e in absurd cc)
windows_viewed shape bytes count last ws (Only answer) is e read = (let f = sym is.shaped ∙ e in absurd cc)

-- what a run was read as
abbrev pub ReadAs : List ℕ → List Event → Type 0
ReadAs bytes run = (events : List Event) (closing : Closing) → AreClosed events closing bytes → run ≡ events

pub rows_viewed : (shape : Shape) (bytes : List ℕ) (count scn : ℕ) (more : Bool) (run : List Event) (reply : Reply) → Spells shape bytes reply → shape ≡ shapes.Rows count scn more → ReadAs bytes run → views.Rows run scn more ≡ view_of reply
rows_viewed shape bytes count scn more run (Windows ws) is e read = (let f = sym is.shaped ∙ e in absurd cc)
rows_viewed shape bytes count scn more run (Rows cs n m) is e read =
    let f = sym is.shaped ∙ e in
    let same_scn : n ≡ scn = cc in
    let same_more : m ≡ more = cc in
    let same = read (events_of n cs) (record { run = OfRows; scn = n; more = m }) (run_closed OfRows n cs m bytes is.formed is.spelled) in
    (λ i. views.Rows (same i) (sym same_scn i) (sym same_more i))
rows_viewed shape bytes count scn more run (Changes cs n m) is e read = (let f = sym is.shaped ∙ e in absurd cc)
rows_viewed shape bytes count scn more run (Only answer) is e read = (let f = sym is.shaped ∙ e in absurd cc)

pub changes_viewed : (shape : Shape) (bytes : List ℕ) (count scn : ℕ) (more : Bool) (run : List Event) (reply : Reply) → Spells shape bytes reply → shape ≡ shapes.Changes count more → ReadAs bytes run
    → ((events : List Event) (closing : Closing) → AreClosed events closing bytes → scn ≡ closing.scn) → views.Changes run scn more ≡ view_of reply
changes_viewed shape bytes count scn more run (Windows ws) is e read at = (let f = sym is.shaped ∙ e in absurd cc)
changes_viewed shape bytes count scn more run (Rows cs n m) is e read at = (let f = sym is.shaped ∙ e in absurd cc)
changes_viewed shape bytes count scn more run (Changes cs n m) is e read at =
    let f = sym is.shaped ∙ e in
    let same_more : m ≡ more = cc in
    let closed = run_closed OfChanges n cs m bytes is.formed is.spelled in
    let same = read (events_of n cs) (record { run = OfChanges; scn = n; more = m }) closed in
    let same_scn = at (events_of n cs) (record { run = OfChanges; scn = n; more = m }) closed in
    (λ i. views.Changes (same i) (same_scn i) (sym same_more i))
changes_viewed shape bytes count scn more run (Only answer) is e read at = (let f = sym is.shaped ∙ e in absurd cc)

pub only_viewed : (shape : Shape) (bytes : List ℕ) (answer : Answer) (reply : Reply) → Spells shape bytes reply → shape ≡ shapes.Only answer → views.Only answer ≡ view_of reply
only_viewed shape bytes answer (Windows ws) is e = (let f = sym is.shaped ∙ e in absurd cc)
only_viewed shape bytes answer (Rows cs n m) is e = (let f = sym is.shaped ∙ e in absurd cc)
only_viewed shape bytes answer (Changes cs n m) is e = (let f = sym is.shaped ∙ e in absurd cc)
only_viewed shape bytes answer (Only other) is e = (let f = sym is.shaped ∙ e in let same : other ≡ answer = cc in ap views.Only (sym same))

-- ---- bytes of a shape are read in one way

-- events before a closing frame are those that the front reads as
closed_one : (es ds : List Event) (c d : Closing) (bytes : List ℕ) → AreClosed es c bytes → AreClosed ds d bytes → es ≡ ds
closed_one es ds c d bytes one other =
    sym (events_are es _ (closed_events es c bytes _ one refl)) ∙ events_are ds _ (closed_events ds d bytes _ other refl)

closed_scn : (es ds : List Event) (c d : Closing) (bytes : List ℕ) → AreClosed es c bytes → AreClosed ds d bytes → c.scn ≡ d.scn
closed_scn es ds c d bytes one other =
    sym (from_be_bytes-to_be_bytes_8 c.scn (omega (arith, one.frame.scn)))
    ∙ ap number (sym (last_nine es c bytes one) ∙ last_nine ds d bytes other)
    ∙ from_be_bytes-to_be_bytes_8 d.scn (omega (arith, other.frame.scn))

pub same_view : (shape : Shape) (bytes : List ℕ) (one other : Reply) → Spells shape bytes one → Spells shape bytes other → view_of one ≡ view_of other
same_view shape bytes (Windows ws) other one two =
    windows_viewed shape bytes (length ws) (end_of ws) ws other two one.shaped
    (λ vs are. sym (windows_are ws bytes (record { within = one.formed; spelled = one.spelled })) ∙ windows_are vs bytes are)
same_view shape bytes (Rows cs n more) other one two =
    let closed = run_closed OfRows n cs more bytes one.formed one.spelled in
    rows_viewed shape bytes (length cs) n more (events_of n cs) other two one.shaped (λ es c are. closed_one (events_of n cs) es _ c bytes closed are)
same_view shape bytes (Changes cs n more) other one two =
    let closed = run_closed OfChanges n cs more bytes one.formed one.spelled in
    changes_viewed shape bytes (length cs) n more (events_of n cs) other two one.shaped (λ es c are. closed_one (events_of n cs) es _ c bytes closed are)
    (λ es c are. closed_scn (events_of n cs) es _ c bytes closed are)
same_view shape bytes (Only answer) other one two = only_viewed shape bytes answer other two one.shaped
