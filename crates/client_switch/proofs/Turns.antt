-- The turns of lawful replies.
use Rattle.std.proofs.Common.{◌≡◌, ℕ, suc, ◌-◌, ◌<◌, ◌≤◌, max, Bool, false, ◌==◌, List, [], ◌∷◌, length, get_or, map, true≢false, refl, sym, ap, subst, ◌∙◌, arith}
use Rattle.std.specs.Prelude.{Vec, IfOk, Result, Ok, Err}
use Rattle.std.specs.Global.{Global}
use Rattle.std.proofs.lemmas.Bool.{cond_both, eqb-false}
use Rattle.bus_types.specs.declared.fault.NoMemory.{NoMemory}
use Rattle.bus_types.specs.declared.change.Change.{Change}
use Rattle.bus_types.specs.declared.limits.TheConstants.{MAX_SCN}
use Rattle.bus_types.specs.declared.row.Cursor.{Cursor}
use Rattle.bus_types.specs.declared.row.Cursor.TheVariants.{After}
use Rattle.bus_types.specs.Change.{AreChanges}
use Rattle.bus_types.specs.Window.{Span}
use Rattle.bus_types.specs.Timeline.{end_from, end_of}
use Rattle.event_codec.specs.declared.answer.Answer.{Answer}
use Rattle.event_codec.specs.declared.answer.Answer.TheVariants.{NotFound, Empty, TooSmall, Behind, LogGone, StartDelta, StartSnapshot, Target}
use Rattle.event_codec.specs.declared.reply.Shape.{Shape}
use Rattle.event_codec.specs.declared.reply.Shape.TheVariants as shapes
use Rattle.event_codec.specs.declared.reply.ReplyView.{ReplyView}
use Rattle.event_codec.specs.declared.reply.ReplyView.TheVariants as views
use Rattle.event_codec.specs.Bytes.{Event}
use Rattle.event_codec.specs.Chunks.{cursor_after}
use Rattle.event_codec.specs.Forms.{shape_of}
use Rattle.event_codec.specs.Parsing.{events_of}
use Rattle.event_codec.specs.Questions.{Reply}
use Rattle.event_codec.specs.Questions.Reply.{Windows, Rows, Changes, Only}
use Rattle.event_codec.specs.ReplyViews.{view_of, Spells}
use Rattle.event_codec.proofs.Parsings.{changes_again}
use Rattle.checkpoint.specs.declared.mark.Mark.{Mark}
use Rattle.checkpoint.specs.declared.mark.Mark.TheVariants.{Online, Delta, Snapshot, Scanned, Catchup}
use Rattle.bus_types.specs.Text.{IsCursor}
use Rattle.checkpoint.specs.Mark.{IsMark, floor_of}
use Rattle.client_switch.specs.declared.turn.Turn.{Turn as TurnMade}
use Rattle.client_switch.specs.Moves.{Turn, IsWished, go, changes_of, turn, replayed}
use Rattle.client_switch.specs.Turning.{CanStand, wish_of, turn_in, CanEnd, CanAnswer, CanFollow, CanHold, CanChange, CanCome, HoldsComing, items_of, mark_after}
use Rattle.client_switch.proofs.Standing.{after_rows, after_changes}

-- windows end where they end, whatever they follow
ends_same : (n : ℕ) (ws : List Span) → 0 < length ws → end_from n ws ≡ end_of ws
ends_same n [] some = absurd (omega arith)
ends_same n (w ∷ ws) some = refl

-- ---- the turn of a reply, as the code makes it

abbrev Turned : Mark → Reply → Type 0
Turned mark r = go (mark_after mark (shape_of r) (items_of r)) false (items_of r) ≡ turn mark r

windows_turned : (mark : Mark) (ws : List Span) → CanFollow mark ws → Turned mark (Windows ws)
windows_turned (Online scn) ws can = ap (λ n. go (Online n) false (changes_of ws)) (sym (ends_same scn ws can.some))
windows_turned (Delta since target cursor) ws can = absurd can
windows_turned (Snapshot since start top cursor) ws can = absurd can
windows_turned (Scanned since start top) ws can = absurd can
windows_turned (Catchup since start target at) ws can = ap (λ n. go (replayed since start target n) false (changes_of ws)) (sym (ends_same at ws can.some))

rows_turned : (mark : Mark) (cs : List Change) (scn : ℕ) (more : Bool) → CanHold mark cs scn → Turned mark (Rows cs scn more)
rows_turned (Online s) cs scn more can = absurd can
rows_turned (Delta since target cursor) cs scn more can = absurd can
rows_turned (Snapshot since start top cursor) cs scn more can = refl
rows_turned (Scanned since start top) cs scn more can = absurd can
rows_turned (Catchup since start target at) cs scn more can = absurd can

changes_turned : (mark : Mark) (cs : List Change) (scn : ℕ) (more : Bool) → CanChange mark cs → Turned mark (Changes cs scn more)
changes_turned (Online s) cs scn more can = absurd can
changes_turned (Delta since target cursor) cs scn more can = refl
changes_turned (Snapshot since start top cursor) cs scn more can = absurd can
changes_turned (Scanned since start top) cs scn more can = absurd can
changes_turned (Catchup since start target at) cs scn more can = absurd can

-- whether a shape is that of an answer
abbrev IsAnswered : Reply → Type 0
IsAnswered (Windows ws) = ⊥
IsAnswered (Rows cs scn more) = ⊥
IsAnswered (Changes cs scn more) = ⊥
IsAnswered (Only answer) = Unit {0}

items_turned : (mark : Mark) (r : Reply) → (IsAnswered r → ⊥) → CanCome mark r → Turned mark r
items_turned mark (Windows ws) not_answer can = windows_turned mark ws can
items_turned mark (Rows cs scn more) not_answer can = rows_turned mark cs scn more can
items_turned mark (Changes cs scn more) not_answer can = changes_turned mark cs scn more can
items_turned mark (Only answer) not_answer can = absurd (not_answer tt)

-- ---- without a commit the mark stays

abbrev Stays : Mark → Reply → Type 0
Stays mark r = (turn mark r).commits ≡ false → (turn mark r).mark ≡ mark

windows_stay : (mark : Mark) (ws : List Span) → CanFollow mark ws → Stays mark (Windows ws)
windows_stay (Online scn) ws can = λ none. absurd (true≢false none)
windows_stay (Delta since target cursor) ws can = λ none. refl
windows_stay (Snapshot since start top cursor) ws can = λ none. refl
windows_stay (Scanned since start top) ws can = λ none. refl
windows_stay (Catchup since start target at) ws can = λ none. absurd (true≢false none)

rows_stay : (mark : Mark) (cs : List Change) (scn : ℕ) (more : Bool) → Stays mark (Rows cs scn more)
rows_stay (Online s) cs scn more = λ none. refl
rows_stay (Delta since target cursor) cs scn more = λ none. refl
rows_stay (Snapshot since start top cursor) cs scn more = λ none. absurd (true≢false none)
rows_stay (Scanned since start top) cs scn more = λ none. refl
rows_stay (Catchup since start target at) cs scn more = λ none. refl

changes_stay : (mark : Mark) (cs : List Change) (scn : ℕ) (more : Bool) → Stays mark (Changes cs scn more)
changes_stay (Online s) cs scn more = λ none. refl
changes_stay (Delta since target cursor) cs scn more = λ none. absurd (true≢false none)
changes_stay (Snapshot since start top cursor) cs scn more = λ none. refl
changes_stay (Scanned since start top) cs scn more = λ none. refl
changes_stay (Catchup since start target at) cs scn more = λ none. refl

target_stays : (mark : Mark) (t : ℕ) → CanEnd mark t → Stays mark (Only (Target t))
target_stays (Online s) t can = absurd can
target_stays (Delta since target cursor) t can = absurd can
target_stays (Snapshot since start top cursor) t can = absurd can
target_stays (Scanned since start top) t can = λ none. absurd (true≢false none)
target_stays (Catchup since start target at) t can = absurd can

answer_stays : (mark : Mark) (answer : Answer) → CanAnswer mark answer → Stays mark (Only answer)
answer_stays mark (NotFound floor) can = λ none. refl
answer_stays mark (Empty end) can = λ none. refl
answer_stays mark (TooSmall need) can = λ none. refl
answer_stays mark (Behind high) can = λ none. refl
answer_stays mark (LogGone base) can = λ none. refl
answer_stays mark (StartDelta high) can = λ none. absurd (true≢false none)
answer_stays mark (StartSnapshot applied) can = λ none. absurd (true≢false none)
answer_stays mark (Target t) can = target_stays mark t can

pub stays : (mark : Mark) (r : Reply) → CanCome mark r → Stays mark r
stays mark (Windows ws) can = windows_stay mark ws can
stays mark (Rows cs scn more) can = rows_stay mark cs scn more
stays mark (Changes cs scn more) can = changes_stay mark cs scn more
stays mark (Only answer) can = answer_stays mark answer can

-- ---- the floor of the mark doesn't fall

abbrev Rises : Mark → Reply → Type 0
Rises mark r = floor_of mark ≤ floor_of (turn mark r).mark

windows_rise : (mark : Mark) (ws : List Span) → IsMark mark → CanFollow mark ws → Rises mark (Windows ws)
windows_rise (Online scn) ws is can = omega (arith, can.above, ends_same scn ws can.some)
windows_rise (Delta since target cursor) ws is can = absurd can
windows_rise (Snapshot since start top cursor) ws is can = absurd can
windows_rise (Scanned since start top) ws is can = absurd can
windows_rise (Catchup since start target at) ws is can =
    cond_both (end_from at ws == target) (Online target) (Catchup since start target (end_from at ws)) (λ (m : Mark). since ≤ floor_of m) (λ _. is.2) (λ _. omega arith)

target_rises : (mark : Mark) (t : ℕ) → CanEnd mark t → Rises mark (Only (Target t))
target_rises (Online s) t can = absurd can
target_rises (Delta since target cursor) t can = absurd can
target_rises (Snapshot since start top cursor) t can = absurd can
target_rises (Scanned since start top) t can = cond_both (t == start) (Online t) (Catchup since start t start) (λ (m : Mark). since ≤ floor_of m) (λ _. can.1) (λ _. omega arith)
target_rises (Catchup since start target at) t can = absurd can

answer_rises : (mark : Mark) (answer : Answer) → CanAnswer mark answer → Rises mark (Only answer)
answer_rises mark (NotFound floor) can = omega arith
answer_rises mark (Empty end) can = omega arith
answer_rises mark (TooSmall need) can = omega arith
answer_rises mark (Behind high) can = omega arith
answer_rises mark (LogGone base) can = omega arith
answer_rises mark (StartDelta high) can = omega arith
answer_rises mark (StartSnapshot applied) can = omega arith
answer_rises mark (Target t) can = target_rises mark t can

pub rises : (mark : Mark) (r : Reply) → IsMark mark → CanCome mark r → Rises mark r
rises mark (Windows ws) is can = windows_rise mark ws is can
rises mark (Rows cs scn more) is can = after_rows mark cs scn more
rises mark (Changes cs scn more) is can = after_changes mark cs scn more is
rises mark (Only answer) is can = answer_rises mark answer can

-- ---- the new mark keeps the rule of its kind

floor_low : (mark : Mark) → IsMark mark → floor_of mark ≤ MAX_SCN
floor_low (Online scn) is = is
floor_low (Delta since target cursor) is = omega (arith, is.0, is.1)
floor_low (Snapshot since start top cursor) is = is.1
floor_low (Scanned since start top) is = is.1
floor_low (Catchup since start target at) is = omega (arith, is.2, is.3)

cursor_lawful : (cursor : Cursor) (cs : List Change) → IsCursor cursor → AreChanges cs → IsCursor (cursor_after cursor cs)
cursor_lawful cursor [] is are = is
cursor_lawful cursor (c ∷ cs) is are = cursor_lawful (After c.source c.key) cs (are.0.source, are.0.key) are.1

abbrev IsLawfulTurn : Mark → Reply → Type 0
IsLawfulTurn mark r = IsMark (turn mark r).mark

windows_lawful : (mark : Mark) (ws : List Span) → IsMark mark → CanFollow mark ws → IsLawfulTurn mark (Windows ws)
windows_lawful (Online scn) ws is can = omega (arith, can.bound, ends_same scn ws can.some)
windows_lawful (Delta since target cursor) ws is can = absurd can
windows_lawful (Snapshot since start top cursor) ws is can = absurd can
windows_lawful (Scanned since start top) ws is can = absurd can
windows_lawful (Catchup since start target at) ws is can =
    let end = ends_same at ws can.some in
    cond_both (end_from at ws == target) (Online target) (Catchup since start target (end_from at ws)) IsMark (λ _. is.3)
    (λ other. (let ne = eqb-false (end_from at ws) target other in (omega (arith, is.0, can.above, end), omega (arith, can.bound, end, ne), is.2, is.3)))

rows_lawful : (mark : Mark) (cs : List Change) (scn : ℕ) (more : Bool) → IsMark mark → CanHold mark cs scn → IsLawfulTurn mark (Rows cs scn more)
rows_lawful (Online s) cs scn more is can = absurd can
rows_lawful (Delta since target cursor) cs scn more is can = absurd can
rows_lawful (Snapshot since start top cursor) cs scn more is can =
    cond_both more (Snapshot since start (max top scn) (cursor_after cursor cs)) (Scanned since start (max top scn)) IsMark
    (λ _. (omega (arith, is.0), is.1, omega (arith, is.2, can.1), cursor_lawful cursor cs is.3 can.0))
    (λ _. (omega (arith, is.0), is.1, omega (arith, is.2, can.1)))
rows_lawful (Scanned since start top) cs scn more is can = absurd can
rows_lawful (Catchup since start target at) cs scn more is can = absurd can

changes_lawful : (mark : Mark) (cs : List Change) (scn : ℕ) (more : Bool) → IsMark mark → CanChange mark cs → IsLawfulTurn mark (Changes cs scn more)
changes_lawful (Online s) cs scn more is can = absurd can
changes_lawful (Delta since target cursor) cs scn more is can =
    cond_both more (Delta since target (cursor_after cursor cs)) (Online target) IsMark (λ _. (is.0, is.1, cursor_lawful cursor cs is.2 can)) (λ _. is.1)
changes_lawful (Snapshot since start top cursor) cs scn more is can = absurd can
changes_lawful (Scanned since start top) cs scn more is can = absurd can
changes_lawful (Catchup since start target at) cs scn more is can = absurd can

target_lawful : (mark : Mark) (t : ℕ) → IsMark mark → CanEnd mark t → IsLawfulTurn mark (Only (Target t))
target_lawful (Online s) t is can = absurd can
target_lawful (Delta since target cursor) t is can = absurd can
target_lawful (Snapshot since start top cursor) t is can = absurd can
target_lawful (Scanned since start top) t is can =
    cond_both (t == start) (Online t) (Catchup since start t start) IsMark (λ _. can.2) (λ other. (let ne = eqb-false t start other in (omega arith, omega (arith, can.0, ne), can.1, can.2)))
target_lawful (Catchup since start target at) t is can = absurd can

answer_lawful : (mark : Mark) (answer : Answer) → IsMark mark → CanAnswer mark answer → IsLawfulTurn mark (Only answer)
answer_lawful mark (NotFound floor) is can = is
answer_lawful mark (Empty end) is can = is
answer_lawful mark (TooSmall need) is can = is
answer_lawful mark (Behind high) is can = is
answer_lawful mark (LogGone base) is can = is
answer_lawful mark (StartDelta high) is can = (can.0, can.1, tt)
answer_lawful mark (StartSnapshot applied) is can = (omega arith, floor_low mark is, can, tt)
answer_lawful mark (Target t) is can = target_lawful mark t is can

pub lawful : (mark : Mark) (r : Reply) → IsMark mark → CanCome mark r → IsLawfulTurn mark r
lawful mark (Windows ws) is can = windows_lawful mark ws is can
lawful mark (Rows cs scn more) is can = rows_lawful mark cs scn more is can
lawful mark (Changes cs scn more) is can = changes_lawful mark cs scn more is can
lawful mark (Only answer) is can = answer_lawful mark answer is can

-- ---- the changes of a reply

-- the changes of rows and of changes, as they are read
rows_in : (view : ReplyView) (run : List Event) (n : ℕ) (more : Bool) (r : Reply) → view ≡ views.Rows run n more → view ≡ view_of r → map (λ (e : Event). e.change) run ≡ items_of r
rows_in view run n more (Windows ws) is same = (let e : views.Windows ws ≡ views.Rows run n more = sym same ∙ is in absurd cc)
rows_in view run n more (Rows cs m left) is same = (let e : views.Rows run n more ≡ views.Rows (events_of m cs) m left = sym is ∙ same in let runs : run ≡ events_of m cs = cc in ap (map (λ (e : Event). e.change)) runs ∙ changes_again m cs)
rows_in view run n more (Changes cs m left) is same = (let e : views.Changes (events_of m cs) m left ≡ views.Rows run n more = sym same ∙ is in absurd cc)
rows_in view run n more (Only answer) is same = (let e : views.Only answer ≡ views.Rows run n more = sym same ∙ is in absurd cc)

changes_in : (view : ReplyView) (run : List Event) (n : ℕ) (more : Bool) (r : Reply) → view ≡ views.Changes run n more → view ≡ view_of r → map (λ (e : Event). e.change) run ≡ items_of r
changes_in view run n more (Windows ws) is same = (let e : views.Windows ws ≡ views.Changes run n more = sym same ∙ is in absurd cc)
changes_in view run n more (Rows cs m left) is same = (let e : views.Rows (events_of m cs) m left ≡ views.Changes run n more = sym same ∙ is in absurd cc)
changes_in view run n more (Changes cs m left) is same = (let e : views.Changes run n more ≡ views.Changes (events_of m cs) m left = sym is ∙ same in let runs : run ≡ events_of m cs = cc in ap (map (λ (e : Event). e.change)) runs ∙ changes_again m cs)
changes_in view run n more (Only answer) is same = (let e : views.Only answer ≡ views.Changes run n more = sym same ∙ is in absurd cc)

-- what was gathered are the changes of the reply
pub rows_gathered : (shape : Shape) (bytes : List ℕ) (view : ReplyView) (run : List Event) (n : ℕ) (more : Bool) (result : Result (Vec Change Global) NoMemory) → view ≡ views.Rows run n more
    → ((r : Reply) → Spells shape bytes r → view ≡ view_of r) → IfOk result (λ changes. changes.items ≡ map (λ (e : Event). e.change) run) → IfOk result (λ changes. (r : Reply) → Spells shape bytes r → changes.items ≡ items_of r)
rows_gathered shape bytes view run n more (Ok changes) is read all = λ r spells. all ∙ rows_in view run n more r is (read r spells)
rows_gathered shape bytes view run n more (Err fault) is read all = tt

pub changes_gathered : (shape : Shape) (bytes : List ℕ) (view : ReplyView) (run : List Event) (n : ℕ) (more : Bool) (result : Result (Vec Change Global) NoMemory) → view ≡ views.Changes run n more
    → ((r : Reply) → Spells shape bytes r → view ≡ view_of r) → IfOk result (λ changes. changes.items ≡ map (λ (e : Event). e.change) run) → IfOk result (λ changes. (r : Reply) → Spells shape bytes r → changes.items ≡ items_of r)
changes_gathered shape bytes view run n more (Ok changes) is read all = λ r spells. all ∙ changes_in view run n more r is (read r spells)
changes_gathered shape bytes view run n more (Err fault) is read all = tt

-- ---- what the code makes of items

pub record Makes (mark : Mark) (shape : Shape) (bytes : List ℕ) (made : TurnMade) : Type 0 where
  pub turn : (r : Reply) → Spells shape bytes r → turn_in made ≡ turn mark r
  pub stands : CanStand made.mark (wish_of made.wish)

answer_shape : (r : Reply) → IsAnswered r → (answer : Answer) × (shape_of r ≡ shapes.Only answer)
answer_shape (Windows ws) is = absurd is
answer_shape (Rows cs scn more) is = absurd is
answer_shape (Changes cs scn more) is = absurd is
answer_shape (Only answer) is = (answer, refl)

pub made : (mark : Mark) (shape : Shape) (bytes : List ℕ) (changes : List Change) (next : Mark) (t : TurnMade) → IsMark mark → HoldsComing mark shape bytes → ((answer : Answer) → shape ≡ shapes.Only answer → ⊥)
    → ((r : Reply) → Spells shape bytes r → changes ≡ items_of r) → next ≡ mark_after mark shape changes → turn_in t ≡ go next false changes → Makes mark shape bytes t
made mark shape bytes changes next t is coming items gathered marked turned =
    let turns : (r : Reply) → Spells shape bytes r → turn_in t ≡ turn mark r = λ r spells.
    turned
    ∙ (λ i. go (marked i) false changes)
    ∙ (λ i. go (mark_after mark (spells.shaped i) (gathered r spells i)) false (gathered r spells i))
    ∙ items_turned mark r (λ answered. (let a = answer_shape r answered in items a.0 (spells.shaped ∙ a.1))) (coming.can r spells)
    in
    let r = coming.reply in
    let same : turn_in t ≡ turn mark r = turns r coming.spells in
    record {
      turn = turns;
      stands = record {
        lawful = subst IsMark (sym (ap (λ (x : Turn). x.mark) same)) (lawful mark r is (coming.can r coming.spells));
        wished = subst (IsWished t.mark) (sym (ap (λ (x : Turn). x.wish) turned)) tt;
      };
    }

-- ---- the cursor behind changes

pub cursor_last : (cursor : Cursor) (cs : List Change) (d : Change) → 0 < length cs → cursor_after cursor cs ≡ After (get_or cs (length cs - 1) d).source (get_or cs (length cs - 1) d).key
cursor_last cursor [] d some = absurd (omega arith)
cursor_last cursor (c ∷ []) d some = refl
cursor_last cursor (c ∷ e ∷ es) d some =
    let next : length (c ∷ e ∷ es) - 1 ≡ suc (length (e ∷ es) - 1) = omega arith in
    cursor_last (After c.source c.key) (e ∷ es) d (omega arith) ∙ ap (λ n. After (get_or (c ∷ e ∷ es) n d).source (get_or (c ∷ e ∷ es) n d).key) (sym next)
