-- What is sent to who asks is lawful, true of the source, and read as the one reply that is defined.
use Rattle.std.proofs.Common.{◌≡◌, ℕ, ◌+◌, ◌-◌, ◌<◌, ◌≤◌, ◌^◌, inl, inr, Bool, true, false, cond, ◌==◌, ◌||◌, nat_lt, nat_le, List, [], ◌∷◌, length, length-append, refl, sym, ap, subst, ◌∙◌, arith}
use Rattle.std.specs.Prelude.{OnOk, Result, Ok, Err}
use Rattle.std.proofs.lemmas.Bool.{cond_both}
use Rattle.bus_types.specs.declared.fault.NoMemory.{NoMemory}
use Rattle.event_codec.specs.Reply.{reply_bytes}
use Rattle.bus_types.specs.declared.change.Change.{Change}
use Rattle.bus_types.specs.declared.limits.TheConstants.{MAX_SCN}
use Rattle.bus_types.specs.Change.{change_size}
use Rattle.bus_types.specs.Window.{Span}
use Rattle.bus_types.specs.Timeline.{total_size, end_from, windows_between}
use Rattle.bus_types.specs.Rows.{rest_of}
use Rattle.bus_types.specs.Latest.{last_changes, changes_after}
use Rattle.bus_types.specs.View.{view}
use Rattle.bus_types.specs.Cut.{cuts}
use Rattle.bus_types.specs.Relay.{Served, Relay, StandsFor, answer_of, is_place, fitting, stream}
use Rattle.bus_types.specs.Relay.Served.{NotFound as NoWindow, Empty as NothingNew, TooSmall as TooLarge, Windows as SomeWindows}
use Rattle.bus_types.proofs.Floors.{floor_is, stands_answers}
use Rattle.partition_filter.specs.Selection.{Selection, test_of}
use Rattle.event_codec.specs.declared.answer.Answer.TheVariants.{NotFound, Empty, TooSmall, Behind, LogGone, StartDelta, StartSnapshot, Target as GoTo}
use Rattle.event_codec.specs.declared.reply.Shape.{Shape}
use Rattle.event_codec.specs.Bytes.{window_bytes, changes_bytes}
use Rattle.event_codec.specs.Chunks.{items_within, frame_size, chunk_of, puts_of}
use Rattle.event_codec.specs.Forms.{bytes_of, shape_of}
use Rattle.event_codec.specs.Frames.{closing_bytes}
use Rattle.event_codec.specs.Frames.Run.{Rows as OfRows, Changes as OfChanges}
use Rattle.event_codec.specs.Questions.{Question, Reply}
use Rattle.event_codec.specs.Questions.Question.{Stream, Start, Scan, Target, Catchup, Delta}
use Rattle.event_codec.specs.Questions.Reply.{Windows, Rows, Changes, Only}
use Rattle.event_codec.specs.ReplyViews.{Spells}
use Rattle.event_codec.specs.Streams.{windows_bytes}
use Rattle.event_codec.proofs.Begun.{changes_length}
use Rattle.event_codec.proofs.WindowBytes.{window_length}
use Rattle.bus_wire.specs.declared.ask.Ask.{Ask}
use Rattle.bus_wire.specs.Asks.{ask_of, question_of, test_in, IsAsk, AsksBootstrap}
use Rattle.bus_wire.specs.Booted.{IsLimited, ReplaysNothing}
use Rattle.bus_wire.specs.Lawful.{IsLawful, after_floor}
use Rattle.bus_wire.specs.Served.{Serves}
use Rattle.bus_wire.specs.True.{Boot, IsBoot, reply_of, replay_of, boot_reply, IsTrueOf}
use Rattle.bus_wire.proofs.Booting.{boots_lawfully}
use Rattle.event_codec.proofs.Streams.{come_spans}
use Rattle.bus_wire.proofs.Reading.{one_reply}
use Rattle.bus_wire.proofs.Replies.{place_is_window, relay_serves}
use Rattle.bus_wire.proofs.Uniqueness.{one_shape}
use Rattle.checkpoint.specs.declared.mark.Mark.{Mark}
use Rattle.checkpoint.specs.declared.mark.Mark.TheVariants as marks
use Rattle.checkpoint.specs.Mark.{IsMark, floor_of}
use Rattle.client_switch.specs.Moves.{Wish, question, turn}
use Rattle.client_switch.specs.Moves.Wish.{NoWish, StartWish, FreshWish}
use Rattle.trace_script.specs.Printed.{reply_line}
use Rattle.history_core.specs.Script.{reply_size, reply_text}
use Rattle.consumer_lines.specs.Shown.{stage_of}
use Rattle.history_core.specs.Steps.{replied}
use Rattle.client_switch.specs.Client.{IsAskOf, asks}
use Rattle.history_core.specs.Bus.{MemberState, IsHeaded, IsMember}
use Rattle.history_core.specs.Acting.{IsSent}
use Rattle.history_core.specs.Polling.{answered, Comes}

-- ---- sizes and lines

-- the bytes of windows are as many as the windows say
windows_length : (ws : List Span) → length (windows_bytes ws) ≡ total_size ws
windows_length [] = refl
windows_length (w ∷ ws) = omega (arith, length-append (window_bytes w) (windows_bytes ws), window_length w, windows_length ws)

reply_length : (r : Reply) → length (bytes_of r) ≡ reply_size r
reply_length (Windows ws) = windows_length ws
reply_length (Rows cs scn more) = omega (arith, length-append (changes_bytes scn cs) (closing_bytes (record { run = OfRows; scn = scn; more = more })), changes_length scn cs)
reply_length (Changes cs scn more) = omega (arith, length-append (changes_bytes scn cs) (closing_bytes (record { run = OfChanges; scn = scn; more = more })), changes_length scn cs)
reply_length (Only answer) = refl

-- what is printed by the shape of a reply is what is defined for the reply
pub printed : (mark : Mark) (shape : Shape) (bytes : List ℕ) (reply : Reply) → Spells shape bytes reply → reply_line (stage_of mark) shape (length bytes) ≡ reply_text mark reply
printed mark shape bytes reply is =
    let size : length bytes ≡ reply_size reply = ap length is.spelled ∙ reply_length reply in
    (λ i. reply_line (stage_of mark) (is.shaped i) (size i))

-- ---- what a relay serves

served_sent : (scn most : ℕ) (filter : Selection) (served : Served) → Serves scn filter most served → IsSent (ask_of filter (Stream scn most)) (bytes_of (reply_of served)) (reply_of served)
served_sent scn most filter (NoWindow n) is = record { lawful = (refl, is); spells = record { formed = is.within; spelled = refl; shaped = refl } }
served_sent scn most filter (NothingNew n) is = record { lawful = (refl, is); spells = record { formed = is.within; spelled = refl; shaped = refl } }
served_sent scn most filter (TooLarge n) is = record { lawful = (refl, is); spells = record { formed = is.within; spelled = refl; shaped = refl } }
served_sent scn most filter (SomeWindows vs) is = record {
  lawful = record { windows = vs; spelled = refl; run = is; counted = refl; ends = refl };
  spells = record { formed = come_spans (after_floor scn) vs is.asked.come; spelled = refl; shaped = refl };
}

-- ---- asks

floor_low : (mark : Mark) → IsMark mark → floor_of mark ≤ MAX_SCN
floor_low (marks.Online scn) is = is
floor_low (marks.Delta since target cursor) is = omega (arith, is.0, is.1)
floor_low (marks.Snapshot since start top cursor) is = is.1
floor_low (marks.Scanned since start top) is = is.1
floor_low (marks.Catchup since start target at) is = omega (arith, is.2, is.3)

pub asks_well : (mark : Mark) (wish : Wish) (filter : Selection) (most : ℕ) → IsMark mark → IsAsk (ask_of filter (question mark wish most))
asks_well (marks.Online scn) NoWish filter most is = is
asks_well (marks.Delta since target cursor) NoWish filter most is = (is.0, is.1)
asks_well (marks.Snapshot since start top cursor) NoWish filter most is = omega (arith, is.0, is.2)
asks_well (marks.Scanned since start top) NoWish filter most is = (omega (arith, is.0), omega (arith, is.1, is.2))
asks_well (marks.Catchup since start target at) NoWish filter most is = (is.1, is.3)
asks_well mark StartWish filter most is = floor_low mark is
asks_well mark FreshWish filter most is = floor_low mark is

limited : (filter : Selection) (mark : Mark) (wish : Wish) (most : ℕ) → most < 2 ^ 32 → IsLimited (ask_of filter (question mark wish most))
limited filter (marks.Online scn) NoWish most low = low
limited filter (marks.Delta since target cursor) NoWish most low = low
limited filter (marks.Snapshot since start top cursor) NoWish most low = low
limited filter (marks.Scanned since start top) NoWish most low = tt
limited filter (marks.Catchup since start target at) NoWish most low = low
limited filter mark StartWish most low = tt
limited filter mark FreshWish most low = tt

-- a replay of a consumer has a window
not_idle : (ws : List Span) (high : ℕ) (filter : Selection) (mark : Mark) (wish : Wish) (most : ℕ) (reply : Reply) → IsMark mark → IsHeaded ws mark → ReplaysNothing ws high (ask_of filter (question mark wish most)) reply → ⊥
not_idle ws high filter (marks.Online scn) NoWish most reply is headed idle = idle
not_idle ws high filter (marks.Delta since target cursor) NoWish most reply is headed idle = idle
not_idle ws high filter (marks.Snapshot since start top cursor) NoWish most reply is headed idle = idle
not_idle ws high filter (marks.Scanned since start top) NoWish most reply is headed idle = idle
not_idle ws high filter (marks.Catchup since start target at) NoWish most reply is headed idle = omega (arith, place_is_window at target ws headed is.1, ap length idle.0)
not_idle ws high filter mark StartWish most reply is headed idle = idle
not_idle ws high filter mark FreshWish most reply is headed idle = idle

-- ---- the reply to who asks a relay that stands for a timeline, or its bootstrap

abbrev pub expected : List Span → Relay → Boot → Selection → Question → Reply
expected ws r boot filter q = replied ws r.floor r.tail boot (test_of filter) q

pub answered_so : (ws : List Span) (r : Relay) (boot : Boot) (filter : Selection) (q : Question) → answered ws r boot (ask_of filter q) ≡ expected ws r boot filter q
answered_so ws r boot filter (Stream scn most) = refl
answered_so ws r boot filter (Start since false) = refl
answered_so ws r boot filter (Start since true) = refl
answered_so ws r boot filter (Scan start cursor most) = refl
answered_so ws r boot filter (Target start least) = refl
answered_so ws r boot filter (Catchup at target most) = refl
answered_so ws r boot filter (Delta since target cursor most) = refl

-- a place of the timeline is where a target goes
abbrev Goes : List Span → Reply → Type 0
Goes ws (Windows vs) = Unit {0}
Goes ws (Rows cs scn more) = Unit {0}
Goes ws (Changes cs scn more) = Unit {0}
Goes ws (Only (NotFound n)) = Unit {0}
Goes ws (Only (Empty n)) = Unit {0}
Goes ws (Only (TooSmall n)) = Unit {0}
Goes ws (Only (Behind n)) = Unit {0}
Goes ws (Only (LogGone n)) = Unit {0}
Goes ws (Only (StartDelta n)) = Unit {0}
Goes ws (Only (StartSnapshot n)) = Unit {0}
Goes ws (Only (GoTo t)) = is_place t ws ≡ true

either : {A : Type 0} (P : A → Type 0) (b : Bool) (x y : A) → P x → P y → P (cond b x y)
either P b x y p q = cond_both b x y P (λ _. p) (λ _. q)

served_goes : (ws : List Span) (served : Served) → Goes ws (reply_of served)
served_goes ws (NoWindow n) = tt
served_goes ws (NothingNew n) = tt
served_goes ws (TooLarge n) = tt
served_goes ws (SomeWindows vs) = tt

replay_goes : (ws : List Span) (high most : ℕ) (left : List Span) → Goes ws (replay_of high most left)
replay_goes ws high most [] = tt
replay_goes ws high most (w ∷ left) = served_goes ws (fitting most (w ∷ left))

chunk_goes : (ws : List Span) (make : List Change → Bool → Reply) (most : ℕ) (cs : List Change) → ((run : List Change) (more : Bool) → Goes ws (make run more)) → Goes ws (chunk_of make most cs)
chunk_goes ws make most [] made = either (Goes ws) (nat_lt most frame_size) (Only (TooSmall frame_size)) (make [] false) tt (made [] false)
chunk_goes ws make most (c ∷ cs) made =
    let run : List Change = items_within (most - frame_size) (c ∷ cs) in
    either (Goes ws) (nat_lt most (change_size c + frame_size)) (Only (TooSmall (change_size c + frame_size))) (make run (nat_lt (length run) (length (c ∷ cs)))) tt (made run (nat_lt (length run) (length (c ∷ cs))))

-- where a turn leads, a replay goes to a place
windows_headed : (ws : List Span) (mark : Mark) (vs : List Span) → IsHeaded ws mark → IsHeaded ws (turn mark (Windows vs)).mark
windows_headed ws (marks.Online scn) vs h = tt
windows_headed ws (marks.Delta since target cursor) vs h = tt
windows_headed ws (marks.Snapshot since start top cursor) vs h = tt
windows_headed ws (marks.Scanned since start top) vs h = tt
windows_headed ws (marks.Catchup since start target at) vs h = either (IsHeaded ws) (end_from at vs == target) (marks.Online target) (marks.Catchup since start target (end_from at vs)) tt h

rows_headed : (ws : List Span) (mark : Mark) (cs : List Change) (scn : ℕ) (more : Bool) → IsHeaded ws mark → IsHeaded ws (turn mark (Rows cs scn more)).mark
rows_headed ws (marks.Online s) cs scn more h = tt
rows_headed ws (marks.Delta since target cursor) cs scn more h = tt
rows_headed ws (marks.Snapshot since start top cursor) cs scn true h = tt
rows_headed ws (marks.Snapshot since start top cursor) cs scn false h = tt
rows_headed ws (marks.Scanned since start top) cs scn more h = tt
rows_headed ws (marks.Catchup since start target at) cs scn more h = h

changes_headed : (ws : List Span) (mark : Mark) (cs : List Change) (scn : ℕ) (more : Bool) → IsHeaded ws mark → IsHeaded ws (turn mark (Changes cs scn more)).mark
changes_headed ws (marks.Online s) cs scn more h = tt
changes_headed ws (marks.Delta since target cursor) cs scn true h = tt
changes_headed ws (marks.Delta since target cursor) cs scn false h = tt
changes_headed ws (marks.Snapshot since start top cursor) cs scn more h = tt
changes_headed ws (marks.Scanned since start top) cs scn more h = tt
changes_headed ws (marks.Catchup since start target at) cs scn more h = h

target_headed : (ws : List Span) (mark : Mark) (t : ℕ) → IsHeaded ws mark → is_place t ws ≡ true → IsHeaded ws (turn mark (Only (GoTo t))).mark
target_headed ws (marks.Online s) t h place = tt
target_headed ws (marks.Delta since target cursor) t h place = tt
target_headed ws (marks.Snapshot since start top cursor) t h place = tt
target_headed ws (marks.Scanned since start top) t h place = either (IsHeaded ws) (t == start) (marks.Online t) (marks.Catchup since start t start) tt place
target_headed ws (marks.Catchup since start target at) t h place = h

pub turn_headed : (ws : List Span) (mark : Mark) (reply : Reply) → IsHeaded ws mark → Goes ws reply → IsHeaded ws (turn mark reply).mark
turn_headed ws mark (Windows vs) h goes = windows_headed ws mark vs h
turn_headed ws mark (Rows cs scn more) h goes = rows_headed ws mark cs scn more h
turn_headed ws mark (Changes cs scn more) h goes = changes_headed ws mark cs scn more h
turn_headed ws mark (Only (NotFound n)) h goes = h
turn_headed ws mark (Only (Empty n)) h goes = h
turn_headed ws mark (Only (TooSmall n)) h goes = h
turn_headed ws mark (Only (Behind n)) h goes = h
turn_headed ws mark (Only (LogGone n)) h goes = h
turn_headed ws mark (Only (StartDelta n)) h goes = tt
turn_headed ws mark (Only (StartSnapshot n)) h goes = tt
turn_headed ws mark (Only (GoTo t)) h goes = target_headed ws mark t h goes

module _ (ws : List Span) (r : Relay) (boot : Boot) (filter : Selection) (stands : StandsFor ws r) (booted : IsBoot ws boot) where
  abbrev defined : Question → Reply
  defined q = expected ws r boot filter q

  stream_sent : (scn most : ℕ) → IsSent (ask_of filter (Stream scn most)) (bytes_of (defined (Stream scn most))) (defined (Stream scn most))
  stream_sent scn most =
      served_sent scn most filter (stream ws r.floor r.tail scn (test_of filter) most)
      (subst (Serves scn filter most) (stands_answers ws r scn (test_of filter) most stands) (relay_serves ws r scn filter most stands))

  boot_sent : (ask : Ask) → IsAsk ask → IsLimited ask → AsksBootstrap ask → (let reply = boot_reply ws (test_in ask) boot (question_of ask) in (ReplaysNothing ws boot.high ask reply → ⊥) → IsSent ask (bytes_of reply) reply)
  boot_sent ask well low mine busy =
      elim (boots_lawfully ws boot ask stands.timeline booted well low mine) [
        | inl lawful ↦ record { lawful = lawful.lawful; spells = record { formed = lawful.formed; spelled = refl; shaped = refl } }
        | inr idle ↦ absurd (busy idle)
      ]

  sent_to : (q : Question) → IsAsk (ask_of filter q) → IsLimited (ask_of filter q) → (ReplaysNothing ws boot.high (ask_of filter q) (defined q) → ⊥) → IsSent (ask_of filter q) (bytes_of (defined q)) (defined q)
  sent_to (Stream scn most) well low busy = stream_sent scn most
  sent_to (Start since false) well low busy = boot_sent (ask_of filter (Start since false)) well low tt busy
  sent_to (Start since true) well low busy = boot_sent (ask_of filter (Start since true)) well low tt busy
  sent_to (Scan start cursor most) well low busy = boot_sent (ask_of filter (Scan start cursor most)) well low tt busy
  sent_to (Target start least) well low busy = boot_sent (ask_of filter (Target start least)) well low tt busy
  sent_to (Catchup at target most) well low busy = boot_sent (ask_of filter (Catchup at target most)) well low tt busy
  sent_to (Delta since target cursor most) well low busy = boot_sent (ask_of filter (Delta since target cursor most)) well low tt busy

  -- the bytes of the reply that is defined are a lawful reply
  pub sent : (mark : Mark) (wish : Wish) (most : ℕ) → IsMark mark → IsHeaded ws mark → most < 2 ^ 32 → (let q = question mark wish most in IsSent (ask_of filter q) (bytes_of (defined q)) (defined q))
  sent mark wish most is headed low =
      let q = question mark wish most in
      sent_to q (asks_well mark wish filter most is) (limited filter mark wish most low) (not_idle ws boot.high filter mark wish most (defined q) is headed)

  -- it is true of the timeline
  pub expected_is_true : (q : Question) → IsTrueOf ws (test_of filter) q (defined q)
  expected_is_true (Stream scn most) = record {
    floor = r.floor;
    end = r.tail;
    floor_place = subst (λ n. is_place n ws ≡ true) (sym stands.floor) (floor_is r.room ws r.tail stands.timeline stands.tail).place;
    end_place = stands.tail;
    is = refl;
  }
  expected_is_true (Start since fresh) = record { boot = boot; lawful = booted; is = refl }
  expected_is_true (Scan start cursor most) = record { boot = boot; lawful = booted; is = refl }
  expected_is_true (Target start least) = record { boot = boot; lawful = booted; is = refl }
  expected_is_true (Catchup at target most) = record { boot = boot; lawful = booted; is = refl }
  expected_is_true (Delta since target cursor most) = record { boot = boot; lawful = booted; is = refl }

  -- where it sets a target, that is a place
  pub expected_goes : (q : Question) → Goes ws (defined q)
  expected_goes (Stream scn most) = served_goes ws (stream ws r.floor r.tail scn (test_of filter) most)
  expected_goes (Start since false) =
      either (Goes ws) (nat_le boot.high since) (Only (Behind boot.high)) (cond (nat_le boot.base since) (Only (StartDelta boot.high)) (Only (StartSnapshot boot.applied))) tt
      (either (Goes ws) (nat_le boot.base since) (Only (StartDelta boot.high)) (Only (StartSnapshot boot.applied)) tt tt)
  expected_goes (Start since true) = either (Goes ws) (nat_lt boot.high since) (Only (Behind boot.high)) (Only (StartSnapshot boot.applied)) tt tt
  expected_goes (Scan start cursor most) =
      let chunk : Reply = chunk_of (λ cs more. Rows cs boot.applied more) most (puts_of (rest_of cursor (view (test_of filter) ws boot.applied))) in
      either (Goes ws) (nat_lt start boot.base) (Only (LogGone boot.base)) (cond (nat_lt boot.applied start) (Only (Behind boot.applied)) chunk) tt
      (either (Goes ws) (nat_lt boot.applied start) (Only (Behind boot.applied)) chunk tt (chunk_goes ws (λ cs more. Rows cs boot.applied more) most (puts_of (rest_of cursor (view (test_of filter) ws boot.applied))) (λ run more. tt)))
  expected_goes (Target start least) =
      let behind : Bool = nat_lt boot.high start || nat_lt boot.high least in
      either (Goes ws) (nat_lt start boot.base) (Only (LogGone boot.base)) (cond behind (Only (Behind boot.high)) (Only (GoTo boot.high))) tt
      (either (Goes ws) behind (Only (Behind boot.high)) (Only (GoTo boot.high)) tt booted.high_place)
  expected_goes (Catchup at target most) =
      let replay : Reply = replay_of boot.high most (cuts (test_of filter) (windows_between at target ws)) in
      either (Goes ws) (nat_lt at boot.base) (Only (LogGone boot.base)) (cond (nat_lt boot.high target) (Only (Behind boot.high)) replay) tt
      (either (Goes ws) (nat_lt boot.high target) (Only (Behind boot.high)) replay tt (replay_goes ws boot.high most (cuts (test_of filter) (windows_between at target ws))))
  expected_goes (Delta since target cursor most) =
      let chunk : Reply = chunk_of (λ cs more. Changes cs target more) most (changes_after cursor (last_changes ws (test_of filter) since target)) in
      either (Goes ws) (nat_lt since boot.base) (Only (LogGone boot.base)) (cond (nat_lt boot.high target) (Only (Behind boot.high)) chunk) tt
      (either (Goes ws) (nat_lt boot.high target) (Only (Behind boot.high)) chunk tt (chunk_goes ws (λ cs more. Changes cs target more) most (changes_after cursor (last_changes ws (test_of filter) since target)) (λ run more. tt)))

-- what was sent is read as the one reply
pub only_reply : (ask : Ask) (bytes : List ℕ) (defined : Reply) (shape : Shape) (reply : Reply) → IsSent ask bytes defined → IsLawful ask bytes shape → Spells shape bytes reply → reply ≡ defined
only_reply ask bytes defined shape reply sent lawful spells =
    let same : shape ≡ shape_of defined = one_shape ask bytes shape (shape_of defined) lawful sent.lawful in
    one_reply (shape_of defined) bytes reply defined (subst (λ (s : Shape). Spells s bytes reply) same spells) sent.spells

-- ---- what comes to a consumer that polls

served_bytes : (served : Served) → reply_bytes served ≡ bytes_of (reply_of served)
served_bytes (NoWindow n) = refl
served_bytes (NothingNew n) = refl
served_bytes (TooLarge n) = refl
served_bytes (SomeWindows ws) = refl

-- the bytes that a relay sends are those of the reply that is defined
pub streamed_so : (r : Relay) (boot : Boot) (ask : Ask) (scn : ℕ) (filter : Selection) (most : ℕ) (result : Result Unit NoMemory) (bytes : List ℕ) → ask ≡ ask_of filter (Stream scn most)
    → OnOk result (bytes ≡ reply_bytes (answer_of r scn (test_of filter) most)) → (B : List Span → Type 0) → OnOk result ((ws : List Span) → StandsFor ws r → B ws → bytes ≡ bytes_of (answered ws r boot ask))
streamed_so r boot ask scn filter most (Ok done) bytes is all B = λ ws stands booted.
    all ∙ served_bytes (answer_of r scn (test_of filter) most) ∙ ap (λ (s : Served). bytes_of (reply_of s)) (stands_answers ws r scn (test_of filter) most stands) ∙ ap (λ (a : Ask). bytes_of (answered ws r boot a)) (sym is)
streamed_so r boot ask scn filter most (Err fault) bytes is all B = tt

pub comes_so : (ws : List Span) (r : Relay) (boot : Boot) (most : ℕ) (old : MemberState) (ask : Ask) (bytes : List ℕ) → StandsFor ws r → IsBoot ws boot → IsMember ws old → IsMark old.client.mark → IsAskOf old.client.filter (asks old.client most) ask
    → bytes ≡ bytes_of (answered ws r boot ask) → most < 2 ^ 32 → Comes ws r boot most old ask bytes
comes_so ws r boot most old ask bytes stands booted member is asked spelled low =
    let filter = old.client.filter in
    let q = asks old.client most in
    let same : bytes ≡ bytes_of (expected ws r boot filter q) = spelled ∙ ap (λ (a : Ask). bytes_of (answered ws r boot a)) asked ∙ ap bytes_of (answered_so ws r boot filter q) in
    let sent_so = sent ws r boot filter stands booted old.client.mark old.client.wish most is member.headed low in
    record {
      stands = stands;
      lawful = booted;
      member = member;
      asked = asked;
      sent = subst (λ (a : Ask). IsSent a bytes (expected ws r boot filter q)) (sym asked) (subst (λ (b : List ℕ). IsSent (ask_of filter q) b (expected ws r boot filter q)) (sym same) sent_so);
    }
