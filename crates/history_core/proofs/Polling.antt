-- What a consumer is after a reply that it took, and after a commit that met a stop.
use Rattle.std.proofs.Common.{◌≡◌, ℕ, inl, inr, Bool, true, false, List, [], ◌∷◌, ◌++◌, length, Vec, Option, Some, None, Result, Ok, Err, IfOk, OnOk, true≢false, refl, sym, ap, subst, ◌∙◌, arith}
use Rattle.std.specs.Prelude.{◌↔◌, if◌then◌else◌, IfSome, IsErrOf}
use Rattle.std.specs.Global.{Global}
use Rattle.std.proofs.lemmas.Option.{same_Some}
use Rattle.bus_types.specs.declared.fault.NoMemory.{NoMemory as OutOfMemory}
use Rattle.bus_types.specs.Causes.{Rose}
use Rattle.bus_types.specs.Change.{Test}
use Rattle.bus_types.specs.Window.{Span}
use Rattle.bus_types.specs.Timeline.{IsTimeline}
use Rattle.bus_types.specs.Table.{RowList}
use Rattle.bus_types.specs.Relay.{Relay, StandsFor}
use Rattle.partition_filter.specs.Selection.{Selection, test_of}
use Rattle.event_codec.specs.declared.reply.Shape.{Shape}
use Rattle.event_codec.specs.Forms.{shape_of}
use Rattle.checkpoint.specs.declared.mark.Mark.{Mark}
use Rattle.checkpoint.specs.Mark.{IsMark, mark_text}
use Rattle.bus_wire.specs.declared.ask.Ask.{Ask}
use Rattle.bus_wire.specs.Lawful.{IsLawful}
use Rattle.bus_stores.specs.declared.keeper.Stop.{Stop}
use Rattle.bus_stores.specs.declared.keeper.Stop.TheVariants.{Before, After}
use Rattle.bus_stores.specs.Keeper.{Content, Stops, Move, SameStore, Meets, content_after, stops_after}
use Rattle.bus_stores.specs.Memory.{MemoryStore, last_mark, no_fails, told_by}
use Rattle.client_switch.specs.declared.client.Took.{Took}
use Rattle.client_switch.specs.declared.fault.TakeFault.{TakeFault}
use Rattle.client_switch.specs.declared.fault.TakeFault.TheVariants.{Halted, BadReply, Refused, StoreFault, NoMemory}
use Rattle.event_codec.specs.Questions.{Reply}
use Rattle.client_switch.specs.Moves.{Wish, Turn, IsWished, turn}
use Rattle.client_switch.specs.Good.{Good}
use Rattle.client_switch.specs.Client.{Held, IsStored, Keeps, IsAskOf, asks, IsReply, move_of_turn, Made, Unmade, TakesIt, RefusesReply, Halts, Takes, CountsKept, OnRefused, HasRefusal, HoldsGood, KeepsGood, AreTrueOf}
use Rattle.bus_wire.specs.True.{Boot, IsTrueOf}
use Rattle.client_switch.specs.Turning.{CanCome}
use Rattle.client_switch.proofs.Coming.{can_come}
use Rattle.client_switch.proofs.GoodTurn.{good_turn}
use Rattle.client_switch.proofs.Turns.{stays, lawful}
use Rattle.trace_script.specs.Printed.{reply_line}
use Rattle.history_core.specs.Script.{Follower, reply_text, stopped_line}
use Rattle.consumer_lines.specs.Shown.{stage_of}
use Rattle.history_core.specs.Steps.{committed, after_reply}
use Rattle.bus_stores.specs.MemoryLog.{MemoryWindows}
use Rattle.bootstrap_core.specs.Boot.{BootParts}
use Rattle.history_core.specs.Bus.{MemberState, follower, boot_numbers, IsBooted, IsHeaded, IsMember}
use Rattle.history_core.specs.Acting.{IsReopened, Polls, replied_to}
use Rattle.history_core.specs.Polling.{Comes}
use Rattle.history_core.proofs.Booted.{none_listed}
use Rattle.history_core.proofs.Members.{one_stored}
use Rattle.history_core.proofs.Replying.{printed, only_reply, expected_is_true, expected_goes, turn_headed}

-- ---- keepers in memory

-- the content and the stops that it tells
abbrev content_of : MemoryStore → Content
content_of s = record { rows = s.rows; mark = last_mark s.marks }

abbrev stops_of : MemoryStore → Stops
stops_of s = record { marks = s.marks; armed = s.armed; sound = no_fails s.fails }

still_sound : (old new : MemoryStore) → no_fails new.fails ≡ no_fails old.fails → old.fails ≡ [] → new.fails ≡ []
still_sound old new same sound = none_listed new.fails (same ∙ ap no_fails sound)

held : (stop : Option Stop) (m : Move) (old new : MemoryStore) → Meets stop m (told_by old) (told_by new) → content_of new ≡ content_after stop m (content_of old)
held stop m old new meets = sym (same_Some (content_after stop m (content_of old)) (content_of new) meets.content)

met : (stop : Option Stop) (m : Move) (old new : MemoryStore) → Meets stop m (told_by old) (told_by new) → stops_of new ≡ stops_after stop m (stops_of old)
met stop m old new meets = same_Some (stops_of new) (stops_after stop m (stops_of old)) meets.stops

same : (old new : MemoryStore) → SameStore (told_by old) (told_by new) → stops_of new ≡ stops_of old
same old new is = same_Some (stops_of new) (stops_of old) is.stops

-- at a keeper that fails at no call a commit meets the stop that was armed
armed_is : (stop : Option Stop) (m : Move) (old new : MemoryStore) → old.fails ≡ [] → Meets stop m (told_by old) (told_by new) → old.armed ≡ stop
armed_is stop m old new sound meets = meets.sound (ap no_fails sound)

-- whether calls fail stays as it is
sound_after : (stop : Option Stop) (m : Move) (s : Stops) → (stops_after stop m s).sound ≡ s.sound
sound_after None m s = refl
sound_after (Some Before) m s = refl
sound_after (Some After) m s = refl

met_sound : (stop : Option Stop) (m : Move) (old new : MemoryStore) → old.fails ≡ [] → Meets stop m (told_by old) (told_by new) → new.fails ≡ []
met_sound stop m old new sound meets = still_sound old new (ap (λ (s : Stops). s.sound) (met stop m old new meets) ∙ sound_after stop m (stops_of old)) sound

made_sound : (b : Bool) (t : Turn) (old new : MemoryStore) → old.fails ≡ [] → Made (if b then Some (move_of_turn t) else None) (told_by old) (told_by new) → new.fails ≡ []
made_sound true t old new sound made = met_sound None (move_of_turn t) old new sound made
made_sound false t old new sound made = still_sound old new (ap (λ (s : Stops). s.sound) (same old new made)) sound

unmade_sound : (b : Bool) (t : Turn) (old new : MemoryStore) → old.fails ≡ [] → Unmade (if b then Some (move_of_turn t) else None) (told_by old) (told_by new) → new.fails ≡ []
unmade_sound true t old new sound (inl meets) = met_sound (Some Before) (move_of_turn t) old new sound meets
unmade_sound true t old new sound (inr meets) = met_sound (Some After) (move_of_turn t) old new sound meets
unmade_sound false t old new sound unmade = absurd unmade

-- ---- marks

pub stored_is_mark : (text : Option (List ℕ)) (mark : Mark) → IsStored text mark → IsMark mark
stored_is_mark None mark is = subst IsMark (sym is) (omega arith)
stored_is_mark (Some text) mark is = is.0

-- the mark that is stored is the client's
good_at : (ws : List Span) (test : Test) (store : MemoryStore) (mark : Mark) → KeepsGood ws test (told_by store) → IsStored (last_mark store.marks) mark → Good ws test mark store.rows
good_at ws test store mark good stored = subst (λ (m : Mark). Good ws test m store.rows) (one_stored (last_mark store.marks) good.0 mark good.1 stored) good.2

-- ---- what a script says

-- a reply was taken, and its commit made, where there is one
took_turn : (b : Bool) (t : Turn) (old : MemberState) (client : Held) (store : MemoryStore) (text line : List ℕ) → (b ≡ false → t.mark ≡ old.client.mark) → old.store.fails ≡ [] → Made (if b then Some (move_of_turn t) else None) (told_by old.store) (told_by store)
    → client ≡ record old.client { mark = t.mark; wish = t.wish } → text ≡ line → (follower (record old { client = client; store = store }), text) ≡ (if b then committed old.store.armed (follower old) t line else (record (follower old) { wish = t.wish }, line))
took_turn true t old client store text line still sound made is printed =
    let stops = met None (move_of_turn t) old.store store made in
    (λ i. (record (follower old) { filter = (is i).filter; mark = (is i).mark; wish = (is i).wish; armed = (stops i).armed; marks = (stops i).marks }, printed i))
    ∙ ap (λ (armed : Option Stop). committed armed (follower old) t line) (sym (armed_is None (move_of_turn t) old.store store sound made))
took_turn false t old client store text line still sound made is printed =
    let stops = same old.store store made in
    (λ i. (record (follower old) { filter = (is i).filter; mark = (is i).mark; wish = (is i).wish; armed = (stops i).armed; marks = (stops i).marks }, printed i))
    ∙ (λ i. (record (follower old) { mark = still refl i; wish = t.wish }, line))

-- a commit met a stop, and the client was opened again
module _ (t : Turn) (old : MemberState) (store : MemoryStore) (new : MemberState) (text line : List ℕ) (sound : old.store.fails ≡ []) (opened : IsReopened (record old { store = store }) new) (printed : IfSome old.store.armed (λ stop. text ≡ stopped_line stop)) where
  stopped_before : IsStored (last_mark old.store.marks) old.client.mark → Meets (Some Before) (move_of_turn t) (told_by old.store) (told_by store) → (follower new, text) ≡ committed old.store.armed (follower old) t line
  stopped_before stored meets =
      let armed = armed_is (Some Before) (move_of_turn t) old.store store sound meets in
      let stops = met (Some Before) (move_of_turn t) old.store store meets in
      let marks : store.marks ≡ old.store.marks = ap (λ (s : Stops). s.marks) stops in
      let mark : new.client.mark ≡ old.client.mark = one_stored (last_mark old.store.marks) new.client.mark old.client.mark (subst (λ (m : List (List ℕ)). IsStored (last_mark m) new.client.mark) marks opened.mark) stored in
      let text_is : text ≡ stopped_line Before = subst (λ (a : Option Stop). IfSome a (λ stop. text ≡ stopped_line stop)) armed printed in
      let none : new.store.armed ≡ None = opened.read.armed ∙ ap (λ (s : Stops). s.armed) stops in
      let all = opened.read.marks ∙ marks in
      (λ i. (record { name = opened.name i; filter = opened.filter i; mark = mark i; wish = opened.wish i; armed = none i; marks = all i; shows = opened.shows i }, text_is i))
      ∙ ap (λ (a : Option Stop). committed a (follower old) t line) (sym armed)

  stopped_after : IsMark t.mark → Meets (Some After) (move_of_turn t) (told_by old.store) (told_by store) → (follower new, text) ≡ committed old.store.armed (follower old) t line
  stopped_after lawful_mark meets =
      let armed = armed_is (Some After) (move_of_turn t) old.store store sound meets in
      let stops = met (Some After) (move_of_turn t) old.store store meets in
      let marks : store.marks ≡ old.store.marks ++ mark_text t.mark ∷ [] = ap (λ (s : Stops). s.marks) stops in
      let last : last_mark store.marks ≡ Some (mark_text t.mark) = ap (λ (c : Content). c.mark) (held (Some After) (move_of_turn t) old.store store meets) in
      let mark : new.client.mark ≡ t.mark = one_stored (Some (mark_text t.mark)) new.client.mark t.mark (subst (λ (o : Option (List ℕ)). IsStored o new.client.mark) last opened.mark) (lawful_mark, refl) in
      let text_is : text ≡ stopped_line After = subst (λ (a : Option Stop). IfSome a (λ stop. text ≡ stopped_line stop)) armed printed in
      let none : new.store.armed ≡ None = opened.read.armed ∙ ap (λ (s : Stops). s.armed) stops in
      let all = opened.read.marks ∙ marks in
      (λ i. (record { name = opened.name i; filter = opened.filter i; mark = mark i; wish = opened.wish i; armed = none i; marks = all i; shows = opened.shows i }, text_is i))
      ∙ ap (λ (a : Option Stop). committed a (follower old) t line) (sym armed)

  stopped_turn : (b : Bool) → IsStored (last_mark old.store.marks) old.client.mark → IsMark t.mark → Unmade (if b then Some (move_of_turn t) else None) (told_by old.store) (told_by store) → (follower new, text) ≡ (if b then committed old.store.armed (follower old) t line else (record (follower old) { wish = t.wish }, line))
  stopped_turn true stored lawful_mark (inl meets) = stopped_before stored meets
  stopped_turn true stored lawful_mark (inr meets) = stopped_after lawful_mark meets
  stopped_turn false stored lawful_mark unmade = absurd unmade

  -- the mark is the old one or the turn's
  stopped_mark : (P : Mark → Type 0) (b : Bool) → IsStored (last_mark old.store.marks) old.client.mark → IsMark t.mark → Unmade (if b then Some (move_of_turn t) else None) (told_by old.store) (told_by store) → P old.client.mark → P t.mark → P new.client.mark
  stopped_mark P true stored lawful_mark (inl meets) before after = subst P (sym (ap (λ (f : Follower × List ℕ). f.0.mark) (stopped_before stored meets) ∙ ap (λ (a : Option Stop). (committed a (follower old) t line).0.mark) (armed_is (Some Before) (move_of_turn t) old.store store sound meets))) before
  stopped_mark P true stored lawful_mark (inr meets) before after = subst P (sym (ap (λ (f : Follower × List ℕ). f.0.mark) (stopped_after lawful_mark meets) ∙ ap (λ (a : Option Stop). (committed a (follower old) t line).0.mark) (armed_is (Some After) (move_of_turn t) old.store store sound meets))) after
  stopped_mark P false stored lawful_mark unmade before after = absurd unmade

-- ---- what is known after a reply

-- the faults that come to a consumer of a bus
abbrev pub MayCome : TakeFault → Type 0
MayCome Halted = ⊥
MayCome (BadReply place) = ⊥
MayCome (Refused scn) = ⊥
MayCome StoreFault = Unit {0}
MayCome NoMemory = Unit {0}

-- of a client and its keeper, whatever was answered
pub record Exchanged (old : MemberState) (ask : Ask) (bytes : List ℕ) (client : Held) (store : MemoryStore) : Type 0 where
  pub counts : CountsKept (told_by old.store) (told_by store)
  pub keeps : Keeps (told_by old.store) old.client.mark → client.halted ≡ false → Keeps (told_by store) client.mark
  pub good : (ws : List Span) (most : ℕ) → IsTimeline ws → HoldsGood ws (test_of old.client.filter) old.client.mark (told_by old.store) → IsAskOf old.client.filter (asks old.client most) ask
      → AreTrueOf ws (test_of old.client.filter) (asks old.client most) ask bytes → KeepsGood ws (test_of old.client.filter) (told_by store)

module _ (ws : List Span) (r : Relay) (boot : Boot) (most : ℕ) (old : MemberState) (ask : Ask) (bytes : List ℕ) (comes : Comes ws r boot most old ask bytes) where
  abbrev defined : Reply
  defined = replied_to ws r boot most old

  -- a lawful reply is the one that is defined
  only : (shape : Shape) (reply : Reply) → IsLawful ask bytes shape → IsReply shape bytes reply → reply ≡ defined
  only shape reply law read = only_reply ask bytes defined shape reply comes.sent law read

  true_of : AreTrueOf ws (test_of old.client.filter) (asks old.client most) ask bytes
  true_of shape reply law read =
      subst (IsTrueOf ws (test_of old.client.filter) (asks old.client most)) (sym (only shape reply law read)) (expected_is_true ws r boot old.client.filter comes.stands comes.lawful (asks old.client most))

  mark_is : IsMark old.client.mark
  mark_is = stored_is_mark (last_mark old.store.marks) old.client.mark comes.member.stored

  -- the wish is one that comes up where the turn leads
  wished : (shape : Shape) (reply : Reply) → IsLawful ask bytes shape → IsReply shape bytes reply → (let t = turn old.client.mark reply in IsWished t.mark t.wish)
  wished shape reply law read =
      (good_turn ws (test_of old.client.filter) old.client.mark old.client.wish most old.store.rows reply comes.stands.timeline mark_is comes.member.wished comes.member.good (true_of shape reply law read)).wished

  -- and a replay goes to a place
  headed : (reply : Reply) → reply ≡ defined → IsHeaded ws (turn old.client.mark reply).mark
  headed reply same =
      subst (λ (a : Reply). IsHeaded ws (turn old.client.mark a).mark) (sym same)
      (turn_headed ws old.client.mark defined comes.member.headed (expected_goes ws r boot old.client.filter comes.stands comes.lawful (asks old.client most)))

  comes_at : (shape : Shape) (reply : Reply) → IsLawful ask bytes shape → IsReply shape bytes reply → CanCome old.client.mark reply
  comes_at shape reply law read = can_come old.client.mark old.client.wish old.client.filter most ask bytes shape reply comes.asked law read

  turn_is_lawful : (shape : Shape) (reply : Reply) → IsLawful ask bytes shape → IsReply shape bytes reply → IsMark (turn old.client.mark reply).mark
  turn_is_lawful shape reply law read = lawful old.client.mark reply mark_is (comes_at shape reply law read)

  module _ (client : Held) (store : MemoryStore) (after : Exchanged old ask bytes client store) where
    still_good : KeepsGood ws (test_of old.client.filter) (told_by store)
    still_good = after.good ws most comes.stands.timeline (comes.member.stored, comes.member.good) comes.asked true_of

    -- the reply was taken
    taken : (took : Took) (text : List ℕ) → TakesIt took old.client client ask bytes (told_by old.store) (told_by store) None None → text ≡ reply_line (stage_of old.client.mark) took.shape (length bytes) → Polls ws r boot most text old (record old { client = client; store = store })
    taken took text takes line =
        let reply = takes.reply in
        let t = turn old.client.mark reply in
        let same_reply = only took.shape reply takes.lawful takes.is in
        let runs : client.halted ≡ false = ap (λ (h : Held). h.halted) takes.client ∙ comes.member.runs in
        let stored : IsStored (last_mark store.marks) client.mark = after.keeps comes.member.stored runs in
        let filter : client.filter ≡ old.client.filter = ap (λ (h : Held). h.filter) takes.client in
        let shown = comes.member.shown in
        let calls = after.counts.calls in
        record {
          turn = sym (
              took_turn t.commits t old client store text (reply_text old.client.mark reply) (stays old.client.mark reply (comes_at took.shape reply takes.lawful takes.is)) comes.member.sound takes.made takes.client
              (line ∙ printed old.client.mark took.shape bytes reply takes.is)
              ∙ ap (after_reply (follower old)) same_reply);
          member = record {
            runs = runs;
            sound = made_sound t.commits t old.store store comes.member.sound takes.made;
            stored = stored;
            good = subst (λ (f : Selection). Good ws (test_of f) client.mark store.rows) (sym filter) (good_at ws (test_of old.client.filter) store client.mark still_good stored);
            shown = omega arith;
            wished = subst (λ (h : Held). IsWished h.mark h.wish) (sym takes.client) (wished took.shape reply takes.lawful takes.is);
            headed = subst (λ (h : Held). IsHeaded ws h.mark) (sym takes.client) (headed reply same_reply);
          };
        }

    module _ (halts : Halts old.client client ask bytes (told_by old.store) (told_by store) None None) where
      -- the client can be opened again
      stopped_sound : store.fails ≡ []
      stopped_sound = unmade_sound (turn old.client.mark halts.reply).commits (turn old.client.mark halts.reply) old.store store comes.member.sound halts.unmade

      pub stopped_stored : (mark : Mark) × IsStored (last_mark store.marks) mark
      stopped_stored = (still_good.0, still_good.1)

      -- and it was
      stopped : (new : MemberState) (text : List ℕ) → IsReopened (record old { store = store }) new → IfSome old.store.armed (λ stop. text ≡ stopped_line stop) → Polls ws r boot most text old new
      stopped new text opened line =
          let reply = halts.reply in
          let t = turn old.client.mark reply in
          let same_reply = only halts.shape reply halts.lawful halts.is in
          let mark = turn_is_lawful halts.shape reply halts.lawful halts.is in
          let good = good_at ws (test_of old.client.filter) store new.client.mark still_good opened.mark in
          let shown = comes.member.shown in
          let calls = after.counts.calls in
          record {
            turn = sym (
                stopped_turn t old store new text (reply_text old.client.mark reply) comes.member.sound opened line t.commits comes.member.stored mark halts.unmade
                ∙ ap (after_reply (follower old)) same_reply);
            member = record {
              runs = opened.runs;
              sound = opened.read.fails ∙ stopped_sound;
              stored = subst (λ (m : List (List ℕ)). IsStored (last_mark m) new.client.mark) (sym opened.read.marks) opened.mark;
              good =
                  subst (λ (f : Selection). Good ws (test_of f) new.client.mark new.store.rows) (sym opened.filter)
                  (subst (λ (rows : RowList). Good ws (test_of old.client.filter) new.client.mark rows) (sym opened.read.rows) good);
              shown = omega (arith, opened.shows, opened.read.later);
              wished = subst (λ (w : Wish). IsWished new.client.mark w) (sym opened.wish) tt;
              headed = stopped_mark t old store new text (reply_text old.client.mark reply) comes.member.sound opened line (IsHeaded ws) t.commits comes.member.stored mark halts.unmade comes.member.headed (headed reply same_reply);
            };
          }

-- ---- by the answer

-- its client runs, what comes to it is lawful, and nobody refuses it
pub no_fault : (ws : List Span) (r : Relay) (boot : Boot) (most : ℕ) (old : MemberState) (ask : Ask) (bytes : List ℕ) (client : Held) (store : MemoryStore) (result : Result Took TakeFault) (fault : TakeFault) → Comes ws r boot most old ask bytes → result ≡ Err fault
    → (IsErrOf result Halted ↔ (old.client.halted ≡ true)) → Takes result old.client client ask bytes (told_by old.store) (told_by store) None None → HasRefusal 0 0 result → MayCome fault
no_fault ws r boot most old ask bytes client store result Halted comes is halts takes refusals = true≢false (sym (halts.0 is) ∙ comes.member.runs)
no_fault ws r boot most old ask bytes client store result (BadReply place) comes is halts takes refusals =
    let refused : RefusesReply place old.client client ask bytes (told_by old.store) (told_by store) None None = subst (λ (a : Result Took TakeFault). Takes a old.client client ask bytes (told_by old.store) (told_by store) None None) is takes in
    refused.unlawful (shape_of (replied_to ws r boot most old)) comes.sent.lawful
no_fault ws r boot most old ask bytes client store result (Refused scn) comes is halts takes refusals =
    let rose : Rose 0 0 = subst (λ (a : Result Took TakeFault). OnRefused a (Rose 0 0)) is refusals.refused in
    absurd (omega (arith, rose))
no_fault ws r boot most old ask bytes client store result StoreFault comes is halts takes refusals = tt
no_fault ws r boot most old ask bytes client store result NoMemory comes is halts takes refusals = tt

-- of whatever windows, relay and ask
abbrev pub PollsAll : Result (Vec ℕ Global) OutOfMemory → MemberState → MemberState → Ask → List ℕ → Type 0
PollsAll result old new ask bytes = IfOk result (λ text. (ws : List Span) (r : Relay) (boot : Boot) (most : ℕ) → Comes ws r boot most old ask bytes → Polls ws r boot most text.items old new)

pub took_done : (old : MemberState) (ask : Ask) (bytes : List ℕ) (client : Held) (store : MemoryStore) (answer : Took) (result : Result (Vec ℕ Global) OutOfMemory) → Exchanged old ask bytes client store
    → TakesIt answer old.client client ask bytes (told_by old.store) (told_by store) None None → IfOk result (λ text. text.items ≡ reply_line (stage_of old.client.mark) answer.shape (length bytes)) → PollsAll result old (record old { client = client; store = store }) ask bytes
took_done old ask bytes client store answer (Err e) after takes line = tt
took_done old ask bytes client store answer (Ok text) after takes line = λ ws r boot most comes. taken ws r boot most old ask bytes comes client store after answer text.items takes line

-- what is opened is the same, whatever the client was
opened_same : (old : MemberState) (client : Held) (store : MemoryStore) (new : MemberState) → client.filter ≡ old.client.filter → IsReopened (record old { client = client; store = store }) new → IsReopened (record old { store = store }) new
opened_same old client store new filter opened = record {
  name = opened.name;
  filter = opened.filter ∙ filter;
  wish = opened.wish;
  runs = opened.runs;
  mark = opened.mark;
  read = opened.read;
  shows = opened.shows;
}

pub stopped_done : (old : MemberState) (ask : Ask) (bytes : List ℕ) (client : Held) (store : MemoryStore) (new : MemberState) (armed : Option Stop) (result : Result (Vec ℕ Global) OutOfMemory) → Exchanged old ask bytes client store
    → Halts old.client client ask bytes (told_by old.store) (told_by store) None None → armed ≡ old.store.armed → OnOk result (IsReopened (record old { client = client; store = store }) new) → IfOk result (λ text. IfSome armed (λ stop. text.items ≡ stopped_line stop))
    → PollsAll result old new ask bytes
stopped_done old ask bytes client store new armed (Err e) after halts same_armed opened line = tt
stopped_done old ask bytes client store new armed (Ok text) after halts same_armed opened line = λ ws r boot most comes.
    stopped ws r boot most old ask bytes comes client store after halts new text.items
    (opened_same old client store new (ap (λ (h : Held). h.filter) halts.client) opened)
    (subst (λ (a : Option Stop). IfSome a (λ stop. text.items ≡ stopped_line stop)) same_armed line)

-- of those for whom what was asked and sent comes
pub polls_so : (r : Relay) (b : BootParts MemoryWindows MemoryStore) (most : ℕ) (old new : MemberState) (ask : Ask) (bytes : List ℕ) (result : Result (Vec ℕ Global) OutOfMemory) → PollsAll result old new ask bytes
    → ((ws : List Span) → StandsFor ws r → IsBooted ws b → IsMember ws old → Comes ws r (boot_numbers b) most old ask bytes)
    → IfOk result (λ text. (ws : List Span) → StandsFor ws r → IsBooted ws b → IsMember ws old → Polls ws r (boot_numbers b) most text.items old new)
polls_so r b most old new ask bytes (Ok text) polls comes = λ ws stands booted member. polls ws r (boot_numbers b) most (comes ws stands booted member)
polls_so r b most old new ask bytes (Err e) polls comes = tt
