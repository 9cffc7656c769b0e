-- Rows and changes of a reply are read in one way: where a reading stops, each reading stops.
use Rattle.std.proofs.Common.{◌≡◌, ℕ, suc, ◌+◌, ◌<◌, ◌≤◌, inl, inr, Bool, true, false, cond, ltb, ◌&&◌, IsTrue, List, [], ◌∷◌, ◌++◌, length, get_or, Option, Some, None, refl, sym, ap, subst, ◌∙◌, append_assoc, append-nil, arith}
use Rattle.std.specs.List.{AllByRecursion}
use Rattle.std.proofs.lemmas.Bool.{and_from, lt-ltb}
use Rattle.std.proofs.lemmas.List.{length-append}
use Rattle.std.proofs.lemmas.Option.{same_Some, none-some}
use Rattle.bus_types.specs.declared.change.Change.{Change}
use Rattle.bus_types.specs.Change.{AreChanges}
use Rattle.event_codec.specs.declared.answer.Answer.{Answer}
use Rattle.event_codec.specs.declared.answer.Answer.TheVariants as answers
use Rattle.event_codec.specs.Bytes.{Event, event_bytes, changes_bytes}
use Rattle.event_codec.specs.Frames.{Run, run_kind, Closing, IsClosing, closing_bytes, answer_kind, answer_bytes}
use Rattle.event_codec.specs.Frames.Run.{Rows, Changes}
use Rattle.event_codec.specs.Forms.{run_bytes}
use Rattle.event_codec.specs.Parsing.{event_in_front, closing_in_front}
use Rattle.event_codec.specs.ReplyViews.{IsRunOf}
use Rattle.event_codec.proofs.Begun.{event, is_event}
use Rattle.event_codec.proofs.EventBytes.{event_first}
use Rattle.event_codec.proofs.Parsings.{event_back}
use Rattle.event_codec.proofs.Closings.{closing_back, no_event_at_closing}
use Rattle.bus_wire.specs.Wanted.{Wanted, run_wanted, most_items, is_wanted, wanted_behind, wanted_after, AreWanted, can_end, AreAsked, HoldsItems, ItemsRead, goes_on, ends, StandsBehindFrame, ItemsStop}
use Rattle.bus_wire.proofs.Stepping.{Leads, one_stop, here, further, after_all}

-- ---- one item after the other

-- how far the items are read: what may come next, how many came, and what is left
record At : Type 0 where
  wanted : Wanted
  count : ℕ
  part : List ℕ

-- behind the event that stands in front
step : At → Option (Event × List ℕ) → Option At
step at None = None
step at (Some x) = cond (goes_on at.wanted at.count (Some x)) (Some (record { wanted = wanted_behind at.wanted x.0.scn x.0.change; count = at.count + 1; part = x.1 })) None

next : At → Option At
next at = step at (event_in_front at.part)

abbrev point : Wanted → ℕ → List ℕ → At
point w count part = record { wanted = w; count = count; part = part }

stays_at : (w : Wanted) (count : ℕ) (part : List ℕ) (front : Option (Event × List ℕ)) → event_in_front part ≡ front → goes_on w count front ≡ false → next (point w count part) ≡ None
unfolding next step
stays_at w count part None seen none = ap (step (point w count part)) seen
stays_at w count part (Some x) seen none = ap (step (point w count part)) seen ∙ rw none refl

-- ---- what may come is read

-- an event that may come is passed
event_step : (w : Wanted) (count n : ℕ) (c : Change) (cs : List Change) (rest : List ℕ) → IsRunOf n (c ∷ cs) → IsTrue (is_wanted w n c) → count < most_items
    → next (point w count (event_bytes (event n c) ++ rest)) ≡ Some (point (wanted_behind w n c) (count + 1) rest)
unfolding next step
event_step w count n c cs rest formed is room =
    let seen = event_back (event n c) rest (is_event n c (formed.positive (omega arith)) formed.bound formed.within.0) in
    ap (step (point w count (event_bytes (event n c) ++ rest))) seen
    ∙ ap (λ b. cond b (Some (point (wanted_behind w n c) (count + 1) rest)) None) (and_from _ _ (lt-ltb count most_items room) is)

items_go : (w : Wanted) (count n : ℕ) (cs : List Change) (rest : List ℕ) → IsRunOf n cs → AreWanted w n cs → count + length cs ≤ most_items
    → Leads next (point w count (changes_bytes n cs ++ rest)) (point (wanted_after w n cs) (length cs + count) rest)
items_go w count n [] rest formed are few = here next _ _ (ap (λ k. point w k rest) (omega arith))
items_go w count n (c ∷ cs) rest formed are few =
    let behind = changes_bytes n cs ++ rest in
    let others : IsRunOf n cs = record { within = formed.within.1; positive = λ _. formed.positive (omega arith); bound = formed.bound } in
    let more = items_go (wanted_behind w n c) (count + 1) n cs rest others are.1 (omega (arith, few)) in
    let counts : length cs + (count + 1) ≡ length (c ∷ cs) + count = omega arith in
    after_all next _ (point w count (event_bytes (event n c) ++ behind)) _ (here next _ _ (ap (point w count) (append_assoc (event_bytes (event n c)) (changes_bytes n cs) rest)))
    (further next _ (point (wanted_behind w n c) (count + 1) behind) _ (event_step w count n c cs behind formed are.0 (omega (arith, few)))
    (after_all next _ (point (wanted_after w n (c ∷ cs)) (length cs + (count + 1)) rest) _ more (here next _ _ (ap (λ k. point (wanted_after w n (c ∷ cs)) k rest) counts))))

-- a reading is read
read_goes : (w : Wanted) (bytes : List ℕ) (read : ItemsRead w bytes) → Leads next (point w 0 bytes) (point (wanted_after w read.scn read.changes) (length read.changes) read.part)
read_goes w bytes read =
    after_all next (point w 0 bytes) (point w 0 (changes_bytes read.scn read.changes ++ read.part)) (point (wanted_after w read.scn read.changes) (length read.changes) read.part) (here next _ _ (ap (point w 0) read.parts))
    (after_all next _ (point (wanted_after w read.scn read.changes) (length read.changes + 0) read.part) _ (items_go w 0 read.scn read.changes read.part read.formed read.wanted (omega (arith, read.few)))
    (here next _ _ (ap (λ k. point (wanted_after w read.scn read.changes) k read.part) (omega arith))))

abbrev frame_of : (w : Wanted) → ℕ → Bool → Closing
frame_of w n more = record { run = run_wanted w; scn = n; more = more }

-- a lawful run is read up to its frame
held_read : (w : Wanted) (bytes : List ℕ) (count n : ℕ) (more : Bool) → HoldsItems w bytes count n more → ItemsRead w bytes
held_read w bytes count n more holds = record {
  scn = n;
  changes = holds.changes;
  part = closing_bytes (frame_of w n more);
  parts = holds.spelled;
  formed = holds.asked.formed;
  wanted = holds.asked.wanted;
  few = holds.asked.few;
}

-- ---- where it stops

frame_seen : (c : Closing) → IsClosing c → closing_in_front (closing_bytes c) ≡ Some (c, [])
frame_seen c is = ap closing_in_front (sym (append-nil (closing_bytes c))) ∙ closing_back c [] is

held_stays : (w : Wanted) (bytes : List ℕ) (count n : ℕ) (more : Bool) (holds : HoldsItems w bytes count n more) → next (point (wanted_after w n holds.changes) (length holds.changes) (closing_bytes (frame_of w n more))) ≡ None
held_stays w bytes count n more holds =
    let frame = frame_of w n more in
    stays_at (wanted_after w n holds.changes) (length holds.changes) (closing_bytes frame) None
    (no_event_at_closing (closing_bytes frame) (frame, []) (frame_seen frame (record { scn = holds.asked.formed.bound }))) refl

stop_stays : (w : Wanted) (bytes : List ℕ) (place : ℕ) (stop : ItemsStop w bytes place) → next (point (wanted_after w stop.read.scn stop.read.changes) (length stop.read.changes) stop.read.part) ≡ None
stop_stays w bytes place stop =
    let read = stop.read in
    let v = wanted_after w read.scn read.changes in
    elim stop.stops [
      | inl behind ↦ stays_at v (length read.changes) read.part None (no_event_at_closing read.part (behind.0.frame, behind.0.rest) behind.0.there) refl
      | inr none ↦ stays_at v (length read.changes) read.part (event_in_front read.part) refl none.0
    ]

-- two readings that stop
record SameEnd (v u : Wanted) (count amount : ℕ) (part left : List ℕ) : Type 0 where
  wanted : v ≡ u
  counted : count ≡ amount
  parts : part ≡ left

same_end : (w : Wanted) (bytes : List ℕ) (v u : Wanted) (count amount : ℕ) (part left : List ℕ) → Leads next (point w 0 bytes) (point v count part) → next (point v count part) ≡ None
    → Leads next (point w 0 bytes) (point u amount left) → next (point u amount left) ≡ None → SameEnd v u count amount part left
same_end w bytes v u count amount part left first stop second stop_too =
    let at = one_stop next (point w 0 bytes) (point v count part) (point u amount left) first stop second stop_too in
    record { wanted = ap (λ (x : At). x.wanted) at; counted = ap (λ (x : At). x.count) at; parts = ap (λ (x : At). x.part) at }

held_goes : (w : Wanted) (bytes : List ℕ) (count n : ℕ) (more : Bool) (holds : HoldsItems w bytes count n more)
    → Leads next (point w 0 bytes) (point (wanted_after w n holds.changes) (length holds.changes) (closing_bytes (frame_of w n more)))
unfolding held_read
held_goes w bytes count n more holds = read_goes w bytes (held_read w bytes count n more holds)

both : (b : Bool) → b ≡ true → b ≡ false → ⊥
both true t f = absurd cc
both false t f = absurd cc

-- the items of bytes are as many, with one frame
pub record SameItems (count n : ℕ) (more : Bool) (amount m : ℕ) (left : Bool) : Type 0 where
  pub counts : count ≡ amount
  pub scns : n ≡ m
  pub mores : more ≡ left

pub one_items : (w : Wanted) (bytes : List ℕ) (count n : ℕ) (more : Bool) (amount m : ℕ) (left : Bool) → HoldsItems w bytes count n more → HoldsItems w bytes amount m left → SameItems count n more amount m left
one_items w bytes count n more amount m left one two =
    let end = same_end w bytes _ _ _ _ _ _ (held_goes w bytes count n more one) (held_stays w bytes count n more one) (held_goes w bytes amount m left two) (held_stays w bytes amount m left two) in
    let frame = frame_of w n more in
    let other = frame_of w m left in
    let frames : (frame, []) ≡ (other, []) =
    same_Some {A = Closing × List ℕ} (frame, []) (other, []) (sym (frame_seen frame (record { scn = one.asked.formed.bound })) ∙ ap closing_in_front end.parts ∙ frame_seen other (record { scn = two.asked.formed.bound })) in
    record {
      counts = one.counted ∙ end.counted ∙ sym two.counted;
      scns = ap (λ (x : Closing × List ℕ). x.0.scn) frames;
      mores = ap (λ (x : Closing × List ℕ). x.0.more) frames;
    }

-- bytes that stop somewhere are no such reply
pub no_items_stop : (w : Wanted) (bytes : List ℕ) (count n : ℕ) (more : Bool) (place : ℕ) → HoldsItems w bytes count n more → ItemsStop w bytes place → ⊥
no_items_stop w bytes count n more place holds stop =
    let read = stop.read in
    let frame = frame_of w n more in
    let end = same_end w bytes _ _ _ _ _ _ (held_goes w bytes count n more holds) (held_stays w bytes count n more holds) (read_goes w bytes read) (stop_stays w bytes place stop) in
    let seen : closing_in_front read.part ≡ Some (frame, []) = ap closing_in_front (sym end.parts) ∙ frame_seen frame (record { scn = holds.asked.formed.bound }) in
    elim stop.stops [
      | inl behind ↦
          let same = same_Some {A = Closing × List ℕ} (behind.0.frame, behind.0.rest) (frame, []) (sym behind.0.there ∙ seen) in
          let none : length behind.0.rest ≡ 0 = ap (λ (x : Closing × List ℕ). length x.1) same in
          let more = behind.0.more in
          omega (arith, none, more)
      | inr none ↦
          both (can_end (wanted_after w n holds.changes) (length holds.changes) frame) holds.asked.ends
          ((λ i. can_end (end.wanted i) (end.counted i) frame) ∙ ap (ends (wanted_after w read.scn read.changes) (length read.changes)) (sym seen) ∙ none.1)
    ]

left_long : (w : Wanted) (bytes : List ℕ) (read : ItemsRead w bytes) → length bytes ≡ length (changes_bytes read.scn read.changes) + length read.part
left_long w bytes read = ap length read.parts ∙ length-append (changes_bytes read.scn read.changes) read.part

-- they stop at one place
pub one_items_place : (w : Wanted) (bytes : List ℕ) (place other : ℕ) → ItemsStop w bytes place → ItemsStop w bytes other → place ≡ other
one_items_place w bytes place other one two =
    let r = one.read in
    let q = two.read in
    let v = wanted_after w r.scn r.changes in
    let u = wanted_after w q.scn q.changes in
    let end = same_end w bytes _ _ _ _ _ _ (read_goes w bytes r) (stop_stays w bytes place one) (read_goes w bytes q) (stop_stays w bytes other two) in
    let long : length (changes_bytes r.scn r.changes) ≡ length (changes_bytes q.scn q.changes) = omega (arith, left_long w bytes r, left_long w bytes q, ap length end.parts) in
    let same_ends : ends v (length r.changes) (closing_in_front r.part) ≡ ends u (length q.changes) (closing_in_front q.part) = (λ i. ends (end.wanted i) (end.counted i) (closing_in_front (end.parts i))) in
    elim one.stops [
      | inl behind ↦
          elim two.stops [
            | inl behind_too ↦ omega (arith, behind.1, behind_too.1, long)
            | inr none_too ↦ absurd (both _ (ap (ends v (length r.changes)) behind.0.there ∙ behind.0.can) (same_ends ∙ none_too.1))
          ]
      | inr none ↦
          elim two.stops [
            | inl behind_too ↦ absurd (both _ (ap (ends u (length q.changes)) behind_too.0.there ∙ behind_too.0.can) (sym same_ends ∙ none.1))
            | inr none_too ↦ omega (arith, none.2, none_too.2, long)
          ]
    ]

-- ---- no item and no frame begins as an answer

run_below : (run : Run) → run_kind run ≤ 5
run_below Rows = omega arith
run_below Changes = omega arith

first_below : (n : ℕ) (cs : List Change) (c : Closing) → get_or (changes_bytes n cs ++ closing_bytes c) 0 0 ≤ 5
first_below n [] c = run_below c.run
first_below n (d ∷ ds) c =
    let behind = changes_bytes n ds ++ closing_bytes c in
    let at = ap (λ (x : List ℕ). get_or x 0 0) (append_assoc (event_bytes (event n d)) (changes_bytes n ds) (closing_bytes c)) in
    elim (event_first (event n d) behind) [
      | inl one ↦ omega (arith, at, one)
      | inr two ↦ omega (arith, at, two)
    ]

pub kind_above : (a : Answer) → 32 ≤ answer_kind a
kind_above (answers.NotFound n) = omega arith
kind_above (answers.Empty n) = omega arith
kind_above (answers.TooSmall n) = omega arith
kind_above (answers.Behind n) = omega arith
kind_above (answers.LogGone n) = omega arith
kind_above (answers.StartDelta n) = omega arith
kind_above (answers.StartSnapshot n) = omega arith
kind_above (answers.Target n) = omega arith

pub no_items_are_an_answer : (run : Run) (cs : List Change) (n : ℕ) (more : Bool) (answer : Answer) (rest : List ℕ) → run_bytes run cs n more ≡ answer_bytes answer ++ rest → ⊥
no_items_are_an_answer run cs n more answer rest same =
    let first : get_or (run_bytes run cs n more) 0 0 ≡ answer_kind answer = ap (λ (x : List ℕ). get_or x 0 0) same in
    omega (arith, first, kind_above answer, first_below n cs (record { run = run; scn = n; more = more }))
