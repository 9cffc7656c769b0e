-- What a bootstrap of a timeline answers is a lawful reply.
use Rattle.std.proofs.Common.{◌≡◌, ℕ, zero, suc, flat_map, ◌<◌, ◌≤◌, ◌^◌, inl, inr, Bool, true, false, cond, ◌||◌, nat_lt, nat_le, List, [], ◌∷◌, length, refl, ap, arith}
use Rattle.std.specs.List.{AllByRecursion}
use Rattle.std.proofs.lemmas.Bool.{cond_both, and_from, or_cases, lt-ltb, le-leb, ltb-false, ltb-true, leb-false}
use Rattle.bus_types.specs.declared.row.Cursor.{Cursor}
use Rattle.bus_types.specs.declared.limits.TheConstants.{MAX_SCN, MAX_WINDOW}
use Rattle.bus_types.specs.Change.{Test}
use Rattle.bus_types.specs.Window.{Span, span_size}
use Rattle.bus_types.specs.Timeline.{IsTimeline, windows_between}
use Rattle.bus_types.specs.Table.{rows_after}
use Rattle.bus_types.specs.Rows.{rest_of}
use Rattle.bus_types.specs.Latest.{last_changes, changes_after}
use Rattle.bus_types.specs.View.{shown, view}
use Rattle.bus_types.specs.Cut.{cuts}
use Rattle.bus_types.specs.Relay.{longest_run, most_windows}
use Rattle.bus_types.specs.Relay.Served.{Windows as SomeWindows, TooSmall as TooLarge}
use Rattle.bus_types.proofs.Stretches.{between_cases, between_none}
use Rattle.partition_filter.specs.Selection.{Selection, test_of}
use Rattle.event_codec.specs.declared.answer.Answer.{Answer}
use Rattle.event_codec.specs.declared.answer.Answer.TheVariants.{TooSmall, Behind, LogGone, StartDelta, StartSnapshot, Target as GoTo}
use Rattle.event_codec.specs.Frames.{IsAnswer}
use Rattle.event_codec.specs.Streams.{Come}
use Rattle.event_codec.specs.Chunks.{chunk_of, puts_of}
use Rattle.event_codec.specs.Questions.Reply.{Rows, Changes, Only}
use Rattle.bus_wire.specs.declared.ask.Ask.{Ask}
use Rattle.bus_wire.specs.declared.ask.Ask.TheVariants as asks
use Rattle.bus_wire.specs.Asks.{question_of, test_in, IsAsk, AsksBootstrap}
use Rattle.bus_wire.specs.Booted.{IsLimited, RepliesLawfully, IsLawfullyBooted}
use Rattle.bus_wire.specs.Lawful.{answers, IsAskedFor, after_floor, most_chunk}
use Rattle.bus_wire.specs.Wanted.{rows_wanted, changes_wanted}
use Rattle.bus_wire.specs.True.{Boot, IsBoot, reply_of, replay_of, boot_reply}
use Rattle.event_codec.proofs.Streams.{come_spans}
use Rattle.bus_wire.proofs.Replies.{place_bound, stretch_comes, stretch_is_asked_for, longest_is_run}
use Rattle.bus_wire.proofs.Chunks.{scan_items, delta_items, front_asked, small_or}

-- ---- answers

lawful_answer : (ws : List Span) (high : ℕ) (ask : Ask) (answer : Answer) → IsAnswer answer → answers ask answer ≡ true → IsLawfullyBooted ws high ask (Only answer)
lawful_answer ws high ask answer within lawful = inl (record { lawful = (refl, record { within = within; lawful = lawful }); formed = within })

-- ---- chunks

small_lawful : (ask : Ask) (max need most : ℕ) → IsAnswer (TooSmall need) → answers ask (TooSmall need) ≡ true → RepliesLawfully ask (Only (TooSmall need))
small_lawful ask max need most within lawful = record { lawful = (refl, record { within = within; lawful = lawful }); formed = within }

-- a table at 0 has no row
above_0 : (test : Test) (ws : List Span) (cursor : Cursor) (n : ℕ) → 0 < length (puts_of (rest_of cursor (view test ws n))) → 0 < n
above_0 test ws cursor zero some = absurd (omega (arith, ap (λ (l : List Span). length (puts_of (rest_of cursor (shown test (rows_after [] (flat_map (λ (w : Span). w.changes) l)))))) (between_none 0 0 ws (omega arith)), some))
above_0 test ws cursor (suc n) some = omega arith

scan_chunk : (ws : List Span) (start : ℕ) (cursor : Cursor) (filter : Selection) (max applied : ℕ) → IsTimeline ws → max < 2 ^ 32 → start ≤ applied → applied ≤ MAX_SCN
    → RepliesLawfully (asks.Scan start cursor filter max) (chunk_of (λ cs more. Rows cs applied more) max (puts_of (rest_of cursor (view (test_of filter) ws applied))))
scan_chunk ws start cursor filter max applied t limited low bound =
    let w = rows_wanted start cursor filter in
    let all = puts_of (rest_of cursor (view (test_of filter) ws applied)) in
    let items = scan_items (test_of filter) ws applied cursor t in
    let ask = asks.Scan start cursor filter max in
    small_or (RepliesLawfully ask) (λ cs more. Rows cs applied more) max all
    (λ need large most. small_lawful ask max need most_chunk (record { number = omega (arith, most) }) (and_from _ _ (lt-ltb max need large) (le-leb need most_chunk most)))
    (test_of filter) items.each
    (λ run more front some. let asked = front_asked w applied max run all more bound limited (and_from _ _ (le-leb start applied low) (le-leb applied MAX_SCN bound)) (above_0 (test_of filter) ws cursor applied) items front some in
    record { lawful = record { changes = run; spelled = refl; asked = asked; counted = refl }; formed = asked.formed })

delta_chunk : (ws : List Span) (since target : ℕ) (cursor : Cursor) (filter : Selection) (max : ℕ) → IsTimeline ws → max < 2 ^ 32 → since < target → target ≤ MAX_SCN
    → RepliesLawfully (asks.Delta since target cursor filter max) (chunk_of (λ cs more. Changes cs target more) max (changes_after cursor (last_changes ws (test_of filter) since target)))
delta_chunk ws since target cursor filter max t limited low bound =
    let w = changes_wanted target cursor filter in
    let all = changes_after cursor (last_changes ws (test_of filter) since target) in
    let items = delta_items (test_of filter) ws since target cursor t in
    let ask = asks.Delta since target cursor filter max in
    small_or (RepliesLawfully ask) (λ cs more. Changes cs target more) max all
    (λ need large most. small_lawful ask max need most_chunk (record { number = omega (arith, most) }) (and_from _ _ (lt-ltb max need large) (le-leb need most_chunk most)))
    (test_of filter) items.each
    (λ run more front some. let asked = front_asked w target max run all more bound limited (and_from _ _ (le-leb target target (omega arith)) (le-leb target target (omega arith))) (λ any. omega (arith, low)) items front some in
    record { lawful = record { changes = run; spelled = refl; asked = asked; counted = refl }; formed = asked.formed })

-- ---- replays

-- the windows between two SCNs aren't above the upper one
between_upto : (low high : ℕ) (ws : List Span) → AllByRecursion (λ (w : Span). w.scn ≤ high) (windows_between low high ws)
between_upto low high [] = tt
between_upto low high (w ∷ ws) =
    let rest = between_upto low high ws in
    between_cases (AllByRecursion (λ (w : Span). w.scn ≤ high)) low high w ws (λ l h. (h, rest)) (λ l. rest) (λ h. rest)

asked_upto : (top : ℕ) (filter : Selection) (ws : List Span) → AllByRecursion (λ (w : Span). w.scn ≤ top) ws → AllByRecursion (IsAskedFor MAX_SCN filter) (cuts (test_of filter) ws) → AllByRecursion (IsAskedFor top filter) (cuts (test_of filter) ws)
asked_upto top filter [] below each = tt
asked_upto top filter (w ∷ ws) below each =
    (record { below = below.0; accepted = each.0.accepted; enough = each.0.enough }, asked_upto top filter ws below.1 each.1)

-- of windows that may come: what fits, or that there is none
replay : (ws : List Span) (at target high max : ℕ) (filter : Selection) (left : List Span) → Come (after_floor at) left → AllByRecursion (IsAskedFor target filter) left → (left ≡ [] → windows_between at target ws ≡ [])
    → IsLawfullyBooted ws high (asks.Catchup at target filter max) (replay_of high max left)
replay ws at target high max filter [] come each none = inr (none refl, refl)
replay ws at target high max filter (w ∷ left) come each none =
    cond_both (nat_lt max (span_size w)) (TooLarge (span_size w)) (SomeWindows (longest_run most_windows max (w ∷ left))) (λ served. IsLawfullyBooted ws high (asks.Catchup at target filter max) (reply_of served))
    (λ large. lawful_answer ws high (asks.Catchup at target filter max) (TooSmall (span_size w)) (record { number = omega (arith, come.0.within.size) }) (and_from _ _ large (le-leb (span_size w) MAX_WINDOW come.0.within.size)))
    (λ fits. (let run = longest_is_run at target max filter w left come each (ltb-false max (span_size w) fits) in
    inl (record {
      lawful = record { windows = longest_run most_windows max (w ∷ left); spelled = refl; run = run; counted = refl; ends = refl };
      formed = come_spans (after_floor at) (longest_run most_windows max (w ∷ left)) run.asked.come;
    })))

no_cuts : (test : Test) (ws : List Span) → cuts test ws ≡ [] → ws ≡ []
no_cuts test [] e = refl
no_cuts test (w ∷ ws) e = absurd (cc)

-- ---- the rules

either_below : (high start least : ℕ) → start ≤ least → (nat_lt high start || nat_lt high least) ≡ true → nat_lt high least ≡ true
either_below high start least order e =
    elim (or_cases (nat_lt high start) (nat_lt high least) e) [
      | inl first ↦ lt-ltb high least (omega (arith, ltb-true high start first))
      | inr second ↦ second
    ]

none_below : (high start least : ℕ) → (nat_lt high start || nat_lt high least) ≡ false → (start ≤ high) × (least ≤ high)
none_below high start least e = (ltb-false high start (left (nat_lt high start) (nat_lt high least) e), ltb-false high least (right (nat_lt high start) (nat_lt high least) e))
  where
    left : (a b : Bool) → (a || b) ≡ false → a ≡ false
    left true b h = absurd (cc)
    left false b h = refl

    right : (a b : Bool) → (a || b) ≡ false → b ≡ false
    right true b h = absurd (cc)
    right false b h = h

module _ (ws : List Span) (b : Boot) (t : IsTimeline ws) (is : IsBoot ws b) where
  base_bound : b.base ≤ MAX_SCN
  base_bound = place_bound b.base ws t is.base_place

  applied_bound : b.applied ≤ MAX_SCN
  applied_bound = place_bound b.applied ws t is.applied_place

  high_bound : b.high ≤ MAX_SCN
  high_bound = place_bound b.high ws t is.high_place

  starts : (since : ℕ) (fresh : Bool) (test : Test) → IsLawfullyBooted ws b.high (asks.Start since fresh) (boot_reply ws test b (question_of (asks.Start since fresh)))
  starts since false test =
      let P = IsLawfullyBooted ws b.high (asks.Start since false) in
      cond_both (nat_le b.high since) (Only (Behind b.high)) (cond (nat_le b.base since) (Only (StartDelta b.high)) (Only (StartSnapshot b.applied))) P
      (λ e. lawful_answer ws b.high (asks.Start since false) (Behind b.high) (record { number = high_bound }) e)
      (λ e. cond_both (nat_le b.base since) (Only (StartDelta b.high)) (Only (StartSnapshot b.applied)) P
      (λ f. lawful_answer ws b.high (asks.Start since false) (StartDelta b.high) (record { number = high_bound }) (lt-ltb since b.high (leb-false b.high since e)))
      (λ f. lawful_answer ws b.high (asks.Start since false) (StartSnapshot b.applied) (record { number = applied_bound }) refl))
  starts since true test =
      cond_both (nat_lt b.high since) (Only (Behind b.high)) (Only (StartSnapshot b.applied)) (IsLawfullyBooted ws b.high (asks.Start since true))
      (λ e. lawful_answer ws b.high (asks.Start since true) (Behind b.high) (record { number = high_bound }) e)
      (λ e. lawful_answer ws b.high (asks.Start since true) (StartSnapshot b.applied) (record { number = applied_bound }) refl)

  scans : (start : ℕ) (cursor : Cursor) (filter : Selection) (max : ℕ) → max < 2 ^ 32 → IsLawfullyBooted ws b.high (asks.Scan start cursor filter max) (boot_reply ws (test_of filter) b (question_of (asks.Scan start cursor filter max)))
  scans start cursor filter max limited =
      let ask = asks.Scan start cursor filter max in
      let chunk = chunk_of (λ cs more. Rows cs b.applied more) max (puts_of (rest_of cursor (view (test_of filter) ws b.applied))) in
      cond_both (nat_lt start b.base) (Only (LogGone b.base)) (cond (nat_lt b.applied start) (Only (Behind b.applied)) chunk) (IsLawfullyBooted ws b.high ask)
      (λ e. lawful_answer ws b.high ask (LogGone b.base) (record { number = base_bound }) e)
      (λ e. cond_both (nat_lt b.applied start) (Only (Behind b.applied)) chunk (IsLawfullyBooted ws b.high ask)
      (λ f. lawful_answer ws b.high ask (Behind b.applied) (record { number = applied_bound }) f)
      (λ f. inl (scan_chunk ws start cursor filter max b.applied t limited (ltb-false b.applied start f) applied_bound)))

  targets : (start least : ℕ) (test : Test) → start ≤ least → IsLawfullyBooted ws b.high (asks.Target start least) (boot_reply ws test b (question_of (asks.Target start least)))
  targets start least test order =
      let ask = asks.Target start least in
      cond_both (nat_lt start b.base) (Only (LogGone b.base)) (cond (nat_lt b.high start || nat_lt b.high least) (Only (Behind b.high)) (Only (GoTo b.high))) (IsLawfullyBooted ws b.high ask)
      (λ e. lawful_answer ws b.high ask (LogGone b.base) (record { number = base_bound }) e)
      (λ e. cond_both (nat_lt b.high start || nat_lt b.high least) (Only (Behind b.high)) (Only (GoTo b.high)) (IsLawfullyBooted ws b.high ask)
      (λ f. lawful_answer ws b.high ask (Behind b.high) (record { number = high_bound }) (either_below b.high start least order f))
      (λ f. lawful_answer ws b.high ask (GoTo b.high) (record { number = high_bound })
      (and_from _ _ (le-leb least b.high (none_below b.high start least f).1) (le-leb start b.high (none_below b.high start least f).0))))

  catches_up : (at target : ℕ) (filter : Selection) (max : ℕ) → IsLawfullyBooted ws b.high (asks.Catchup at target filter max) (boot_reply ws (test_of filter) b (question_of (asks.Catchup at target filter max)))
  catches_up at target filter max =
      let ask = asks.Catchup at target filter max in
      let stretch = windows_between at target ws in
      let left = cuts (test_of filter) stretch in
      cond_both (nat_lt at b.base) (Only (LogGone b.base)) (cond (nat_lt b.high target) (Only (Behind b.high)) (replay_of b.high max left)) (IsLawfullyBooted ws b.high ask)
      (λ e. lawful_answer ws b.high ask (LogGone b.base) (record { number = base_bound }) e)
      (λ e. cond_both (nat_lt b.high target) (Only (Behind b.high)) (replay_of b.high max left) (IsLawfullyBooted ws b.high ask)
      (λ f. lawful_answer ws b.high ask (Behind b.high) (record { number = high_bound }) f)
      (λ f. replay ws at target b.high max filter left (stretch_comes (test_of filter) at target ws t) (asked_upto target filter stretch (between_upto at target ws) (stretch_is_asked_for filter at target ws t)) (no_cuts (test_of filter) stretch)))

  consolidates : (since target : ℕ) (cursor : Cursor) (filter : Selection) (max : ℕ) → max < 2 ^ 32 → since < target → target ≤ MAX_SCN → IsLawfullyBooted ws b.high (asks.Delta since target cursor filter max) (boot_reply ws (test_of filter) b (question_of (asks.Delta since target cursor filter max)))
  consolidates since target cursor filter max limited low bound =
      let ask = asks.Delta since target cursor filter max in
      let chunk = chunk_of (λ cs more. Changes cs target more) max (changes_after cursor (last_changes ws (test_of filter) since target)) in
      cond_both (nat_lt since b.base) (Only (LogGone b.base)) (cond (nat_lt b.high target) (Only (Behind b.high)) chunk) (IsLawfullyBooted ws b.high ask)
      (λ e. lawful_answer ws b.high ask (LogGone b.base) (record { number = base_bound }) e)
      (λ e. cond_both (nat_lt b.high target) (Only (Behind b.high)) chunk (IsLawfullyBooted ws b.high ask)
      (λ f. lawful_answer ws b.high ask (Behind b.high) (record { number = high_bound }) f)
      (λ f. inl (delta_chunk ws since target cursor filter max t limited low bound)))

pub boots_lawfully : (ws : List Span) (b : Boot) (ask : Ask) → IsTimeline ws → IsBoot ws b → IsAsk ask → IsLimited ask → AsksBootstrap ask → IsLawfullyBooted ws b.high ask (boot_reply ws (test_in ask) b (question_of ask))
boots_lawfully ws b (asks.Stream scn filter max) t is asked limited mine = absurd mine
boots_lawfully ws b (asks.Start since fresh) t is asked limited mine = starts ws b t is since fresh (test_in (asks.Start since fresh))
boots_lawfully ws b (asks.Scan start cursor filter max) t is asked limited mine = scans ws b t is start cursor filter max limited
boots_lawfully ws b (asks.Target start least) t is asked limited mine = targets ws b t is start least (test_in (asks.Target start least)) asked.0
boots_lawfully ws b (asks.Catchup at target filter max) t is asked limited mine = catches_up ws b t is at target filter max
boots_lawfully ws b (asks.Delta since target cursor filter max) t is asked limited mine = consolidates ws b t is since target cursor filter max limited asked.0 asked.1
