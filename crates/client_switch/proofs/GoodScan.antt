-- Who scans, and who has scanned: each reply of a bootstrap that is true of the timeline keeps the rows right.
use Rattle.std.proofs.Common.{◌≡◌, ℕ, ◌≤◌, max, true, false, cond, ◌==◌, ◌||◌, nat_lt, List, ◌++◌, None, is_some, refl, sym, ap, subst, ◌∙◌, arith, true≢false}
use Rattle.std.proofs.lemmas.Bool.{cond_both, ltb-false, eqb-true, eqb-false}
use Rattle.bus_types.specs.declared.change.Change.{Change}
use Rattle.bus_types.specs.declared.change.RowName.{RowName}
use Rattle.bus_types.specs.declared.row.Cursor.{Cursor}
use Rattle.bus_types.specs.Change.{Test, name_of}
use Rattle.bus_types.specs.Window.{Span}
use Rattle.bus_types.specs.Timeline.{IsTimeline, end_of}
use Rattle.bus_types.specs.Table.{RowList, table, rows_after, payload_at, last_change}
use Rattle.bus_types.specs.Rows.{is_after, rest_of}
use Rattle.bus_types.specs.View.{view}
use Rattle.bus_types.proofs.TableLaws.{payload_after, payload_at-after, rows_after-ordered}
use Rattle.bus_types.proofs.Stretches.{between_none}
use Rattle.event_codec.specs.declared.answer.Answer.TheVariants.{Behind, LogGone, Target as GoTo}
use Rattle.checkpoint.specs.declared.mark.Mark.TheVariants.{Online, Snapshot, Scanned, Catchup}
use Rattle.checkpoint.specs.Mark.{IsMark}
use Rattle.event_codec.specs.Questions.{Scan, Target, Reply, Rows, Only}
use Rattle.event_codec.specs.Chunks.{cursor_after}
use Rattle.client_switch.specs.Moves.{changes_of}
use Rattle.client_switch.specs.Good.{Good}
use Rattle.event_codec.specs.Chunks.{puts_of, chunk_of}
use Rattle.bus_wire.specs.True.{IsBootedBy}
use Rattle.client_switch.proofs.Payloads.{view_has, view_lacks, view_is}
use Rattle.client_switch.proofs.Cursors.{RisesFrom, none_before, upto_front, behind_front}
use Rattle.client_switch.proofs.Latest.{puts_rise, puts_give}
use Rattle.client_switch.proofs.Ranges.{all_fore, IsNamed, AreNamed, cursor_named, scan_named, end_below}
use Rattle.client_switch.proofs.Runs.{place_within}
use Rattle.client_switch.proofs.Replies.{Keeps, good_small, good_behind, good_gone, both_false, chunk_cases}
use Rattle.client_switch.proofs.GoodOnline.{good_view}

-- ---- the scan

module _ (ws : List Span) (test : Test) (since start top : ℕ) (cursor : Cursor) (rows : RowList) (m : IsMark (Snapshot since start top cursor)) (g : Good ws test (Snapshot since start top cursor) rows) (scn : ℕ) where
  -- what is left of the scan at this SCN
  abbrev rest : List Change
  rest = puts_of (rest_of cursor (view test ws scn))

  -- a row is as at an SCN from the start to the top
  abbrev HasWithin : RowName → Type 0
  HasWithin q = (a : ℕ) × (start ≤ a) × (a ≤ max top scn) × (payload_after (last_change q rest) (payload_at rows q) ≡ payload_at (table ws a) q)

  -- after all of it a row that the filter accepts is so
  has_moved : start ≤ scn → (q : RowName) → test q.source q.key ≡ true → HasWithin q
  has_moved le q e =
      let before = payload_at rows q in
      elim (is_after cursor q) as (λ b. is_after cursor q ≡ b → HasWithin q) [
        | true ↦ λ a. (
          scn,
          le,
          omega arith,
          ap (payload_after (last_change q rest)) ((g.right q e).1 a) ∙ puts_give test ws scn cursor q a ∙ view_has test ws scn (view test ws scn) q refl e,
        )
        | false ↦ λ f.
            let was = (g.right q e).0 f in
            let high = was.high in
            (was.at, was.low, omega arith, ap (λ last. payload_after last before) (none_before cursor rest q (puts_rise test ws scn cursor) f) ∙ was.same)
      ] refl

  -- and another isn't there
  still_lacks : (q : RowName) → test q.source q.key ≡ false → payload_after (last_change q rest) (payload_at rows q) ≡ None
  still_lacks q e =
      let before = payload_at rows q in
      elim (is_after cursor q) as (λ b. is_after cursor q ≡ b → payload_after (last_change q rest) before ≡ None) [
        | true ↦ λ a. ap (payload_after (last_change q rest)) (g.accepted q e) ∙ puts_give test ws scn cursor q a ∙ view_lacks test ws scn (view test ws scn) q refl e
        | false ↦ λ f. ap (λ last. payload_after last before) (none_before cursor rest q (puts_rise test ws scn cursor) f) ∙ g.accepted q e
      ] refl

  -- a front of it
  good_more_rows : (xs ys : List Change) → IsTimeline ws → start ≤ scn → scn ≤ end_of ws → xs ++ ys ≡ rest → Keeps ws test (Snapshot since start top cursor) rows (Rows xs scn true)
  good_more_rows xs ys t le h e =
      let rises : RisesFrom cursor (xs ++ ys) = subst (RisesFrom cursor) (sym e) (puts_rise test ws scn cursor) in
      let upto = λ (q : RowName) (f : is_after (cursor_after cursor xs) q ≡ false). upto_front rows cursor xs ys q g.ordered rises f ∙ ap (λ all. payload_after (last_change q all) (payload_at rows q)) e in
      let behind = λ (q : RowName) (a : is_after (cursor_after cursor xs) q ≡ true). behind_front rows cursor xs ys q g.ordered rises a in
      record {
        good = record {
          ordered = rows_after-ordered rows xs g.ordered;
          accepted = λ q f. elim (is_after (cursor_after cursor xs) q) as (λ b. is_after (cursor_after cursor xs) q ≡ b → payload_at (rows_after rows xs) q ≡ None) [
            | true ↦ λ a. (behind q a).0 ∙ g.accepted q f
            | false ↦ λ b. upto q b ∙ still_lacks q f
          ] refl;
          come = omega (arith, g.come);
          right = λ q a. (
            (λ f. let n = has_moved le q a in record { at = n.0; low = n.1; high = n.2; same = upto q f ∙ n.3 }),
            (λ b. (behind q b).0 ∙ (g.right q a).1 (behind q b).1),
          );
        };
        marked = (
          omega (arith, m.0),
          m.1,
          omega (arith, m.2, end_below ws t),
          cursor_named cursor xs m.3 (all_fore (λ c. IsNamed (name_of c)) xs ys (subst AreNamed (sym e) (scan_named test ws scn cursor t))),
        );
        wished = tt;
        lawful = tt;
      }

  -- all of it
  good_last_rows : IsTimeline ws → start ≤ scn → scn ≤ end_of ws → Keeps ws test (Snapshot since start top cursor) rows (Rows rest scn false)
  good_last_rows t le h = record {
    good = record {
      ordered = rows_after-ordered rows rest g.ordered;
      accepted = λ q f. payload_at-after rows rest q g.ordered ∙ still_lacks q f;
      come = omega (arith, g.come);
      right = λ q a. let n = has_moved le q a in record { at = n.0; low = n.1; high = n.2; same = payload_at-after rows rest q g.ordered ∙ n.3 };
    };
    marked = (omega (arith, m.0), m.1, omega (arith, m.2, end_below ws t));
    wished = tt;
    lawful = tt;
  }

-- each reply to who asks for the rows of a scan
pub good_scan : (ws : List Span) (test : Test) (since start top : ℕ) (cursor : Cursor) (most : ℕ) (rows : RowList) (reply : Reply) → IsTimeline ws → IsMark (Snapshot since start top cursor) → Good ws test (Snapshot since start top cursor) rows → IsBootedBy ws test (Scan start cursor most) reply → Keeps ws test (Snapshot since start top cursor) rows reply
good_scan ws test since start top cursor most rows reply t m g s =
    let b = s.boot in
    let mark = Snapshot since start top cursor in
    let P : Reply → Type 0 = Keeps ws test mark rows in
    let all = puts_of (rest_of cursor (view test ws b.applied)) in
    let chunk = chunk_of (λ cs more. Rows cs b.applied more) most all in
    let come = place_within b.applied ws t s.lawful.applied_place in
    subst P (sym s.is)
    (cond_both (nat_lt start b.base) (Only (LogGone b.base)) (cond (nat_lt b.applied start) (Only (Behind b.applied)) chunk) P
    (λ _. good_gone ws test mark rows m g b.base)
    (λ _. cond_both (nat_lt b.applied start) (Only (Behind b.applied)) chunk P
    (λ _. good_behind ws test mark rows m g b.applied)
    (λ e.
    let le = ltb-false b.applied start e in
    chunk_cases P (λ cs more. Rows cs b.applied more) most all (good_small ws test mark rows m g)
    (λ xs ys w. good_more_rows ws test since start top cursor rows m g b.applied xs ys t le come w)
    (good_last_rows ws test since start top cursor rows m g b.applied t le come))))

-- ---- behind the scan

-- nothing is to be replayed
good_scanned_alone : (ws : List Span) (test : Test) (since start top : ℕ) (rows : RowList) → top ≤ start → Good ws test (Scanned since start top) rows → Good ws test (Online start) rows
good_scanned_alone ws test since start top rows h g =
    good_view ws test start rows (omega (arith, g.come))
    (view_is test ws start rows g.ordered g.accepted (λ q e.
    let was = g.right q e in
    let low = was.low in
    let high = was.high in
    let same : was.at ≡ start = omega arith in
    was.same ∙ ap (λ n. payload_at (table ws n) q) same))

-- nothing has been replayed
good_replay_begun : (ws : List Span) (test : Test) (since start top target : ℕ) (rows : RowList) → since ≤ target → top ≤ target → target ≤ end_of ws → Good ws test (Scanned since start top) rows → Good ws test (Catchup since start target start) rows
good_replay_begun ws test since start top target rows s h c g = record {
  ordered = g.ordered;
  accepted = g.accepted;
  come = omega (arith, g.come);
  right = (
    s,
    λ q e. (
      (λ changed. absurd (true≢false (sym changed ∙ ap (λ stretch. is_some (last_change q (changes_of stretch))) (between_none start start ws (omega arith))))),
      (λ _.
          let was = g.right q e in
          let high = was.high in
          record { at = was.at; low = was.low; high = omega arith; same = was.same }),
    ),
  );
}

good_target_at : (ws : List Span) (test : Test) (since start top target : ℕ) (rows : RowList) → IsTimeline ws → start ≤ target → max since top ≤ target → target ≤ end_of ws → IsMark (Scanned since start top) → Good ws test (Scanned since start top) rows → Keeps ws test (Scanned since start top) rows (Only (GoTo target))
good_target_at ws test since start top target rows t l h c m g = record {
  good = cond_both (target == start) (Online target) (Catchup since start target start) (λ mark. Good ws test mark rows)
      (λ e.
      let same = eqb-true target start e in
      subst (λ n. Good ws test (Online n) rows) (sym same) (good_scanned_alone ws test since start top rows (omega arith) g))
      (λ _. good_replay_begun ws test since start top target rows (omega arith) (omega arith) c g);
  marked = cond_both (target == start) (Online target) (Catchup since start target start) IsMark
      (λ _. omega (arith, end_below ws t))
      (λ e.
      let other = eqb-false target start e in
      (omega arith, omega arith, omega arith, omega (arith, end_below ws t)));
  wished = tt;
  lawful = omega arith;
}

-- each reply to who asks where its replay is to end
pub good_target : (ws : List Span) (test : Test) (since start top : ℕ) (rows : RowList) (reply : Reply) → IsTimeline ws → IsMark (Scanned since start top) → Good ws test (Scanned since start top) rows → IsBootedBy ws test (Target start (max since top)) reply → Keeps ws test (Scanned since start top) rows reply
good_target ws test since start top rows reply t m g s =
    let b = s.boot in
    let mark = Scanned since start top in
    let P : Reply → Type 0 = Keeps ws test mark rows in
    let late = nat_lt b.high start || nat_lt b.high (max since top) in
    subst P (sym s.is)
    (cond_both (nat_lt start b.base) (Only (LogGone b.base)) (cond late (Only (Behind b.high)) (Only (GoTo b.high))) P
    (λ _. good_gone ws test mark rows m g b.base)
    (λ _. cond_both late (Only (Behind b.high)) (Only (GoTo b.high)) P
    (λ _. good_behind ws test mark rows m g b.high)
    (λ e.
    let far = both_false (nat_lt b.high start) (nat_lt b.high (max since top)) e in
    good_target_at ws test since start top b.high rows t (ltb-false b.high start far.0) (ltb-false b.high (max since top) far.1) (place_within b.high ws t s.lawful.high_place) m g)))
