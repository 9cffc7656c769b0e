-- Who takes a delta: each reply of a bootstrap that is true of the timeline keeps the rows right.
use Rattle.std.proofs.Common.{◌≡◌, ℕ, ◌≤◌, true, false, cond, nat_lt, List, ◌++◌, None, refl, sym, ap, subst, ◌∙◌, arith}
use Rattle.std.proofs.lemmas.Bool.{cond_both, cond-true, cond-false}
use Rattle.bus_types.specs.declared.change.Change.{Change}
use Rattle.bus_types.specs.declared.change.RowName.{RowName}
use Rattle.bus_types.specs.declared.row.Cursor.{Cursor}
use Rattle.bus_types.specs.Change.{Test, name_of}
use Rattle.bus_types.specs.Window.{Span}
use Rattle.bus_types.specs.Timeline.{IsTimeline, changes_between}
use Rattle.bus_types.specs.Table.{RowList, table, rows_after, payload_at, last_change, last_between}
use Rattle.bus_types.specs.Rows.{is_after}
use Rattle.bus_types.proofs.TableLaws.{payload_after, payload_at-after, rows_after-ordered, last_change-accepted}
use Rattle.event_codec.specs.declared.answer.Answer.TheVariants.{Behind, LogGone}
use Rattle.checkpoint.specs.declared.mark.Mark.TheVariants.{Delta as Catching}
use Rattle.checkpoint.specs.Mark.{IsMark}
use Rattle.event_codec.specs.Questions.{Delta, Reply, Changes, Only}
use Rattle.event_codec.specs.Chunks.{cursor_after}
use Rattle.client_switch.specs.Good.{Good}
use Rattle.bus_types.specs.Latest.{last_changes, changes_after}
use Rattle.event_codec.specs.Chunks.{chunk_of}
use Rattle.bus_wire.specs.True.{IsBootedBy}
use Rattle.client_switch.proofs.Payloads.{changed_at, view_is}
use Rattle.client_switch.proofs.Cursors.{RisesFrom, none_before, upto_front, behind_front}
use Rattle.client_switch.proofs.Latest.{changes_rise, changes_give}
use Rattle.client_switch.proofs.Ranges.{all_fore, IsNamed, AreNamed, cursor_named, delta_named}
use Rattle.client_switch.proofs.Replies.{Keeps, good_small, good_behind, good_gone, chunk_cases}
use Rattle.client_switch.proofs.GoodOnline.{good_view}

module _ (ws : List Span) (test : Test) (since target : ℕ) (cursor : Cursor) (rows : RowList) (m : IsMark (Catching since target cursor)) (g : Good ws test (Catching since target cursor) rows) where
  -- what is left of the delta
  abbrev rest : List Change
  rest = changes_after cursor (last_changes ws test since target)

  -- after all of it a row that the filter accepts is as at the target
  has_moved : IsTimeline ws → since ≤ target → (q : RowName) → test q.source q.key ≡ true → payload_after (last_change q rest) (payload_at rows q) ≡ payload_at (table ws target) q
  has_moved t le q e =
      let before = payload_at rows q in
      elim (is_after cursor q) as (λ b. is_after cursor q ≡ b → payload_after (last_change q rest) before ≡ payload_at (table ws target) q) [
        | true ↦ λ a.
            changes_give ws test since target cursor q before a
            ∙ ap (λ last. payload_after last before) (last_change-accepted test (changes_between since target ws) q ∙ cond-true (test q.source q.key) (last_between ws q since target) None e)
            ∙ ap (payload_after (last_between ws q since target)) ((g.right q e).1 a)
            ∙ sym (changed_at ws q since target t le)
        | false ↦ λ f. ap (λ last. payload_after last before) (none_before cursor rest q (changes_rise ws test since target cursor) f) ∙ (g.right q e).0 f
      ] refl

  -- and another isn't there
  still_lacks : (q : RowName) → test q.source q.key ≡ false → payload_after (last_change q rest) (payload_at rows q) ≡ None
  still_lacks q e =
      let before = payload_at rows q in
      elim (is_after cursor q) as (λ b. is_after cursor q ≡ b → payload_after (last_change q rest) before ≡ None) [
        | true ↦ λ a.
            changes_give ws test since target cursor q before a
            ∙ ap (λ last. payload_after last before) (last_change-accepted test (changes_between since target ws) q ∙ cond-false (test q.source q.key) (last_between ws q since target) None e)
            ∙ g.accepted q e
        | false ↦ λ f. ap (λ last. payload_after last before) (none_before cursor rest q (changes_rise ws test since target cursor) f) ∙ g.accepted q e
      ] refl

  -- a front of it
  good_more_changes : (scn : ℕ) (xs ys : List Change) → IsTimeline ws → since ≤ target → xs ++ ys ≡ rest → Keeps ws test (Catching since target cursor) rows (Changes xs scn true)
  good_more_changes scn xs ys t le e =
      let rises : RisesFrom cursor (xs ++ ys) = subst (RisesFrom cursor) (sym e) (changes_rise ws test since target cursor) in
      let upto = λ (q : RowName) (f : is_after (cursor_after cursor xs) q ≡ false). upto_front rows cursor xs ys q g.ordered rises f ∙ ap (λ all. payload_after (last_change q all) (payload_at rows q)) e in
      let behind = λ (q : RowName) (a : is_after (cursor_after cursor xs) q ≡ true). behind_front rows cursor xs ys q g.ordered rises a in
      record {
        good = record {
          ordered = rows_after-ordered rows xs g.ordered;
          accepted = λ q f. elim (is_after (cursor_after cursor xs) q) as (λ b. is_after (cursor_after cursor xs) q ≡ b → payload_at (rows_after rows xs) q ≡ None) [
            | true ↦ λ a. (behind q a).0 ∙ g.accepted q f
            | false ↦ λ b. upto q b ∙ still_lacks q f
          ] refl;
          come = g.come;
          right = λ q a. (λ f. upto q f ∙ has_moved t le q a, λ b. (behind q b).0 ∙ (g.right q a).1 (behind q b).1);
        };
        marked = (m.0, m.1, cursor_named cursor xs m.2 (all_fore (λ c. IsNamed (name_of c)) xs ys (subst AreNamed (sym e) (delta_named ws test since target cursor t))));
        wished = tt;
        lawful = tt;
      }

  -- all of it
  good_last_changes : (scn : ℕ) → IsTimeline ws → since ≤ target → Keeps ws test (Catching since target cursor) rows (Changes rest scn false)
  good_last_changes scn t le = record {
    good = good_view ws test target (rows_after rows rest) (omega (arith, g.come))
        (view_is test ws target (rows_after rows rest) (rows_after-ordered rows rest g.ordered)
        (λ q f. payload_at-after rows rest q g.ordered ∙ still_lacks q f)
        (λ q a. payload_at-after rows rest q g.ordered ∙ has_moved t le q a));
    marked = m.1;
    wished = tt;
    lawful = tt;
  }

-- each reply to who asks for the changes of a delta
pub good_delta : (ws : List Span) (test : Test) (since target : ℕ) (cursor : Cursor) (most : ℕ) (rows : RowList) (reply : Reply) → IsTimeline ws → IsMark (Catching since target cursor) → Good ws test (Catching since target cursor) rows → IsBootedBy ws test (Delta since target cursor most) reply → Keeps ws test (Catching since target cursor) rows reply
good_delta ws test since target cursor most rows reply t m g s =
    let b = s.boot in
    let mark = Catching since target cursor in
    let P : Reply → Type 0 = Keeps ws test mark rows in
    let all = changes_after cursor (last_changes ws test since target) in
    let chunk = chunk_of (λ cs more. Changes cs target more) most all in
    let le : since ≤ target = omega (arith, m.0) in
    subst P (sym s.is)
    (cond_both (nat_lt since b.base) (Only (LogGone b.base)) (cond (nat_lt b.high target) (Only (Behind b.high)) chunk) P
    (λ _. good_gone ws test mark rows m g b.base)
    (λ _. cond_both (nat_lt b.high target) (Only (Behind b.high)) chunk P
    (λ _. good_behind ws test mark rows m g b.high)
    (λ _. chunk_cases P (λ cs more. Changes cs target more) most all (good_small ws test mark rows m g)
    (λ xs ys e. good_more_changes ws test since target cursor rows m g target xs ys t le e)
    (good_last_changes ws test since target cursor rows m g target t le))))
