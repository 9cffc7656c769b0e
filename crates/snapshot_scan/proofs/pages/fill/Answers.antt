use Rattle.std.proofs.Common.{◌<◌, ◌∙◌, ap, sym, length, map, arith, Ok}
use Rattle.std.proofs.lemmas.List.{length-map}
use Rattle.bus_types.specs.Rows.{pair_of, last_from}
use Rattle.bus_stores.proofs.Held.{kept_more}
use Rattle.partition_filter.specs.Selection.{test_of}
use Rattle.snapshot_scan.specs.Filling.{filled, empty_in, with_rows}
use Rattle.snapshot_scan.proofs.Appending.{extends_on}
use Rattle.snapshot_scan.proofs.Walking.{page_walked, last_walked, full_walked, rank_within, rank_later}
use Rattle.snapshot_scan.proofs.pages.fill.Goals.{then-count-page-via-then-count-page, then-count-page-via-else-count-page+then-is_some}
use Rattle.snapshot_scan.proofs.pages.fill.Goals as goal

pub pages-smaller : goal.pages-smaller
pages-smaller g c =
    let list = c.into_vec-rows.ensures in
    let at = c.cursor_behind-place.ensures.behind ∙ ap (λ rows. last_from c.pages.place (map pair_of rows)) c.deref.ensures.value ∙ ap (last_from c.pages.place) list in
    let some : 0 < length c.in_ok-rows_after.field-0 = omega (arith, c.if-count-page.false, c.page_size-page.ensures, c.len-count.ensures, ap length list, length-map c.into_vec-rows.result.items pair_of) in
    let later = rank_later c.pages.place c.cursor_behind-place.result c.in_ok-rows_after.field-0 c.pages.invariant.place some c.in_ok-rows_after.ensures.page.rising at in
    omega (arith, later, rank_within c.cursor_behind-place.result c.cursor_behind-place.ensures.place)

pub pages-preserved : goal.pages-preserved
pages-preserved g c =
    let test = test_of c.args.filter.now in
    let page = c.in_ok-rows_after.field-0 in
    let list = c.into_vec-rows.ensures in
    let at = c.cursor_behind-place.ensures.behind ∙ ap (λ rows. last_from c.pages.place (map pair_of rows)) c.deref.ensures.value ∙ ap (last_from c.pages.place) list in
    let start = empty_in c.args.max c.args.reply.now.items in
    let was = filled c.pages.reply.items c.pages.filling in
    let is = filled c.put_rows.new.reply.items c.put_rows.new.filling in
    let more = c.in_ok-put_rows.ensures.ok ∙ ap (with_rows test c.args.scn was) list in
    let old = g.K.Keeper.state c.args.keeper.now in
    let now = g.K.Keeper.state c.pages.keeper in
    let new = g.K.Keeper.state c.rows_after.new.self in
    record {
      walked =
          page_walked test c.args.scn c.page_size-page.result c.args.cursor.now c.pages.place c.cursor_behind-place.result now new start was is page
          c.in_ok-rows_after.ensures.read c.in_ok-rows_after.ensures.ordered c.in_ok-rows_after.ensures.page at more c.pages.invariant.walked;
      kept = kept_more _ old now new (Ok page) c.pages.invariant.kept c.in_ok-rows_after.ensures.read;
      place = c.cursor_behind-place.ensures.place;
      small = omega (arith, c.in_ok-put_rows.ensures.small, c.pages.invariant.small);
      front = extends_on _ _ _ c.pages.invariant.front c.in_ok-put_rows.ensures.front;
    }

pub returns-then-count-page-clause-filled : goal.returns-then-count-page-clause-filled
returns-then-count-page-clause-filled g c =
    let test = test_of c.args.filter.now in
    let page = c.in_ok-rows_after.field-0 in
    let list = c.into_vec-rows.ensures in
    let at = c.cursor_behind-place.ensures.behind ∙ ap (λ rows. last_from c.pages.place (map pair_of rows)) c.deref.ensures.value ∙ ap (last_from c.pages.place) list in
    let start = empty_in c.args.max c.args.reply.now.items in
    let was = filled c.pages.reply.items c.pages.filling in
    let is = filled c.put_rows.new.reply.items c.put_rows.new.filling in
    let more = c.in_ok-put_rows.ensures.ok ∙ ap (with_rows test c.args.scn was) list in
    let now = g.K.Keeper.state c.pages.keeper in
    let new = g.K.Keeper.state c.rows_after.new.self in
    elim c.then-count-page.branch [
      | then-count-page-via-then-count-page w ↦
          last_walked test c.args.scn c.page_size-page.result c.args.cursor.now c.pages.place c.cursor_behind-place.result now new start was is page
          c.in_ok-rows_after.ensures.read c.in_ok-rows_after.ensures.ordered c.in_ok-rows_after.ensures.page at more
          (omega (arith, w.if-count-page.true, c.len-count.ensures, ap length list, length-map c.into_vec-rows.result.items pair_of)) c.pages.invariant.walked
      | then-count-page-via-else-count-page+then-is_some w ↦
          full_walked test c.args.scn c.page_size-page.result c.args.cursor.now c.pages.place c.cursor_behind-place.result now new start was is page
          c.in_ok-rows_after.ensures.read c.in_ok-rows_after.ensures.ordered c.in_ok-rows_after.ensures.page at more (sym w.is_some.ensures ∙ w.if-is_some.true) c.pages.invariant.walked
    ]
