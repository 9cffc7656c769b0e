use Rattle.std.proofs.Common.{◌∙◌, ◌++◌, map, length, Ok, ap, subst, sym, arith}
use Rattle.std.proofs.lemmas.List.{length-map}
use Rattle.bus_types.specs.declared.row.Cursor.TheVariants.{Start}
use Rattle.bus_types.specs.Rows.{pair_of, last_from, RiseAfter}
use Rattle.bus_stores.specs.declared.paging.TheConstants.{PAGE}
use Rattle.bus_stores.proofs.Held.{kept_none, kept_more, counted_on}
use Rattle.bus_stores.proofs.Fronts.{ToldAll, told_none, told_more, told_done, page_rises}
use Rattle.bus_stores.proofs.paging.all_rows.Goals as goal

pub pages-init : goal.pages-init
pages-init g c =
    let none = sym c.new-all.ensures.items in
    record {
      kept = kept_none (g.K.Keeper.state c.args.keeper.now);
      told = subst (λ rows. ToldAll (g.K.Keeper.state c.args.keeper.now) (map pair_of rows)) none (told_none (g.K.Keeper.state c.args.keeper.now));
      rising = subst (λ rows. RiseAfter Start (map pair_of rows)) none tt;
    }

pub pages-preserved : goal.pages-preserved
pages-preserved g c =
    let at = c.cursor_behind.ensures ∙ ap (λ rows. last_from Start (map pair_of rows)) c.deref.ensures.value in
    let total = c.in_ok-append.ensures.rows ∙ ap (λ page. map pair_of c.pages.all.items ++ page) c.into_vec-rows.ensures in
    let old = g.K.Keeper.state c.args.keeper.now in
    let now = g.K.Keeper.state c.pages.keeper in
    let new = g.K.Keeper.state c.rows_after.new.self in
    record {
      kept = kept_more _ old now new (Ok c.in_ok-page.page) c.pages.invariant.kept c.in_ok-page.ensures.read;
      told = told_more PAGE now new c.cursor_behind.result (map pair_of c.pages.all.items) c.in_ok-page.page _ c.in_ok-page.ensures.read c.in_ok-page.ensures.ordered at total c.pages.invariant.told;
      rising = page_rises PAGE c.cursor_behind.result (map pair_of c.pages.all.items) c.in_ok-page.page _ total at c.pages.invariant.rising c.in_ok-page.ensures.page;
    }

pub returns-then-count-lt-PAGE-clause-read : goal.returns-then-count-lt-PAGE-clause-read
returns-then-count-lt-PAGE-clause-read g c =
    let at = c.cursor_behind.ensures ∙ ap (λ rows. last_from Start (map pair_of rows)) c.deref.ensures.value in
    let total = c.new.ensures ∙ c.in_ok-append.ensures.rows ∙ ap (λ page. map pair_of c.pages.all.items ++ page) c.into_vec-rows.ensures in
    told_done PAGE (g.K.Keeper.state c.args.keeper.now) (g.K.Keeper.state c.pages.keeper) (g.K.Keeper.state c.rows_after.new.self) c.cursor_behind.result (map pair_of c.pages.all.items) c.in_ok-page.page _ c.pages.invariant.kept c.in_ok-page.ensures.read at total (omega (arith, ap length c.into_vec-rows.ensures, length-map c.into_vec-rows.result.items pair_of)) c.pages.invariant.told

pub returns-then-count-lt-PAGE-clause-rising : goal.returns-then-count-lt-PAGE-clause-rising
returns-then-count-lt-PAGE-clause-rising g c =
    let at = c.cursor_behind.ensures ∙ ap (λ rows. last_from Start (map pair_of rows)) c.deref.ensures.value in
    let total = c.new.ensures ∙ c.in_ok-append.ensures.rows ∙ ap (λ page. map pair_of c.pages.all.items ++ page) c.into_vec-rows.ensures in
    page_rises PAGE c.cursor_behind.result (map pair_of c.pages.all.items) c.in_ok-page.page _ total at c.pages.invariant.rising c.in_ok-page.ensures.page

pub returns-then-count-lt-PAGE-clause-counted : goal.returns-then-count-lt-PAGE-clause-counted
returns-then-count-lt-PAGE-clause-counted g c =
    counted_on (g.K.Keeper.state c.args.keeper.now) (g.K.Keeper.state c.pages.keeper) (g.K.Keeper.state c.rows_after.new.self) c.pages.invariant.kept c.in_ok-page.ensures.counted
