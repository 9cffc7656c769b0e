use Rattle.std.proofs.Common.{◌≡◌, drop, ap, ◌∙◌, arith}
use Rattle.std.proofs.lemmas.Result.{IfOk-at_ok}
use Rattle.bus_types.specs.Window.{Span}
use Rattle.window_stream.proofs.Cut.{is_cut}
use Rattle.window_stream.proofs.Scans.{scan_fits, mark_long, mark_events, mark_window, mark_given}
use Rattle.window_stream.proofs.scan.with_mark.Goals as goal

pub split_at-requires : goal.split_at-requires
split_at-requires c = scan_fits c.args.scan c.requires.begun

pub split_at-requires-2 : goal.split_at-requires-2
split_at-requires-2 c = omega (arith, mark_long c.args.scan c.requires.begun c.args.scn c.args.prev c.requires.found, c.split_at.ensures.back_len)

pub changes_of-requires : goal.changes_of-requires
changes_of-requires c = mark_events c.args.scan c.requires.begun c.args.scn c.args.prev c.requires.found c.split_at.result.0.now c.split_at.ensures.front

pub unwrap-requires : goal.unwrap-requires
unwrap-requires c =
    is_cut (λ e. e.0) c.cut.result _ (mark_window c.args.scan c.requires.begun c.args.scn c.args.prev c.requires.found c.in_ok-changes.changes.items c.split_at.result.0.now c.split_at.ensures.front c.in_ok-changes.ensures).within
    c.cut.ensures.fault

pub returns-clause-moves : goal.returns-clause-moves
returns-clause-moves c =
    let changes = c.in_ok-changes.changes.items in
    let window = IfOk-at_ok (λ (w : Span). w ≡ record { scn = c.args.scn; prev = c.args.prev; changes = changes }) c.unwrap.ensures c.cut.ensures.ok in
    let left = c.split_at-2.ensures.back ∙ ap (drop 17) c.split_at.ensures.back in
    mark_given c.args.scan c.requires.begun c.args.scn c.args.prev c.requires.found changes c.split_at.result.0.now c.split_at-2.result.1.now c.unwrap.result c.args.whole.now.items c.push.new.self.items
    c.split_at.ensures.front c.in_ok-changes.ensures left window c.in_ok-push.ensures.items

pub returns-clause-less : goal.returns-clause-less
returns-clause-less c = omega (arith, c.split_at.ensures.back_len, c.split_at-2.ensures.back_len)
