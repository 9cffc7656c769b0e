use Rattle.std.proofs.Common.{◌≡◌, sym, ap, ◌∙◌}
use Rattle.std.proofs.lemmas.Result.{err_from_is_err_and}
use Rattle.range_ring.specs.Belonging.{fresh_pass}
use Rattle.relay_node.specs.Pieces.{At}
use Rattle.relay_node.proofs.Inputs.{start_at, halts_at, finish_halts, leads_all, ends_told, sent_home, sent_told, finish_fed}
use Rattle.relay_node.proofs.reading.publish_input.Goals as goal

pub read_lines-requires-clause-told : goal.read_lines-requires-clause-told
read_lines-requires-clause-told g c =
    let home = c.args.ring.now in
    let start : At = record { sent = c.new-feed.result.publisher; lines = c.new-feed.result.lines } in
    let made = c.new-feed.ensures in
    let same : start ≡ start_at home = λ i. record { sent = made.sent i; lines = made.lines i } in
    λ κs lives. leads_all g.T.Timeline.told _ home start same c.requires.told

pub finish-requires-clause-ends : goal.finish-requires-clause-ends
finish-requires-clause-ends g c =
    let home = c.args.ring.now in
    let start : At = record { sent = c.new-feed.result.publisher; lines = c.new-feed.result.lines } in
    let made = c.new-feed.ensures in
    let same : start ≡ start_at home = λ i. record { sent = made.sent i; lines = made.lines i } in
    let now : At = record { sent = c.read_lines.new.feed.publisher; lines = c.read_lines.new.feed.lines } in
    λ κs lives. ends_told g.T.Timeline.told _ _ home start now same c.requires.told c.in_ok-read_lines.ensures.reads

pub returns-in_err-read_lines-clause-halts : goal.returns-in_err-read_lines-clause-halts
returns-in_err-read_lines-clause-halts g c =
    let home = c.args.ring.now in
    let start : At = record { sent = c.new-feed.result.publisher; lines = c.new-feed.result.lines } in
    let made = c.new-feed.ensures in
    let same : start ≡ start_at home = λ i. record { sent = made.sent i; lines = made.lines i } in
    let p = err_from_is_err_and c.from_residual.result c.from_residual.ensures.1 in
    rw (p.1, p.2) (halts_at c.in_err-read_lines.field-0.0 home start _ _ same c.in_err-read_lines.ensures.halts)

pub returns-in_err-finish-clause-halts : goal.returns-in_err-finish-clause-halts
returns-in_err-finish-clause-halts g c =
    let home = c.args.ring.now in
    let start : At = record { sent = c.new-feed.result.publisher; lines = c.new-feed.result.lines } in
    let now : At = record { sent = c.read_lines.new.feed.publisher; lines = c.read_lines.new.feed.lines } in
    let made = c.new-feed.ensures in
    let same : start ≡ start_at home = λ i. record { sent = made.sent i; lines = made.lines i } in
    let p = err_from_is_err_and c.from_residual-in_err-finish.result c.from_residual-in_err-finish.ensures.1 in
    rw (p.1, p.2) (finish_halts c.in_err-finish.field-0.0 home start now _ _ same c.in_ok-read_lines.ensures.reads c.in_err-finish.ensures.stops)

pub relay-requires-clause-pass : goal.relay-requires-clause-pass
relay-requires-clause-pass g c =
    let home = c.args.ring.now in
    let start : At = record { sent = c.new-feed.result.publisher; lines = c.new-feed.result.lines } in
    let made = c.new-feed.ensures in
    let same : start ≡ start_at home = λ i. record { sent = made.sent i; lines = made.lines i } in
    let now : At = record { sent = c.read_lines.new.feed.publisher; lines = c.read_lines.new.feed.lines } in
    λ κs lives. c.requires.pass ∙ ap fresh_pass (sym (sent_home _ _ home start now c.finish.new.self.publisher same c.in_ok-read_lines.ensures.reads c.in_ok-finish.ensures.done))

pub relay-requires-clause-all : goal.relay-requires-clause-all
relay-requires-clause-all g c =
    let home = c.args.ring.now in
    let start : At = record { sent = c.new-feed.result.publisher; lines = c.new-feed.result.lines } in
    let made = c.new-feed.ensures in
    let same : start ≡ start_at home = λ i. record { sent = made.sent i; lines = made.lines i } in
    let now : At = record { sent = c.read_lines.new.feed.publisher; lines = c.read_lines.new.feed.lines } in
    λ κs lives. sent_told g.T.Timeline.told now c.finish.new.self.publisher (ends_told g.T.Timeline.told _ _ home start now same c.requires.told c.in_ok-read_lines.ensures.reads) c.in_ok-finish.ensures.done

pub returns-clause-fed : goal.returns-clause-fed
returns-clause-fed g c =
    let home = c.args.ring.now in
    let start : At = record { sent = c.new-feed.result.publisher; lines = c.new-feed.result.lines } in
    let now : At = record { sent = c.read_lines.new.feed.publisher; lines = c.read_lines.new.feed.lines } in
    let made = c.new-feed.ensures in
    let same : start ≡ start_at home = λ i. record { sent = made.sent i; lines = made.lines i } in
    finish_fed g.T.Timeline.told _ _ home start now c.finish.new.self.publisher c.relay.result same c.requires.told c.in_ok-read_lines.ensures.reads c.in_ok-finish.ensures.done c.relay.ensures
