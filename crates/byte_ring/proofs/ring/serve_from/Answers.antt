use Rattle.std.proofs.Common.{◌≡◌, ap, sym, subst, length, take, drop, ◌<◌, ◌≤◌, arith}
use Rattle.bus_io.specs.Bytes.{RoomLeft}
use Rattle.std.specs.Io.KnownBytes.{Appends}
use Rattle.std.proofs.KnownBytes.{Appends-nil}
use Rattle.std.proofs.lemmas.Option.{get_or_from_slice_get}
use Rattle.std.proofs.lemmas.Result.{err_from_is_err_and}
use Rattle.bus_types.specs.Cut.{cut_size, cuts}
use Rattle.bus_types.specs.Timeline.{total_size}
use Rattle.event_codec.specs.declared.reply.Served.TheVariants.{Windows, TooSmall}
use Rattle.event_codec.specs.Reply.{AreTold, IsServed, windows_sent}
use Rattle.plain_buffer.specs.Send.{told}
use Rattle.plain_buffer.proofs.Serving.{served_small, served_run, run_bytes, sent_part}
use Rattle.byte_ring.specs.Runs.{run_from}
use Rattle.byte_ring.proofs.Pushing.{bytes_long}
use Rattle.byte_ring.proofs.Running.{none_fits, first_fits}
use Rattle.byte_ring.proofs.ring.serve_from.Goals as goal

pub send_windows-requires : goal.send_windows-requires
send_windows-requires g c =
    let test = g.F.Accepts.test c.args.filter.now in
    let run = c.longest_run-run.result in
    let size = total_size (run_from test c.args.kept.now.windows c.args.from c.args.max) in
    let w = c.window-at.result.1.now.window.value in
    let is = sym (get_or_from_slice_get c.args.kept.now.windows c.args.from w w c.window-at.ensures.window) in
    let fits = first_fits test c.args.kept.now.windows c.args.from c.args.max run.count run.last w c.requires is (λ none. omega (arith, c.if-run-eq0.false, none)) c.longest_run-run.ensures.run in
    record {
      within = (served_run test c.args.kept.now.windows c.args.from c.args.max run.count run.last size w c.requires is fits c.longest_run-run.ensures.run).within;
      few = c.longest_run-run.ensures.few;
    }

pub returns-in_err-bytes-clause-part : goal.returns-in_err-bytes-clause-part
returns-in_err-bytes-clause-part g c =
    let p = err_from_is_err_and c.from_residual.result c.from_residual.ensures.1 in
    let test = g.F.Accepts.test c.args.filter.now in
    let run = c.longest_run-run.result in
    let size = total_size (run_from test c.args.kept.now.windows c.args.from c.args.max) in
    let w = c.window-at.result.1.now.window.value in
    let is = sym (get_or_from_slice_get c.args.kept.now.windows c.args.from w w c.window-at.ensures.window) in
    let fits = first_fits test c.args.kept.now.windows c.args.from c.args.max run.count run.last w c.requires is (λ none. omega (arith, c.if-run-eq0.false, none)) c.longest_run-run.ensures.run in
    let served = served_run test c.args.kept.now.windows c.args.from c.args.max run.count run.last size w c.requires is fits c.longest_run-run.ensures.run in
    let bytes = run_bytes test c.args.kept.now.windows c.args.from c.args.max run.count run.last size served in
    rw (p.1, p.2) (sent_part (told (g.W.Sink.written c.args.out.now) (g.W.Sink.room c.args.out.now)) (told (g.W.Sink.written c.send_windows.new.out) (g.W.Sink.room c.send_windows.new.out)) c.in_err-bytes.field-0.0 _ _ bytes c.in_err-bytes.ensures.sends).part

pub returns-in_err-bytes-clause-short : goal.returns-in_err-bytes-clause-short
returns-in_err-bytes-clause-short g c =
    let p = err_from_is_err_and c.from_residual.result c.from_residual.ensures.1 in
    let test = g.F.Accepts.test c.args.filter.now in
    let run = c.longest_run-run.result in
    let size = total_size (run_from test c.args.kept.now.windows c.args.from c.args.max) in
    let w = c.window-at.result.1.now.window.value in
    let is = sym (get_or_from_slice_get c.args.kept.now.windows c.args.from w w c.window-at.ensures.window) in
    let fits = first_fits test c.args.kept.now.windows c.args.from c.args.max run.count run.last w c.requires is (λ none. omega (arith, c.if-run-eq0.false, none)) c.longest_run-run.ensures.run in
    let served = served_run test c.args.kept.now.windows c.args.from c.args.max run.count run.last size w c.requires is fits c.longest_run-run.ensures.run in
    let bytes = run_bytes test c.args.kept.now.windows c.args.from c.args.max run.count run.last size served in
    rw (p.1, p.2) (sent_part (told (g.W.Sink.written c.args.out.now) (g.W.Sink.room c.args.out.now)) (told (g.W.Sink.written c.send_windows.new.out) (g.W.Sink.room c.send_windows.new.out)) c.in_err-bytes.field-0.0 _ _ bytes c.in_err-bytes.ensures.sends).short

pub returns-in_err-bytes-clause-full : goal.returns-in_err-bytes-clause-full
returns-in_err-bytes-clause-full g c =
    let p = err_from_is_err_and c.from_residual.result c.from_residual.ensures.1 in
    let test = g.F.Accepts.test c.args.filter.now in
    let run = c.longest_run-run.result in
    let size = total_size (run_from test c.args.kept.now.windows c.args.from c.args.max) in
    let w = c.window-at.result.1.now.window.value in
    let is = sym (get_or_from_slice_get c.args.kept.now.windows c.args.from w w c.window-at.ensures.window) in
    let fits = first_fits test c.args.kept.now.windows c.args.from c.args.max run.count run.last w c.requires is (λ none. omega (arith, c.if-run-eq0.false, none)) c.longest_run-run.ensures.run in
    let served = served_run test c.args.kept.now.windows c.args.from c.args.max run.count run.last size w c.requires is fits c.longest_run-run.ensures.run in
    let bytes = run_bytes test c.args.kept.now.windows c.args.from c.args.max run.count run.last size served in
    rw p.1 (sent_part (told (g.W.Sink.written c.args.out.now) (g.W.Sink.room c.args.out.now)) (told (g.W.Sink.written c.send_windows.new.out) (g.W.Sink.room c.send_windows.new.out)) c.in_err-bytes.field-0.0 _ _ bytes c.in_err-bytes.ensures.sends).full

pub returns-clause-written : goal.returns-clause-written
returns-clause-written g c =
    let test = g.F.Accepts.test c.args.filter.now in
    let run = c.longest_run-run.result in
    let size = total_size (run_from test c.args.kept.now.windows c.args.from c.args.max) in
    let w = c.window-at.result.1.now.window.value in
    let is = sym (get_or_from_slice_get c.args.kept.now.windows c.args.from w w c.window-at.ensures.window) in
    let fits = first_fits test c.args.kept.now.windows c.args.from c.args.max run.count run.last w c.requires is (λ none. omega (arith, c.if-run-eq0.false, none)) c.longest_run-run.ensures.run in
    let served = served_run test c.args.kept.now.windows c.args.from c.args.max run.count run.last size w c.requires is fits c.longest_run-run.ensures.run in
    let bytes = run_bytes test c.args.kept.now.windows c.args.from c.args.max run.count run.last size served in
    subst (Appends (g.W.Sink.written c.args.out.now) (g.W.Sink.written c.send_windows.new.out)) bytes c.in_ok-bytes.ensures.sends.1

pub returns-clause-room : goal.returns-clause-room
returns-clause-room g c =
    let test = g.F.Accepts.test c.args.filter.now in
    let run = c.longest_run-run.result in
    let size = total_size (run_from test c.args.kept.now.windows c.args.from c.args.max) in
    let w = c.window-at.result.1.now.window.value in
    let is = sym (get_or_from_slice_get c.args.kept.now.windows c.args.from w w c.window-at.ensures.window) in
    let fits = first_fits test c.args.kept.now.windows c.args.from c.args.max run.count run.last w c.requires is (λ none. omega (arith, c.if-run-eq0.false, none)) c.longest_run-run.ensures.run in
    let served = served_run test c.args.kept.now.windows c.args.from c.args.max run.count run.last size w c.requires is fits c.longest_run-run.ensures.run in
    let bytes = run_bytes test c.args.kept.now.windows c.args.from c.args.max run.count run.last size served in
    subst (λ text. RoomLeft (g.W.Sink.room c.args.out.now) (g.W.Sink.room c.send_windows.new.out) (length text)) bytes c.in_ok-bytes.ensures.sends.2

pub returns-then-run-eq0-clause-answer : goal.returns-then-run-eq0-clause-answer
returns-then-run-eq0-clause-answer g c =
    let test = g.F.Accepts.test c.args.filter.now in
    let w = c.window-at.result.1.now.window.value in
    let is = sym (get_or_from_slice_get c.args.kept.now.windows c.args.from w w c.window-at.ensures.window) in
    let large = none_fits test c.args.kept.now.windows c.args.from c.args.max c.longest_run-run.result.count c.longest_run-run.result.last w c.requires is (omega (arith, c.if-run-eq0.true)) c.longest_run-run.ensures.run in
    let small = served_small test c.args.kept.now.windows c.args.from c.args.max w c.requires is large in
    subst (IsServed (TooSmall c.cut_size.result)) (sym small) c.cut_size.ensures.value

pub returns-then-run-eq0-clause-written : goal.returns-then-run-eq0-clause-written
returns-then-run-eq0-clause-written g c =
    let test = g.F.Accepts.test c.args.filter.now in
    let w = c.window-at.result.1.now.window.value in
    let is = sym (get_or_from_slice_get c.args.kept.now.windows c.args.from w w c.window-at.ensures.window) in
    let large = none_fits test c.args.kept.now.windows c.args.from c.args.max c.longest_run-run.result.count c.longest_run-run.result.last w c.requires is (omega (arith, c.if-run-eq0.true)) c.longest_run-run.ensures.run in
    let small = served_small test c.args.kept.now.windows c.args.from c.args.max w c.requires is large in
    let written = g.W.Sink.written c.args.out.now in
    subst (λ served. Appends written written (windows_sent served)) (sym small) (Appends-nil written)

pub returns-clause-answer : goal.returns-clause-answer
returns-clause-answer g c =
    let test = g.F.Accepts.test c.args.filter.now in
    let run = c.longest_run-run.result in
    let size = total_size (run_from test c.args.kept.now.windows c.args.from c.args.max) in
    let w = c.window-at.result.1.now.window.value in
    let is = sym (get_or_from_slice_get c.args.kept.now.windows c.args.from w w c.window-at.ensures.window) in
    let fits = first_fits test c.args.kept.now.windows c.args.from c.args.max run.count run.last w c.requires is (λ none. omega (arith, c.if-run-eq0.false, none)) c.longest_run-run.ensures.run in
    let served = served_run test c.args.kept.now.windows c.args.from c.args.max run.count run.last size w c.requires is fits c.longest_run-run.ensures.run in
    let sent : c.in_ok-bytes.bytes ≡ size = omega (arith, c.in_ok-bytes.ensures.sends.0, bytes_long (cuts test (take run.count (drop c.args.from c.args.kept.now.windows))), ap total_size served.front) in
    let told = subst (λ n. AreTold run.count run.last n (run_from test c.args.kept.now.windows c.args.from c.args.max)) (sym sent) served.told in
    subst (IsServed (Windows run.count run.last c.in_ok-bytes.bytes)) (sym served.answer) told
