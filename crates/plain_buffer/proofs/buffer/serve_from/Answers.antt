use Rattle.std.proofs.Common.{subst, length, ◌≤◌, arith}
use Rattle.bus_io.specs.Bytes.{RoomLeft}
use Rattle.std.specs.Io.KnownBytes.{Appends}
use Rattle.std.proofs.lemmas.Result.{err_from_is_err_and}
use Rattle.bus_types.specs.Cut.{cut_size}
use Rattle.plain_buffer.specs.Send.{told}
use Rattle.plain_buffer.proofs.Serving.{served_run, run_bytes, sent_part}
use Rattle.plain_buffer.proofs.buffer.serve_from.Goals as goal

pub send_windows-requires : goal.send_windows-requires
send_windows-requires g c =
    let test = g.F.Accepts.test c.args.filter.now in
    let run = c.longest_run-run.result in
    let need = c.cut_size-need.ensures.value in
    let fits : cut_size test c.index.result.now ≤ c.args.max = omega arith in
    (served_run test c.args.windows.now.items c.args.from c.args.max run.count run.last run.bytes c.index.result.now c.requires c.index.ensures fits c.longest_run-run.ensures.tells).within

pub returns-in_err-send_windows-clause-part : goal.returns-in_err-send_windows-clause-part
returns-in_err-send_windows-clause-part g c =
    let p = err_from_is_err_and c.from_residual.result c.from_residual.ensures.1 in
    let test = g.F.Accepts.test c.args.filter.now in
    let run = c.longest_run-run.result in
    let need = c.cut_size-need.ensures.value in
    let fits : cut_size test c.index.result.now ≤ c.args.max = omega arith in
    let served = served_run test c.args.windows.now.items c.args.from c.args.max run.count run.last run.bytes c.index.result.now c.requires c.index.ensures fits c.longest_run-run.ensures.tells in
    let bytes = run_bytes test c.args.windows.now.items c.args.from c.args.max run.count run.last run.bytes served in
    rw (p.1, p.2) (sent_part (told (g.W.Sink.written c.args.out.now) (g.W.Sink.room c.args.out.now)) (told (g.W.Sink.written c.send_windows.new.out) (g.W.Sink.room c.send_windows.new.out)) c.in_err-send_windows.field-0.0 _ _ bytes c.in_err-send_windows.ensures.sends).part

pub returns-in_err-send_windows-clause-short : goal.returns-in_err-send_windows-clause-short
returns-in_err-send_windows-clause-short g c =
    let p = err_from_is_err_and c.from_residual.result c.from_residual.ensures.1 in
    let test = g.F.Accepts.test c.args.filter.now in
    let run = c.longest_run-run.result in
    let need = c.cut_size-need.ensures.value in
    let fits : cut_size test c.index.result.now ≤ c.args.max = omega arith in
    let served = served_run test c.args.windows.now.items c.args.from c.args.max run.count run.last run.bytes c.index.result.now c.requires c.index.ensures fits c.longest_run-run.ensures.tells in
    let bytes = run_bytes test c.args.windows.now.items c.args.from c.args.max run.count run.last run.bytes served in
    rw (p.1, p.2) (sent_part (told (g.W.Sink.written c.args.out.now) (g.W.Sink.room c.args.out.now)) (told (g.W.Sink.written c.send_windows.new.out) (g.W.Sink.room c.send_windows.new.out)) c.in_err-send_windows.field-0.0 _ _ bytes c.in_err-send_windows.ensures.sends).short

pub returns-in_err-send_windows-clause-full : goal.returns-in_err-send_windows-clause-full
returns-in_err-send_windows-clause-full g c =
    let p = err_from_is_err_and c.from_residual.result c.from_residual.ensures.1 in
    let test = g.F.Accepts.test c.args.filter.now in
    let run = c.longest_run-run.result in
    let need = c.cut_size-need.ensures.value in
    let fits : cut_size test c.index.result.now ≤ c.args.max = omega arith in
    let served = served_run test c.args.windows.now.items c.args.from c.args.max run.count run.last run.bytes c.index.result.now c.requires c.index.ensures fits c.longest_run-run.ensures.tells in
    let bytes = run_bytes test c.args.windows.now.items c.args.from c.args.max run.count run.last run.bytes served in
    rw p.1 (sent_part (told (g.W.Sink.written c.args.out.now) (g.W.Sink.room c.args.out.now)) (told (g.W.Sink.written c.send_windows.new.out) (g.W.Sink.room c.send_windows.new.out)) c.in_err-send_windows.field-0.0 _ _ bytes c.in_err-send_windows.ensures.sends).full

pub returns-clause-written : goal.returns-clause-written
returns-clause-written g c =
    let test = g.F.Accepts.test c.args.filter.now in
    let run = c.longest_run-run.result in
    let need = c.cut_size-need.ensures.value in
    let fits : cut_size test c.index.result.now ≤ c.args.max = omega arith in
    let served = served_run test c.args.windows.now.items c.args.from c.args.max run.count run.last run.bytes c.index.result.now c.requires c.index.ensures fits c.longest_run-run.ensures.tells in
    let bytes = run_bytes test c.args.windows.now.items c.args.from c.args.max run.count run.last run.bytes served in
    subst (Appends (g.W.Sink.written c.args.out.now) (g.W.Sink.written c.send_windows.new.out)) bytes c.in_ok-send_windows.ensures.sends.1

pub returns-clause-room : goal.returns-clause-room
returns-clause-room g c =
    let test = g.F.Accepts.test c.args.filter.now in
    let run = c.longest_run-run.result in
    let need = c.cut_size-need.ensures.value in
    let fits : cut_size test c.index.result.now ≤ c.args.max = omega arith in
    let served = served_run test c.args.windows.now.items c.args.from c.args.max run.count run.last run.bytes c.index.result.now c.requires c.index.ensures fits c.longest_run-run.ensures.tells in
    let bytes = run_bytes test c.args.windows.now.items c.args.from c.args.max run.count run.last run.bytes served in
    subst (λ text. RoomLeft (g.W.Sink.room c.args.out.now) (g.W.Sink.room c.send_windows.new.out) (length text)) bytes c.in_ok-send_windows.ensures.sends.2
