use Rattle.std.proofs.Common.{sym, arith}
use Rattle.event_codec.proofs.Lendings.{windows_next, windows_none, behind_short}
use Rattle.event_codec.proofs.lent.split_window.Goals as goal

pub returns-in_err-scn-clause-window : goal.returns-in_err-scn-clause-window
returns-in_err-scn-clause-window c =
    rw c.from_residual.ensures (windows_none c.args.bytes.now c.behind_events-marked.result.now c.requires c.behind_events-marked.ensures (sym c.in_err-scn.ensures.value))

pub overflow_sub-bytes : goal.overflow_sub-bytes
overflow_sub-bytes c = behind_short c.args.bytes.now c.behind_events-marked.result.now c.behind_events-marked.ensures

pub split_at-requires : goal.split_at-requires
split_at-requires c = omega (arith, behind_short c.args.bytes.now c.behind_events-marked.result.now c.behind_events-marked.ensures, c.in_ok-scn.ensures.long)

pub invariant_of-window : goal.invariant_of-window
invariant_of-window c =
    (windows_next c.args.bytes.now c.behind_events-marked.result.now c.split_at.result.0.now c.split_at.result.1.now (c.in_ok-scn.scn, c.in_ok-scn.prev) c.requires c.behind_events-marked.ensures
    (sym c.in_ok-scn.ensures.value) c.split_at.ensures.front c.split_at.ensures.back).is

pub returns-clause-window : goal.returns-clause-window
returns-clause-window c =
    (windows_next c.args.bytes.now c.behind_events-marked.result.now c.split_at.result.0.now c.split_at.result.1.now (c.in_ok-scn.scn, c.in_ok-scn.prev) c.requires c.behind_events-marked.ensures
    (sym c.in_ok-scn.ensures.value) c.split_at.ensures.front c.split_at.ensures.back).first

pub returns-clause-behind : goal.returns-clause-behind
returns-clause-behind c =
    (windows_next c.args.bytes.now c.behind_events-marked.result.now c.split_at.result.0.now c.split_at.result.1.now (c.in_ok-scn.scn, c.in_ok-scn.prev) c.requires c.behind_events-marked.ensures
    (sym c.in_ok-scn.ensures.value) c.split_at.ensures.front c.split_at.ensures.back).others
