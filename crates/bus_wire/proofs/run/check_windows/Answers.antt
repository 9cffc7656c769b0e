use Rattle.std.proofs.Common.{sym, subst, arith}
use Rattle.event_codec.specs.Items.{since_of, open_in}
use Rattle.bus_wire.specs.declared.run.Run.{Run}
use Rattle.bus_wire.specs.Run.{Reached, Halts}
use Rattle.bus_wire.proofs.Steps.{reached_none}
use Rattle.bus_wire.proofs.run.check_windows.Goals as goal

pub loop-init : goal.loop-init
loop-init c = record {
  bytes = λ i. omega (arith, c.type_inv.bytes i);
  fits = omega arith;
  reached =
      subst (λ (run : Run). Reached c.args.floor c.args.top c.args.filter.now c.args.bytes.now (since_of run.follows) (open_in run.events) run.count run.place) (sym c.new-run.ensures)
      (reached_none c.args.floor c.args.top c.args.filter.now c.args.bytes.now);
}

pub end-requires-clause-halts : goal.end-requires-clause-halts
end-requires-clause-halts c =
    let stays = c.advance.ensures.stays c.loop-test.false in
    subst (λ (run : Run). Halts (record { floor = c.args.floor; top = c.args.top; filter = c.args.filter; bytes = c.args.bytes }) run) (sym stays.1) stays.0
