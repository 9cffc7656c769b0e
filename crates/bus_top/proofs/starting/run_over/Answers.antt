use Rattle.bus_stores.specs.MemoryLog.{log_of}
use Rattle.bus_top.proofs.Starts.{boot_ends}
use Rattle.bus_top.proofs.starting.run_over.Goals as goal

pub returns : goal.returns
returns g c =
    let e = c.run_bootstrap.ensures in
    record {
      ends = boot_ends g.L.Peer.Source.given g.L.Peer.Source.left g.L.Peer.Sink.written log_of g.K.Keeper.state c.args.words.now c.run_bootstrap.result.0 _ _ _ _ _ _
          e.done e.bad_answer e.bad_reply e.bad_mark e.ahead e.hole e.store_fault e.link_fault e.write_fault e.status;
      back = e.back;
    }
