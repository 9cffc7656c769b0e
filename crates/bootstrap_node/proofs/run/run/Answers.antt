use Rattle.std.proofs.Common.{[], inl, sym, ap, subst}
use Rattle.bootstrap_core.specs.Boot.{told}
use Rattle.bootstrap_node.specs.Running.{Ends}
use Rattle.bootstrap_node.proofs.Making.{none_dialed}
use Rattle.bootstrap_node.proofs.RunEnds.{run_status}
use Rattle.bootstrap_node.proofs.run.run.Goals as goal

pub returns-in-Ok-clause-ends : goal.returns-in-Ok-clause-ends
returns-in-Ok-clause-ends g c =
    let state = told g.G.WindowLog.state g.K.Keeper.state in
    let run = c.run_opened-ended in
    subst (λ status. Ends g.L.Peer.Source.given g.L.Peer.Source.left g.L.Peer.Sink.written g.G.WindowLog.state g.K.Keeper.state status c.args.words.now
    c.args.log c.parts-log.result.0 c.args.keeper c.parts-log.result.1
    (record { link = g.L.Link.told c.args.link.now; text = g.W.Sink.written c.args.out.now; link_faults = g.L.Link.faults c.args.link.now; text_faults = g.W.Sink.faults c.args.out.now })
    (record { link = g.L.Link.told run.new.link; text = g.W.Sink.written run.new.out; link_faults = g.L.Link.faults run.new.link; text_faults = g.W.Sink.faults run.new.out }))
    (sym c.status_of.ensures)
    (run_status g.L.Peer.Source.given g.L.Peer.Source.left g.L.Peer.Sink.written g.G.WindowLog.state g.K.Keeper.state run.result.0 c.args.words.now
    c.args.log c.parts-log.result.0 c.args.keeper c.parts-log.result.1 _ _ (record {
      opened = state c.in-Ok.boot;
      is_opened = c.in-Ok.ensures.opened;
      stands = c.in-Ok.ensures.stands;
      later = c.in-Ok.ensures.faults;
      new = state run.result.1;
      log_is = ap g.G.WindowLog.state (sym c.parts-log.ensures.log);
      keeper_is = ap g.K.Keeper.state (sym c.parts-log.ensures.keeper);
      ends = run.ensures.ends;
    }))

pub returns-in-Err-clause-back : goal.returns-in-Err-clause-back
returns-in-Err-clause-back g c = ([], inl (none_dialed c.args.words.now.relay (g.L.Link.told c.args.link.now)))
