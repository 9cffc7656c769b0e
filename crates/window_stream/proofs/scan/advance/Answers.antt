use Rattle.std.proofs.Common.{sym, ap, ◌∙◌}
use Rattle.event_codec.specs.Items.{front_of, since_of, open_in}
use Rattle.window_stream.proofs.Scans.{scan_fits}
use Rattle.window_stream.proofs.scan.advance.Goals as goal

pub split_at-requires : goal.split_at-requires
split_at-requires c = scan_fits c.args.scan c.requires

pub with_event-requires-clause-found : goal.with_event-requires-clause-found
with_event-requires-clause-found c =
    let found = c.in-Event.ensures in
    (_, ap (front_of (since_of c.args.scan.follows) (open_in c.args.scan.events)) (sym c.split_at.ensures.back) ∙ found.1)
