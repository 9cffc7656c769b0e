use Rattle.std.proofs.Common.{ap, sym, ◌∙◌}
use Rattle.bus_types.specs.Timeline.{end_of}
use Rattle.bus_types.proofs.Stretches.{timeline-append}
use Rattle.source_db.proofs.source.SourceDb.append.Goals as goal

pub invariant_of-self-2 : goal.invariant_of-self-2
invariant_of-self-2 c =
    let chained = c.requires.chained ∙ sym (ap end_of c.self.view_is) in
    rw c.in_ok-push.ensures.items (timeline-append 0 c.self.inside.windows.items c.args.window c.self.invariant (record { chained = chained; full = c.requires.full; within = c.size-within.ensures.fits }))
