use Rattle.std.proofs.Common.{refl}
use Rattle.event_codec.specs.Parsing.{window_events}
use Rattle.range_ring.proofs.Counted.{entry_events, small_events}
use Rattle.range_ring.proofs.cutting.events_of.Goals as goal

pub of-requires : goal.of-requires
of-requires g c = let entry = c.bytes-bytes.ensures.fits in (window_events entry.window, entry_events g.T.Timeline.told c.args.shown.now c.bytes-bytes.result.now _ entry c.bytes-bytes.ensures.value refl)

pub returns-clause-events : goal.returns-clause-events
returns-clause-events g c = λ entry. c.of.ensures (window_events entry.window) (entry_events g.T.Timeline.told c.args.shown.now c.bytes-bytes.result.now _ entry c.bytes-bytes.ensures.value refl)

pub returns-clause-small : goal.returns-clause-small
returns-clause-small g c =
    let entry = c.bytes-bytes.ensures.fits in
    small_events entry.window c.of.result entry.within (c.of.ensures (window_events entry.window) (entry_events g.T.Timeline.told c.args.shown.now c.bytes-bytes.result.now _ entry c.bytes-bytes.ensures.value refl))
