use Rattle.std.proofs.Common.{◌-◌, length, ap, sym, subst, ◌∙◌, arith}
use Rattle.std.proofs.lemmas.List.{length-take-le}
use Rattle.event_codec.specs.Parsing.{AreWindows, behind_mark}
use Rattle.range_ring.specs.Parts.{past_events, from_kept}
use Rattle.range_ring.proofs.Lending.{less_left, less_whole, slice_end, some_kept, is_part}
use Rattle.range_ring.proofs.part.part_of.Goals as goal

pub before-part-requires : goal.before-part-requires
before-part-requires g c =
    let test = g.F.Accepts.test c.args.filter.now in
    let left = c.mark.ensures.behind ∙ ap behind_mark (c.past_events-left.ensures ∙ ap (past_events test) c.again.ensures) in
    less_left test c.from_kept-kept.result c.mark.new.self c.bytes.result.now c.bytes-end.result.now left c.bytes.ensures c.bytes-end.ensures

pub before-gone-requires : goal.before-gone-requires
before-gone-requires g c =
    let test = g.F.Accepts.test c.args.filter.now in
    let items = c.requires.items in
    let left = c.mark.ensures.behind ∙ ap behind_mark (c.past_events-left.ensures ∙ ap (past_events test) c.again.ensures) in
    let kept = c.from_kept-kept.ensures ∙ ap (from_kept test) (c.of-all.ensures items.0 (subst (AreWindows items.0) (sym (slice_end c.args.bytes.now c.args.place)) items.1)) in
    let less = less_left test c.from_kept-kept.result c.mark.new.self c.bytes.result.now c.bytes-end.result.now left c.bytes.ensures c.bytes-end.ensures in
    less_whole test c.args.bytes.now c.args.place items.0 c.from_kept-kept.result c.bytes.result.now c.bytes-end.result.now c.requires.within items.1 kept c.bytes.ensures less

pub returns : goal.returns
returns g c items are =
    let test = g.F.Accepts.test c.args.filter.now in
    let left = c.mark.ensures.behind ∙ ap behind_mark (c.past_events-left.ensures ∙ ap (past_events test) c.again.ensures) in
    let kept = c.from_kept-kept.ensures ∙ ap (from_kept test) (c.of-all.ensures items (subst (AreWindows items) (sym (slice_end c.args.bytes.now c.args.place)) are)) in
    let some = some_kept test items c.from_kept-kept.result c.in_ok-scn.field-0 kept (sym c.in_ok-scn.was ∙ c.scn.ensures) in
    is_part test c.args.bytes.now c.args.place items c.from_kept-kept.result c.mark.new.self c.bytes.result.now c.bytes-end.result.now c.before-part.result.now _ c.requires.within are some kept left c.bytes.ensures c.bytes-end.ensures c.before-part.ensures (ap length c.before-gone.ensures ∙ length-take-le (length c.args.bytes.now - length c.bytes-end.result.now) c.args.bytes.now (omega arith))
