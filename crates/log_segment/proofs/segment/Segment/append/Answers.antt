use Rattle.std.proofs.Common.{◌∙◌, sym, ap, arith, length}
use Rattle.std.proofs.lemmas.Bool.{le-ltb}
use Rattle.std.proofs.lemmas.Bool.Decides.{nat_tests}
use Rattle.log_segment.proofs.Segments.{numbers_with, same_index, appended_by, not_appended_by, longer_segment}
use Rattle.log_segment.specs.Segment.{SegmentParts}
use Rattle.log_segment.proofs.segment.Segment.append.Goals as goal

pub returns-in-Ok-put_behind-clause-appends : goal.returns-in-Ok-put_behind-clause-appends
returns-in-Ok-put_behind-clause-appends g c =
    appended_by g.D.Disk.state c.args.self.now _ c.self.view_is c.args.window.now _ _ _ _ _ _
    (c.deref.ensures.value ∙ c.in-Ok.ensures.text) (omega (arith, c.self.invariant.some)) c.in-Ok-put_behind.ensures
    (numbers_with c.args.window.now
    (record { used = c.self.inside.used; in_use = c.self.inside.in_use; floor = c.self.inside.floor; high = c.self.inside.high; index = c.self.inside.index.items; lost = c.self.inside.lost })
    _ _ _ _ (omega (arith, c.size-size.ensures.value)) c.scn-scn.ensures.value c.make_room.ensures.items c.push.ensures)
    (record { chained = c.requires.chained ∙ sym (ap (λ (s : SegmentParts _). s.numbers.high) c.self.view_is); full = c.requires.full; within = c.scn-scn.ensures.fits })
    (le-ltb _ _ (grind (arith, nat_tests, c.if-self-size.false, c.size-size.ensures.value)))

pub invariant_of-self-in-Ok-put_behind : goal.invariant_of-self-in-Ok-put_behind
invariant_of-self-in-Ok-put_behind g c =
    longer_segment c.args.window.now _ _ _ _ _ _ _ c.self.invariant (ap length c.deref.ensures.value ∙ c.in-Ok.ensures.size)
    (omega (arith, c.self.invariant.some)) c.in-Ok-put_behind.ensures
    (numbers_with c.args.window.now
    (record { used = c.self.inside.used; in_use = c.self.inside.in_use; floor = c.self.inside.floor; high = c.self.inside.high; index = c.self.inside.index.items; lost = c.self.inside.lost })
    _ _ _ _ (omega (arith, c.size-size.ensures.value)) c.scn-scn.ensures.value c.make_room.ensures.items c.push.ensures)
    (record { chained = c.requires.chained ∙ sym (ap (λ (s : SegmentParts _). s.numbers.high) c.self.view_is); full = c.requires.full; within = c.scn-scn.ensures.fits })

pub returns-clause-appends : goal.returns-clause-appends
returns-clause-appends g c =
    not_appended_by g.D.Disk.state c.args.self.now _ c.self.view_is c.args.window.now _ _ _ _ _ (same_index _ _ c.make_room.ensures.items)
    (c.deref.ensures.value ∙ c.in-Ok.ensures.text) (omega (arith, c.self.invariant.some)) c.in-Err.ensures
    (record { chained = c.requires.chained ∙ sym (ap (λ (s : SegmentParts _). s.numbers.high) c.self.view_is); full = c.requires.full; within = c.size-size.ensures.fits })
    (le-ltb _ _ (grind (arith, nat_tests, c.if-self-size.false, c.size-size.ensures.value)))
