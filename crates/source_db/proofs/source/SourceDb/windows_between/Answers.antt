use Rattle.std.proofs.Common.{◌∙◌, arith}
use Rattle.source_db.proofs.Places.{part_is, places_rise}
use Rattle.source_db.proofs.source.SourceDb.windows_between.Goals as goal

pub part-requires-clause-from : goal.part-requires-clause-from
part-requires-clause-from c =
    let rise = places_rise c.args.low c.args.high c.args.self.now c.place_after.ensures.timeline c.requires in
    let p = c.place_after.ensures.place in
    let q = c.place_after-2.ensures.place in
    omega arith

pub returns : goal.returns
returns c =
    c.part.ensures ∙ rw (c.deref.ensures.value, c.self.view_is) (part_is c.args.low c.args.high _ _ c.args.self.now c.place_after.ensures.timeline c.requires c.place_after.ensures.place c.place_after-2.ensures.place)
