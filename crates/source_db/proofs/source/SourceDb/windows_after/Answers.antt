use Rattle.source_db.proofs.Places.{rest_is}
use Rattle.source_db.proofs.source.SourceDb.windows_after.Goals as goal

pub returns : goal.returns
returns c =
    rw (c.deref.ensures.value, c.self.view_is) (rest_is c.args.scn _ c.args.self.now c.place_after.ensures.timeline c.place_after.ensures.place)
