use Rattle.std.proofs.Common.{sym, ◌∙◌}
use Rattle.byte_ring.proofs.Making.{makes_none, makes_more}
use Rattle.byte_ring.proofs.kept.Kept.make_room.Goals as goal

pub loop-self-preserved : goal.loop-self-preserved
loop-self-preserved c = λ new made.
    let none = sym c.has_room_for.ensures.room ∙ c.loop-self-test.true in
    c.loop-self.invariant new (makes_more c.loop-self.self c.evict_oldest.new.self new c.args.window.now (c.has_room_for.ensures.some c.loop-self-test.true) none c.evict_oldest.ensures made)

pub returns-clause-room : goal.returns-clause-room
returns-clause-room c =
    let roomy = sym c.has_room_for.ensures.room ∙ c.loop-self-test.false in
    c.loop-self.invariant c.loop-self.self (makes_none c.loop-self.self c.args.window.now roomy)
