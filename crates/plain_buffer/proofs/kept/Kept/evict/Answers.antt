use Rattle.std.proofs.Common.{sym, ◌∙◌}
use Rattle.plain_buffer.proofs.Evicting.{evicts_none, evicts_step}
use Rattle.plain_buffer.proofs.kept.Kept.evict.Goals as goal

pub loop-self-preserved : goal.loop-self-preserved
loop-self-preserved c =
    let full = sym c.has_room.ensures ∙ c.loop-self-test.true in
    let step = evicts_step (record { bytes = c.args.bytes; windows = c.args.windows }) c.loop-self.self.floor _ c.loop-self.self.windows.items _ full c.evict_oldest.ensures.floor c.evict_oldest.ensures.windows in
    record {
      bytes = c.evict_oldest.ensures.size;
      rest = λ new size end rest. c.loop-self.invariant.rest new size end (step new size end rest);
    }

pub returns : goal.returns
returns c =
    let roomy = sym c.has_room.ensures ∙ c.loop-self-test.false in
    c.loop-self.invariant.rest _ _ _ (evicts_none (record { bytes = c.args.bytes; windows = c.args.windows }) c.loop-self.self.floor c.loop-self.self.windows.items c.loop-self.self.size roomy c.loop-self.invariant.bytes)
