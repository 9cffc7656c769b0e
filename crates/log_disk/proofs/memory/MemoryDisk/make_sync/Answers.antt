use Rattle.std.proofs.Common.{◌≡◌, ◌<◌, ◌+◌, length, sym, ◌∙◌, ap, arith, length-append}
use Rattle.log_disk.specs.declared.allowance.Allowance.{Allowance}
use Rattle.log_disk.specs.Pending.{lasting, after, after_all}
use Rattle.log_disk.specs.Pending.Step.{Synced}
use Rattle.log_disk.specs.Memory.{MemoryState, steps_of}
use Rattle.log_disk.proofs.Calls.{has_room}
use Rattle.log_disk.proofs.Contents.{sync_content}
use Rattle.log_disk.proofs.Past.{synced, synced_size, kept}
use Rattle.log_disk.proofs.memory.MemoryDisk.make_sync.Goals as goal

pub invariant_of-self : goal.invariant_of-self
unfolding after
invariant_of-self c =
    let k = c.self.invariant.0 in
    let r = c.self.invariant.1 in
    let past = after_all (steps_of c.self.inside.calls.items c.self.inside.texts.items) (lasting c.self.inside.start.items) in
    let fits = has_room 0 c.args.self.now c.requires in
    let some : 0 < c.self.inside.allowance.calls = omega (arith, fits.1, ap (λ (s : MemoryState). s.calls) c.self.view_is) in
    let calls : c.count.new.self.calls + 1 ≡ c.self.inside.allowance.calls = omega (arith, some, ap (λ (p : Allowance). p.calls) c.count.ensures) in
    let room : c.count.new.self.room ≡ c.self.inside.allowance.room = ap (λ (p : Allowance). p.room) c.count.ensures in
    let more = ap length c.push.ensures.items in
    let same = ap length c.copy.ensures.items in
    let copied = ap length c.deref.ensures.value in (
      kept _ _ _ Synced (synced _ _ _ k.size c.push.ensures.items) _ _ _ _ _ (synced_size _ _ _ k.size c.push.ensures.items) (sync_content past) k.read (k.read ∙ sym c.deref.ensures.value ∙ sym c.copy.ensures.items) (sym c.clear.ensures.items),
      record {
        for_calls = omega (arith, more, length-append c.self.inside.calls.items, calls, r.for_calls, c.push.ensures.capacity);
        for_ranges = omega (arith, r.for_ranges, calls, ap length c.clear.ensures.items, c.clear.ensures.capacity);
        for_texts = omega (arith, room, r.for_texts);
        for_bytes = omega (arith, room, r.for_bytes);
        for_sync = omega (arith, room, r.for_sync, c.copy.ensures.capacity);
        for_start = omega (arith, room, r.for_start);
        for_kept = omega (arith, room, same, copied, r.for_bytes);
        for_kept_start = omega (arith, room, same, copied, r.for_start);
        for_kept_sync = omega (arith, room, same, copied, r.for_sync, c.copy.ensures.capacity);
      },
    )

pub returns : goal.returns
returns c =
    let more = synced _ _ _ c.self.invariant.0.size c.push.ensures.items in
    let plan = c.count.ensures in
    rw (← c.self.view_is) (λ i. record {
      start = c.self.inside.start.items;
      steps = more i;
      room = (plan i).room;
      calls = (plan i).calls;
      fails = (plan i).plan.fails.items;
      next = (plan i).plan.calls;
      faults = (plan i).plan.faults;
    })
