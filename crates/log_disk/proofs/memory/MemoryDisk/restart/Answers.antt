use Rattle.std.proofs.Common.{◌≡◌, length, ap, arith, ◌∙◌}
use Rattle.log_disk.specs.declared.allowance.Allowance.{Allowance}
use Rattle.log_disk.proofs.Past.{restarted}
use Rattle.log_disk.proofs.memory.MemoryDisk.restart.Goals as goal

pub invariant_of-self : goal.invariant_of-self
invariant_of-self c =
    let r = c.self.invariant.1 in
    let old = c.self.invariant.0 in
    let room : c.restart.new.self.room ≡ c.self.inside.allowance.room = ap (λ (p : Allowance). p.room) c.restart.ensures.rest in
    let calls : c.restart.new.self.calls ≡ c.self.inside.allowance.calls = ap (λ (p : Allowance). p.calls) c.restart.ensures.rest in
    let synced = c.copy.ensures.items ∙ c.deref-3.ensures.value in
    let start = c.copy-2.ensures.items ∙ c.deref-4.ensures.value in
    let copied = ap length synced in
    let left = c.leave.ensures in
    let of_synced = ap length c.deref.ensures.value in (
      restarted _ _ _ _ _ _ c.clear-2.ensures.items c.clear-3.ensures.items start synced c.clear.ensures.items,
      record {
        for_calls = omega (arith, ap length c.clear-2.ensures.items, calls, r.for_calls, c.clear-2.ensures.capacity);
        for_ranges = omega (arith, ap length c.clear.ensures.items, calls, r.for_ranges, c.clear.ensures.capacity);
        for_texts = omega (arith, ap length c.clear-3.ensures.items, room, r.for_texts, c.clear-3.ensures.capacity);
        for_bytes = omega (arith, room, left.length, left.capacity, of_synced, r.for_bytes, r.for_kept);
        for_sync = omega (arith, room, left.length, of_synced, r.for_sync, r.for_kept_sync, c.copy.ensures.capacity);
        for_start = omega (arith, room, left.length, of_synced, r.for_start, r.for_kept_start, c.copy-2.ensures.capacity);
        for_kept = omega (arith, room, copied, left.length, left.capacity, of_synced, r.for_bytes, r.for_kept);
        for_kept_start = omega (arith, room, copied, left.length, of_synced, r.for_start, r.for_kept_start, c.copy-2.ensures.capacity);
        for_kept_sync = omega (arith, room, copied, left.length, of_synced, r.for_sync, r.for_kept_sync, c.copy.ensures.capacity);
      },
    )
