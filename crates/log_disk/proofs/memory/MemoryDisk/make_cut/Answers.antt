use Rattle.std.proofs.Common.{◌≡◌, ◌<◌, ◌≤◌, ◌+◌, ℕ, List, length, take, sym, ◌∙◌, ap, subst, arith, length-append, length-take}
use Rattle.log_disk.specs.declared.allowance.Allowance.{Allowance}
use Rattle.log_disk.specs.Pending.{lasting, after, after_all}
use Rattle.log_disk.specs.Pending.Step.{CutTo}
use Rattle.log_disk.specs.Memory.{MemoryState, content, steps_of}
use Rattle.log_disk.proofs.Calls.{has_room}
use Rattle.log_disk.proofs.Contents.{cut_content}
use Rattle.log_disk.proofs.Past.{cut, cut_size, kept}
use Rattle.log_disk.proofs.memory.MemoryDisk.make_cut.Goals as goal

pub invariant_of-self : goal.invariant_of-self
unfolding after
invariant_of-self c =
    let k = c.self.invariant.0 in
    let r = c.self.invariant.1 in
    let past = after_all (steps_of c.self.inside.calls.items c.self.inside.texts.items) (lasting c.self.inside.start.items) in
    let fits = has_room 0 c.args.self.now c.requires.room in
    let some : 0 < c.self.inside.allowance.calls = omega (arith, fits.1, ap (λ (s : MemoryState). s.calls) c.self.view_is) in
    let calls : c.count.new.self.calls + 1 ≡ c.self.inside.allowance.calls = omega (arith, some, ap (λ (p : Allowance). p.calls) c.count.ensures) in
    let room : c.count.new.self.room ≡ c.self.inside.allowance.room = ap (λ (p : Allowance). p.room) c.count.ensures in
    let t = c.truncate.ensures in
    let shorter = ap length t.items in
    let more = ap length c.push.ensures.items in
    let short : c.args.len ≤ length past.bytes = subst (λ (s : MemoryState). c.args.len ≤ length (content s).bytes) (sym c.self.view_is) c.requires.len in (
      kept _ _ _ (CutTo c.args.len) (cut _ _ _ k.size c.args.len c.push.ensures.items) _ _ _ _ _ (cut_size _ _ _ k.size c.args.len c.push.ensures.items) (cut_content c.args.len past k.whole short) (ap (λ (l : List ℕ). take c.args.len l) k.read ∙ sym t.items) k.base k.ranges,
      record {
        for_calls = omega (arith, more, length-append c.self.inside.calls.items, calls, r.for_calls, c.push.ensures.capacity);
        for_ranges = omega (arith, r.for_ranges, calls);
        for_texts = omega (arith, room, r.for_texts);
        for_bytes = omega (arith, room, shorter, r.for_bytes, t.capacity, length-take c.args.len c.self.inside.bytes.items);
        for_sync = omega (arith, room, shorter, r.for_sync, length-take c.args.len c.self.inside.bytes.items);
        for_start = omega (arith, room, shorter, r.for_start, length-take c.args.len c.self.inside.bytes.items);
        for_kept = omega (arith, room, r.for_kept, t.capacity);
        for_kept_start = omega (arith, room, r.for_kept_start);
        for_kept_sync = omega (arith, room, r.for_kept_sync);
      },
    )

pub returns : goal.returns
returns c =
    let more = cut _ _ _ c.self.invariant.0.size c.args.len c.push.ensures.items in
    let plan = c.count.ensures in
    rw (← c.self.view_is) (λ i. record {
      start = c.self.inside.start.items;
      steps = more i;
      room = (plan i).room;
      calls = (plan i).calls;
      fails = (plan i).plan.fails.items;
      next = (plan i).plan.calls;
      faults = (plan i).plan.faults;
    })
