use Rattle.std.proofs.Common.{◌≡◌, ◌<◌, ◌≤◌, ◌+◌, ℕ, List, length, [], ◌∷◌, ◌++◌, refl, sym, ◌∙◌, ap, subst, arith, length-append}
use Rattle.log_disk.specs.declared.allowance.Allowance.{Allowance}
use Rattle.log_disk.specs.declared.memory.Range.{Range}
use Rattle.log_disk.specs.Pending.{lasting, put, after, after_all}
use Rattle.log_disk.specs.Pending.Step.{Wrote}
use Rattle.log_disk.specs.Memory.{MemoryState, content, steps_of}
use Rattle.log_disk.proofs.Calls.{has_room}
use Rattle.log_disk.proofs.Contents.{write_content}
use Rattle.log_disk.proofs.Past.{wrote, wrote_size, kept}
use Rattle.log_disk.proofs.memory.MemoryDisk.make_write.Goals as goal

pub invariant_of-self : goal.invariant_of-self
unfolding after
invariant_of-self c =
    let k = c.self.invariant.0 in
    let r = c.self.invariant.1 in
    let past = after_all (steps_of c.self.inside.calls.items c.self.inside.texts.items) (lasting c.self.inside.start.items) in
    let fits = has_room (length c.args.bytes.now) c.args.self.now c.requires.room in
    let some : 0 < c.self.inside.allowance.calls = omega (arith, fits.1, ap (λ (s : MemoryState). s.calls) c.self.view_is) in
    let calls : c.count.new.self.calls + 1 ≡ c.self.inside.allowance.calls = omega (arith, some, ap (λ (p : Allowance). p.calls) c.count.ensures) in
    let fits_room : length c.args.bytes.now ≤ c.self.inside.allowance.room = omega (arith, fits.0, ap (λ (s : MemoryState). s.room) c.self.view_is) in
    let more = ap length c.push-2.ensures.items in
    let place : c.args.place ≤ length past.bytes = subst (λ (s : MemoryState). c.args.place ≤ length (content s).bytes) (sym c.self.view_is) c.requires.place in
    let room : c.count.new.self.room + length c.args.bytes.now ≡ c.self.inside.allowance.room = omega (arith, fits_room, ap (λ (p : Allowance). p.room) c.count.ensures) in
    let ranges = ap length c.push.ensures.items in
    let texts = ap length c.append.ensures.items in
    let wider = c.put.ensures.length in
    let steps = wrote _ _ _ _ k.size c.args.place _ c.args.bytes.now refl c.push-2.ensures.items c.append.ensures.items in (
      kept _ _ _ (Wrote c.args.place c.args.bytes.now) steps _ _ _ _ _ (wrote_size _ _ _ _ k.size c.args.place _ c.args.bytes.now refl c.push-2.ensures.items c.append.ensures.items)
          (write_content c.args.place c.args.bytes.now past k.whole place) (ap (λ (l : List ℕ). put c.args.place c.args.bytes.now l) k.read ∙ sym c.put.ensures.items) k.base
          (ap (λ (l : List Range). l ++ record { place = c.args.place; size = length c.args.bytes.now } ∷ []) k.ranges ∙ sym c.push.ensures.items),
      record {
        for_calls = omega (arith, more, length-append c.self.inside.calls.items, calls, r.for_calls, c.push-2.ensures.capacity);
        for_ranges = omega (arith, ranges, length-append c.self.inside.written.items, calls, r.for_ranges, c.push.ensures.capacity);
        for_texts = omega (arith, room, texts, length-append c.self.inside.texts.items c.args.bytes.now, r.for_texts, c.append.ensures.capacity);
        for_bytes = omega (arith, room, wider, r.for_bytes, c.put.ensures.capacity);
        for_sync = omega (arith, room, wider, r.for_sync);
        for_start = omega (arith, room, wider, r.for_start);
        for_kept = omega (arith, room, r.for_kept, c.put.ensures.capacity);
        for_kept_start = omega (arith, room, r.for_kept_start);
        for_kept_sync = omega (arith, room, r.for_kept_sync);
      },
    )

pub returns : goal.returns
returns c =
    let more = wrote _ _ _ _ c.self.invariant.0.size c.args.place _ c.args.bytes.now refl c.push-2.ensures.items c.append.ensures.items in
    let plan = c.count.ensures in
    rw (← c.self.view_is) (λ i. record {
      start = c.self.inside.start.items;
      steps = more i;
      room = (plan i).room;
      calls = (plan i).calls;
      fails = (plan i).plan.fails.items;
      next = (plan i).plan.calls;
      faults = (plan i).plan.faults;
    })
