use Rattle.std.proofs.Common.{◌≡◌, ◌+◌, ap, length, refl, subst, sym}
use Rattle.bus_io.specs.Memory.{after_read}
use Rattle.bus_io.specs.contracts.memory.MemorySource.{the_view}
use Rattle.bus_io.proofs.Known.{gives_front, gave_front, read_leaves}
use Rattle.bus_io.proofs.memory.MemorySourceSource.read.Goals as goal

pub returns-clause-bytes : goal.returns-clause-bytes
returns-clause-bytes c =
    let rest = ap (λ s. s.left) c.self.view_is in
    let copied = c.copy_front-count.ensures in
    gives_front _ _ _ _ _ _ _ rest c.left.ensures c.copy_front-count.auto.to copied.count copied.front

pub returns-clause-given : goal.returns-clause-given
returns-clause-given c =
    let was = ap (λ s. s.given) c.self.view_is in
    gave_front _ _ _ _ _ _ was c.left.ensures c.copy_front-count.ensures.front

pub returns-clause-counted : goal.returns-clause-counted
returns-clause-counted c =
    let planned = c.if-next_fails.ensures in
    subst (λ s. the_view (record c.self.inside { given = c.self.inside.given + c.copy_front-count.result; plan = c.next_fails.new.plan }) ≡ after_read s (length c.args.buf.now)) c.self.view_is
    (read_leaves (the_view c.self.inside) c.self.inside.bytes.items _ _ c.self.inside.given _ c.copy_front-count.result _ _ refl refl c.left.ensures (sym planned.listed) c.copy_front-count.ensures.count planned.fails planned.calls planned.faults)
