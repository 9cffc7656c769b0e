use Rattle.std.proofs.Common.{arith}
use Rattle.log_store.proofs.Views.{as_many, read_below, reads, reads_is}
use Rattle.log_store.proofs.store.LogStore.read_at.Goals as goal

pub next_at-requires : goal.next_at-requires
next_at-requires g c = read_below g.D.Disk.state _ _ c.self.view_is c.self.invariant.0 c.args.scn c.requires.low c.args.place c.requires.place

pub invariant_of-self : goal.invariant_of-self
invariant_of-self g c = (
  reads_is g.D.Disk.state _ _ c.self.view_is c.self.invariant.0 c.args.scn c.requires.low c.args.place c.requires.place c.next_at.result c.next_at.new.segments.items c.next_at.ensures,
  c.self.invariant.1,
  omega (arith, as_many _ c.args.place c.self.inside.segments.items c.next_at.new.segments.items c.next_at.ensures, c.self.invariant.2),
)

pub returns : goal.returns
returns g c = reads g.D.Disk.state _ _ c.self.view_is c.self.invariant.0 c.args.scn c.requires.low c.args.place c.requires.place c.next_at.result c.next_at.new.segments.items c.next_at.ensures
