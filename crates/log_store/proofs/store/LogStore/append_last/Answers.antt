use Rattle.std.proofs.Common.{◌∙◌, ap, Err, arith}
use Rattle.log_store.proofs.Views.{as_many, last_below, last_used, last_chained, last_done, last_is, last_failed, last_lost, last_kept, last_kept_is, last_roomy}
use Rattle.log_store.proofs.store.LogStore.append_last.Goals as goal

pub append_at-requires-clause-place : goal.append_at-requires-clause-place
append_at-requires-clause-place g c = last_below g.D.Disk.state _ _ c.self.view_is c.self.invariant.0 c.args.window.now c.scn-scn.ensures.fits c.requires.chained c.requires.full c.args.place c.requires.roomy

pub append_at-requires-clause-in_use : goal.append_at-requires-clause-in_use
append_at-requires-clause-in_use g c = last_used g.D.Disk.state _ _ c.self.view_is c.self.invariant.0 c.args.window.now c.scn-scn.ensures.fits c.requires.chained c.requires.full c.args.place c.requires.roomy

pub append_at-requires-clause-chained : goal.append_at-requires-clause-chained
append_at-requires-clause-chained g c = last_chained g.D.Disk.state _ _ c.self.view_is c.self.invariant.0 c.args.window.now c.scn-scn.ensures.fits c.requires.chained c.requires.full c.args.place c.requires.roomy

pub invariant_of-self : goal.invariant_of-self
invariant_of-self g c = (
  last_is g.D.Disk.state _ _ c.self.view_is c.self.invariant.0 c.args.window.now c.scn-scn.ensures.fits c.requires.chained c.requires.full c.args.place c.requires.roomy c.append_at.result c.append_at.new.segments.items c.append_at.ensures c.scn-scn.result _ c.in-Ok.is c.scn-scn.ensures.value,
  c.self.invariant.1,
  omega (arith, as_many _ c.args.place c.self.inside.segments.items c.append_at.new.segments.items c.append_at.ensures, c.self.invariant.2),
)

pub invariant_of-self-in-Err-Failed : goal.invariant_of-self-in-Err-Failed
invariant_of-self-in-Err-Failed g c = (
  last_lost g.D.Disk.state _ _ c.self.view_is c.self.invariant.0 c.args.window.now c.scn-scn.ensures.fits c.requires.chained c.requires.full c.args.place c.requires.roomy c.append_at.result c.append_at.new.segments.items c.append_at.ensures (c.in-Err-Failed.is ∙ ap Err c.in-Err-Failed.field-0-is),
  c.self.invariant.1,
  omega (arith, as_many _ c.args.place c.self.inside.segments.items c.append_at.new.segments.items c.append_at.ensures, c.self.invariant.2),
)

pub invariant_of-self-in-Err-Full : goal.invariant_of-self-in-Err-Full
invariant_of-self-in-Err-Full g c = (
  last_roomy g.D.Disk.state _ _ c.self.view_is c.self.invariant.0 c.args.window.now c.scn-scn.ensures.fits c.requires.chained c.requires.full c.args.place c.requires.roomy c.append_at.result c.append_at.new.segments.items c.append_at.ensures (c.in-Err-Full.is ∙ ap Err c.in-Err-Full.field-0-is),
  c.self.invariant.1,
  omega (arith, as_many _ c.args.place c.self.inside.segments.items c.append_at.new.segments.items c.append_at.ensures, c.self.invariant.2),
)

pub invariant_of-self-in-Err-NoMemory : goal.invariant_of-self-in-Err-NoMemory
invariant_of-self-in-Err-NoMemory g c = (
  last_kept_is g.D.Disk.state _ _ c.self.view_is c.self.invariant.0 c.args.window.now c.scn-scn.ensures.fits c.requires.chained c.requires.full c.args.place c.requires.roomy c.append_at.result c.append_at.new.segments.items c.append_at.ensures (c.in-Err-NoMemory.is ∙ ap Err c.in-Err-NoMemory.field-0-is),
  c.self.invariant.1,
  omega (arith, as_many _ c.args.place c.self.inside.segments.items c.append_at.new.segments.items c.append_at.ensures, c.self.invariant.2),
)

pub returns-in-Ok : goal.returns-in-Ok
returns-in-Ok g c = last_done g.D.Disk.state _ _ c.self.view_is c.self.invariant.0 c.args.window.now c.scn-scn.ensures.fits c.requires.chained c.requires.full c.args.place c.requires.roomy c.append_at.result c.append_at.new.segments.items c.append_at.ensures c.scn-scn.result _ c.in-Ok.is c.scn-scn.ensures.value

pub returns-in-Err-Failed : goal.returns-in-Err-Failed
returns-in-Err-Failed g c = last_failed g.D.Disk.state _ _ c.self.view_is c.self.invariant.0 c.args.window.now c.scn-scn.ensures.fits c.requires.chained c.requires.full c.args.place c.requires.roomy c.append_at.result c.append_at.new.segments.items c.append_at.ensures (c.in-Err-Failed.is ∙ ap Err c.in-Err-Failed.field-0-is)

pub returns-in-Err-NoMemory : goal.returns-in-Err-NoMemory
returns-in-Err-NoMemory g c = last_kept g.D.Disk.state _ _ c.self.view_is c.self.invariant.0 c.args.window.now c.scn-scn.ensures.fits c.requires.chained c.requires.full c.args.place c.requires.roomy c.append_at.result c.append_at.new.segments.items c.append_at.ensures (c.in-Err-NoMemory.is ∙ ap Err c.in-Err-NoMemory.field-0-is)
