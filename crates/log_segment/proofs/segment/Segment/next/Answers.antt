use Rattle.std.proofs.Common.{◌≡◌, ◌≤◌, ◌∙◌, List, Option, None, IfSome, Ok, length, sym, ap, subst}
use Rattle.bus_types.specs.Window.{Span}
use Rattle.log_segment.specs.declared.segment.Entry.{Entry}
use Rattle.log_segment.specs.Lookup.{entry_after, Fetches, ReadsNext}
use Rattle.log_segment.specs.Segment.{SegmentParts, told}
use Rattle.log_segment.proofs.Lookings.{looks_not}
use Rattle.log_segment.proofs.Nexts.{next_none, next_found, next_lost, next_by}
use Rattle.log_segment.proofs.segment.Segment.next.Goals as goal

pub returns-in_default : goal.returns-in_default
returns-in_default g c =
    subst (λ (o : SegmentParts _). ReadsNext c.args.scn (told g.D.Disk.state o) (told g.D.Disk.state o) (Ok None)) c.self.view_is
    (next_none c.args.scn _ _ _ c.self.invariant (looks_not _) (sym (c.in_default.ensures ∙ ap (λ (es : List Entry). entry_after c.self.inside.floor c.args.scn es) c.deref.ensures.value)))

pub returns-in-Ok-Some : goal.returns-in-Ok-Some
returns-in-Ok-Some g c =
    let at = c.in-Some.ensures ∙ ap (λ (es : List Entry). entry_after c.self.inside.floor c.args.scn es) c.deref.ensures.value in
    let seen = (g.D.Disk.state c.self.inside.disk).seen in
    next_by g.D.Disk.state c.args.self.now _ c.self.view_is c.args.scn _ _
    (next_found c.args.scn _ _ _ c.self.invariant c.in-Ok-Some.ensures.looks c.in-Some.prev c.in-Some.entry at c.in-Ok-Some.window
    (subst (λ (f : Option Span). IfSome f (λ w. w.scn ≡ c.in-Some.entry.scn)) c.in-Ok-Some.field-0-is c.in-Ok-Some.ensures.scn)
    (subst (λ (f : Option Span). IfSome seen (λ bytes. c.self.inside.used ≤ length bytes → Fetches c.self.inside.used c.in-Some.entry c.in-Some.prev bytes f)) c.in-Ok-Some.field-0-is c.in-Ok-Some.ensures.told))

pub returns-in-Ok-None : goal.returns-in-Ok-None
returns-in-Ok-None g c =
    let at = c.in-Some.ensures ∙ ap (λ (es : List Entry). entry_after c.self.inside.floor c.args.scn es) c.deref.ensures.value in
    let seen = (g.D.Disk.state c.self.inside.disk).seen in
    let s = c.self.inside in
    next_by g.D.Disk.state c.args.self.now _ c.self.view_is c.args.scn _ _
    (next_lost c.args.scn _ _ _ c.self.invariant c.in-Ok-None.ensures.looks c.in-Some.prev c.in-Some.entry at _
    (λ i. record { used = s.used; in_use = s.in_use; floor = s.floor; high = s.high; index = s.index.items; lost = c.raise.ensures i })
    (subst (λ (f : Option Span). IfSome seen (λ bytes. s.used ≤ length bytes → Fetches s.used c.in-Some.entry c.in-Some.prev bytes f)) c.in-Ok-None.field-0-is c.in-Ok-None.ensures.told))
