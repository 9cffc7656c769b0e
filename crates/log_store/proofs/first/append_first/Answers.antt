use Rattle.std.proofs.Common.{subst, Ok, Err, ◌≡◌}
use Rattle.bus_stores.specs.declared.log.LogFault.{LogFault}
use Rattle.log_segment.specs.Segment.{told, Appends, OnRefused, BeginsBehind}
use Rattle.log_store.proofs.Firsts.{first_done, first_failed, undone_by}
use Rattle.log_store.proofs.first.append_first.Goals as goal

pub returns-in-Ok-append : goal.returns-in-Ok-append
returns-in-Ok-append g c =
    first_done c.args.window.now _ _ _ (subst (λ p. BeginsBehind p (told g.D.Disk.state c.args.segment.now) (told g.D.Disk.state c.begin.new.self) (Ok _)) c.prev.ensures c.in-Ok.ensures) _ _ c.in-Ok-append.ensures.appends

pub returns-in-Err-Failed : goal.returns-in-Err-Failed
returns-in-Err-Failed g c =
    first_failed c.args.window.now _ _ _ (subst (λ p. BeginsBehind p (told g.D.Disk.state c.args.segment.now) (told g.D.Disk.state c.begin.new.self) (Ok _)) c.prev.ensures c.in-Ok.ensures) _
    (subst (λ (e : LogFault). Appends c.args.window.now (told g.D.Disk.state c.begin.new.self) (told g.D.Disk.state c.append.new.self) (Err e)) c.in-Err-Failed.field-0-is c.in-Err-Failed.ensures.appends)

pub returns-in-Err-Full : goal.returns-in-Err-Full
returns-in-Err-Full g c =
    undone_by g.D.Disk.state c.args.window.now _ _ _ _ _ _ _
    (subst (λ p. BeginsBehind p (told g.D.Disk.state c.args.segment.now) (told g.D.Disk.state c.begin.new.self) (Ok _)) c.prev.ensures c.in-Ok.ensures)
    (subst (λ (e : LogFault). OnRefused {X = Unit {0}} (Err e) (c.append.new.self ≡ c.begin.new.self)) c.in-Err-Full.field-0-is c.in-Err-Full.ensures.kept)
    c.free.ensures c.refused.ensures

pub returns-in-Err-NoMemory : goal.returns-in-Err-NoMemory
returns-in-Err-NoMemory g c =
    undone_by g.D.Disk.state c.args.window.now _ _ _ _ _ _ _
    (subst (λ p. BeginsBehind p (told g.D.Disk.state c.args.segment.now) (told g.D.Disk.state c.begin.new.self) (Ok _)) c.prev.ensures c.in-Ok.ensures)
    (subst (λ (e : LogFault). OnRefused {X = Unit {0}} (Err e) (c.append.new.self ≡ c.begin.new.self)) c.in-Err-NoMemory.field-0-is c.in-Err-NoMemory.ensures.kept)
    c.free-in-Err-NoMemory.ensures c.refused-in-Err-NoMemory.ensures
