use Rattle.std.proofs.Common.{◌≡◌, ◌∙◌, slice_get, ap, sym, subst}
use Rattle.std.proofs.lemmas.Result.{IfOk-weaker}
use Rattle.bus_types.specs.Timeline.{end_from}
use Rattle.bus_types.proofs.Stretches.{timeline_rises}
use Rattle.bus_stores.specs.Log.{IsFound, first_after}
use Rattle.bus_stores.specs.MemoryLog.{MemoryWindows}
use Rattle.bus_stores.proofs.KeptWindows.{first_at, first_found}
use Rattle.bus_stores.proofs.memory_log.MemoryLog.find.Goals as goal

pub returns-clause-first : goal.returns-clause-first
returns-clause-first c =
    let now = c.args.self.now in
    let place = c.place_after.result in
    let rises = timeline_rises now.floor now.windows c.place_after.ensures.chained in
    let stands = ap (λ (s : MemoryWindows). slice_get s.windows place) c.self.view_is ∙ first_at c.args.scn now.floor now.windows place rises c.place_after.ensures.place in
    IfOk-weaker c.copy_at.result (λ found. found ≡ slice_get c.self.inside.windows.items place) (λ found. found ≡ first_after c.args.scn now.windows) (λ found e. e ∙ stands) c.copy_at.ensures

pub returns-clause-found : goal.returns-clause-found
returns-clause-found c =
    let now = c.args.self.now in
    let high = end_from now.floor now.windows in
    IfOk-weaker c.copy_at.result (λ found. found ≡ first_after c.args.scn now.windows) (IsFound c.args.scn high) (λ found e. subst (IsFound c.args.scn high) (sym e) (first_found now.floor c.args.scn now.windows c.place_after.ensures.chained c.requires)) (returns-clause-first c)
